-- What two registers take at a pin.
use Rattle.std.proofs.Common.{◌≡◌, ◌↔◌, ℕ, Bool, true, false, List, Option, inl, refl, sym, subst}
use Rattle.std.specs.Prelude.{IsTrue, if◌then◌else◌}
use Rattle.std.proofs.lemmas.Bool.{false≢true}
use Rattle.records.specs.Side.{Side}
use Rattle.circuit.specs.Cells.{Cells, Input, InputWire, InputNotWire, InputZero, InputOne}
use Rattle.circuit.specs.Parts.{PartRef, sources}
use Rattle.circuit.specs.Pins.{pin_at}
use Rattle.circuit.specs.Circuits.{Circuit}
use Rattle.circuit.specs.Registers.{TakesAlike}
use Rattle.part_triples.specs.Numbers.{numbers_of}
use Rattle.table_masks.specs.Least.{ShowsFeeds}
use Rattle.copy_rules.specs.Feeds.{IsFeedOf, SameFeeds}
use Rattle.copy_rules.specs.declared.inputs.Form.{Form}
use Rattle.copy_rules.specs.declared.inputs.Form.TheVariants.{Apart, Constant, Wires}
use Rattle.copy_rules.specs.Inputs.{FedAlikeAt, TakenAlike, form_in, same_form, takes_wire}
use Rattle.copy_rules.proofs.Fed.{alike_by}

-- pins by the numbers of their parts
pub fed_at : (cells : Cells) (feeds numbers : List (Option ℕ)) (j k n : ℕ) (a b : Option ℕ) (r : Bool)
    → ((c : Circuit) → c.cells ≡ cells → IsFeedOf c feeds j n a) → ((c : Circuit) → c.cells ≡ cells → IsFeedOf c feeds k n b)
    → ((side : Side) → numbers ≡ numbers_of side (sources cells) → IsTrue r ↔ SameFeeds side (sources cells) a b)
    → (c : Circuit) → ShowsFeeds c cells feeds numbers → FedAlikeAt c j k n r
fed_at cells feeds numbers j k n a b r first second told c shows s u x y at_s at_u in_x in_y is_x is_y =
    alike_by c a b x y (first c shows.cells_are shows.tells s x at_s in_x is_x) (second c shows.cells_are shows.tells u y at_u in_y is_y) r
    (subst (λ v. IsTrue r ↔ SameFeeds c.side (sources v) a b) (sym shows.cells_are) (told c.side shows.numbers_are))

true_false : true ≡ false → ⊥
true_false h = false≢true (sym h)

-- other forms aren't alike
forms_apart : (c : Circuit) (s u : PartRef) (n : ℕ) (x y : Input) → same_form x y ≡ false → TakesAlike c s u n x y → ⊥
forms_apart c s u n (InputWire a) (InputWire b) h t = true_false h
forms_apart c s u n (InputWire a) (InputNotWire b) h t = t
forms_apart c s u n (InputWire a) InputZero h t = t
forms_apart c s u n (InputWire a) InputOne h t = t
forms_apart c s u n (InputNotWire a) (InputWire b) h t = t
forms_apart c s u n (InputNotWire a) (InputNotWire b) h t = true_false h
forms_apart c s u n (InputNotWire a) InputZero h t = t
forms_apart c s u n (InputNotWire a) InputOne h t = t
forms_apart c s u n InputZero (InputWire b) h t = t
forms_apart c s u n InputZero (InputNotWire b) h t = t
forms_apart c s u n InputZero InputZero h t = true_false h
forms_apart c s u n InputZero InputOne h t = t
forms_apart c s u n InputOne (InputWire b) h t = t
forms_apart c s u n InputOne (InputNotWire b) h t = t
forms_apart c s u n InputOne InputZero h t = t
forms_apart c s u n InputOne InputOne h t = true_false h

-- equal constants are alike
constants_alike : (c : Circuit) (s u : PartRef) (n : ℕ) (x y : Input) → same_form x y ≡ true → takes_wire x ≡ false → TakesAlike c s u n x y
constants_alike c s u n (InputWire a) y h w = absurd (true_false w)
constants_alike c s u n (InputNotWire a) y h w = absurd (true_false w)
constants_alike c s u n InputZero (InputWire b) h w = absurd (false≢true h)
constants_alike c s u n InputZero (InputNotWire b) h w = absurd (false≢true h)
constants_alike c s u n InputZero InputZero h w = tt
constants_alike c s u n InputZero InputOne h w = absurd (false≢true h)
constants_alike c s u n InputOne (InputWire b) h w = absurd (false≢true h)
constants_alike c s u n InputOne (InputNotWire b) h w = absurd (false≢true h)
constants_alike c s u n InputOne InputZero h w = absurd (false≢true h)
constants_alike c s u n InputOne InputOne h w = tt

-- wires are alike where their pins are fed alike
wires_alike : (c : Circuit) (j k n : ℕ) (r : Bool) (x y : Input) → same_form x y ≡ true → takes_wire x ≡ true → FedAlikeAt c j k n r → TakenAlike c j k n x y r
wires_alike c j k n r (InputWire a) (InputWire b) h w fed s u at_s at_u has_s has_u =
    fed s u (pin_at s.part n a) (pin_at u.part n b) at_s at_u (has_s (pin_at s.part n a) (inl refl)) (has_u (pin_at u.part n b) (inl refl)) refl refl
wires_alike c j k n r (InputNotWire a) (InputNotWire b) h w fed s u at_s at_u has_s has_u =
    fed s u (pin_at s.part n a) (pin_at u.part n b) at_s at_u (has_s (pin_at s.part n a) (inl refl)) (has_u (pin_at u.part n b) (inl refl)) refl refl
wires_alike c j k n r (InputWire a) (InputNotWire b) h w fed s u at_s at_u has_s has_u = absurd (false≢true h)
wires_alike c j k n r (InputWire a) InputZero h w fed s u at_s at_u has_s has_u = absurd (false≢true h)
wires_alike c j k n r (InputWire a) InputOne h w fed s u at_s at_u has_s has_u = absurd (false≢true h)
wires_alike c j k n r (InputNotWire a) (InputWire b) h w fed s u at_s at_u has_s has_u = absurd (false≢true h)
wires_alike c j k n r (InputNotWire a) InputZero h w fed s u at_s at_u has_s has_u = absurd (false≢true h)
wires_alike c j k n r (InputNotWire a) InputOne h w fed s u at_s at_u has_s has_u = absurd (false≢true h)
wires_alike c j k n r InputZero y h w fed s u at_s at_u has_s has_u = absurd (false≢true w)
wires_alike c j k n r InputOne y h w fed s u at_s at_u has_s has_u = absurd (false≢true w)

abbrev form_by : Bool → Bool → Form
form_by p q = if p then (if q then Wires else Constant) else Apart

is_apart : (p q : Bool) → form_by p q ≡ Apart → p ≡ false
is_apart false q h = refl
is_apart true true h = absurd (let no : ⊥ = cc in no)
is_apart true false h = absurd (let no : ⊥ = cc in no)

is_constant : (p q : Bool) → form_by p q ≡ Constant → (p ≡ true) × (q ≡ false)
is_constant false q h = absurd (let no : ⊥ = cc in no)
is_constant true true h = absurd (let no : ⊥ = cc in no)
is_constant true false h = (refl, refl)

is_wires : (p q : Bool) → form_by p q ≡ Wires → (p ≡ true) × (q ≡ true)
is_wires false q h = absurd (let no : ⊥ = cc in no)
is_wires true true h = (refl, refl)
is_wires true false h = absurd (let no : ⊥ = cc in no)

pub told_apart : (c : Circuit) (j k n : ℕ) (x y : Input) → Apart ≡ form_in x y → TakenAlike c j k n x y false
told_apart c j k n x y h s u at_s at_u has_s has_u = ((λ f. absurd (false≢true f)), (λ t. absurd (forms_apart c s.part u.part n x y (is_apart (same_form x y) (takes_wire x) (sym h)) t)))

pub told_constant : (c : Circuit) (j k n : ℕ) (x y : Input) → Constant ≡ form_in x y → TakenAlike c j k n x y true
told_constant c j k n x y h s u at_s at_u has_s has_u =
    let f = is_constant (same_form x y) (takes_wire x) (sym h) in
    ((λ t. constants_alike c s.part u.part n x y f.0 f.1), (λ t. refl))

pub told_wires : (c : Circuit) (j k n : ℕ) (r : Bool) (x y : Input) → Wires ≡ form_in x y → FedAlikeAt c j k n r → TakenAlike c j k n x y r
told_wires c j k n r x y h fed = (let f = is_wires (same_form x y) (takes_wire x) (sym h) in wires_alike c j k n r x y f.0 f.1 fed)
