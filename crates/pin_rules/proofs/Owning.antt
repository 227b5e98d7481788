-- The owners of pins.
use Rattle.std.proofs.Common.{◌≡◌, ℕ, zero, suc, ◌+◌, ◌<◌, ◌≤◌, ◌^◌, List, [], ◌∷◌, ◌++◌, length, get_or, drop, replicate, Some, option_map, refl, sym, ap, ◌∙◌, arith}
use Rattle.std.specs.Prelude.{slice_get}
use Rattle.std.proofs.lemmas.List.{append-nil, append_assoc, drop_all, drop_more, length-drop}
use Rattle.std.proofs.lemmas.Option.{slice_get-get_or}
use Rattle.circuit.specs.Cells.{Cells}
use Rattle.circuit.specs.Parts.{Source}
use Rattle.circuit.specs.Pins.{Pin, pins, source_pins}
use Rattle.pin_rules.specs.declared.owners.PinOwner.{PinOwner}
use Rattle.pin_rules.specs.declared.owners.PinOwner.TheVariants.{Part}
use Rattle.pin_rules.specs.Owners.{owners_from}

some_pins : (a b : List Pin) → Some a ≡ Some b → a ≡ b
some_pins a b h = cc

element : {X : Type 0} (xs : List X) (i : ℕ) → i < length xs → (x : X) × (slice_get xs i ≡ Some x)
element [] i h = absurd (omega arith)
element (x ∷ xs) zero h = (x, refl)
element (x ∷ xs) (suc i) h = element xs i (omega arith)

-- the pins of one part more
pub parts_more : (ss : List Source) (i : ℕ) (own : List Pin) (ys more whole : List PinOwner) → i < length ss → Some own ≡ option_map source_pins (slice_get ss i)
    → ys ++ owners_from i (drop i ss) ≡ whole → more ≡ ys ++ replicate (length own) (Part i)
    → more ++ owners_from (i + 1) (drop (i + 1) ss) ≡ whole
parts_more ss i own ys more whole below is all has =
    let e = element ss i below in
    let d = get_or ss i e.0 in
    let rest = owners_from (i + 1) (drop (i + 1) ss) in
    let same : own ≡ source_pins d = some_pins own (source_pins d) (is ∙ ap (option_map source_pins) (slice_get-get_or ss i e.0 below)) in
    let mine : replicate (length own) (Part i) ≡ replicate (length (source_pins d)) (Part i) = ap (λ ps. replicate (length ps) (Part i)) same in
    ap (λ zs. zs ++ rest) has ∙ (append_assoc ys (replicate (length own) (Part i)) rest
    ∙ (ap (λ zs. ys ++ (zs ++ rest)) mine ∙ (ap (λ zs. ys ++ zs) (sym (ap (owners_from i) (drop_more ss i e.0 below))) ∙ all)))

pub parts_all : (ss : List Source) (i : ℕ) (ys whole : List PinOwner) → length ss ≤ i → ys ++ owners_from i (drop i ss) ≡ whole → ys ≡ whole
parts_all ss i ys whole over all = sym (append-nil ys) ∙ (ap (λ zs. ys ++ zs) (sym (ap (owners_from i) (drop_all i ss over))) ∙ all)

-- the pins of output pads are few
pub pads_few : (cells : Cells) (n : ℕ) (ps : List Pin) → ps ≡ drop n (pins cells) → length (pins cells) < 2 ^ 32 → length ps < 2 ^ 32
pads_few cells n ps is few = (let e : length ps ≡ length (drop n (pins cells)) = ap (λ xs. length xs) is in let d = length-drop n (pins cells) in omega arith)
