-- Each name stands for exactly one thing at each place.
use Rattle.std.proofs.Common.{◌≡◌, ◌≢◌, ℕ, ◌<◌, Bool, true, false, ◌&&◌, ◌↔◌, List, [], ◌∷◌, ◌++◌, length, drop, Option, Some, None, ℤ, pos, ◌+ℤ◌, refl, sym, ap, subst, ◌∙◌, arith, add-zero, length-append}
use Rattle.std.specs.Prelude.{if◌then◌else◌, nat_eq, nat_lt}
use Rattle.std.specs.List.{starts_with}
use Rattle.std.proofs.Math.Seq.{drop-append_seam}
use Rattle.std.proofs.lemmas.Bool.{false≢true, and_parts, and_from, lt-ltb, ltb-true}
use Rattle.records.specs.Profile.{Rules}
use Rattle.fabric.specs.Wires.{Local, Wide}
use Rattle.fabric.specs.WireNames.{WireName, Named, Ignored, BeginsWithOne, WithoutChip, stripped, kept, IsRelative, IsAt, relative, own, IsWireName, ignored, wide, local}
use Rattle.fabric.specs.WireOfName.{begins_with_one, without_chip, Relative, relative_of, wire_of_relative, wire_of_name}
use Rattle.fabric_laws.proofs.Members.{if_true, if_false, is_false}
use Rattle.fabric_laws.proofs.Prefixes.{starts_from, starts_to, begins_from, begins_to}
use Rattle.fabric_laws.proofs.Digits.{has_length}
use Rattle.fabric_laws.proofs.Relative.{relative_to, IsRead, read_relative, read_own, is_read}

longer : (prefix rest : List ℕ) → rest ≢ [] → nat_lt (length prefix) (length (prefix ++ rest)) ≡ true
longer prefix rest n =
    let p = has_length rest n in
    lt-ltb (length prefix) (length (prefix ++ rest)) (let e = length-append prefix rest in omega arith)

strips : List ℕ → List ℕ → Bool
strips prefix name = starts_with nat_eq name prefix && nat_lt (length prefix) (length name)

-- where a prefix is stripped, something is left
left_over : (prefix name : List ℕ) → name ≡ prefix ++ drop (length prefix) name → nat_lt (length prefix) (length name) ≡ true → drop (length prefix) name ≢ []
left_over prefix name whole h e =
    let longer : length prefix < length name = ltb-true (length prefix) (length name) h in
    let same : length name ≡ length (prefix ++ []) = ap length (whole ∙ ap (λ t. prefix ++ t) e) in
    let sum = length-append prefix [] in
    omega arith

pub chip_to : (chip : Option (List ℕ)) (name rest : List ℕ) → WithoutChip chip name rest → without_chip chip name ≡ rest
chip_to None name rest (stripped e w n) = absurd (let no : ⊥ = cc in no)
chip_to None name rest (kept k) = refl
chip_to (Some p) name rest (stripped {prefix} {rest = r} e w n) =
    let same : p ≡ prefix = cc in
    let whole : name ≡ p ++ r = w ∙ ap (λ t. t ++ r) (sym same) in
    ap (λ t. without_chip (Some p) t) whole
    ∙ if_true (starts_with nat_eq (p ++ r) p && nat_lt (length p) (length (p ++ r))) _ _ (and_from _ _ (starts_to (p ++ r) p r refl) (longer p r n))
    ∙ drop-append_seam p r
chip_to (Some p) name rest (kept k) = go (starts_with nat_eq name p && nat_lt (length p) (length name)) refl
  where
    go : (b : Bool) → (starts_with nat_eq name p && nat_lt (length p) (length name)) ≡ b → (if b then drop (length p) name else name) ≡ name
    go true e =
        let parts = and_parts (starts_with nat_eq name p) (nat_lt (length p) (length name)) e in
        let whole = starts_from name p parts.0 in
        absurd (left_over p name whole parts.1 (k p (drop (length p) name) refl whole))
    go false e = refl

pub chip_from : (chip : Option (List ℕ)) (name : List ℕ) → WithoutChip chip name (without_chip chip name)
chip_from None name = kept (λ prefix rest e. absurd (let no : ⊥ = cc in no))
chip_from (Some p) name = go (starts_with nat_eq name p && nat_lt (length p) (length name)) refl
  where
    go : (b : Bool) → (starts_with nat_eq name p && nat_lt (length p) (length name)) ≡ b → WithoutChip (Some p) name (if b then drop (length p) name else name)
    go true e =
        let parts = and_parts (starts_with nat_eq name p) (nat_lt (length p) (length name)) e in
        let whole = starts_from name p parts.0 in
        stripped refl whole (left_over p name whole parts.1)
    go false e = kept nothing
      where
        nothing : (prefix rest : List ℕ) → Some p ≡ Some prefix → name ≡ prefix ++ rest → rest ≡ []
        nothing prefix [] q w = refl
        nothing prefix (x ∷ xs) q w =
            let same : p ≡ prefix = cc in
            let whole : name ≡ p ++ (x ∷ xs) = w ∙ ap (λ t. t ++ (x ∷ xs)) (sym same) in
            let yes : (starts_with nat_eq name p && nat_lt (length p) (length name)) ≡ true =
            ap (λ t. starts_with nat_eq t p && nat_lt (length p) (length t)) whole
            ∙ and_from _ _ (starts_to (p ++ (x ∷ xs)) p (x ∷ xs) refl) (longer p (x ∷ xs) (λ q'. let no : ⊥ = cc in no)) in
            absurd (false≢true (sym e ∙ yes))

own_to : (name : List ℕ) (r : Relative) → IsRead name r → ((rows columns : ℤ) (base : List ℕ) → IsRelative name rows columns base → ⊥)
    → r ≡ record { rows = pos 0; columns = pos 0; base = name }
own_to name r (read_relative rows columns base is) not = absurd (not rows columns base is)
own_to name r (read_own n) not = refl

-- the wire of a row, a column and a base
wire_there : Rules → ℤ → ℤ → List ℕ → WireName
wire_there rules row column base = Named (if begins_with_one rules.wide base then Wide base else Local row column base)

at_to : (place : ℕ × ℕ) (name : List ℕ) (rules : Rules) (row column : ℤ) (base : List ℕ) → IsAt place name row column base
    → wire_of_relative place rules (relative_of name) ≡ wire_there rules row column base
unfolding wire_there
at_to place name rules row column base (relative {rows} {columns} r) = ap (wire_of_relative place rules) (relative_to name base rows columns r)
at_to place name rules row column base (own n) =
    ap (wire_of_relative place rules) (own_to name (relative_of name) (is_read name) n)
    ∙ ap (λ z. wire_there rules (pos z) (pos place.1 +ℤ pos 0) name) (add-zero place.0)
    ∙ ap (λ z. wire_there rules (pos place.0) (pos z) name) (add-zero place.1)

pub wire_to : (place : ℕ × ℕ) (name : List ℕ) (rules : Rules) (wire : WireName) → IsWireName place name rules wire → wire_of_name place name rules ≡ wire
unfolding wire_there
wire_to place name rules wire (ignored b) = if_true (begins_with_one rules.other_chips name) _ _ (begins_to rules.other_chips name b)
wire_to place name rules wire (wide {rest} {base} {row} {column} mine chip at b) =
    if_false (begins_with_one rules.other_chips name) _ _ (is_false _ (λ t. mine (begins_from rules.other_chips name t)))
    ∙ ap (λ t. wire_of_relative place rules (relative_of t)) (chip_to rules.chip_prefix name rest chip)
    ∙ at_to place rest rules row column base at
    ∙ ap (λ w. Named w) (if_true (begins_with_one rules.wide base) (Wide base) (Local row column base) (begins_to rules.wide base b))
wire_to place name rules wire (local {rest} {base} {row} {column} mine chip at n) =
    if_false (begins_with_one rules.other_chips name) _ _ (is_false _ (λ t. mine (begins_from rules.other_chips name t)))
    ∙ ap (λ t. wire_of_relative place rules (relative_of t)) (chip_to rules.chip_prefix name rest chip)
    ∙ at_to place rest rules row column base at
    ∙ ap (λ w. Named w) (if_false (begins_with_one rules.wide base) (Wide base) (Local row column base) (is_false _ (λ t. n (begins_from rules.wide base t))))

-- the wire at a row and a column of a name without the chip's prefix
there_is : (place : ℕ × ℕ) (name rest : List ℕ) (rules : Rules) (row column : ℤ) (base : List ℕ) → (BeginsWithOne rules.other_chips name → ⊥)
    → WithoutChip rules.chip_prefix name rest → IsAt place rest row column base → IsWireName place name rules (wire_there rules row column base)
unfolding wire_there
there_is place name rest rules row column base mine chip at = go (begins_with_one rules.wide base) refl
  where
    go : (b : Bool) → begins_with_one rules.wide base ≡ b → IsWireName place name rules (Named (if b then Wide base else Local row column base))
    go true e = wide mine chip at (begins_from rules.wide base e)
    go false e = local mine chip at (λ w. false≢true (sym e ∙ begins_to rules.wide base w))

read_is : (place : ℕ × ℕ) (name rest : List ℕ) (rules : Rules) (r : Relative) → (BeginsWithOne rules.other_chips name → ⊥)
    → WithoutChip rules.chip_prefix name rest → IsRead rest r → IsWireName place name rules (wire_of_relative place rules r)
unfolding wire_there
read_is place name rest rules r mine chip (read_relative rows columns base is) =
    there_is place name rest rules (pos place.0 +ℤ rows) (pos place.1 +ℤ columns) base mine chip (relative is)
read_is place name rest rules r mine chip (read_own not) =
    subst (IsWireName place name rules)
    (sym (ap (λ z. wire_there rules (pos z) (pos place.1 +ℤ pos 0) rest) (add-zero place.0)
    ∙ ap (λ z. wire_there rules (pos place.0) (pos z) rest) (add-zero place.1)))
    (there_is place name rest rules (pos place.0) (pos place.1) rest mine chip (own not))

pub wire_is : (place : ℕ × ℕ) (name : List ℕ) (rules : Rules) → IsWireName place name rules (wire_of_name place name rules)
wire_is place name rules = go (begins_with_one rules.other_chips name) refl
  where
    go : (b : Bool) → begins_with_one rules.other_chips name ≡ b
        → IsWireName place name rules (if b then Ignored else wire_of_relative place rules (relative_of (without_chip rules.chip_prefix name)))
    go true e = ignored (begins_from rules.other_chips name e)
    go false e =
        read_is place name (without_chip rules.chip_prefix name) rules (relative_of (without_chip rules.chip_prefix name))
        (λ b. false≢true (sym e ∙ begins_to rules.other_chips name b)) (chip_from rules.chip_prefix name) (is_read (without_chip rules.chip_prefix name))

pub one_wire : (place : ℕ × ℕ) (name : List ℕ) (rules : Rules) (wire : WireName) → IsWireName place name rules wire ↔ (wire_of_name place name rules ≡ wire)
one_wire place name rules wire = (wire_to place name rules wire, λ e. subst (IsWireName place name rules) e (wire_is place name rules))
