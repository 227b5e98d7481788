-- Numbers of wires, as places.
use Rattle.std.proofs.Common.{◌≡◌, ◌∙◌, ◌↔◌, ℕ, zero, suc, List, [], ◌∷◌, slice_get, None, Some, refl, sym, ap, subst}
use Rattle.words.specs.Members.{In}
use Rattle.words.specs.Twice.{HasNoneTwice}
use Rattle.fabric.specs.Wires.{Wire, same_wire}
use Rattle.fabric.specs.GraphOf.{number_of}
use Rattle.fabric_laws.proofs.Orders.{same_wire_is, same_wire_refl}
use Rattle.fabric_laws.proofs.Numbered.{get_in, at_position, position_there}
use Rattle.wire_names.proofs.Places.{no_place, none_at}

-- what stands once stands at one place
one_place : {X : Type 0} (xs : List X) (x : X) (i j : ℕ) → HasNoneTwice xs → slice_get xs i ≡ Some x → slice_get xs j ≡ Some x → i ≡ j
one_place [] x i j once at too = absurd (let no : ⊥ = cc in no)
one_place (y ∷ ys) x zero zero once at too = refl
one_place (y ∷ ys) x zero (suc j) once at too =
    let same : x ≡ y = cc in absurd (once.0 (subst (In ys) same (get_in ys j x too)))
one_place (y ∷ ys) x (suc i) zero once at too =
    let same : x ≡ y = cc in absurd (once.0 (subst (In ys) same (get_in ys i x at)))
one_place (y ∷ ys) x (suc i) (suc j) once at too = ap suc (one_place ys x i j once.1 at too)

numbered : (wires : List Wire) (wire : Wire) (n : ℕ) → number_of wires wire ≡ Some n → slice_get wires n ≡ Some wire
numbered wires wire n h =
    let r = at_position (same_wire wire) wires n h in
    r.1.0 ∙ ap (λ w. Some w) (sym (same_wire_is wire r.0 r.1.1))

pub number_place : (wires : List Wire) (wire : Wire) (n : ℕ) → HasNoneTwice wires → (number_of wires wire ≡ Some n) ↔ (slice_get wires n ≡ Some wire)
number_place wires wire n once = (
  numbered wires wire n,
  (λ at. let r = position_there (same_wire wire) wires wire (get_in wires n wire at) (same_wire_refl wire) in
      r.1 ∙ ap (λ k. Some k) (one_place wires wire r.0 n once (numbered wires wire r.0 r.1) at)),
)

pub no_number : (wires : List Wire) (wire : Wire) → (number_of wires wire ≡ None) ↔ (In wires wire → ⊥)
no_number wires wire = (
  (λ h i. none_at (same_wire wire) wires h wire i (same_wire_refl wire)),
  (λ absent. no_place (same_wire wire) wires (λ x i e. absent (subst (In wires) (sym (same_wire_is wire x e)) i))),
)
