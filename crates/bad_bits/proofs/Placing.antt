-- The place of a domain.
use Rattle.std.proofs.Common.{◌≡◌, ℕ, true, List, find, get_or, Option, None, Some, sym, ap, inl, inr}
use Rattle.std.specs.Ordering.{nat_cmp}
use Rattle.std.proofs.lemmas.Bool.{false≢true}
use Rattle.words.specs.Members.{In}
use Rattle.patterns.specs.Bits.{Bits}
use Rattle.records.specs.Side.{Domain}
use Rattle.fabric.specs.Wires.{name_cmp}
use Rattle.upset.specs.Configured.{Configured, circuit_of}
use Rattle.upset_effect.specs.Effects.{FlipEffect, IsEffectOf}
use Rattle.design_answers.specs.BadBits.{DisturbedIn, TouchedIn}
use Rattle.domain_map.specs.Labels.{AreLabels, WireLabels}
use Rattle.bad_bits.specs.Numbered.{OnCell}
use Rattle.bad_bits.specs.Least.{LeastOrNone, has_label, is_that}
use Rattle.bad_bits.specs.Found.{PlaceOrNone}
use Rattle.bad_bits.proofs.Leasts.{find_least, least_same}
use Rattle.bad_bits.proofs.TouchedCells.{is_same, same_is}

that_is : (d : Domain) (o : Option Domain) → is_that d o ≡ true → o ≡ Some d
that_is d None h = absurd (false≢true h)
that_is d (Some e) h = ap (λ x. Some x) (sym (same_is d e h))

is_that_one : (d : Domain) (o : Option Domain) → o ≡ Some d → is_that d o ≡ true
is_that_one d None h = absurd (let no : ⊥ = cc in no)
is_that_one d (Some e) h = is_same d e (let same : e ≡ d = cc in sym same)

module _ (k : Configured) (flips : Bits) (d : Domain) where
  -- the first disturbed wire with the label is the least disturbed wire of the domain
  pub least_wire : (l : WireLabels) (e : FlipEffect) → AreLabels (circuit_of k) l → IsEffectOf k flips e → LeastOrNone nat_cmp (DisturbedIn k flips d) (find (has_label l d) e.disturbed)
  least_wire l e labels effect =
      least_same nat_cmp (λ w. In e.disturbed w × (has_label l d w ≡ true)) (DisturbedIn k flips d) (λ w. (
        (λ h. ((effect.disturbed.members w).0 h.0, (labels.domains_are w d).1 (that_is d (get_or l.domains w None) h.1))),
        (λ h. ((effect.disturbed.members w).1 h.0, is_that_one d (get_or l.domains w None) ((labels.domains_are w d).0 h.1))),
      )) (find (has_label l d) e.disturbed) (find_least (has_label l d) e.disturbed effect.disturbed.rising)

  pub cell_at : ((w : ℕ) → DisturbedIn k flips d w → ⊥) → (name : List ℕ) → LeastOrNone name_cmp (TouchedIn k flips d) (Some name) → PlaceOrNone k flips d (Some (OnCell name))
  cell_at none name least = (none, least)

  pub nowhere : ((w : ℕ) → DisturbedIn k flips d w → ⊥) → ((name : List ℕ) → TouchedIn k flips d name → ⊥) → PlaceOrNone k flips d None
  nowhere none untouched h = elim h [ inl w ↦ none w.0 w.1 | inr c ↦ untouched c.0 c.1 ]
