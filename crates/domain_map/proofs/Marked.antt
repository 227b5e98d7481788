-- Wires of pins that are marked.
use Rattle.std.proofs.Common.{◌≡◌, ◌≢◌, ◌↔◌, ℕ, zero, suc, ◌+◌, ◌<◌, ◌≤◌, Bool, true, false, List, [], ◌∷◌, length, get_or, drop, map, replicate, inl, inr, refl, sym, ap, subst, ◌∙◌, arith}
use Rattle.std.specs.Prelude.{slice_set}
use Rattle.std.proofs.lemmas.List.{drop_more, drop_all, length-replicate, length-set, get_or-set_same, get_or-set_other, get_or-replicate}
use Rattle.words.specs.Members.{In}
use Rattle.links.proofs.Members.{same_number}
use Rattle.circuit.specs.Pins.{Pin}
use Rattle.domain_map.specs.Labels.{marks_with}

pub marks_more : (ps : List Pin) (i : ℕ) (d : Pin) (marks more whole : List Bool) → i < length ps
    → marks_with marks (drop i ps) ≡ whole → more ≡ slice_set marks (get_or ps i d).wire true → marks_with more (drop (i + 1) ps) ≡ whole
marks_more ps i d marks more whole below are is = ap (λ ms. marks_with ms (drop (i + 1) ps)) is ∙ (sym (ap (marks_with marks) (drop_more ps i d below)) ∙ are)

pub marks_all : (ps : List Pin) (i : ℕ) (marks whole : List Bool) → length ps ≤ i → marks_with marks (drop i ps) ≡ whole → marks ≡ whole
marks_all ps i marks whole over are = sym (ap (marks_with marks) (drop_all i ps over)) ∙ are

true_false : true ≡ false → ⊥
true_false h = (let no : ⊥ = cc in no)

there_below : (marks : List Bool) (w : ℕ) → get_or marks w false ≡ true → w < length marks
there_below [] w h = absurd (true_false (sym h))
there_below (m ∷ ms) zero h = omega arith
there_below (m ∷ ms) (suc w) h = (let rest = there_below ms w h in omega arith)

-- what is marked stays marked
kept : (marks : List Bool) (ps : List Pin) (w : ℕ) → get_or marks w false ≡ true → get_or (marks_with marks ps) w false ≡ true
kept marks [] w h = h
kept marks (p ∷ ps) w h = kept (slice_set marks p.wire true) ps w (elim (same_number w p.wire) [
  | inl e ↦ subst (λ x. get_or (slice_set marks p.wire true) x false ≡ true) (sym e) (get_or-set_same marks p.wire true false (subst (λ x. x < length marks) e (there_below marks w h)))
  | inr other ↦ get_or-set_other marks p.wire w true false other ∙ h
])

-- each pin's wire is marked
marked : (marks : List Bool) (ps : List Pin) (w : ℕ) → ((p : Pin) → In ps p → p.wire < length marks) → In (map (λ (p : Pin). p.wire) ps) w → get_or (marks_with marks ps) w false ≡ true
marked marks [] w within i = absurd i
marked marks (p ∷ ps) w within i = elim i [
  | inl e ↦ subst (λ x. get_or (marks_with (slice_set marks p.wire true) ps) x false ≡ true) e (kept (slice_set marks p.wire true) ps p.wire (get_or-set_same marks p.wire true false (within p (inl refl))))
  | inr j ↦ marked (slice_set marks p.wire true) ps w (λ q k. subst (λ n. q.wire < n) (sym (length-set marks p.wire true)) (within q (inr k))) j
]

-- what is marked was marked, or is the wire of a pin
from_pin : (marks : List Bool) (ps : List Pin) (w : ℕ) → (get_or marks w false ≡ true → ⊥) → get_or (marks_with marks ps) w false ≡ true → In (map (λ (p : Pin). p.wire) ps) w
from_pin marks [] w not_yet h = absurd (not_yet h)
from_pin marks (p ∷ ps) w not_yet h = elim (same_number p.wire w) [
  | inl e ↦ inl e
  | inr other ↦ inr (from_pin (slice_set marks p.wire true) ps w (λ k. not_yet (sym (get_or-set_other marks p.wire w true false (λ e. other (sym e))) ∙ k)) h)
]

none_marked : (count w : ℕ) → get_or (replicate count false) w false ≡ true → ⊥
none_marked count w h =
    let below : w < count = subst (λ n. w < n) (length-replicate count false) (there_below (replicate count false) w h) in
    true_false (sym h ∙ get_or-replicate count w false false below)

-- exactly the wires of pins are marked
pub marks_are : (ps : List Pin) (count : ℕ) (marks : List Bool) → marks ≡ marks_with (replicate count false) ps → ((p : Pin) → In ps p → p.wire < count)
    → (w : ℕ) → (get_or marks w false ≡ true) ↔ In (map (λ p. p.wire) ps) w
marks_are ps count marks is within w = (
  (λ h. from_pin (replicate count false) ps w (none_marked count w) (subst (λ ms. get_or ms w false ≡ true) is h)),
  (λ i. subst (λ ms. get_or ms w false ≡ true) (sym is) (marked (replicate count false) ps w (λ p j. subst (λ n. p.wire < n) (sym (length-replicate count false)) (within p j)) i)),
)
