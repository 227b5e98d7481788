-- What is found over a graph and an image is the effect of the flips.
use Rattle.std.proofs.Common.{◌≡◌, ℕ, ◌↔◌, ◌⊎◌, List, ◌++◌, sym, ap, subst, ◌∙◌, inl, inr}
use Rattle.std.specs.Ordering.{nat_cmp}
use Rattle.words.specs.Members.{In}
use Rattle.patterns.specs.Bits.{Bits}
use Rattle.links.proofs.Members.{in_either, in_left, in_right}
use Rattle.fabric.specs.InOrder.{InOrderOnce}
use Rattle.fabric.specs.Graph.{Graph}
use Rattle.circuit.specs.Cells.{Cells}
use Rattle.upset.specs.Configured.{Configured}
use Rattle.upset.specs.Effect.{IsHit, IsShortSource, IsDisturbed, touched_names}
use Rattle.upset.specs.Roots.{IsRoot}
use Rattle.upset_effect.specs.Effects.{FlipEffect, IsEffectOf}
use Rattle.upset_effect.specs.Reach.{AreThose, IsBehind, IsDisturbedIn, IsHitIn, IsShortSourceIn}

-- a list of those with a property has those with one that is as strong
pub those_of : (P Q : ℕ → Type 0) (xs : List ℕ) → ((x : ℕ) → P x ↔ Q x) → AreThose P xs → AreThose Q xs
those_of P Q xs same are = record {
  rising = are.rising;
  members = λ x. ((λ i. (same x).0 ((are.members x).0 i)), (λ h. (are.members x).1 ((same x).1 h)));
}

-- two lists in one, in order
pub both_in_order : (xs ys all first kept : List ℕ) → first ≡ xs → all ≡ first ++ ys → InOrderOnce nat_cmp all kept → AreThose (λ w. In xs w ⊎ In ys w) kept
both_in_order xs ys all first kept e made order =
    let whole : all ≡ xs ++ ys = made ∙ ap (λ (zs : List ℕ). zs ++ ys) e in record {
      rising = order.rising;
      members = λ w. (
        (λ i. in_either xs ys w (subst (λ (zs : List ℕ). In zs w) whole ((order.members w).0 i))),
        (λ h. (order.members w).1 (subst (λ (zs : List ℕ). In zs w) (sym whole) (elim h [ inl a ↦ in_left xs ys w a | inr b ↦ in_right xs ys w b ]))),
      );
    }

module _ (g : Graph) (image flips : Bits) where
  -- disturbed are the hit wires and those behind the sources of shorted ones
  pub are_disturbed : (hit sources behind kept : List ℕ) → AreThose (IsHitIn g image flips) hit → ((x : ℕ) → In sources x ↔ IsShortSourceIn g image flips x)
      → ((w : ℕ) → In behind w ↔ IsBehind g image sources w) → AreThose (λ w. In hit w ⊎ In behind w) kept → AreThose (IsDisturbedIn g image flips) kept
  are_disturbed hit sources behind kept are short back all =
      those_of (λ w. In hit w ⊎ In behind w) (IsDisturbedIn g image flips) kept (λ w. (
        (λ h. elim h [
          | inl i ↦ inl ((are.members w).0 i)
          | inr j ↦ (let r = (back w).0 j in inr (r.0, ((short r.0).0 r.1.0, r.1.1)))
        ]),
        (λ h. elim h [
          | inl i ↦ inl ((are.members w).1 i)
          | inr r ↦ inr ((back w).1 (r.0, ((short r.0).1 r.1.0, r.1.1)))
        ]),
      )) all

module _ (k : Configured) (flips : Bits) where
  pub hit_same : (w : ℕ) → IsHitIn k.graph k.image flips w ↔ IsHit k flips w
  hit_same w = (
    (λ h. record { arc = h.0.0; listed = h.0.1.0; affected = h.0.1.1.0; drives = h.0.1.1.1; source = h.1.0; differs = h.1.1 }),
    (λ h. ((h.arc, (h.listed, (h.affected, h.drives))), (h.source, h.differs))),
  )

  short_same : (x : ℕ) → IsShortSourceIn k.graph k.image flips x ↔ IsShortSource k flips x
  short_same x = (
    (λ s. record { sink = s.0; shorted = record { hit = (hit_same s.0).0 s.1.0; joined = s.1.1.0 }; after = s.1.1.1 }),
    (λ s. (s.sink, ((hit_same s.sink).1 s.shorted.hit, (s.shorted.joined, s.after)))),
  )

  pub disturbed_same : (w : ℕ) → IsDisturbedIn k.graph k.image flips w ↔ IsDisturbed k flips w
  disturbed_same w = (
    (λ h. elim h [
      | inl i ↦ inl ((hit_same w).0 i)
      | inr r ↦ inr (r.0, ((short_same r.0).0 r.1.0, r.1.1))
    ]),
    (λ h. elim h [
      | inl i ↦ inl ((hit_same w).1 i)
      | inr r ↦ inr (r.0, ((short_same r.0).1 r.1.0, r.1.1))
    ]),
  )

  roots_same : (hit sources : List ℕ) → ((w : ℕ) → In hit w ↔ IsHitIn k.graph k.image flips w) → ((x : ℕ) → In sources x ↔ IsShortSourceIn k.graph k.image flips x)
      → (w : ℕ) → (In hit w ⊎ In sources w) ↔ IsRoot k flips w
  roots_same hit sources are short w = (
    (λ h. elim h [ inl i ↦ inl ((hit_same w).0 ((are w).0 i)) | inr j ↦ inr ((short_same w).0 ((short w).0 j)) ]),
    (λ h. elim h [ inl i ↦ inl ((are w).1 ((hit_same w).1 i)) | inr j ↦ inr ((short w).1 ((short_same w).1 j)) ]),
  )

-- the roots
pub roots_are : (g : Graph) (image flips : Bits) (hit sources kept : List ℕ) → ((w : ℕ) → In hit w ↔ IsHitIn g image flips w) → ((x : ℕ) → In sources x ↔ IsShortSourceIn g image flips x)
    → AreThose (λ w. In hit w ⊎ In sources w) kept → (k : Configured) → k.graph ≡ g → k.image ≡ image → AreThose (IsRoot k flips) kept
roots_are g image flips hit sources kept are short all k of_graph of_image =
    those_of (λ w. In hit w ⊎ In sources w) (IsRoot k flips) kept (roots_same k flips hit sources
    (subst (λ (h : Graph). (w : ℕ) → In hit w ↔ IsHitIn h k.image flips w) (sym of_graph) (subst (λ (i : Bits). (w : ℕ) → In hit w ↔ IsHitIn g i flips w) (sym of_image) are))
    (subst (λ (h : Graph). (x : ℕ) → In sources x ↔ IsShortSourceIn h k.image flips x) (sym of_graph) (subst (λ (i : Bits). (x : ℕ) → In sources x ↔ IsShortSourceIn g i flips x) (sym of_image) short))) all

-- the whole effect
pub effect_is : (g : Graph) (image flips : Bits) (cells : Cells) (e : FlipEffect) → AreThose (IsHitIn g image flips) e.hit → AreThose (IsDisturbedIn g image flips) e.disturbed
    → e.touched ≡ touched_names cells flips
    → (k : Configured) → k.graph ≡ g → k.image ≡ image → k.cells ≡ cells → IsEffectOf k flips e
effect_is g image flips cells e hit disturbed touched k of_graph of_image of_cells = record {
  hit = those_of (IsHitIn k.graph k.image flips) (IsHit k flips) e.hit (hit_same k flips)
      (subst (λ (h : Graph). AreThose (IsHitIn h k.image flips) e.hit) (sym of_graph) (subst (λ (i : Bits). AreThose (IsHitIn g i flips) e.hit) (sym of_image) hit));
  disturbed = those_of (IsDisturbedIn k.graph k.image flips) (IsDisturbed k flips) e.disturbed (disturbed_same k flips)
      (subst (λ (h : Graph). AreThose (IsDisturbedIn h k.image flips) e.disturbed) (sym of_graph) (subst (λ (i : Bits). AreThose (IsDisturbedIn g i flips) e.disturbed) (sym of_image) disturbed));
  touched = touched ∙ ap (λ (c : Cells). touched_names c flips) (sym of_cells);
}
