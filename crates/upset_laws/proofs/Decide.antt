-- Whether a wire is hit, shorted or disturbed can be decided, and so the effect can be listed.
use Rattle.std.proofs.Common.{◌≡◌, ◌≢◌, ℕ, true, ◌⊎◌, ◌↔◌, inl, inr, List, ◌++◌, map, ap}
use Rattle.words.specs.Members.{In}
use Rattle.words.proofs.Decided.{Decided, both, either, never, decided_by, is_true, some_in, some, chosen}
use Rattle.patterns.specs.Bits.{Bits}
use Rattle.links.specs.Links.{Link, here, onto, Upstream}
use Rattle.links.proofs.Members.{in_left, in_right, in_map, is_in, same_number}
use Rattle.fabric.specs.Graph.{GraphArc}
use Rattle.fabric.specs.Links.{routing_of, links_of}
use Rattle.circuit.specs.Faults.{Fault}
use Rattle.upset.specs.Configured.{Configured}
use Rattle.upset.specs.After.{is_affected, links_after}
use Rattle.upset.specs.Effect.{Before, After, IsHit, HasTwoAfter, IsShorted, IsShortSource, BehindShort, IsDisturbed, touched_names, IsEffect}
use Rattle.upset_laws.proofs.Upstream.{is_upstream}

same_link : (a b : Link) → (a ≡ b) ⊎ (a ≢ b)
same_link a b = elim (same_number a.source b.source) [
  | inr n ↦ inr (λ e. n (ap (λ l. l.source) e))
  | inl p ↦ elim (same_number a.sink b.sink) [ inr n ↦ inr (λ e. n (ap (λ l. l.sink) e)) | inl q ↦ inl (λ i. record { source = p i; sink = q i }) ]
]

module _ (k : Configured) (flips : Bits) where
  is_before : (x w : ℕ) → Decided (Before k x w)
  is_before x w = is_in same_link (links_of k.graph k.image) (record { source = x; sink = w })

  is_after : (x w : ℕ) → Decided (After k flips x w)
  is_after x w = is_in same_link (links_after k.graph k.image flips) (record { source = x; sink = w })

  -- all links before and after the flip, and their wires
  links : List Link
  links = links_of k.graph k.image ++ links_after k.graph k.image flips

  sources : List ℕ
  sources = map (λ l. l.source) links

  sinks : List ℕ
  sinks = map (λ l. l.sink) links

  before_source : (x w : ℕ) → Before k x w → In sources x
  unfolding sources links
  before_source x w i = in_map (λ l. l.source) links (record { source = x; sink = w }) (in_left (links_of k.graph k.image) (links_after k.graph k.image flips) (record { source = x; sink = w }) i)

  after_source : (x w : ℕ) → After k flips x w → In sources x
  unfolding sources links
  after_source x w i = in_map (λ l. l.source) links (record { source = x; sink = w }) (in_right (links_of k.graph k.image) (links_after k.graph k.image flips) (record { source = x; sink = w }) i)

  before_sink : (x w : ℕ) → Before k x w → In sinks w
  unfolding sinks links
  before_sink x w i = in_map (λ l. l.sink) links (record { source = x; sink = w }) (in_left (links_of k.graph k.image) (links_after k.graph k.image flips) (record { source = x; sink = w }) i)

  after_sink : (x w : ℕ) → After k flips x w → In sinks w
  unfolding sinks links
  after_sink x w i = in_map (λ l. l.sink) links (record { source = x; sink = w }) (in_right (links_of k.graph k.image) (links_after k.graph k.image flips) (record { source = x; sink = w }) i)

  -- a source that is new or gone
  Changed : ℕ → ℕ → Type 0
  Changed w x = (After k flips x w × (Before k x w → ⊥)) ⊎ (Before k x w × (After k flips x w → ⊥))

  is_changed : (w : ℕ) → Decided ((x : ℕ) × Changed w x)
  unfolding Changed
  is_changed w = some (Changed w) (λ x. either (both (is_after x w) (never (is_before x w))) (both (is_before x w) (never (is_after x w)))) sources
      (λ x h. elim h [ inl a ↦ after_source x w a.0 | inr b ↦ before_source x w b.0 ])

  -- an affected mux drives the wire
  is_affected_at : (w : ℕ) → Decided ((a : GraphArc) × (In k.graph.arcs a × ((is_affected k.graph flips a.mux ≡ true) × (a.sink ≡ w))))
  is_affected_at w = some_in (λ a. (is_affected k.graph flips a.mux ≡ true) × (a.sink ≡ w)) (λ a. both (is_true (is_affected k.graph flips a.mux)) (same_number a.sink w)) k.graph.arcs

  pub is_hit : (w : ℕ) → Decided (IsHit k flips w)
  unfolding Changed
  is_hit w = decided_by
      (λ h. record { arc = h.0.0; listed = h.0.1.0; affected = h.0.1.1.0; drives = h.0.1.1.1; source = h.1.0; differs = h.1.1 })
      (λ h. ((h.arc, (h.listed, (h.affected, h.drives))), (h.source, h.differs)))
      (both (is_affected_at w) (is_changed w))

  has_source_after : (w : ℕ) → Decided ((x : ℕ) × After k flips x w)
  has_source_after w = some (λ x. After k flips x w) (λ x. is_after x w) sources (λ x a. after_source x w a)

  other_source : (w x : ℕ) → Decided ((y : ℕ) × (After k flips x w × After k flips y w × (x ≢ y)))
  other_source w x = some (λ y. After k flips x w × After k flips y w × (x ≢ y))
      (λ y. decided_by (λ h. (h.0, h.1.0, h.1.1)) (λ h. (h.0, (h.1, h.2))) (both (is_after x w) (both (is_after y w) (never (same_number x y))))) sources
      (λ y h. after_source y w h.1)

  has_two : (w : ℕ) → Decided (HasTwoAfter k flips w)
  has_two w = some (λ x. (y : ℕ) × (After k flips x w × After k flips y w × (x ≢ y))) (other_source w) sources (λ x h. after_source x w h.1.0)

  pub is_shorted : (w : ℕ) → Decided (IsShorted k flips w)
  is_shorted w = decided_by (λ h. record { hit = h.0; joined = h.1 }) (λ h. (h.hit, h.joined))
      (both (is_hit w) (either (has_two w) (both (is_in same_number k.graph.outputs w) (has_source_after w))))

  pub is_short_source : (x : ℕ) → Decided (IsShortSource k flips x)
  is_short_source x = decided_by (λ h. record { sink = h.0; shorted = h.1.0; after = h.1.1 }) (λ h. (h.sink, (h.shorted, h.after)))
      (some (λ w. IsShorted k flips w × After k flips x w) (λ w. both (is_shorted w) (is_after x w)) sinks (λ w h. after_sink x w h.1))

  is_behind : (w : ℕ) → Decided (BehindShort k flips w)
  is_behind w = some (λ x. IsShortSource k flips x × Upstream (routing_of k.graph k.image) x w) (λ x. both (is_short_source x) (is_upstream (routing_of k.graph k.image) x w)) sources
      (λ x h. after_source x h.0.sink h.0.after)

  pub is_disturbed : (w : ℕ) → Decided (IsDisturbed k flips w)
  is_disturbed w = either (is_hit w) (is_behind w)

  -- a disturbed wire is a source or a sink of a link
  hit_listed : (w : ℕ) → IsHit k flips w → In (sinks ++ sources) w
  hit_listed w h = in_left sinks sources w (elim h.differs [ inl a ↦ after_sink h.source w a.0 | inr b ↦ before_sink h.source w b.0 ])

  behind_listed : (x w : ℕ) → IsShortSource k flips x → Upstream (routing_of k.graph k.image) x w → In (sinks ++ sources) w
  behind_listed x w s here = in_right sinks sources x (after_source x s.sink s.after)
  behind_listed x w s (onto {b} q c) = in_right sinks sources w (before_source w b c.0)

  disturbed_listed : (w : ℕ) → IsDisturbed k flips w → In (sinks ++ sources) w
  disturbed_listed w h = elim h [ inl hit ↦ hit_listed w hit | inr x ↦ behind_listed x.0 w x.1.0 x.1.1 ]

  disturbed_wires : (ws : List ℕ) × ((w : ℕ) → In ws w ↔ (In (sinks ++ sources) w × IsDisturbed k flips w))
  disturbed_wires = chosen (IsDisturbed k flips) is_disturbed (sinks ++ sources)

  pub effect_list : (f : Fault) × IsEffect k flips f
  effect_list = (
    record { disturbed = disturbed_wires.0; touched = touched_names k.cells flips },
    record {
      disturbed = λ w. ((λ i. ((disturbed_wires.1 w).0 i).1), (λ h. (disturbed_wires.1 w).1 (disturbed_listed w h, h)));
      touched = λ name. ((λ i. i), (λ i. i));
    },
  )
