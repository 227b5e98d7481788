-- Whether an affected mux drives a wire, and whether a wire is shorted.
use Rattle.std.proofs.Common.{◌≡◌, ℕ, ◌<◌, ◌↔◌, Bool, true, false, ◌&&◌, List, length, get_or, sym, ap, subst, ◌∙◌, eq-eqb}
use Rattle.std.specs.Prelude.{slice_get, ◌==◌}
use Rattle.std.proofs.lemmas.Bool.{and_from, and_parts, eqb-true, false≢true}
use Rattle.words.specs.Members.{In}
use Rattle.patterns.specs.Bits.{Bits}
use Rattle.links.proofs.Members.{of_flat_map}
use Rattle.fabric.specs.Device.{Device}
use Rattle.fabric.specs.Graph.{GraphMux, GraphArc, Graph}
use Rattle.fabric.specs.GraphOf.{IsGraph}
use Rattle.fabric.specs.Links.{arcs_of_mux}
use Rattle.fabric.specs.MuxBits.{bits_named}
use Rattle.fabric_laws.proofs.Chosen.{in_mux_from}
use Rattle.fabric_laws.proofs.Graphs.{some_same}
use Rattle.fabric_laws.proofs.Standing.{arc_stands}
use Rattle.graph_lists.specs.ArcLists.{muxes_into}
use Rattle.graph_lists.proofs.Listed.{place_from, place_to}
use Rattle.net_links.proofs.Listed.{each_member}
use Rattle.upset.specs.After.{is_affected}
use Rattle.upset.specs.Configured.{Configured}
use Rattle.upset.specs.Effect.{IsShorted}
use Rattle.upset_effect.specs.Reach.{IsChanged, IsDriven, IsJoined}
use Rattle.upset_effect.proofs.Affected.{affected_from}
use Rattle.upset_effect.proofs.Effecting.{hit_same}

module _ (device : Device) (g : Graph) (is : IsGraph device g) (flips : Bits) (w : ℕ) where
  -- an affected mux that drives the wire has an arc
  pub driven_by : (m : ℕ) → In (muxes_into g w) m → is_affected g flips m ≡ true → IsDriven g flips w
  driven_by m i h =
      let b = affected_from g flips m h in
      let a = of_flat_map (λ (x : GraphArc). bits_named x.origin x.arc.bits) (arcs_of_mux g m) b.0 b.1.0 in
      let own = in_mux_from g m a.0 a.1.0 in
      let stands = arc_stands device g is a.0 own.0 in
      let mux = place_from (λ (x : GraphMux). x.sink == w) g.muxes m i in
      let same : stands.mux ≡ mux.0 = some_same (sym stands.of_mux ∙ (ap (λ n. slice_get g.muxes n) own.1 ∙ mux.1.0)) in
      let sink : a.0.sink ≡ w = stands.same_sink ∙ (ap (λ (x : GraphMux). x.sink) same ∙ eqb-true mux.0.sink w mux.1.1) in
      (a.0, (own.0, (ap (is_affected g flips) own.1 ∙ h, sink)))

  pub none_drives : (muxes : List ℕ) → muxes ≡ muxes_into g w → ((k : ℕ) → k < length muxes → is_affected g flips (get_or muxes k 0) ≡ false) → IsDriven g flips w → ⊥
  none_drives muxes e none h =
      let stands = arc_stands device g is h.0 h.1.0 in
      let sink : stands.mux.sink ≡ w = sym stands.same_sink ∙ h.1.1.1 in
      let listed = place_to (λ (x : GraphMux). x.sink == w) g.muxes h.0.mux stands.mux stands.of_mux (eq-eqb stands.mux.sink w sink) in
      let not_affected = each_member (λ m. is_affected g flips m ≡ false) muxes none h.0.mux (subst (λ (xs : List ℕ). In xs h.0.mux) (sym e) listed) in
      false≢true (sym not_affected ∙ h.1.1.0)

-- two tests in one
pub both_hold : (a b : Bool) (P Q : Type 0) → (a ≡ true) ↔ P → (b ≡ true) ↔ Q → ((a && b) ≡ true) ↔ (P × Q)
both_hold a b P Q p q = (
  (λ h. let parts = and_parts a b h in (p.0 parts.0, q.0 parts.1)),
  (λ h. and_from a b (p.1 h.0) (q.1 h.1)),
)

pub first_fails : (a b : Bool) (P Q : Type 0) → a ≡ false → (a ≡ true) ↔ P → (false ≡ true) ↔ (P × Q)
first_fails a b P Q e p = ((λ h. absurd (false≢true h)), (λ h. absurd (false≢true (sym e ∙ p.1 h.0))))

-- a wire that is driven is shorted where its sources change and short it
pub shorted_is : (g : Graph) (image flips : Bits) (w : ℕ) (b : Bool) → IsDriven g flips w → (b ≡ true) ↔ (IsChanged g image flips w × IsJoined g image flips w)
    → (k : Configured) → k.graph ≡ g → k.image ≡ image → (b ≡ true) ↔ IsShorted k flips w
shorted_is g image flips w b driven t k of_graph of_image =
    let d : IsDriven k.graph flips w = subst (λ (h : Graph). IsDriven h flips w) (sym of_graph) driven in
    let u : (b ≡ true) ↔ (IsChanged k.graph k.image flips w × IsJoined k.graph k.image flips w) =
    subst (λ (h : Graph). (b ≡ true) ↔ (IsChanged h k.image flips w × IsJoined h k.image flips w)) (sym of_graph)
    (subst (λ (i : Bits). (b ≡ true) ↔ (IsChanged g i flips w × IsJoined g i flips w)) (sym of_image) t) in (
      (λ h. let r = u.0 h in record { hit = (hit_same k flips w).0 (d, r.0); joined = r.1 }),
      (λ s. u.1 (((hit_same k flips w).1 s.hit).1, s.joined)),
    )

-- no other wire is
pub not_shorted : (g : Graph) (flips : Bits) (w : ℕ) → (IsDriven g flips w → ⊥) → (k : Configured) → k.graph ≡ g → (false ≡ true) ↔ IsShorted k flips w
not_shorted g flips w none k of_graph = (
  (λ h. absurd (false≢true h)),
  (λ s. absurd (none (subst (λ (h : Graph). IsDriven h flips w) of_graph ((hit_same k flips w).1 s.hit).0))),
)
