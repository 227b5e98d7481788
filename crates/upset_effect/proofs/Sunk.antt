-- The wires that affected muxes drive.
use Rattle.std.proofs.Common.{◌≡◌, ℕ, ◌+◌, ◌<◌, true, List, [], ◌∷◌, ◌++◌, length, flat_map, take, get_or, Some, option_map, sym, ap, subst, ◌∙◌, inl, inr, arith}
use Rattle.std.specs.Prelude.{slice_get}
use Rattle.std.specs.List.{range_with_len}
use Rattle.std.specs.Ordering.{nat_cmp}
use Rattle.std.specs.Option.{option_map_or}
use Rattle.std.proofs.lemmas.Option.{slice_get_within}
use Rattle.words.specs.Members.{In}
use Rattle.patterns.specs.Bits.{DeviceBit, bits_of_list}
use Rattle.links.proofs.Members.{in_flat_map, of_flat_map}
use Rattle.fabric.specs.Device.{Device}
use Rattle.fabric.specs.InOrder.{InOrderOnce}
use Rattle.fabric.specs.Graph.{GraphMux, GraphArc, Graph}
use Rattle.fabric.specs.GraphOf.{IsGraph}
use Rattle.fabric.specs.Links.{arcs_of_mux}
use Rattle.fabric.specs.MuxBits.{bits_named}
use Rattle.fabric_laws.proofs.Chosen.{in_mux_from}
use Rattle.fabric_laws.proofs.Members.{in_filter_from, in_filter_to}
use Rattle.fabric_laws.proofs.Standing.{arc_stands}
use Rattle.graph_lists.specs.BitLists.{bits_in, muxes_of_bit}
use Rattle.graph_lists.proofs.BitsOf.{listed_from, listed_to, range_from, range_to}
use Rattle.chosen_links.proofs.Standing.{had}
use Rattle.upset.specs.After.{is_affected}
use Rattle.upset_effect.specs.Driven.{bit_sinks, sink_at}
use Rattle.upset_effect.specs.Reach.{AreThose, IsDriven}
use Rattle.upset_effect.proofs.Affected.{affected_from, affected_to}
use Rattle.upset_effect.proofs.Gathered.{flat_more}

abbrev pub sink_list : GraphMux → List ℕ
sink_list m = m.sink ∷ []

-- one more mux
pub sinks_more : (g : Graph) (ms : List ℕ) (i m s : ℕ) (first old new : List ℕ) → i < length ms → m ≡ get_or ms i m → option_map (λ (x : GraphMux). x.sink) (slice_get g.muxes m) ≡ Some s
    → old ≡ first ++ flat_map (sink_at g) (take i ms) → new ≡ old ++ s ∷ [] → new ≡ first ++ flat_map (sink_at g) (take (i + 1) ms)
sinks_more g ms i m s first old new below is told so_far made =
    let r = had (λ (x : GraphMux). x.sink) (slice_get g.muxes m) s told in
    let one : sink_at g m ≡ s ∷ [] = ap (λ o. option_map_or sink_list o []) r.there ∙ ap (λ (n : ℕ). n ∷ []) r.is in
    flat_more (sink_at g) ms i m first old new below is so_far (made ∙ ap (λ zs. old ++ zs) (sym one))

-- the muxes with a bit have numbers below the count
pub with_bit_below : (g : Graph) (b : DeviceBit) (m : ℕ) → In (muxes_of_bit g b) m → m < length g.muxes
with_bit_below g b m i =
    let r = in_filter_from (λ (n : ℕ). bits_of_list (bits_in g n) b) (range_with_len 0 (length g.muxes)) m i in
    let s = range_from 0 (length g.muxes) m r.0 in
    let l = s.1 in omega arith

module _ (device : Device) (g : Graph) (is : IsGraph device g) (flips : List DeviceBit) where
  -- an arc's wire is the only one that its mux drives
  one_sink : (a : GraphArc) → In g.arcs a → sink_at g a.mux ≡ a.sink ∷ []
  one_sink a i = let stands = arc_stands device g is a i in ap (λ o. option_map_or sink_list o []) stands.of_mux ∙ ap (λ (n : ℕ). n ∷ []) (sym stands.same_sink)

  driven_from : (w : ℕ) → In (flat_map (bit_sinks g) flips) w → IsDriven g (bits_of_list flips) w
  driven_from w h =
      let r = of_flat_map (bit_sinks g) flips w h in
      let s = of_flat_map (sink_at g) (muxes_of_bit g r.0) w r.1.1 in
      let t = in_filter_from (λ (n : ℕ). bits_of_list (bits_in g n) r.0) (range_with_len 0 (length g.muxes)) s.0 s.1.0 in
      let named = listed_from (bits_in g s.0) r.0 t.1 in
      let a = of_flat_map (λ (x : GraphArc). bits_named x.origin x.arc.bits) (arcs_of_mux g s.0) r.0 named in
      let own = in_mux_from g s.0 a.0 a.1.0 in
      let affected = affected_to g (bits_of_list flips) s.0 (r.0, (named, listed_to flips r.0 r.1.0)) in
      let sunk : In (a.0.sink ∷ []) w = subst (λ (zs : List ℕ). In zs w) (ap (sink_at g) (sym own.1) ∙ one_sink a.0 own.0) s.1.1 in
      (a.0, (own.0, (subst (λ (n : ℕ). is_affected g (bits_of_list flips) n ≡ true) (sym own.1) affected, elim sunk [ inl e ↦ e | inr n ↦ absurd n ])))

  driven_to : (w : ℕ) → IsDriven g (bits_of_list flips) w → In (flat_map (bit_sinks g) flips) w
  driven_to w h =
      let r = affected_from g (bits_of_list flips) h.0.mux h.1.1.0 in
      let stands = arc_stands device g is h.0 h.1.0 in
      let below = slice_get_within g.muxes h.0.mux stands.mux stands.of_mux in
      in_flat_map (bit_sinks g) flips r.0 w (listed_from flips r.0 r.1.1)
      (in_flat_map (sink_at g) (muxes_of_bit g r.0) h.0.mux w
      (in_filter_to (λ (n : ℕ). bits_of_list (bits_in g n) r.0) (range_with_len 0 (length g.muxes)) h.0.mux (range_to 0 (length g.muxes) h.0.mux (omega arith) (omega arith)) (listed_to (bits_in g h.0.mux) r.0 r.1.0))
      (subst (λ (zs : List ℕ). In zs w) (sym (one_sink h.0 h.1.0)) (inl h.1.1.1)))

  -- the wires that are gathered, in order
  pub are_driven : (all kept : List ℕ) → all ≡ flat_map (bit_sinks g) flips → InOrderOnce nat_cmp all kept → AreThose (IsDriven g (bits_of_list flips)) kept
  are_driven all kept e order = record {
    rising = order.rising;
    members = λ w. (
      (λ i. driven_from w (subst (λ (zs : List ℕ). In zs w) e ((order.members w).0 i))),
      (λ h. (order.members w).1 (subst (λ (zs : List ℕ). In zs w) (sym e) (driven_to w h))),
    );
  }

  -- they are wires of the graph
  pub driven_below : (w : ℕ) → IsDriven g (bits_of_list flips) w → w < length g.wires
  driven_below w h =
      let stands = arc_stands device g is h.0 h.1.0 in
      subst (λ (n : ℕ). n < length g.wires) h.1.1.1 (slice_get_within g.wires h.0.sink stands.sink.wire stands.sink.numbered)
