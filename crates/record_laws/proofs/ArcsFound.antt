-- The arc of a name is the first of the mux in the database, unless its source is ignored: of arcs of one mux from one source the
-- one that stands first in the database comes first in arc order.
use Rattle.std.proofs.Common.{◌≡◌, ℕ, ◌<◌, Bool, true, false, cond, List, [], ◌∷◌, ◌&&◌, ◌⊎◌, inl, inr, filter_map, Option, None, Some, option_map, option_and_then, refl, sym, ap, subst, ◌∙◌, bytes_eq, arith}
use Rattle.std.specs.Prelude.{◌==◌, find, position, slice_get}
use Rattle.std.specs.Option.{option_map_or}
use Rattle.std.specs.List.{enumerate_from}
use Rattle.std.specs.Ordering.{ordering_reverse}
use Rattle.std.specs.Cmp.{IsTotalOrder}
use Rattle.std.specs.declared.cmp.Ordering.{Ordering}
use Rattle.std.specs.declared.cmp.Ordering.TheVariants.{Less, Greater}
use Rattle.std.proofs.lemmas.Bool.{eqb-true, eq-eqb, false≢true}
use Rattle.std.proofs.lemmas.Slice.Eq.{bytes_eq-Decides}
use Rattle.words.specs.Members.{In}
use Rattle.links.proofs.Members.{in_flat_map}
use Rattle.records.specs.Database.{Arc, Mux}
use Rattle.records.specs.Grid.{Tile, origin_of}
use Rattle.fabric.specs.InOrder.{IsRising}
use Rattle.fabric.specs.Device.{Device, database_at}
use Rattle.fabric.specs.Graph.{GraphMux, GraphArc, Graph}
use Rattle.fabric.specs.GraphOf.{number_in, muxes_of, arc_in, mux_arcs, arc_cmp}
use Rattle.fabric.specs.Image.{arc_named}
use Rattle.fabric_laws.proofs.Graphs.{IsArcOf, arc_of, one_arc, some_same}
use Rattle.fabric_laws.proofs.Members.{in_filter_map_to}
use Rattle.fabric_laws.proofs.Numbered.{entry_is, entry_to, get_in}
use Rattle.fabric_laws.proofs.Orders.{arc_total}
use Rattle.graph_lists.proofs.Listed.{equal_is, less_is}
use Rattle.mux_rows.specs.MuxTable.{MuxNumbers}
use Rattle.record_laws.specs.KeptBits.{is_ignored}
use Rattle.record_laws.proofs.MuxOf.{MuxOf}
use Rattle.record_laws.proofs.Behind.{graph_mux, in_graph, number_at, of}
use Rattle.record_laws.proofs.Kept.{kept, not_ignored}
use Rattle.record_laws.specs.Records.{AreMuxesOf, arc_named_behind, mux_record}
use Rattle.record_laws.proofs.Firsts.{IsFirst, find_none, first_of, found_at, none_passes}
use Rattle.record_laws.proofs.RecordsFound.{record_there}

module _ {X : Type 0} (cmp : X → X → Ordering) (total : IsTotalOrder cmp) (t : X → Bool) where
  -- no two elements come before each other
  apart : (x y : X) → cmp x y ≡ Less → cmp y x ≡ Less → ⊥
  apart x y p q = let both : Less ≡ Greater = sym p ∙ (total.antisymm x y ∙ ap ordering_reverse q) in let no : ⊥ = cc in no

  -- what is found in a rising list is the least that passes
  find_least : (xs : List X) (x : X) → IsRising cmp xs → In xs x → t x ≡ true → ((y : X) → In xs y → t y ≡ true → (y ≡ x) ⊎ (cmp x y ≡ Less)) → find t xs ≡ Some x
  find_least [] x rises i e least = absurd i
  find_least (y ∷ ys) x rises i e least = go (t y) refl i (λ j. find_least ys x rises.1 j e (λ z k. least z (inr k)))
    where
      here : t y ≡ true → y ≡ x
      here k = elim (least y (inl refl) k) [
        | inl same ↦ same
        | inr less ↦ elim i [ inl same ↦ same | inr j ↦ absurd (apart x y less (rises.0 x j)) ]
      ]

      go : (b : Bool) → t y ≡ b → In (y ∷ ys) x → (In ys x → find t ys ≡ Some x) → cond b (Some y) (find t ys) ≡ Some x
      go true k i ih = ap (λ z. Some z) (here k)
      go false k i ih = elim i [ inl s ↦ absurd (false≢true (sym k ∙ subst (λ z. t z ≡ true) (sym s) e)) | inr j ↦ ih j ]

both_true : (a b : Bool) → (a && b) ≡ true → (a ≡ true) × (b ≡ true)
both_true true b h = (refl, h)
both_true false b h = absurd (let no : ⊥ = cc in no)

module _ (device : Device) (g : Graph) (muxes : List MuxNumbers) (standing : AreMuxesOf device g muxes) (m : ℕ) (source : List ℕ) where
  abbrev named_so : Arc → Bool
  named_so a = bytes_eq a.source source

  abbrev passes : GraphArc → Bool
  passes a = (a.mux == m) && bytes_eq a.arc.source source

  -- an arc of the graph that passes: one of the mux whose source has the name
  record IsNamed (a : GraphArc) : Type 0 where
    behind : IsArcOf device g.wires a
    mux : a.mux ≡ m
    name : a.arc.source ≡ source

  passing : (a : GraphArc) → In g.arcs a → passes a ≡ true → IsNamed a
  passing a i h =
      let two = both_true (a.mux == m) (bytes_eq a.arc.source source) h in
      record {
        behind = arc_of device g.wires a ((standing.is.arcs.members a).0 i);
        mux = eqb-true a.mux m two.0;
        name = (bytes_eq-Decides a.arc.source source).0 two.1;
      }

  none_named : ((a : GraphArc) → IsNamed a → ⊥) → arc_named g m source ≡ None
  none_named never = find_none passes g.arcs (λ a i h. never a (passing a i h))

  -- none from a source that is ignored
  pub ignored_none : is_ignored device.profile.rules source ≡ true → arc_named g m source ≡ None
  ignored_none e = none_named (λ a k.
      let plain = not_ignored g.wires device.profile.rules k.behind.tile a.arc.source a.source k.behind.source in
      false≢true (sym plain ∙ (ap (is_ignored device.profile.rules) k.name ∙ e)))

  -- none of a mux that isn't there
  no_mux : slice_get muxes m ≡ None → arc_named g m source ≡ None
  no_mux e = none_named (λ a k.
      let there : slice_get (muxes_of device g.wires) m ≡ Some k.behind.mux = ap (slice_get (muxes_of device g.wires)) (sym k.mux) ∙ entry_is (muxes_of device g.wires) a.mux k.behind.mux k.behind.of_mux in
      let found = number_at device g standing.is muxes standing.muxes_are m k.behind.mux there in
      let wrong : None ≡ Some found.0 = sym e ∙ found.1 in
      let no : ⊥ = cc in no)

  module _ (plain : is_ignored device.profile.rules source ≡ false) (num : MuxNumbers) (at : slice_get muxes m ≡ Some num) where
    abbrev behind : MuxOf (record { device = device; wires = g.wires }) num
    behind = of device g standing.is muxes standing.muxes_are m num at

    abbrev mux : Mux
    mux = behind.mux

    abbrev tile : Tile
    tile = behind.tile

    abbrev it : GraphMux
    it = graph_mux device g standing.is muxes standing.muxes_are m num at

    there : slice_get (muxes_of device g.wires) m ≡ Some it
    there = in_graph device g standing.is muxes standing.muxes_are m num at

    its_mux : (a : GraphArc) (k : IsNamed a) → k.behind.mux ≡ it
    its_mux a k = some_same (sym (entry_is (muxes_of device g.wires) a.mux k.behind.mux k.behind.of_mux) ∙ (ap (slice_get (muxes_of device g.wires)) k.mux ∙ there))

    listed : (a : GraphArc) (k : IsNamed a) → slice_get mux.arcs a.place ≡ Some a.arc
    listed a k = ap (λ (x : GraphMux). slice_get x.mux.arcs a.place) (sym (its_mux a k)) ∙ entry_is k.behind.mux.mux.arcs a.place a.arc k.behind.listed

    its_tile : (a : GraphArc) (k : IsNamed a) → k.behind.tile ≡ tile
    its_tile a k = some_same (sym k.behind.in_tile ∙ (ap (λ (x : GraphMux). slice_get device.grid.tiles x.tile) (its_mux a k) ∙ behind.in_tile))

    -- no record of the name
    unnamed : position named_so mux.arcs ≡ None → arc_named g m source ≡ None
    unnamed e = none_named (λ a k. none_passes named_so mux.arcs e a.place a.arc (listed a k) ((bytes_eq-Decides a.arc.source source).1 k.name))

    module _ (p : ℕ) (e : position named_so mux.arcs ≡ Some p) where
      first : IsFirst named_so mux.arcs p
      first = first_of named_so mux.arcs p e

      its_name : first.it.source ≡ source
      its_name = (bytes_eq-Decides first.it.source source).0 first.passes

      wire : (k : ℕ) × (number_in g.wires device.profile.rules tile first.it.source ≡ Some k)
      wire =
          kept device g.wires standing.is.wires tile (get_in device.grid.tiles num.tile tile behind.in_tile) mux (get_in (database_at device.types tile).muxes num.place mux behind.at_place) num.sink behind.sink
          first.it (get_in mux.arcs p first.it first.at) (ap (is_ignored device.profile.rules) its_name ∙ plain)

      abbrev arc : GraphArc
      arc = record { mux = m; place = p; source = wire.0; sink = num.sink; origin = origin_of tile; arc = first.it }

      in_graph_arcs : In g.arcs arc
      in_graph_arcs =
          let made : arc_in device g.wires tile m it p first.it ≡ Some arc = ap (option_map (λ s. let x : GraphArc = record { mux = m; place = p; source = s; sink = num.sink; origin = origin_of tile; arc = first.it } in x)) wire.1 in
          let in_mux : In (mux_arcs device g.wires m it) arc =
          subst (λ o. In (option_map_or (λ t. filter_map (λ e. arc_in device g.wires t m it e.0 e.1) (enumerate_from 0 mux.arcs)) o []) arc) (sym behind.in_tile)
          (in_filter_map_to (λ (e : ℕ × Arc). arc_in device g.wires tile m it e.0 e.1) (enumerate_from 0 mux.arcs) (p, first.it) arc (entry_to mux.arcs p first.it first.at) made) in
          (standing.is.arcs.members arc).1 (in_flat_map (λ (e : ℕ × GraphMux). mux_arcs device g.wires e.0 e.1) (enumerate_from 0 (muxes_of device g.wires)) (m, it) arc (entry_to (muxes_of device g.wires) m it there) in_mux)

      arc_passes : passes arc ≡ true
      arc_passes = ap (λ b. b && bytes_eq first.it.source source) (eq-eqb m m refl) ∙ first.passes

      own : IsNamed arc
      own = passing arc in_graph_arcs arc_passes

      -- every other one comes later
      later_of : (a : GraphArc) (k : IsNamed a) → ((a.place ≡ p) ⊎ (p < a.place)) → (a ≡ arc) ⊎ (arc_cmp arc a ≡ Less)
      later_of a k (inl same) = inl (one_arc device g.wires arc a own.behind k.behind (record { mux = sym k.mux; place = sym same }))
      later_of a k (inr less) =
          let sinks : num.sink ≡ a.sink = sym (k.behind.sink ∙ ap (λ (x : GraphMux). x.sink) (its_mux a k)) in
          let sources : wire.0 ≡ a.source = some_same (sym wire.1 ∙ (ap (number_in g.wires device.profile.rules tile) (its_name ∙ sym k.name) ∙ (ap (λ t. number_in g.wires device.profile.rules t a.arc.source) (sym (its_tile a k)) ∙ k.behind.source))) in
          inr (rw (equal_is num.sink a.sink sinks, equal_is wire.0 a.source sources, equal_is m a.mux (sym k.mux), less_is p a.place less) refl)

      not_sooner : (a : GraphArc) (k : IsNamed a) → a.place < p → ⊥
      not_sooner a k less = first.first a.place a.arc less (listed a k) ((bytes_eq-Decides a.arc.source source).1 k.name)

      order : (x : ℕ) → (x < p → ⊥) → (x ≡ p) ⊎ (p < x)
      order x never = grind arith

      found : arc_named g m source ≡ Some arc
      found = find_least arc_cmp arc_total passes g.arcs arc standing.is.arcs.rising in_graph_arcs arc_passes (λ a i h. (let k = passing a i h in later_of a k (order a.place (not_sooner a k))))

    -- the arc's record is the first of the name
    record_of : (o : Option ℕ) → position named_so mux.arcs ≡ o → option_map (λ a. a.arc) (arc_named g m source) ≡ option_and_then (slice_get mux.arcs) o
    record_of None e = ap (option_map (λ (a : GraphArc). a.arc)) (unnamed e)
    record_of (Some p) e = ap (option_map (λ (a : GraphArc). a.arc)) (found p e) ∙ sym (first p e).at

    its_record : option_map (λ a. a.arc) (arc_named g m source) ≡ arc_named_behind device muxes m source
    its_record =
        record_of (position named_so mux.arcs) refl
        ∙ (sym (found_at named_so mux.arcs (position named_so mux.arcs) refl)
        ∙ sym (ap (λ o. option_and_then (λ mux. find named_so mux.arcs) (option_and_then (mux_record device) o)) at ∙ ap (option_and_then (λ (x : Mux). find named_so x.arcs)) (record_there device g muxes standing m num at)))

  pub record_is : is_ignored device.profile.rules source ≡ false → (o : Option MuxNumbers) → slice_get muxes m ≡ o → option_map (λ a. a.arc) (arc_named g m source) ≡ arc_named_behind device muxes m source
  record_is plain None e = ap (option_map (λ (a : GraphArc). a.arc)) (no_mux e) ∙ sym (ap (λ o. option_and_then (λ mux. find named_so mux.arcs) (option_and_then (mux_record device) o)) e)
  record_is plain (Some num) e = its_record plain num e

  bits_of : (o : Option GraphArc) → option_map (λ (x : Arc). x.bits) (option_map (λ a. a.arc) o) ≡ option_map (λ a. a.arc.bits) o
  bits_of None = refl
  bits_of (Some a) = refl

  pub pattern_found : false ≡ is_ignored device.profile.rules source → (o : Option Arc) → o ≡ arc_named_behind device muxes m source → option_map (λ x. x.bits) o ≡ option_map (λ a. a.arc.bits) (arc_named g m source)
  pattern_found plain o h = ap (option_map (λ (x : Arc). x.bits)) (h ∙ sym (record_is (sym plain) (slice_get muxes m) refl)) ∙ bits_of (arc_named g m source)

  pub ignored_found : true ≡ is_ignored device.profile.rules source → None ≡ option_map (λ a. a.arc.bits) (arc_named g m source)
  ignored_found e = sym (ap (option_map (λ (a : GraphArc). a.arc.bits)) (ignored_none (sym e)))
