-- The arc of a name is the one whose place in the database is that of the first record of the name, and whose source is the wire of the
-- name: of arcs of one mux from one source the one that stands first in the database comes first in arc order.
use Rattle.std.proofs.Common.{◌≡◌, ℕ, ◌<◌, Bool, true, false, List, [], ◌&&◌, ◌⊎◌, inl, inr, filter_map, Option, None, Some, option_map, option_and_then, refl, sym, ap, subst, ◌∙◌, bytes_eq, arith}
use Rattle.std.specs.Prelude.{◌==◌, position, slice_get}
use Rattle.std.specs.Ordering.{ordering_reverse}
use Rattle.std.specs.Option.{option_map_or}
use Rattle.std.specs.List.{enumerate_from}
use Rattle.std.specs.declared.cmp.Ordering.TheVariants.{Less, Equal, Greater}
use Rattle.std.proofs.lemmas.Bool.{eqb-true, eq-eqb}
use Rattle.std.proofs.lemmas.Option.{slice_get-map}
use Rattle.std.proofs.lemmas.Slice.Eq.{bytes_eq-Decides}
use Rattle.words.specs.Members.{In}
use Rattle.links.proofs.Members.{in_flat_map, in_map}
use Rattle.records.specs.Database.{Arc, Mux}
use Rattle.records.specs.Grid.{Tile, origin_of}
use Rattle.fabric.specs.InOrder.{IsRising}
use Rattle.fabric.specs.Wires.{Wire}
use Rattle.fabric.specs.Device.{Device}
use Rattle.fabric.specs.Graph.{GraphMux, GraphArc, Graph}
use Rattle.fabric.specs.GraphOf.{IsGraph, number_in, muxes_of, arc_in, mux_arcs, arcs_of, arc_cmp}
use Rattle.fabric_laws.proofs.Graphs.{IsArcOf, arc_of, some_same}
use Rattle.fabric_laws.proofs.Members.{in_filter_map_to}
use Rattle.fabric_laws.proofs.Numbered.{entry_is, entry_to, get_in}
use Rattle.fabric_laws.proofs.Orders.{arc_total}
use Rattle.graph_lists.specs.ArcLists.{ArcNumbers, numbers_cmp, numbers_of}
use Rattle.graph_lists.proofs.BitsOf.{numbers_in_order}
use Rattle.graph_lists.proofs.Listed.{equal_is, less_is}
use Rattle.bit_rows.proofs.Rising.{get_below, or_is, rising_at}
use Rattle.mux_rows.specs.MuxTable.{MuxNumbers}
use Rattle.record_laws.specs.Records.{AreArcsOf}
use Rattle.record_laws.proofs.MuxOf.{MuxOf}
use Rattle.record_laws.proofs.Behind.{graph_mux, in_graph, number_at, of}
use Rattle.record_laws.proofs.Firsts.{IsFirst, first_at, first_of, none_at, none_passes}
use Rattle.record_laws.proofs.RecordsFound.{record_there}
use Rattle.arc_search.specs.Numbers.{IsNumberOf, key_in, key_named, place_from, wire_at}

both_true : (a b : Bool) → (a && b) ≡ true → (a ≡ true) × (b ≡ true)
both_true true b h = (refl, h)
both_true false b h = absurd (let no : ⊥ = cc in no)

-- the element behind a part of it
behind_part : {X Y : Type 0} (f : X → Y) (o : Option X) (y : Y) → option_map f o ≡ Some y → (x : X) × ((o ≡ Some x) × (f x ≡ y))
behind_part f None y h = absurd (let no : ⊥ = cc in no)
behind_part f (Some x) y h = (x, (refl, some_same h))

module _ (device : Device) (g : Graph) (muxes : List MuxNumbers) (arcs : List ArcNumbers) (standing : AreArcsOf device g muxes arcs) where
  abbrev is : IsGraph device g
  is = standing.of_muxes.is

  -- the arcs by numbers stand in arc order
  pub rising : IsRising numbers_cmp arcs
  rising = subst (λ xs. IsRising numbers_cmp xs) standing.arcs_are (numbers_in_order (arcs_of device g.wires) g.arcs is.arcs).rising

  module _ (m : ℕ) (source : List ℕ) where
    abbrev named_so : Arc → Bool
    named_so a = bytes_eq a.source source

    abbrev passes : GraphArc → Bool
    passes a = (a.mux == m) && bytes_eq a.arc.source source

    -- an arc of the graph that passes: one of the mux whose source has the name
    record IsNamed (a : GraphArc) : Type 0 where
      behind : IsArcOf device g.wires a
      mux : a.mux ≡ m
      name : a.arc.source ≡ source

    passing : (i : ℕ) (a : GraphArc) → slice_get g.arcs i ≡ Some a → passes a ≡ true → IsNamed a
    passing i a at h =
        let two = both_true (a.mux == m) (bytes_eq a.arc.source source) h in
        record {
          behind = arc_of device g.wires a ((is.arcs.members a).0 (get_in g.arcs i a at));
          mux = eqb-true a.mux m two.0;
          name = (bytes_eq-Decides a.arc.source source).0 two.1;
        }

    none_named : ((a : GraphArc) → IsNamed a → ⊥) → position passes g.arcs ≡ None
    none_named never = none_at passes g.arcs (λ i a at h. never a (passing i a at h))

    -- none of a mux that isn't there
    no_mux : slice_get muxes m ≡ None → position passes g.arcs ≡ None
    no_mux e = none_named (λ a k.
        let there : slice_get (muxes_of device g.wires) m ≡ Some k.behind.mux = ap (slice_get (muxes_of device g.wires)) (sym k.mux) ∙ entry_is (muxes_of device g.wires) a.mux k.behind.mux k.behind.of_mux in
        let found = number_at device g is muxes standing.of_muxes.muxes_are m k.behind.mux there in
        let wrong : None ≡ Some found.0 = sym e ∙ found.1 in
        let no : ⊥ = cc in no)

    module _ (num : MuxNumbers) (at : slice_get muxes m ≡ Some num) where
      abbrev behind : MuxOf (record { device = device; wires = g.wires }) num
      behind = of device g is muxes standing.of_muxes.muxes_are m num at

      abbrev mux : Mux
      mux = behind.mux

      abbrev tile : Tile
      tile = behind.tile

      abbrev it : GraphMux
      it = graph_mux device g is muxes standing.of_muxes.muxes_are m num at

      there : slice_get (muxes_of device g.wires) m ≡ Some it
      there = in_graph device g is muxes standing.of_muxes.muxes_are m num at

      -- an arc of the mux is one of it
      its_mux : (a : GraphArc) (k : IsArcOf device g.wires a) → a.mux ≡ m → k.mux ≡ it
      its_mux a k e = some_same (sym (entry_is (muxes_of device g.wires) a.mux k.mux k.of_mux) ∙ (ap (slice_get (muxes_of device g.wires)) e ∙ there))

      listed : (a : GraphArc) (k : IsArcOf device g.wires a) → a.mux ≡ m → slice_get mux.arcs a.place ≡ Some a.arc
      listed a k e = ap (λ (x : GraphMux). slice_get x.mux.arcs a.place) (sym (its_mux a k e)) ∙ entry_is k.mux.mux.arcs a.place a.arc k.listed

      its_tile : (a : GraphArc) (k : IsArcOf device g.wires a) → a.mux ≡ m → k.tile ≡ tile
      its_tile a k e = some_same (sym k.in_tile ∙ (ap (λ (x : GraphMux). slice_get device.grid.tiles x.tile) (its_mux a k e) ∙ behind.in_tile))

      its_sink : (a : GraphArc) (k : IsArcOf device g.wires a) → a.mux ≡ m → a.sink ≡ num.sink
      its_sink a k e = k.sink ∙ ap (λ (x : GraphMux). x.sink) (its_mux a k e)

      -- the wire of the name is its source
      its_source : (a : GraphArc) (k : IsNamed a) → number_in g.wires device.profile.rules tile source ≡ Some a.source
      its_source a k =
          ap (number_in g.wires device.profile.rules tile) (sym k.name) ∙ (ap (λ t. number_in g.wires device.profile.rules t a.arc.source) (sym (its_tile a k.behind k.mux)) ∙ k.behind.source)

      -- none where no record has the name, or the name stands for no wire
      unnamed : position named_so mux.arcs ≡ None → position passes g.arcs ≡ None
      unnamed e = none_named (λ a k. none_passes named_so mux.arcs e a.place a.arc (listed a k.behind k.mux) ((bytes_eq-Decides a.arc.source source).1 k.name))

      unwired : number_in g.wires device.profile.rules tile source ≡ None → position passes g.arcs ≡ None
      unwired e = none_named (λ a k. let wrong : None ≡ Some a.source = sym e ∙ its_source a k in let no : ⊥ = cc in no)

      module _ (p : ℕ) (e : position named_so mux.arcs ≡ Some p) (w : ℕ) (wire : number_in g.wires device.profile.rules tile source ≡ Some w) where
        first : IsFirst named_so mux.arcs p
        first = first_of named_so mux.arcs p e

        its_name : first.it.source ≡ source
        its_name = (bytes_eq-Decides first.it.source source).0 first.passes

        abbrev key : ArcNumbers
        key = record { mux = m; place = p; source = w; sink = num.sink }

        abbrev arc : GraphArc
        arc = record { mux = m; place = p; source = w; sink = num.sink; origin = origin_of tile; arc = first.it }

        -- the arc is there
        in_arcs : In arcs key
        in_arcs =
            let its_wire : number_in g.wires device.profile.rules tile first.it.source ≡ Some w = ap (number_in g.wires device.profile.rules tile) its_name ∙ wire in
            let made : arc_in device g.wires tile m it p first.it ≡ Some arc = ap (option_map (λ s. let x : GraphArc = record { mux = m; place = p; source = s; sink = num.sink; origin = origin_of tile; arc = first.it } in x)) its_wire in
            let in_mux : In (mux_arcs device g.wires m it) arc =
            subst (λ o. In (option_map_or (λ t. filter_map (λ e. arc_in device g.wires t m it e.0 e.1) (enumerate_from 0 mux.arcs)) o []) arc) (sym behind.in_tile)
            (in_filter_map_to (λ (e : ℕ × Arc). arc_in device g.wires tile m it e.0 e.1) (enumerate_from 0 mux.arcs) (p, first.it) arc (entry_to mux.arcs p first.it first.at) made) in
            let in_graph_arcs = (is.arcs.members arc).1 (in_flat_map (λ (e : ℕ × GraphMux). mux_arcs device g.wires e.0 e.1) (enumerate_from 0 (muxes_of device g.wires)) (m, it) arc (entry_to (muxes_of device g.wires) m it there) in_mux) in
            subst (λ xs. In xs key) standing.arcs_are (in_map numbers_of g.arcs arc in_graph_arcs)

        -- none that passes comes before it
        order : (x y : ℕ) → (x < y → ⊥) → (y ≡ x) ⊎ (y < x)
        order x y never = grind arith

        not_before : (y z : GraphArc) → numbers_of y ≡ key → IsNamed z → arc_cmp z y ≡ Less → ⊥
        not_before y z same k less = elim (order z.place p (λ sooner. first.first z.place z.arc sooner (listed z k.behind k.mux) ((bytes_eq-Decides z.arc.source source).1 k.name))) [
          | inl tie ↦ (let tied : arc_cmp y z ≡ Equal = rw (equal_is y.sink z.sink sinks, equal_is y.source z.source sources, equal_is y.mux z.mux muxes_same, equal_is y.place z.place (place ∙ tie)) refl in
              let wrong : Less ≡ Equal = sym less ∙ (arc_total.antisymm z y ∙ ap ordering_reverse tied) in let no : ⊥ = cc in no)
          | inr later ↦ (let behind_it : arc_cmp y z ≡ Less = rw (equal_is y.sink z.sink sinks, equal_is y.source z.source sources, equal_is y.mux z.mux muxes_same, less_is y.place z.place (subst (λ x. x < z.place) (sym place) later)) refl in
              let wrong : Less ≡ Greater = sym less ∙ (arc_total.antisymm z y ∙ ap ordering_reverse behind_it) in let no : ⊥ = cc in no)
        ]
          where
            place : y.place ≡ p
            place = ap (λ (x : ArcNumbers). x.place) same

            muxes_same : y.mux ≡ z.mux
            muxes_same = ap (λ (x : ArcNumbers). x.mux) same ∙ sym k.mux

            sinks : y.sink ≡ z.sink
            sinks = ap (λ (x : ArcNumbers). x.sink) same ∙ sym (its_sink z k.behind k.mux)

            sources : y.source ≡ z.source
            sources = ap (λ (x : ArcNumbers). x.source) same ∙ some_same (sym wire ∙ its_source z k)

        -- what stands at its number passes
        it_passes : (i : ℕ) (y : GraphArc) → slice_get g.arcs i ≡ Some y → numbers_of y ≡ key → passes y ≡ true
        it_passes i y at_i same =
            let k = arc_of device g.wires y ((is.arcs.members y).0 (get_in g.arcs i y at_i)) in
            let its : y.mux ≡ m = ap (λ (x : ArcNumbers). x.mux) same in
            let place : y.place ≡ p = ap (λ (x : ArcNumbers). x.place) same in
            let record_is : first.it ≡ y.arc = some_same (sym first.at ∙ (ap (slice_get mux.arcs) (sym place) ∙ listed y k its)) in
            ap (λ b. b && bytes_eq y.arc.source source) (eq-eqb y.mux m its) ∙ subst (λ (x : Arc). bytes_eq x.source source ≡ true) record_is first.passes

        first_number : (i : ℕ) → slice_get arcs i ≡ Some key → position passes g.arcs ≡ Some i
        first_number i h =
            let found = behind_part numbers_of (slice_get g.arcs i) key (sym (slice_get-map numbers_of g.arcs i) ∙ (ap (λ xs. slice_get xs i) standing.arcs_are ∙ h)) in
            let y = found.0 in
            let within = get_below g.arcs i y found.1.0 in
            first_at passes g.arcs i y found.1.0 (it_passes i y found.1.0 found.1.1)
            (λ k z sooner at_k t.
            let less : arc_cmp z y ≡ Less = (λ j. arc_cmp (sym (or_is g.arcs k z z at_k) j) (sym (or_is g.arcs i y z found.1.0) j)) ∙ rising_at arc_cmp g.arcs k i z is.arcs.rising sooner within in
            not_before y z found.1.1 (passing k z at_k t) less)

        number_is : (r : Option ℕ) → IsNumberOf arcs key r → r ≡ position passes g.arcs
        number_is None never = absurd (never in_arcs)
        number_is (Some i) h = sym (first_number i h)

      -- what is to be looked for, by what the database and the wires say
      abbrev key_by : Option ℕ → Option ℕ → Option ArcNumbers
      key_by places wires = option_and_then (λ place. option_map (λ wire. let x : ArcNumbers = record { mux = m; place = place; source = wire; sink = num.sink } in x) wires) places

      key_is : key_in device g.wires m source num ≡ key_by (position named_so mux.arcs) (number_in g.wires device.profile.rules tile source)
      key_is =
          let place : place_from device source num ≡ position named_so mux.arcs = ap (option_and_then (λ (x : Mux). position named_so x.arcs)) (record_there device g muxes standing.of_muxes m num at) in
          let wire : wire_at device g.wires num.tile source ≡ number_in g.wires device.profile.rules tile source = ap (option_and_then (λ t. number_in g.wires device.profile.rules t source)) behind.in_tile in
          λ i. key_by (place i) (wire i)

      by_parts : (places wires : Option ℕ) → position named_so mux.arcs ≡ places → number_in g.wires device.profile.rules tile source ≡ wires
          → (key : ArcNumbers) (r : Option ℕ) → Some key ≡ key_by places wires → IsNumberOf arcs key r → r ≡ position passes g.arcs
      by_parts None wires e f key r h number = absurd (let no : ⊥ = cc in no)
      by_parts (Some p) None e f key r h number = absurd (let no : ⊥ = cc in no)
      by_parts (Some p) (Some w) e f key r h number = number_is p e w f r (subst (λ k. IsNumberOf arcs k r) (some_same h) number)

      none_by_parts : (places wires : Option ℕ) → position named_so mux.arcs ≡ places → number_in g.wires device.profile.rules tile source ≡ wires → None ≡ key_by places wires → None ≡ position passes g.arcs
      none_by_parts None wires e f h = sym (unnamed e)
      none_by_parts (Some p) None e f h = sym (unwired f)
      none_by_parts (Some p) (Some w) e f h = absurd (let no : ⊥ = cc in no)

    by_mux : (o : Option MuxNumbers) → slice_get muxes m ≡ o → (key : ArcNumbers) (r : Option ℕ) → Some key ≡ option_and_then (key_in device g.wires m source) o → IsNumberOf arcs key r → r ≡ position passes g.arcs
    by_mux None at key r h number = absurd (let no : ⊥ = cc in no)
    by_mux (Some num) at key r h number =
        by_parts num at (position named_so (of device g is muxes standing.of_muxes.muxes_are m num at).mux.arcs) (number_in g.wires device.profile.rules (of device g is muxes standing.of_muxes.muxes_are m num at).tile source) refl refl key r (h ∙ key_is num at) number

    none_by_mux : (o : Option MuxNumbers) → slice_get muxes m ≡ o → None ≡ option_and_then (key_in device g.wires m source) o → None ≡ position passes g.arcs
    none_by_mux None at h = sym (no_mux at)
    none_by_mux (Some num) at h =
        none_by_parts num at (position named_so (of device g is muxes standing.of_muxes.muxes_are m num at).mux.arcs) (number_in g.wires device.profile.rules (of device g is muxes standing.of_muxes.muxes_are m num at).tile source) refl refl (h ∙ key_is num at)

    -- the number of what is looked for is that of the arc of the name; there is none where nothing is to be looked for
    pub arc_found : (wires : List Wire) → wires ≡ g.wires → (key : ArcNumbers) (r : Option ℕ) → Some key ≡ key_named device wires muxes m source → IsNumberOf arcs key r → r ≡ position passes g.arcs
    arc_found wires e key r h number = by_mux (slice_get muxes m) refl key r (h ∙ ap (λ ws. key_named device ws muxes m source) e) number

    pub no_arc : (wires : List Wire) → wires ≡ g.wires → None ≡ key_named device wires muxes m source → None ≡ position passes g.arcs
    no_arc wires e h = none_by_mux (slice_get muxes m) refl (h ∙ ap (λ ws. key_named device ws muxes m source) e)
