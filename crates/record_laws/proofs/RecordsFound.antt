-- The records behind numbers are those of the graph.
use Rattle.std.proofs.Common.{◌≡◌, ℕ, List, [], Option, None, Some, option_map, option_and_then, refl, sym, ap, ◌∙◌}
use Rattle.std.specs.Prelude.{slice_get}
use Rattle.std.specs.Option.{option_map_or}
use Rattle.std.proofs.lemmas.Option.{slice_get-map}
use Rattle.records.specs.Database.{Arc, Mux, TileDb}
use Rattle.fabric.specs.Device.{TypeDb, Device}
use Rattle.fabric.specs.Graph.{GraphMux, GraphArc, Graph}
use Rattle.fabric.specs.GraphOf.{muxes_of}
use Rattle.fabric_laws.proofs.Graphs.{arc_of}
use Rattle.fabric_laws.proofs.Numbered.{entry_is, get_in}
use Rattle.graph_lists.specs.ArcLists.{ArcNumbers, numbers_of}
use Rattle.mux_rows.specs.MuxTable.{MuxNumbers}
use Rattle.record_laws.specs.Records.{type_named}
use Rattle.record_laws.proofs.Behind.{in_graph, number_at, of}
use Rattle.record_laws.specs.Records.{db_of}
use Rattle.record_laws.specs.Records.{AreArcsOf, AreMuxesOf, arc_behind, mux_behind, mux_record}

-- the muxes of the database of a tile
db_there : (place : ℕ) (mux : Mux) (o : Option TypeDb) → slice_get (option_map_or (λ t. t.db) o (record { muxes = []; words = []; enums = []; fixed = [] })).muxes place ≡ Some mux
    → option_and_then (λ (db : TileDb). slice_get db.muxes place) (option_map (λ t. t.db) o) ≡ Some mux
db_there place mux None h = absurd (let no : ⊥ = cc in no)
db_there place mux (Some t) h = h

module _ (device : Device) (g : Graph) (muxes : List MuxNumbers) (standing : AreMuxesOf device g muxes) where
  -- the record of a mux by numbers is that of the mux of the graph
  pub record_there : (m : ℕ) (num : MuxNumbers) (at : slice_get muxes m ≡ Some num) → mux_record device num ≡ Some (of device g standing.is muxes standing.muxes_are m num at).mux
  record_there m num at =
      let k = of device g standing.is muxes standing.muxes_are m num at in
      ap (λ o. option_and_then (λ (db : TileDb). slice_get db.muxes num.place) (option_and_then (db_of device) o)) k.in_tile
      ∙ db_there num.place k.mux (type_named device.types k.tile.kind) k.at_place

  behind_is : (m : ℕ) (o : Option MuxNumbers) → slice_get muxes m ≡ o → option_and_then (mux_record device) o ≡ option_map (λ x. x.mux) (slice_get g.muxes m)
  behind_is m None h = none_of (slice_get g.muxes m) refl
    where
      none_of : (o : Option GraphMux) → slice_get g.muxes m ≡ o → None ≡ option_map (λ x. x.mux) o
      none_of None e = refl
      none_of (Some x) e =
          let found = number_at device g standing.is muxes standing.muxes_are m x (ap (λ ms. slice_get ms m) (sym standing.is.muxes) ∙ e) in
          let wrong : None ≡ Some found.0 = sym h ∙ found.1 in
          absurd (let no : ⊥ = cc in no)
  behind_is m (Some num) h =
      record_there m num h ∙ sym (ap (option_map (λ (x : GraphMux). x.mux)) (ap (λ ms. slice_get ms m) standing.is.muxes ∙ in_graph device g standing.is muxes standing.muxes_are m num h))

  pub mux_behind_is : (m : ℕ) → mux_behind device muxes m ≡ option_map (λ x. x.mux) (slice_get g.muxes m)
  mux_behind_is m = behind_is m (slice_get muxes m) refl

-- the record of the arc of a number is that of the arc of the graph
module _ (device : Device) (g : Graph) (muxes : List MuxNumbers) (arcs : List ArcNumbers) (standing : AreArcsOf device g muxes arcs) where
  abbrev record_of : ArcNumbers → Option Arc
  record_of x = option_and_then (λ mux. slice_get mux.arcs x.place) (mux_behind device muxes x.mux)

  of_arc : (a : ℕ) (o : Option GraphArc) → slice_get g.arcs a ≡ o → option_and_then record_of (option_map numbers_of o) ≡ option_map (λ x. x.arc) o
  of_arc a None h = refl
  of_arc a (Some x) h =
      let k = arc_of device g.wires x ((standing.of_muxes.is.arcs.members x).0 (get_in g.arcs a x h)) in
      let there : slice_get g.muxes x.mux ≡ Some k.mux = ap (λ ms. slice_get ms x.mux) standing.of_muxes.is.muxes ∙ entry_is (muxes_of device g.wires) x.mux k.mux k.of_mux in
      ap (option_and_then (λ (mux : Mux). slice_get mux.arcs x.place)) (mux_behind_is device g muxes standing.of_muxes x.mux ∙ ap (option_map (λ (m : GraphMux). m.mux)) there)
      ∙ entry_is k.mux.mux.arcs x.place x.arc k.listed

  pub arc_behind_is : (a : ℕ) → arc_behind device muxes arcs a ≡ option_map (λ x. x.arc) (slice_get g.arcs a)
  arc_behind_is a =
      ap (λ xs. option_and_then record_of (slice_get xs a)) (sym standing.arcs_are)
      ∙ (ap (option_and_then record_of) (slice_get-map numbers_of g.arcs a) ∙ of_arc a (slice_get g.arcs a) refl)

  of_part : {X : Type 0} (part : Arc → X) (o : Option GraphArc) → option_map part (option_map (λ x. x.arc) o) ≡ option_map (λ x. part x.arc) o
  of_part part None = refl
  of_part part (Some x) = refl

  pub pattern_is : (a : ℕ) (o : Option Arc) → o ≡ arc_behind device muxes arcs a → option_map (λ x. x.bits) o ≡ option_map (λ x. x.arc.bits) (slice_get g.arcs a)
  pattern_is a o h = ap (option_map (λ (x : Arc). x.bits)) (h ∙ arc_behind_is a) ∙ of_part (λ (x : Arc). x.bits) (slice_get g.arcs a)

  pub source_is : (a : ℕ) (o : Option Arc) → o ≡ arc_behind device muxes arcs a → option_map (λ x. x.source) o ≡ option_map (λ x. x.arc.source) (slice_get g.arcs a)
  source_is a o h = ap (option_map (λ (x : Arc). x.source)) (h ∙ arc_behind_is a) ∙ of_part (λ (x : Arc). x.source) (slice_get g.arcs a)

of_sink : (o : Option GraphMux) → option_map (λ (x : Mux). x.sink) (option_map (λ x. x.mux) o) ≡ option_map (λ x. x.mux.sink) o
of_sink None = refl
of_sink (Some x) = refl

pub sink_is : (device : Device) (g : Graph) (muxes : List MuxNumbers) → AreMuxesOf device g muxes → (m : ℕ) (o : Option Mux) → o ≡ mux_behind device muxes m → option_map (λ x. x.sink) o ≡ option_map (λ x. x.mux.sink) (slice_get g.muxes m)
sink_is device g muxes standing m o h = ap (option_map (λ (x : Mux). x.sink)) (h ∙ mux_behind_is device g muxes standing m) ∙ of_sink (slice_get g.muxes m)
