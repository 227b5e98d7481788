-- The arcs of muxes by numbers.
use Rattle.std.proofs.Common.{◌≡◌, ℕ, zero, suc, ◌+◌, ◌<◌, ◌≤◌, List, [], ◌∷◌, ◌++◌, length, drop, get_or, map, flat_map, Option, None, Some, option_map, option_and_then, refl, sym, ap, subst, ◌∙◌, arith}
use Rattle.std.specs.Prelude.{slice_get}
use Rattle.std.specs.Option.{option_map_or}
use Rattle.std.specs.List.{enumerate_from}
use Rattle.std.proofs.lemmas.Option.{slice_get-map, slice_get-get_or}
use Rattle.std.proofs.lemmas.List.{length-map, length-append, append_assoc, append-nil, drop_more, drop_all}
use Rattle.words.specs.Members.{In}
use Rattle.links.proofs.Members.{of_flat_map}
use Rattle.records.specs.Database.{Mux}
use Rattle.records.specs.Grid.{Tile, origin_of}
use Rattle.fabric.specs.Device.{database_at}
use Rattle.fabric.specs.Graph.{GraphMux}
use Rattle.fabric.specs.GraphOf.{number_in, muxes_of}
use Rattle.fabric_laws.proofs.Graphs.{some_same}
use Rattle.fabric_laws.proofs.Members.{in_filter_map_from}
use Rattle.fabric_laws.proofs.Numbered.{entry_is, get_in}
use Rattle.graph_lists.specs.ArcLists.{ArcNumbers}
use Rattle.mux_rows.specs.MuxTable.{MuxNumbers}
use Rattle.graph_numbers.specs.Numbers.{mux_in, tile_mux_numbers, mux_numbers, mux_arc_numbers}
use Rattle.graph_numbers.specs.StandFor.{mux_at, mux_of, arcs_of_known, arc_numbers}
use Rattle.graph_numbers.proofs.Numbered.{muxes_stand}
use Rattle.tile_types.specs.Types.{slot_names}
use Rattle.slot_wires.specs.Numbers.{slot_numbers}
use Rattle.tile_parts.specs.Slots.{mux_slots, arcs_in}
use Rattle.tile_parts.proofs.Standing.{arcs_are}
use Rattle.device_numbers.specs.Numbered.{Numbered, row_at, shape_in, shape_at, sources_at, arcs_at, arcs_from}

pub below_of : {X : Type 0} (xs : List X) (i : ℕ) (x : X) → slice_get xs i ≡ Some x → i < length xs
below_of [] i x h = absurd (let no : ⊥ = cc in no)
below_of (y ∷ ys) zero x h = omega arith
below_of (y ∷ ys) (suc i) x h = (let k = below_of ys i x h in omega arith)

-- what a mux by numbers is of: its tile, its place in the database, and the wire of its sink
pub record MuxOf (n : Numbered) (m : MuxNumbers) : Type 0 where
  pub tile : Tile
  pub mux : Mux
  pub in_tile : slice_get n.device.grid.tiles m.tile ≡ Some tile
  pub at_place : slice_get (database_at n.device.types tile).muxes m.place ≡ Some mux
  pub sink : number_in n.wires n.device.profile.rules tile mux.sink ≡ Some m.sink

mux_made : (n : Numbered) (number place : ℕ) (tile : Tile) (mux : Mux) (m : MuxNumbers) (o : Option ℕ) → number_in n.wires n.device.profile.rules tile mux.sink ≡ o
    → slice_get n.device.grid.tiles number ≡ Some tile → slice_get (database_at n.device.types tile).muxes place ≡ Some mux
    → option_map (λ s. let x : MuxNumbers = record { tile = number; place = place; sink = s } in x) o ≡ Some m → MuxOf n m
mux_made n number place tile mux m None e at there h = absurd (let no : ⊥ = cc in no)
mux_made n number place tile mux m (Some s) e at there h =
    subst (MuxOf n) (some_same h) (record { tile = tile; mux = mux; in_tile = at; at_place = there; sink = e })

pub what_it_is : (n : Numbered) (m : MuxNumbers) → In (mux_numbers n.device n.wires) m → MuxOf n m
what_it_is n m i =
    let t = of_flat_map (λ (t : ℕ × Tile). tile_mux_numbers n.device n.wires t.0 t.1) (enumerate_from 0 n.device.grid.tiles) m i in
    let muxes = (database_at n.device.types t.0.1).muxes in
    let p = in_filter_map_from (λ (x : ℕ × Mux). mux_in n.device n.wires t.0.0 t.0.1 x.0 x.1) (enumerate_from 0 muxes) m t.1.1 in
    mux_made n t.0.0 p.0.0 t.0.1 p.0.1 m (number_in n.wires n.device.profile.rules t.0.1 p.0.1.sink) refl (entry_is n.device.grid.tiles t.0.0 t.0.1 t.1.0) (entry_is muxes p.0.0 p.0.1 p.1) p.2

-- its arcs are made of the slots of its sources
pub mux_arcs_made : (n : Numbered) (number : ℕ) (m : MuxNumbers) (sources : List (Option ℕ)) → In (mux_numbers n.device n.wires) m
    → Some sources ≡ sources_at n m → arcs_in (row_at n m.tile) number m.sink sources ≡ arcs_at n number m
mux_arcs_made n number m sources i h =
    let k = what_it_is n m i in
    let muxes = (database_at n.device.types k.tile).muxes in
    let shape : slice_get (shape_at n m.tile) m.place ≡ Some (mux_slots (slot_names n.device k.tile) k.mux) =
    ap (λ o. slice_get (option_map_or (shape_in n.device) o []) m.place) k.in_tile ∙ (slice_get-map (mux_slots (slot_names n.device k.tile)) muxes m.place ∙ ap (option_map (mux_slots (slot_names n.device k.tile))) k.at_place) in
    let are : sources ≡ (mux_slots (slot_names n.device k.tile) k.mux).sources = some_same (h ∙ ap (option_map (λ s. s.sources)) shape) in
    let row : row_at n m.tile ≡ slot_numbers n.device n.wires k.tile = ap (λ o. option_map_or (slot_numbers n.device n.wires) o []) k.in_tile in
    let made = arcs_are n.device n.wires k.tile number m.sink k.mux (get_in muxes m.place k.mux k.at_place) k.sink in
    ap (λ r. arcs_in r number m.sink sources) row ∙ (ap (arcs_in (slot_numbers n.device n.wires k.tile) number m.sink) are ∙ (made ∙ rw (k.in_tile, k.at_place) refl))

-- its place is below those of its tile's type
pub place_below : (n : Numbered) (m : MuxNumbers) → In (mux_numbers n.device n.wires) m → m.place < length (shape_at n m.tile)
place_below n m i =
    let k = what_it_is n m i in
    let muxes = (database_at n.device.types k.tile).muxes in
    let long : length (shape_at n m.tile) ≡ length muxes = ap (λ o. length (option_map_or (shape_in n.device) o [])) k.in_tile ∙ length-map muxes (mux_slots (slot_names n.device k.tile)) in
    subst (λ l. m.place < l) (sym long) (below_of muxes m.place k.mux k.at_place)

-- its tile is one of the grid
pub tile_below : (n : Numbered) (m : MuxNumbers) → In (mux_numbers n.device n.wires) m → m.tile < length n.device.grid.tiles
tile_below n m i = let k = what_it_is n m i in below_of n.device.grid.tiles m.tile k.tile k.in_tile

pub listed_at : (n : Numbered) (muxes : List MuxNumbers) (i : ℕ) (d : MuxNumbers) → muxes ≡ mux_numbers n.device n.wires → i < length muxes → In (mux_numbers n.device n.wires) (get_or muxes i d)
listed_at n muxes i d are below = subst (λ ms. In ms (get_or muxes i d)) are (get_in muxes i (get_or muxes i d) (slice_get-get_or muxes i d below))

-- ---- all muxes

known_arcs_at : (n : Numbered) (number : ℕ) (m : MuxNumbers) (g : GraphMux) (tile : Tile) (o : Option Mux) → slice_get n.device.grid.tiles m.tile ≡ Some tile → slice_get (database_at n.device.types tile).muxes m.place ≡ o
    → option_map (λ mux. let x : GraphMux = record { tile = m.tile; origin = origin_of tile; sink = m.sink; mux = mux } in x) o ≡ Some g
    → option_map_or (mux_arc_numbers n.device n.wires tile number m.sink) o [] ≡ arcs_of_known n.device n.wires number g
known_arcs_at n number m g tile None at there h = absurd (let no : ⊥ = cc in no)
known_arcs_at n number m g tile (Some mux) at there h =
    subst (λ (x : GraphMux). mux_arc_numbers n.device n.wires tile number m.sink mux ≡ arcs_of_known n.device n.wires number x) (some_same h)
    (sym (ap (λ o. option_map_or (λ t. mux_arc_numbers n.device n.wires t number m.sink mux) o []) at))

known_arcs : (n : Numbered) (number : ℕ) (m : MuxNumbers) (g : GraphMux) (o : Option Tile) → slice_get n.device.grid.tiles m.tile ≡ o → option_and_then (mux_at n.device m) o ≡ Some g
    → arcs_at n number m ≡ arcs_of_known n.device n.wires number g
known_arcs n number m g None at h = absurd (let no : ⊥ = cc in no)
known_arcs n number m g (Some tile) at h =
    ap (λ o. option_map_or (λ t. option_map_or (mux_arc_numbers n.device n.wires t number m.sink) (slice_get (database_at n.device.types t).muxes m.place) []) o []) at
    ∙ known_arcs_at n number m g tile (slice_get (database_at n.device.types tile).muxes m.place) at refl h

each_known : (n : Numbered) (number : ℕ) (ms : List MuxNumbers) (gs : List GraphMux) → map (mux_of n.device) ms ≡ map (λ g. Some g) gs
    → arcs_from n number ms ≡ flat_map (λ (g : ℕ × GraphMux). arcs_of_known n.device n.wires g.0 g.1) (enumerate_from number gs)
each_known n number [] [] h = refl
each_known n number [] (g ∷ gs) h = absurd (let no : ⊥ = cc in no)
each_known n number (m ∷ ms) [] h = absurd (let no : ⊥ = cc in no)
each_known n number (m ∷ ms) (g ∷ gs) h =
    let first : mux_of n.device m ≡ Some g = cc in
    let rest : map (mux_of n.device) ms ≡ map (λ x. Some x) gs = cc in
    ap (λ xs. xs ++ arcs_from n (number + 1) ms) (known_arcs n number m g (slice_get n.device.grid.tiles m.tile) refl first)
    ∙ ap (λ xs. arcs_of_known n.device n.wires number g ++ xs) (each_known n (number + 1) ms gs rest)

pub all_known : (n : Numbered) (muxes : List MuxNumbers) → muxes ≡ mux_numbers n.device n.wires → arcs_from n 0 muxes ≡ arc_numbers n.device n.wires (muxes_of n.device n.wires)
all_known n muxes are = ap (arcs_from n 0) are ∙ each_known n 0 (mux_numbers n.device n.wires) (muxes_of n.device n.wires) (muxes_stand n.device n.wires)

-- the arcs of the muxes from one on are its own, then those of the next
from_next : (n : Numbered) (muxes : List MuxNumbers) (i : ℕ) (d : MuxNumbers) → i < length muxes → arcs_from n i (drop i muxes) ≡ arcs_at n i (get_or muxes i d) ++ arcs_from n (i + 1) (drop (i + 1) muxes)
from_next n muxes i d below = ap (arcs_from n i) (drop_more muxes i d below)

pub one_mux_more : (n : Numbered) (muxes : List MuxNumbers) (i : ℕ) (d : MuxNumbers) (arcs more : List ArcNumbers) → i < length muxes → arcs ++ arcs_from n i (drop i muxes) ≡ arcs_from n 0 muxes → more ≡ arcs ++ arcs_at n i (get_or muxes i d)
    → more ++ arcs_from n (i + 1) (drop (i + 1) muxes) ≡ arcs_from n 0 muxes
one_mux_more n muxes i d arcs more below all is =
    ap (λ xs. xs ++ arcs_from n (i + 1) (drop (i + 1) muxes)) is
    ∙ (append_assoc arcs (arcs_at n i (get_or muxes i d)) (arcs_from n (i + 1) (drop (i + 1) muxes)) ∙ (ap (λ xs. arcs ++ xs) (sym (from_next n muxes i d below)) ∙ all))

pub no_mux_left : (n : Numbered) (muxes : List MuxNumbers) (i : ℕ) (arcs : List ArcNumbers) → muxes ≡ mux_numbers n.device n.wires → length muxes ≤ i → arcs ++ arcs_from n i (drop i muxes) ≡ arcs_from n 0 muxes
    → arcs ≡ arc_numbers n.device n.wires (muxes_of n.device n.wires)
no_mux_left n muxes i arcs are over all =
    let gone : arcs_from n i (drop i muxes) ≡ [] = ap (arcs_from n i) (drop_all i muxes over) in
    sym (append-nil arcs) ∙ (ap (λ xs. arcs ++ xs) (sym gone) ∙ (all ∙ all_known n muxes are))

pub too_many_arcs : (n : Numbered) (muxes : List MuxNumbers) (i most : ℕ) (d : MuxNumbers) (arcs : List ArcNumbers) → muxes ≡ mux_numbers n.device n.wires → i < length muxes → arcs ++ arcs_from n i (drop i muxes) ≡ arcs_from n 0 muxes
    → most < length (arcs ++ arcs_at n i (get_or muxes i d)) → most < length (arc_numbers n.device n.wires (muxes_of n.device n.wires))
too_many_arcs n muxes i most d arcs are below all over =
    let own = arcs_at n i (get_or muxes i d) in
    let rest = arcs_from n (i + 1) (drop (i + 1) muxes) in
    let whole : length ((arcs ++ own) ++ rest) ≡ length (arc_numbers n.device n.wires (muxes_of n.device n.wires)) = ap (λ xs. length xs) (one_mux_more n muxes i d arcs (arcs ++ own) below all refl ∙ all_known n muxes are) in
    let parts = length-append (arcs ++ own) rest in
    omega arith
