-- The lists of a graph by numbers.
use Rattle.std.proofs.Common.{◌≡◌, ℕ, List, [], ◌∷◌, inl, inr, map, filter_map, length, Option, None, Some, option_map, option_and_then, refl, sym, ap, subst, ◌∙◌}
use Rattle.std.specs.Prelude.{◌==◌, slice_get}
use Rattle.std.proofs.lemmas.List.{length-map}
use Rattle.std.proofs.lemmas.Option.{slice_get-map}
use Rattle.words.specs.Members.{In}
use Rattle.links.proofs.Members.{in_map, of_map}
use Rattle.records.specs.Database.{Mux}
use Rattle.records.specs.Grid.{Tile, origin_of}
use Rattle.fabric.specs.Device.{Device, database_at}
use Rattle.fabric.specs.Graph.{Graph, GraphMux, GraphArc}
use Rattle.fabric.specs.GraphOf.{muxes_of, arcs_of}
use Rattle.graph_lists.specs.ArcLists.{ArcNumbers, numbers_of, arcs_in, arcs_into, arcs_out, muxes_into}
use Rattle.graph_lists.specs.Places.{places}
use Rattle.place_rows.proofs.RowsBy.{places-map}
use Rattle.row_laws.proofs.ArcRows.{arcs_by, muxes_by}
use Rattle.mux_rows.specs.MuxTable.{MuxNumbers}
use Rattle.graph_numbers.specs.StandFor.{mux_at, mux_of, arc_of, arc_numbers}
use Rattle.graph_numbers.specs.Graphs.{GraphNumbers, graph_with, AreGraphNumbers}
use Rattle.graph_numbers.proofs.Numbered.{muxes_stand, arcs_stand}
use Rattle.graph_numbers.proofs.Sorted.{numbers_are}
use Rattle.graph_numbers.proofs.Whole.{whole}
use Rattle.number_lists.specs.Lists.{KeepsNumbers, muxes_of_tile}

module _ {A B : Type 0} (F : A → Option B) where
  there_cons : (x : A) (xs : List A) (y : B) → F x ≡ Some y → map F xs ≡ map (λ v. Some v) (filter_map F xs) → map F (x ∷ xs) ≡ map (λ v. Some v) (filter_map F (x ∷ xs))
  there_cons x xs y e rest = rw e (ap (λ zs. Some y ∷ zs) rest)

  -- where each stands for something, none is left out
  all_there : (xs : List A) → ((x : A) → In xs x → (y : B) × (F x ≡ Some y)) → map F xs ≡ map (λ v. Some v) (filter_map F xs)
  all_there [] each = refl
  all_there (x ∷ xs) each = let here = each x (inl refl) in there_cons x xs here.0 here.1 (all_there xs (λ z i. each z (inr i)))

  -- a member stands for something where all do
  stands : (xs : List A) (ys : List B) → map F xs ≡ map (λ v. Some v) ys → (x : A) → In xs x → (y : B) × (F x ≡ Some y)
  stands xs ys are x i =
      let found = of_map (λ (v : B). Some v) ys (F x) (subst (λ zs. In zs (F x)) are (in_map F xs x i)) in (found.0, sym found.1.1)

  -- what goes with each goes with all
  same_of : {C : Type 0} (h : B → C) (k : A → C) → ((x : A) (y : B) → F x ≡ Some y → h y ≡ k x) → (xs : List A) (ys : List B) → map F xs ≡ map (λ v. Some v) ys → map h ys ≡ map k xs
  same_of h k each [] [] are = refl
  same_of h k each [] (y ∷ ys) are = absurd (let no : ⊥ = cc in no)
  same_of h k each (x ∷ xs) [] are = absurd (let no : ⊥ = cc in no)
  same_of h k each (x ∷ xs) (y ∷ ys) are =
      let first : F x ≡ Some y = cc in
      let rest : map F xs ≡ map (λ v. Some v) ys = cc in
      ap (λ z. z ∷ map h ys) (each x y first) ∙ ap (λ zs. k x ∷ zs) (same_of h k each xs ys rest)

  -- what stands at a place
  at_place : (xs : List A) (ys : List B) (i : ℕ) (x : A) → map F xs ≡ map (λ v. Some v) ys → slice_get xs i ≡ Some x → slice_get ys i ≡ F x
  at_place xs ys i x are there =
      let both : Some (F x) ≡ option_map (λ v. Some v) (slice_get ys i) =
      sym (ap (option_map F) there) ∙ sym (slice_get-map F xs i) ∙ ap (λ zs. slice_get zs i) are ∙ slice_get-map (λ (v : B). Some v) ys i in
      go (slice_get ys i) both
    where
      go : (o : Option B) → Some (F x) ≡ option_map (λ v. Some v) o → o ≡ F x
      go None e = absurd (let no : ⊥ = cc in no)
      go (Some y) e = (let same : F x ≡ Some y = cc in sym same)

-- a mux has the numbers that stand for it
record SameEnds (m : MuxNumbers) (g : GraphMux) : Type 0 where
  tile : g.tile ≡ m.tile
  sink : g.sink ≡ m.sink

mux_made : (m : MuxNumbers) (g : GraphMux) (tile : Tile) (o : Option Mux) → option_map (λ mux. let x : GraphMux = record { tile = m.tile; origin = origin_of tile; sink = m.sink; mux = mux } in x) o ≡ Some g → SameEnds m g
mux_made m g tile None e = absurd (let no : ⊥ = cc in no)
mux_made m g tile (Some mux) e =
    let same : (let x : GraphMux = record { tile = m.tile; origin = origin_of tile; sink = m.sink; mux = mux } in x) ≡ g = cc in
    record { tile = ap (λ (x : GraphMux). x.tile) (sym same); sink = ap (λ (x : GraphMux). x.sink) (sym same) }

mux_is : (device : Device) (m : MuxNumbers) (g : GraphMux) (o : Option Tile) → option_and_then (mux_at device m) o ≡ Some g → SameEnds m g
mux_is device m g None e = absurd (let no : ⊥ = cc in no)
mux_is device m g (Some tile) e = mux_made m g tile (slice_get (database_at device.types tile).muxes m.place) e

map_itself : {X : Type 0} (xs : List X) → map (λ x. x) xs ≡ xs
map_itself [] = refl
map_itself (x ∷ xs) = ap (λ zs. x ∷ zs) (map_itself xs)

module _ (device : Device) (n : GraphNumbers) (are : AreGraphNumbers device n) where
  abbrev g : Graph
  g = graph_with device n

  muxes_are : g.muxes ≡ muxes_of device n.wires
  muxes_are = (whole device n are).muxes

  mux_each : map (mux_of device) n.muxes ≡ map (λ m. Some m) g.muxes
  mux_each = ap (map (mux_of device)) are.muxes ∙ muxes_stand device n.wires ∙ ap (map (λ m. Some m)) (sym muxes_are)

  arc_stands : (a : ArcNumbers) → In n.arcs a → (y : GraphArc) × (arc_of (muxes_of device n.wires) a ≡ Some y)
  arc_stands a i =
      stands (arc_of (muxes_of device n.wires)) (arc_numbers device n.wires (muxes_of device n.wires)) (arcs_of device n.wires) (arcs_stand device n.wires) a ((are.arcs.members a).0 i)

  arc_each : map (arc_of g.muxes) n.arcs ≡ map (λ a. Some a) g.arcs
  arc_each = all_there (arc_of g.muxes) n.arcs (λ a i. subst (λ (ms : List GraphMux). (y : GraphArc) × (arc_of ms a ≡ Some y)) (sym muxes_are) (arc_stands a i))

  pub kept : KeepsNumbers device n g
  kept = record {
    muxes = mux_each;
    arcs = arc_each;
    numbers = same_of (arc_of g.muxes) numbers_of (λ a. a) (λ a y e. numbers_are g.muxes a y e) n.arcs g.arcs arc_each ∙ map_itself n.arcs;
    tiles = same_of (mux_of device) (λ m. m.tile) (λ m. m.tile) (λ m y e. (mux_is device m y (slice_get device.grid.tiles m.tile) e).tile) n.muxes g.muxes mux_each;
    sinks = same_of (mux_of device) (λ m. m.sink) (λ m. m.sink) (λ m y e. (mux_is device m y (slice_get device.grid.tiles m.tile) e).sink) n.muxes g.muxes mux_each;
  }

-- ---- what the calls of a graph give

module _ (device : Device) (n : GraphNumbers) (g : Graph) (k : KeepsNumbers device n g) where
  pub arcs_counted : length g.arcs ≡ length n.arcs
  arcs_counted = sym (length-map g.arcs numbers_of) ∙ ap (λ xs. length xs) k.numbers

  pub muxes_counted : length g.muxes ≡ length n.muxes
  muxes_counted = sym (length-map g.muxes (λ (m : GraphMux). m.tile)) ∙ (ap (λ xs. length xs) k.tiles ∙ length-map n.muxes (λ (m : MuxNumbers). m.tile))

  pub out_are : (w : ℕ) → places (λ a. a.source == w) n.arcs ≡ arcs_out g w
  out_are w = arcs_by (λ a. a.source) g n.arcs k.numbers w

  pub into_are : (w : ℕ) → places (λ a. a.sink == w) n.arcs ≡ arcs_into g w
  into_are w = arcs_by (λ a. a.sink) g n.arcs k.numbers w

  pub of_mux_are : (m : ℕ) → places (λ a. a.mux == m) n.arcs ≡ arcs_in g m
  of_mux_are m = arcs_by (λ a. a.mux) g n.arcs k.numbers m

  pub drivers_are : (w : ℕ) → places (λ m. m.sink == w) n.muxes ≡ muxes_into g w
  drivers_are w = muxes_by g n.muxes k.sinks w

  pub in_tile_are : (t : ℕ) → places (λ m. m.tile == t) n.muxes ≡ muxes_of_tile g t
  in_tile_are t =
      sym (places-map (λ (m : MuxNumbers). m.tile) (λ x. x == t) n.muxes)
      ∙ (ap (places (λ x. x == t)) (sym k.tiles) ∙ places-map (λ (m : GraphMux). m.tile) (λ x. x == t) g.muxes)

  -- the arc of a number, and the mux
  pub arc_is : (i : ℕ) (a : ArcNumbers) → slice_get n.arcs i ≡ Some a → slice_get g.arcs i ≡ arc_of g.muxes a
  arc_is i a there = at_place (arc_of g.muxes) n.arcs g.arcs i a k.arcs there

  pub numbers_at : (i : ℕ) (a : ArcNumbers) → slice_get n.arcs i ≡ Some a → option_map numbers_of (slice_get g.arcs i) ≡ Some a
  numbers_at i a there = sym (slice_get-map numbers_of g.arcs i) ∙ (ap (λ xs. slice_get xs i) k.numbers ∙ there)

  pub mux_at_is : (i : ℕ) (m : MuxNumbers) → slice_get n.muxes i ≡ Some m → slice_get g.muxes i ≡ mux_of device m
  mux_at_is i m there = at_place (mux_of device) n.muxes g.muxes i m k.muxes there

  pub tile_at : (i : ℕ) (m : MuxNumbers) → slice_get n.muxes i ≡ Some m → option_map (λ x. x.tile) (slice_get g.muxes i) ≡ Some m.tile
  tile_at i m there =
      sym (slice_get-map (λ (x : GraphMux). x.tile) g.muxes i) ∙ (ap (λ xs. slice_get xs i) k.tiles ∙ (slice_get-map (λ (x : MuxNumbers). x.tile) n.muxes i ∙ ap (option_map (λ x. x.tile)) there))

  pub sink_at : (i : ℕ) (m : MuxNumbers) → slice_get n.muxes i ≡ Some m → option_map (λ x. x.sink) (slice_get g.muxes i) ≡ Some m.sink
  sink_at i m there =
      sym (slice_get-map (λ (x : GraphMux). x.sink) g.muxes i) ∙ (ap (λ xs. slice_get xs i) k.sinks ∙ (slice_get-map (λ (x : MuxNumbers). x.sink) n.muxes i ∙ ap (option_map (λ x. x.sink)) there))
