-- What a router makes of a text that may be written is one again: the start, each attempt and each move.
use Rattle.std.proofs.Common.{◌≡◌, ℕ, inl, inr, List, [], ◌∷◌, Option, Some, sym, ap, subst, ◌∙◌}
use Rattle.std.specs.Prelude.{slice_get}
use Rattle.std.specs.Option.{option_and_then}
use Rattle.words.specs.Members.{In}
use Rattle.records.specs.Grid.{Tile}
use Rattle.records.specs.Config.{Config}
use Rattle.records.specs.Profile.{SliceKind}
use Rattle.records.specs.Side.{D0, Placed}
use Rattle.fabric.specs.Graph.{GraphArc, Graph}
use Rattle.fabric.specs.GraphOf.{IsGraph}
use Rattle.fabric.specs.Image.{tile_named}
use Rattle.circuit.specs.Parts.{Source}
use Rattle.circuit.specs.Circuits.{Connection}
use Rattle.cells.specs.Sites.{Site, slice_kind, site_in, site_at, slice_site, settings_at}
use Rattle.cells_laws.proofs.Options.{mapped_from, then_from}
use Rattle.cells_laws.proofs.Shapes.{equal_shape_exact}
use Rattle.cells_laws.proofs.Sites.{site_stands}
use Rattle.repair.specs.Lines.{with_arc_lines}
use Rattle.repair.specs.Layouts.{Layout, with_path, turn_over}
use Rattle.repair.specs.Routes.{IsTheRoute}
use Rattle.attempts.specs.Jobs.{Job, State, read_of}
use Rattle.attempts.specs.Turns.{Outcome, Complete, Blocked, behind, ComesOut}
use Rattle.attempts.specs.Candidates.{Step, IsCandidate}
use Rattle.attempts.specs.Moves.{Move}
use Rattle.attempts.specs.Wires.{pin_wire}
use Rattle.attempts.specs.Attempts.{Event, Ending, Routed, NoRoute, Runs, completes, enough, comes_first, at_pad, no_site, moves, IsAnswer, ended, Ended}
use Rattle.layout_laws.specs.Named.{NamesOnce}
use Rattle.formed_laws.specs.DatabaseRead.{IsReadDevice}
use Rattle.headline_laws.proofs.Paths.{arcs_usable}
use Rattle.written_laws.specs.Writable.{TilePlace, IsWritable}
use Rattle.written_laws.proofs.Faults.{place_of}
use Rattle.written_laws.proofs.Arcs.{arcs_writable}
use Rattle.written_laws.proofs.Removed.{rest_writable}
use Rattle.written_laws.proofs.Moved.{moved_writable}

-- the number of a site is that of its tile
site_number : (g : Graph) (kind_in : Tile → Option SliceKind) (name : List ℕ) (s : Site SliceKind) → option_and_then (site_at g kind_in) (tile_named g name) ≡ Some s → tile_named g name ≡ Some s.number
site_number g kind_in name s e =
    let a = then_from (site_at g kind_in) (tile_named g name) s e in
    let b = then_from (λ tile. option_and_then (site_in a.0 tile) (kind_in tile)) (slice_get g.grid.tiles a.0) s a.1.1 in
    let c = then_from (site_in a.0 b.0) (kind_in b.0) s b.1.1 in
    let d = mapped_from (λ (place : ℕ × ℕ). let made : Site SliceKind = record { number = a.0; tile = b.0; kind = c.0 } in made) b.0.place s c.1.1 in
    a.1.0 ∙ ap (λ (x : Site SliceKind). Some x.number) d.1.1

module _ (job : Job) (is : IsGraph job.device job.design.graph) (read : IsReadDevice job.device) (once : NamesOnce job.device) where
  abbrev g : Graph
  g = job.design.graph

  abbrev one : Config
  one = job.design.config

  -- a layout over the design's graph whose text may be written
  abbrev MayWrite : Layout → Type 0
  MayWrite y = (y.graph ≡ g) × IsWritable g one y.config

  -- ---- attempts

  abbrev Writes : Outcome → Type 0
  Writes (Complete z) = MayWrite z
  Writes (Blocked earlier x later cut) = Unit {0}

  writes_behind : (x : Connection) (o : Outcome) → Writes o → Writes (behind x o)
  writes_behind x (Complete z) w = w
  writes_behind x (Blocked earlier at later cut) w = tt

  path_writes : (y : Layout) → MayWrite y → (net : Source) (rims : List (List ℕ)) (path : List GraphArc) (pin : ℕ) → IsTheRoute rims (turn_over (read_of job) y net) path pin → MayWrite (with_path y path)
  path_writes y w net rims path pin route = (
    w.0,
    subst (λ (h : Graph). IsWritable g one (with_arc_lines h y.config path)) (sym w.0)
        (arcs_writable job.device g is read once one y.config path
        (λ a i. subst (λ (h : Graph). In h.arcs a) w.0 (arcs_usable (turn_over (read_of job) y net) path pin route.is_path a i).routable.listed) w.1),
  )

  attempt_writes : (rims : List (List ℕ)) (order : List Connection) (y : Layout) → MayWrite y → (out : Outcome) → ComesOut (read_of job) rims y order out → Writes out
  attempt_writes rims [] y w out c = subst Writes (sym c) w
  attempt_writes rims (x ∷ rest) y w out c = elim c.1.1 [
    | inl p ↦ subst Writes (sym p.1.1.1.1) (writes_behind x p.1.1.0
        (attempt_writes rims rest (with_path y p.0) (path_writes y w c.0 rims p.0 (pin_wire y.cells x) p.1.0) p.1.1.0 p.1.1.1.0))
    | inr p ↦ subst Writes (sym p.1.1) tt
  ]

  -- ---- moves

  module _ (state : State) (w : MayWrite state.layout) (step : Step) (c : IsCandidate job state step) where
    abbrev h : Graph
    h = state.layout.graph

    abbrev move : Move
    move = step.move

    abbrev moves_to : Placed
    moves_to = record { name = []; tile = move.tile; kind = move.kind; domain = D0 }

    old_named : tile_named h c.old.tile.name ≡ Some c.old.number
    old_named =
        let p = then_from (slice_site h job.device.profile) _ c.old c.moved.sites.from in
        let s = site_stands h job.device.profile.slices (λ (k : SliceKind). k.tile) (λ (k : SliceKind). k.name) p.0 c.old p.1.1 in
        ap (tile_named h) s.tile_name ∙ site_number h (slice_kind job.device.profile p.0.kind) p.0.tile c.old p.1.1

    new_named : tile_named h c.new.tile.name ≡ Some c.new.number
    new_named =
        let s = site_stands h job.device.profile.slices (λ (k : SliceKind). k.tile) (λ (k : SliceKind). k.name) moves_to c.new c.moved.sites.to in
        ap (tile_named h) s.tile_name ∙ site_number h (slice_kind job.device.profile move.kind) move.tile c.new c.moved.sites.to

    new_place : TilePlace h c.new.tile.name
    new_place = place_of job.device h (subst (IsGraph job.device) (sym w.0) is) c.new.tile.name c.new.number new_named

    at_new : new_place.number ≡ c.new.number
    at_new = let e : Some new_place.number ≡ Some c.new.number = sym new_place.named ∙ new_named in let s : new_place.number ≡ c.new.number = cc in s

    step_writes : MayWrite step.layout
    step_writes =
        let before : IsWritable h one state.layout.config = subst (λ x. IsWritable x one state.layout.config) (sym w.0) w.1 in
        let rest = rest_writable h one state.layout.config c.moved.rest c.moved.without before in
        let alike = (equal_shape_exact (settings_at h c.old) c.old.kind (settings_at h c.new) c.new.kind).0 c.shape in
        let after = moved_writable h c.old c.new old_named new_place at_new alike one c.moved.rest rest in (
          c.moved.graph ∙ w.0,
          subst (λ (x : Graph). IsWritable x one step.layout.config) w.0 (subst (IsWritable h one) (sym c.moved.text) after),
        )

  -- ---- runs

  abbrev EndWrites : Ending → Type 0
  EndWrites (Routed y n) = MayWrite y
  EndWrites (NoRoute end net pin cut) = Unit {0}

  run_writes : {state : State} {log : List Event} {e : Ending} → MayWrite state.layout → Runs job state log e → EndWrites e
  run_writes {state} w (completes y a) = attempt_writes state.rims state.order state.layout w (Complete y) a
  run_writes w (enough earlier x later cut a n) = tt
  run_writes w (comes_first c earlier x later cut a n r) = run_writes w r
  run_writes w (at_pad x later cut a n pad) = tt
  run_writes w (no_site x later cut a n slice none) = tt
  run_writes {state} w (moves x later cut step a n slice first r) = run_writes (step_writes state w step first.candidate) r

  -- the text of what is routed in the end may be written
  pub answer_writable : IsWritable g one one → (log : List Event) (y : Layout) (n : ℕ) → IsAnswer job (Ended log (Routed y n)) → IsWritable g one y.config
  answer_writable w log y n (ended state s safe r) = (run_writes (s.graph, rest_writable g one one state.layout.config s.text w) r).1
