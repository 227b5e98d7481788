-- A slice has a first candidate of those that it hasn't held, or none: each move is tried.
use Rattle.std.proofs.Common.{◌≡◌, ◌≢◌, ℕ, Bool, true, false, ◌⊎◌, ◌↔◌, inl, inr, List, [], ◌∷◌, ◌++◌, map, Some, refl, sym, ap, subst, ◌∙◌}
use Rattle.std.specs.Prelude.{Result, Ok, Err}
use Rattle.std.specs.List.{flat_map}
use Rattle.std.specs.declared.cmp.Ordering.TheVariants.{Greater}
use Rattle.std.specs.Ordering.{nat_cmp}
use Rattle.std.specs.Cmp.{IsTotalOrder, nat_cmp_total, on_total, then_total}
use Rattle.std.specs.Cmp.Lexicographic.{nat_list_cmp_total}
use Rattle.words.specs.Members.{In}
use Rattle.patterns.specs.Bits.{DeviceBit}
use Rattle.records.specs.Config.{Config}
use Rattle.records.specs.Grid.{Tile}
use Rattle.records.specs.Profile.{SliceKind, Profile}
use Rattle.records.specs.Side.{Placed, Side, D0}
use Rattle.links.specs.Links.{Feeds, IsClean}
use Rattle.links.proofs.Members.{in_map, in_flat_map, is_in}
use Rattle.fabric.specs.Agree.{ArcsAgree}
use Rattle.fabric.specs.Graph.{Graph}
use Rattle.fabric.specs.Image.{image_of}
use Rattle.fabric_laws.proofs.Graphs.{some_same}
use Rattle.fabric_laws.proofs.Numbered.{get_in}
use Rattle.circuit.specs.Cells.{Cells}
use Rattle.circuit.specs.Designs.{shape_of}
use Rattle.circuit.specs.Circuits.{Connection, IsConnection}
use Rattle.circuit.specs.Parts.{Source, sources}
use Rattle.circuit.specs.Pins.{Pin, pins}
use Rattle.cells.specs.Sites.{Site, settings_at}
use Rattle.cells.specs.Shapes.{equal_shape}
use Rattle.cells.specs.Resolved.{site_bits}
use Rattle.cells.specs.Faults.{site_of_slice}
use Rattle.cells.specs.CellsOf.{cells_of}
use Rattle.upset.specs.Configured.{circuit_of}
use Rattle.upset.specs.Safe.{IsSafe}
use Rattle.repair.specs.Layouts.{Layout, configured}
use Rattle.repair.specs.Lines.{WithoutArcLines}
use Rattle.repair.specs.Turns.{routing}
use Rattle.attempts.specs.Jobs.{Job, State, read_of}
use Rattle.attempts.specs.Moves.{Move, moved_config, moved_side}
use Rattle.attempts.specs.Wires.{connection_cmp}
use Rattle.attempts.specs.Candidates.{IsRemoved, BecomesRipped, Step, site_named, IsMoved, IsCandidate, WasHeld, place_of, distance, site_cmp, IsFirst, HasNone}
use Rattle.words.proofs.Decided.{Decided, both, never, decided_by, is_true, some_in}
use Rattle.route_laws.proofs.Same.{names}
use Rattle.route_laws.proofs.Usable.{all_in, if_then, is_connection}
use Rattle.attempt_laws.proofs.WithoutLines.{one_config}
use Rattle.attempt_laws.proofs.Orders.{one_order}
use Rattle.cells_laws.proofs.Sites.{site_stands}
use Rattle.design_checks.specs.Checks.{IsLeast}
use Rattle.answer_laws.proofs.Lists.{IsOrderOf, is_ordered, least_in, gathered}
use Rattle.answer_laws.proofs.Lines.{some_rest}
use Rattle.answer_laws.proofs.Ripped.{some_of, connections, connections_with, connections_of, each_connection, is_safe}
use Rattle.answer_laws.proofs.Named.{connection_total}
use Rattle.answer_laws.proofs.Told.{told_cells}
use Rattle.answer_laws.proofs.Tests.{is_clean, arcs_agree, is_modelled, is_removed, becomes_ripped}

-- what is determined has a property
one_has : {X : Type 0} (Is Has : X → Type 0) (x : X) → Is x → ((y : X) → Is y → y ≡ x) → Decided (Has x) → Decided ((y : X) × (Is y × Has y))
one_has Is Has x is one test = decided_by (λ h. (x, (is, h))) (λ h. subst Has (one h.0 h.1.0) h.1.1) test

-- what was answered has a property
ok_has : {X E : Type 0} (r : Result X E) (Has : X → Type 0) → ((x : X) → Decided (Has x)) → Decided ((x : X) × ((r ≡ Ok x) × Has x))
ok_has (Err e) Has test = inr (λ h. let f = h.1.0 in let no : ⊥ = cc in no)
ok_has {X} {E} (Ok y) Has test = decided_by (λ h. (y, (refl, h))) (λ h. let e : Ok y ≡ Ok h.0 = h.1.0 in let same : h.0 ≡ y = cc in subst Has same h.1.1) (test y)

is_false : (b : Bool) → Decided (b ≡ false)
is_false true = inr (λ e. let no : ⊥ = cc in no)
is_false false = inl refl

-- sites are in a total order
pub site_total : (from : Site SliceKind) → IsTotalOrder (site_cmp from)
site_total from =
    then_total (on_total (λ s. distance from.tile s.tile) nat_cmp_total)
    (then_total (on_total (λ s. (place_of s.tile).0) nat_cmp_total)
    (then_total (on_total (λ s. (place_of s.tile).1) nat_cmp_total)
    (then_total (on_total (λ s. s.kind.name) nat_list_cmp_total) (on_total (λ s. s.tile.name) nat_list_cmp_total))))

module _ (job : Job) (state : State) (m : Move) where
  abbrev g : Graph
  g = state.layout.graph

  abbrev profile : Profile
  profile = job.device.profile

  abbrev layout_with : Site SliceKind → Site SliceKind → Config → Cells → Layout
  layout_with old new rest cells = record { graph = g; config = moved_config old new rest; cells = cells; side = moved_side m state.layout.side }

  abbrev step_with : Layout → List Connection → Step
  step_with y ripped = record { move = m; layout = y; ripped = ripped }

  -- ---- the tests

  abbrev TestsSite : Site SliceKind → Site SliceKind → Type 0
  TestsSite old new =
      (equal_shape (settings_at g old) old.kind (settings_at g new) new.kind ≡ true)
      × (((p : Placed) → In state.layout.side.slices p → p.tile ≡ m.tile → p.kind ≡ m.kind → ⊥)
      × ((b : DeviceBit) → In (site_bits g new new.kind.settings) b → (configured state.layout).image b ≡ false))

  tests_site : (old new : Site SliceKind) → Decided (TestsSite old new)
  tests_site old new =
      both (is_true (equal_shape (settings_at g old) old.kind (settings_at g new) new.kind))
      (both (all_in (λ p. p.tile ≡ m.tile → p.kind ≡ m.kind → ⊥) (λ p. if_then (names p.tile m.tile) (never (names p.kind m.kind))) state.layout.side.slices)
      (all_in (λ b. (configured state.layout).image b ≡ false) (λ b. is_false ((configured state.layout).image b)) (site_bits g new new.kind.settings)))

  abbrev TestsLayout : Layout → Type 0
  TestsLayout y =
      IsClean (routing (configured y))
      × (ArcsAgree y.graph (configured y).image y.config
      × ((shape_of y.cells ≡ shape_of state.layout.cells)
      × (((p : Pin) (o : ℕ) → In (pins y.cells) p → Feeds (routing (configured y)) o p.wire → (s : Source) × (In (sources y.cells) s × (s.out ≡ o)))
      × (((x : Connection) → IsConnection (circuit_of (configured y)) x → IsConnection (read_of job) x)
      × IsSafe (configured y)))))

  tests_layout : (y : Layout) → Decided (TestsLayout y)
  tests_layout y =
      both (is_clean (routing (configured y)))
      (both (arcs_agree y.graph (configured y).image y.config)
      (both (told_cells (shape_of y.cells) (shape_of state.layout.cells))
      (both (is_modelled (circuit_of (configured y)))
      (both (each_connection (circuit_of (configured y)) (IsConnection (read_of job)) (λ x. is_connection (read_of job) x))
      (is_safe (configured y))))))

  abbrev TestsRipped : Layout → List Connection → Type 0
  TestsRipped y ripped = (x : Connection) → IsConnection (read_of job) x → (In (state.order ++ ripped) x → ⊥) → IsConnection (circuit_of (configured y)) x

  tests_ripped : (y : Layout) (ripped : List Connection) → Decided (TestsRipped y ripped)
  tests_ripped y ripped = each_connection (read_of job) (λ x. (In (state.order ++ ripped) x → ⊥) → IsConnection (circuit_of (configured y)) x)
      (λ x. if_then (never (is_in connections (state.order ++ ripped) x)) (is_connection (circuit_of (configured y)) x))

  -- ---- a candidate, piece by piece

  abbrev WithRipped : Layout → Type 0
  WithRipped y = (ripped : List Connection) × (IsOrderOf (connection_cmp y.cells) (BecomesRipped job state m.slice) ripped × TestsRipped y ripped)

  with_ripped : (y : Layout) → Decided (WithRipped y)
  with_ripped y = go (is_ordered (connection_cmp y.cells) (connection_total y.cells) (BecomesRipped job state m.slice) named.0 named.1 connections)
    where
      named : (xs : List Connection) × ((x : Connection) → In xs x ↔ BecomesRipped job state m.slice x)
      named = connections_with (read_of job) (BecomesRipped job state m.slice) (λ x. becomes_ripped job state m.slice x) (λ x h. h.connects)

      go : Decided ((xs : List Connection) × IsOrderOf (connection_cmp y.cells) (BecomesRipped job state m.slice) xs) → Decided (WithRipped y)
      go (inl xs) = one_has (IsOrderOf (connection_cmp y.cells) (BecomesRipped job state m.slice)) (TestsRipped y) xs.0 xs.1
          (λ ys o. one_order y.cells (BecomesRipped job state m.slice) ys xs.0 o.rising xs.1.rising o.members xs.1.members) (tests_ripped y xs.0)
      go (inr n) = inr (λ h. n (h.0, h.1.0))

  abbrev WithCells : Site SliceKind → Site SliceKind → Config → Type 0
  WithCells old new rest = (cells : Cells)
      × ((cells_of g profile (configured (layout_with old new rest cells)).image (moved_side m state.layout.side) ≡ Ok cells)
      × (TestsLayout (layout_with old new rest cells) × WithRipped (layout_with old new rest cells)))

  with_cells : (old new : Site SliceKind) (rest : Config) → Decided (WithCells old new rest)
  with_cells old new rest = ok_has (cells_of g profile (image_of g (moved_config old new rest)) (moved_side m state.layout.side))
      (λ cells. TestsLayout (layout_with old new rest cells) × WithRipped (layout_with old new rest cells))
      (λ cells. both (tests_layout (layout_with old new rest cells)) (with_ripped (layout_with old new rest cells)))

  abbrev WithRest : Site SliceKind → Site SliceKind → Type 0
  WithRest old new = (rest : Config) × (WithoutArcLines (IsRemoved job state m.slice) state.layout.config rest × WithCells old new rest)

  with_rest : (old new : Site SliceKind) → Decided (WithRest old new)
  with_rest old new = go (some_rest (IsRemoved job state m.slice) (is_removed job state m.slice) state.layout.config)
    where
      go : ((rest : Config) × WithoutArcLines (IsRemoved job state m.slice) state.layout.config rest) → Decided (WithRest old new)
      go r = one_has (WithoutArcLines (IsRemoved job state m.slice) state.layout.config) (WithCells old new) r.0 r.1 (λ y w. one_config w r.1) (with_cells old new r.0)

  abbrev WithNew : Site SliceKind → Type 0
  WithNew old = (new : Site SliceKind) × ((site_named g profile m.tile m.kind ≡ Some new) × (TestsSite old new × WithRest old new))

  with_new : (old : Site SliceKind) → Decided (WithNew old)
  with_new old = some_of (site_named g profile m.tile m.kind) (λ new. TestsSite old new × WithRest old new) (λ new. both (tests_site old new) (with_rest old new))

  abbrev Whole : Type 0
  Whole = (old : Site SliceKind) × ((site_of_slice g profile state.layout.side m.slice ≡ Some old) × WithNew old)

  -- the move leads to a candidate
  abbrev pub IsTried : Type 0
  IsTried = (y : Layout) × ((ripped : List Connection) × IsCandidate job state (step_with y ripped))

  tried_from : Whole → IsTried
  tried_from h =
      let n = h.1.1 in
      let tests = n.1.1.0 in
      let r = n.1.1.1 in
      let c = r.1.1 in
      let passed = c.1.1.0 in
      let lost = c.1.1.1 in (
        layout_with h.0 n.0 r.0 c.0,
        (
          lost.0,
          record {
            old = h.0;
            new = n.0;
            moved = record {
              sites = record { from = h.1.0; to = n.1.0 };
              rest = r.0;
              without = r.1.0;
              graph = refl;
              text = refl;
              side = refl;
              cells = c.1.0;
              ripped_in_order = lost.1.0.rising;
              ripped = lost.1.0.members;
            };
            shape = tests.0;
            empty = tests.1.0;
            clear = tests.1.1;
            clean = passed.0;
            agree = passed.1.0;
            alike = passed.1.1.0;
            modelled = passed.1.1.1.0;
            connected = lost.1.1;
            none_new = passed.1.1.1.1.0;
            safe = passed.1.1.1.1.1;
          },
        ),
      )

  tried_to : IsTried → Whole
  tried_to h =
      let y = h.0 in
      let c = h.1.1 in
      let e : y ≡ layout_with c.old c.new c.moved.rest y.cells = (λ i. record { graph = c.moved.graph i; config = c.moved.text i; cells = y.cells; side = c.moved.side i }) in
      let cells : cells_of g profile (image_of g (moved_config c.old c.new c.moved.rest)) (moved_side m state.layout.side) ≡ Ok y.cells =
      subst (λ (z : Layout). cells_of g profile (configured z).image z.side ≡ Ok z.cells) e c.moved.cells in
      let passed : TestsLayout (layout_with c.old c.new c.moved.rest y.cells) = subst TestsLayout e (c.clean, (c.agree, (c.alike, (c.modelled, (c.none_new, c.safe))))) in
      let lost : WithRipped (layout_with c.old c.new c.moved.rest y.cells) = subst WithRipped e (h.1.0, (record { rising = c.moved.ripped_in_order; members = c.moved.ripped }, c.connected)) in
      (c.old, (c.moved.sites.from, (c.new, (c.moved.sites.to, ((c.shape, (c.empty, c.clear)), (c.moved.rest, (c.moved.without, (y.cells, (cells, (passed, lost))))))))))

  whole : Decided Whole
  whole = some_of (site_of_slice g profile state.layout.side m.slice) WithNew with_new

  pub is_tried : Decided IsTried
  is_tried = decided_by tried_from tried_to whole

  pub was_held : Decided (WasHeld state m)
  was_held = some_in (λ side. (p : Placed) × (In side.slices p × ((p.name ≡ m.slice) × ((p.tile ≡ m.tile) × (p.kind ≡ m.kind)))))
      (λ side. some_in (λ p. (p.name ≡ m.slice) × ((p.tile ≡ m.tile) × (p.kind ≡ m.kind))) (λ p. both (names p.name m.slice) (both (names p.tile m.tile) (names p.kind m.kind))) side.slices)
      state.sides

module _ (job : Job) (state : State) (slice : List ℕ) where
  -- a candidate for the slice that it hasn't held
  record Found : Type 0 where
    step : Step
    candidate : IsCandidate job state step
    of_slice : step.move.slice ≡ slice
    new : WasHeld state step.move → ⊥

  -- the moves of the slice to any site
  abbrev moves_to : List Tile → List SliceKind → List Move
  moves_to tiles kinds = flat_map (λ (t : Tile). map (λ (k : SliceKind). let m : Move = record { slice = slice; tile = t.name; kind = k.name } in m) kinds) tiles

  abbrev moves : List Move
  moves = moves_to state.layout.graph.grid.tiles job.device.profile.slices

  -- a candidate's move is one of them
  in_moves : (step : Step) → IsCandidate job state step → step.move.slice ≡ slice → In moves step.move
  in_moves step c of_slice =
      let s = site_stands state.layout.graph job.device.profile.slices (λ k. k.tile) (λ k. k.name) (record { name = []; tile = step.move.tile; kind = step.move.kind; domain = D0 }) c.new c.moved.sites.to in
      let there : Move = record { slice = slice; tile = c.new.tile.name; kind = c.new.kind.name } in
      let same : there ≡ step.move = (λ i. record { slice = sym of_slice i; tile = s.tile_name i; kind = s.kind_name i }) in
      subst (In moves) same
      (in_flat_map (λ (t : Tile). map (λ (k : SliceKind). let m : Move = record { slice = slice; tile = t.name; kind = k.name } in m) job.device.profile.slices) state.layout.graph.grid.tiles c.new.tile there
      (get_in state.layout.graph.grid.tiles c.new.number c.new.tile s.in_grid)
      (in_map (λ (k : SliceKind). let m : Move = record { slice = slice; tile = c.new.tile.name; kind = k.name } in m) job.device.profile.slices c.new.kind s.listed))

  abbrev IsOpen : Move → Type 0
  IsOpen m = IsTried job state m × ((WasHeld state m → ⊥) × (m.slice ≡ slice))

  is_open : (m : Move) → Decided (IsOpen m)
  is_open m = both (is_tried job state m) (both (never (was_held job state m)) (names m.slice slice))

  abbrev found : (m : Move) → IsOpen m → Found
  found m p = record { step = record { move = m; layout = p.0.0; ripped = p.0.1.0 }; candidate = p.0.1.1; of_slice = p.1.1; new = p.1.0 }

  all_found : (fs : List Found) × ((m : Move) → In moves m → IsOpen m → (p : IsOpen m) × In fs (found m p))
  all_found = gathered IsOpen is_open found moves

  Answer : Type 0
  Answer = ((step : Step) × IsFirst job state slice step) ⊎ HasNone job state slice

  -- the present site of the slice
  one_site : (f h : Found) → f.candidate.old ≡ h.candidate.old
  one_site f h = some_same (sym f.candidate.moved.sites.from ∙ ap (site_of_slice state.layout.graph job.device.profile state.layout.side) (f.of_slice ∙ sym h.of_slice) ∙ h.candidate.moved.sites.from)

  module _ (fs : List Found) (all : (m : Move) → In moves m → IsOpen m → (p : IsOpen m) × In fs (found m p)) where
    listed : (other : Step) (c : IsCandidate job state other) → other.move.slice ≡ slice → (WasHeld state other.move → ⊥) → (p : IsOpen other.move) × In fs (found other.move p)
    listed other c e n = all other.move (in_moves other c e) ((other.layout, (other.ripped, c)), (n, e))

    least_first : (from : Site SliceKind) (f : Found) → f.candidate.old ≡ from → IsLeast (λ (a : Found) (b : Found). site_cmp from a.candidate.new b.candidate.new) (In fs) f → IsFirst job state slice f.step
    least_first from f at l = record {
      candidate = f.candidate;
      of_slice = f.of_slice;
      new = f.new;
      first = λ other c e n. (let p = listed other c e n in
          let h = found other.move p.0 in
          let news : h.candidate.new ≡ c.new = some_same (sym h.candidate.moved.sites.to ∙ c.moved.sites.to) in
          subst (λ old. site_cmp old f.candidate.new c.new ≢ Greater) (sym at) (subst (λ new. site_cmp from f.candidate.new new ≢ Greater) news (l.least h p.1)));
    }

    first_among : (from : Site SliceKind) → ((f : Found) → In fs f → f.candidate.old ≡ from) → ((f : Found) → In fs f → ⊥) ⊎ ((step : Step) × IsFirst job state slice step)
    first_among from at = elim (least_in (λ (a : Found) (b : Found). site_cmp from a.candidate.new b.candidate.new) (on_total (λ (a : Found). a.candidate.new) (site_total from)) fs) [
      | inl l ↦ inr (l.0.step, least_first from l.0 (at l.0 l.1.has) l.1)
      | inr n ↦ inl n
    ]

    none_found : ((f : Found) → In fs f → ⊥) → HasNone job state slice
    none_found n other c e m = let p = listed other c e m in n (found other.move p.0) p.1

  first_of : (fs : List Found) → ((m : Move) → In moves m → IsOpen m → (p : IsOpen m) × In fs (found m p)) → Answer
  unfolding Answer
  first_of [] all = inr (none_found [] all (λ f i. i))
  first_of (f ∷ fs) all = elim (first_among (f ∷ fs) all f.candidate.old (λ h i. one_site h f)) [ inl n ↦ inr (none_found (f ∷ fs) all n) | inr s ↦ inl s ]

  -- the slice has a first candidate that it hasn't held, or none
  pub first_or_none : ((step : Step) × IsFirst job state slice step) ⊎ HasNone job state slice
  unfolding Answer
  first_or_none = first_of all_found.0 all_found.1
