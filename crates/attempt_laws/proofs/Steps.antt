-- A slice has one first candidate, and a move makes one layout and rips one list of connections.
use Rattle.std.proofs.Common.{◌≡◌, ◌≢◌, ℕ, List, [], Some, sym, ap, subst, ◌∙◌}
use Rattle.std.specs.Prelude.{Result, Ok}
use Rattle.std.specs.declared.cmp.Ordering.TheVariants.{Greater}
use Rattle.records.specs.Profile.{SliceKind, Profile}
use Rattle.records.specs.Side.{D0}
use Rattle.fabric.specs.InOrder.{IsRising}
use Rattle.fabric.specs.Graph.{Graph}
use Rattle.fabric.specs.Image.{image_of}
use Rattle.circuit.specs.Circuits.{Connection}
use Rattle.cells.specs.Sites.{Site}
use Rattle.cells.specs.Faults.{site_of_slice}
use Rattle.cells.specs.CellsOf.{cells_of}
use Rattle.repair.specs.Layouts.{Layout}
use Rattle.attempts.specs.Jobs.{Job, State}
use Rattle.attempts.specs.Wires.{connection_cmp}
use Rattle.attempts.specs.Moves.{Move, moved_config}
use Rattle.attempts.specs.Candidates.{BecomesRipped, Step, site_named, HasSites, IsMoved, IsCandidate, site_cmp, IsFirst}
use Rattle.fabric_laws.proofs.Graphs.{some_same}
use Rattle.cells_laws.proofs.Sites.{site_stands}
use Rattle.attempt_laws.proofs.Orders.{SameNames, one_order, same_names}
use Rattle.attempt_laws.proofs.WithoutLines.{one_config}
use Rattle.attempt_laws.proofs.Starts.{same_layout}

ok_same : {X E : Type 0} {x y : X} → (let o : Result X E = Ok x in o) ≡ Ok y → x ≡ y
ok_same {X} {E} {x} {y} e = let same : x ≡ y = cc in same

-- a site that is found by names has these names
named_tile : (g : Graph) (profile : Profile) (tile kind : List ℕ) (s : Site SliceKind) → site_named g profile tile kind ≡ Some s → s.tile.name ≡ tile
named_tile g profile tile kind s e = (site_stands g profile.slices (λ k. k.tile) (λ k. k.name) (record { name = []; tile = tile; kind = kind; domain = D0 }) s e).tile_name

named_kind : (g : Graph) (profile : Profile) (tile kind : List ℕ) (s : Site SliceKind) → site_named g profile tile kind ≡ Some s → s.kind.name ≡ kind
named_kind g profile tile kind s e = (site_stands g profile.slices (λ k. k.tile) (λ k. k.name) (record { name = []; tile = tile; kind = kind; domain = D0 }) s e).kind_name

module _ (job : Job) (state : State) where
  -- the present site of a slice is one
  one_old : (m n : Move) (a b c d : Site SliceKind) → m.slice ≡ n.slice → HasSites job state m a b → HasSites job state n c d → a ≡ c
  one_old m n a b c d e p q = some_same (sym p.from ∙ ap (site_of_slice state.layout.graph job.device.profile state.layout.side) e ∙ q.from)

  -- a move makes one layout of the present one, and rips one list of connections
  one_layout : (m : Move) (y z : Layout) (xs ys : List Connection) (a b c d : Site SliceKind)
      → IsMoved job state (record { move = m; layout = y; ripped = xs }) a b → IsMoved job state (record { move = m; layout = z; ripped = ys }) c d → (y ≡ z) × (xs ≡ ys)
  one_layout m y z xs ys a b c d p q = (
    same_layout y z graphs configs cells sides,
    one_order y.cells (BecomesRipped job state m.slice) xs ys p.ripped_in_order (subst (λ k. IsRising (connection_cmp k) ys) (sym cells) q.ripped_in_order) p.ripped q.ripped,
  )
    where
      graphs : y.graph ≡ z.graph
      graphs = p.graph ∙ sym q.graph

      rests : p.rest ≡ q.rest
      rests = one_config p.without q.without

      olds : a ≡ c
      olds = one_old m m a b c d (λ i. m.slice) p.sites q.sites

      news : b ≡ d
      news = some_same (sym p.sites.to ∙ q.sites.to)

      configs : y.config ≡ z.config
      configs = p.text ∙ (λ i. moved_config (olds i) (news i) (rests i)) ∙ sym q.text

      sides : y.side ≡ z.side
      sides = p.side ∙ sym q.side

      cells : y.cells ≡ z.cells
      cells = ok_same (sym p.cells ∙ (λ i. cells_of state.layout.graph job.device.profile (image_of (graphs i) (configs i)) (sides i)) ∙ q.cells)

  -- of two first candidates neither comes after the other, so their sites have the same names
  first_names : (slice : List ℕ) (s t : Step) (p : IsFirst job state slice s) (q : IsFirst job state slice t) → SameNames p.candidate.new q.candidate.new
  first_names slice s t p q = same_names p.candidate.old p.candidate.new q.candidate.new (p.first t q.candidate q.of_slice q.new)
      (subst (λ old. site_cmp old q.candidate.new p.candidate.new ≢ Greater) (one_old t.move s.move q.candidate.old q.candidate.new p.candidate.old p.candidate.new (q.of_slice ∙ sym p.of_slice) q.candidate.moved.sites p.candidate.moved.sites)
      (q.first s p.candidate p.of_slice p.new))

  first_move : (slice : List ℕ) (s t : Step) → IsFirst job state slice s → IsFirst job state slice t → s.move ≡ t.move
  first_move slice s t p q i = record { slice = (p.of_slice ∙ sym q.of_slice) i; tile = tiles i; kind = kinds i }
    where
      names : SameNames p.candidate.new q.candidate.new
      names = first_names slice s t p q

      tile_of : (u : Step) (c : IsCandidate job state u) → c.new.tile.name ≡ u.move.tile
      tile_of u c = named_tile state.layout.graph job.device.profile u.move.tile u.move.kind c.new c.moved.sites.to

      kind_of : (u : Step) (c : IsCandidate job state u) → c.new.kind.name ≡ u.move.kind
      kind_of u c = named_kind state.layout.graph job.device.profile u.move.tile u.move.kind c.new c.moved.sites.to

      tiles : s.move.tile ≡ t.move.tile
      tiles = sym (tile_of s p.candidate) ∙ names.tile ∙ tile_of t q.candidate

      kinds : s.move.kind ≡ t.move.kind
      kinds = sym (kind_of s p.candidate) ∙ names.kind ∙ kind_of t q.candidate

  pub one_step : (slice : List ℕ) (s t : Step) → IsFirst job state slice s → IsFirst job state slice t → s ≡ t
  one_step slice s t p q i = record { move = moves i; layout = made.0 i; ripped = made.1 i }
    where
      moves : s.move ≡ t.move
      moves = first_move slice s t p q

      made : (s.layout ≡ t.layout) × (s.ripped ≡ t.ripped)
      made = one_layout s.move s.layout t.layout s.ripped t.ripped p.candidate.old p.candidate.new q.candidate.old q.candidate.new p.candidate.moved
          (subst (λ m. IsMoved job state (record { move = m; layout = t.layout; ripped = t.ripped }) q.candidate.old q.candidate.new) (sym moves) q.candidate.moved)
