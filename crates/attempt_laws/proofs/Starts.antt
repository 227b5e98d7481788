-- A job has one start.
use Rattle.std.proofs.Common.{◌≡◌, sym, subst, ◌∙◌}
use Rattle.fabric.specs.InOrder.{IsRising}
use Rattle.repair.specs.Layouts.{Layout}
use Rattle.attempts.specs.Jobs.{Job, State}
use Rattle.attempts.specs.Wires.{connection_cmp}
use Rattle.attempts.specs.Starts.{IsRippedAtStart, IsFirstState}
use Rattle.attempt_laws.proofs.Orders.{one_order}
use Rattle.attempt_laws.proofs.WithoutLines.{one_config}

-- layouts with the same parts are the same
pub same_layout : (y z : Layout) → y.graph ≡ z.graph → y.config ≡ z.config → y.cells ≡ z.cells → y.side ≡ z.side → y ≡ z
same_layout y z graphs configs cells sides i = record { graph = graphs i; config = configs i; cells = cells i; side = sides i }

pub one_start : (job : Job) (s t : State) → IsFirstState job s → IsFirstState job t → s ≡ t
one_start job s t a b i = record { layout = layouts i; order = orders i; rims = (a.no_rims ∙ sym b.no_rims) i; moved = (a.none_moved ∙ sym b.none_moved) i; sides = (a.sides ∙ sym b.sides) i }
  where
    cells : s.layout.cells ≡ t.layout.cells
    cells = a.cells ∙ sym b.cells

    layouts : s.layout ≡ t.layout
    layouts = same_layout s.layout t.layout (a.graph ∙ sym b.graph) (one_config a.text b.text) cells (a.side ∙ sym b.side)

    orders : s.order ≡ t.order
    orders = one_order s.layout.cells (IsRippedAtStart job) s.order t.order a.order.rising (subst (λ c. IsRising (connection_cmp c) t.order) (sym cells) b.order.rising) a.order.members b.order.members
