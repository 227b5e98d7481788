use Rattle.std.proofs.Common.{ℕ, List, subst, sym, ap}
use Rattle.cycle_order.specs.Marks.{Listing}
use Rattle.cycle_order.specs.Trials.{ListsOne}
use Rattle.cycle_order.proofs.Listing.{lists_new}
use Rattle.cycle_order.proofs.cycles.list_one.Goals as goal

pub returns-in_ok-push-clause-one : goal.returns-in_ok-push-clause-one
returns-in_ok-push-clause-one c =
    subst (λ (zs : List ℕ). ListsOne c.args.listed.now.nodes c.args.node zs) (sym (ap (λ (l : Listing). l.nodes) c.in_ok-push.ensures)) (lists_new c.args.listed.now.nodes c.args.node)
