use Rattle.std.proofs.Common.{ℕ, List, sym, subst}
use Rattle.wire_links.specs.Rows.{AreJoined}
use Rattle.wire_links.proofs.joined.WireLinks.new.Goals as goal

pub invariant_of-result : goal.invariant_of-result
invariant_of-result c =
    subst (λ (os : List ℕ). AreJoined c.in_ok-rows.rows.drivers c.in_ok-rows.rows.next c.in_ok-rows.rows.feeds.items os) (sym c.in_ok-outputs.ensures.items) c.in_ok-rows.ensures.joined
