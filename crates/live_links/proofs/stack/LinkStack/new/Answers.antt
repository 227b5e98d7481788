use Rattle.std.proofs.Common.{ℕ, ◌∙◌, ap, sym}
use Rattle.std.specs.Prelude.{replicate}
use Rattle.live_links.proofs.Beginning.{Begins, keeps_first, more_first}
use Rattle.live_links.proofs.stack.LinkStack.new.Goals as goal
use Rattle.live_links.proofs.stack.LinkStack.new.Goals.{In_ok-outputs}

-- what rows are opened with
begins : (c : In_ok-outputs) → Begins c.in_ok-rows.rows.drivers c.in_ok-rows.rows.next c.in_ok-rows.rows.feeds.items c.deref.result.now c.args.more.now c.args.outputs.now c.in_ok-drivers.drivers c.in_ok-next.next
begins c = record {
  joined = c.in_ok-rows.ensures.joined;
  drivers_are = c.in_ok-drivers.ensures.rows;
  next_are = c.in_ok-next.ensures.rows;
  drivers_room = c.in_ok-drivers.ensures.room;
  next_room = c.in_ok-next.ensures.room;
  ones_are = c.deref.ensures.value ∙ (c.in_ok-one_each.ensures ∙ ap (λ (n : ℕ). replicate n 1) (sym c.in_ok-rows.ensures.long));
  more_long = c.requires.more ∙ (sym c.in_ok-rows.ensures.long ∙ sym c.in_ok-rows.ensures.joined.next_long);
}

pub invariant_of-result : goal.invariant_of-result
invariant_of-result c =
    keeps_first c.in_ok-rows.rows.drivers c.in_ok-rows.rows.next c.in_ok-rows.rows.feeds.items c.deref.result.now c.args.more.now c.args.outputs.now c.in_ok-drivers.drivers c.in_ok-next.next
    (begins (goal.at.invariant_of-result c).In_ok-outputs) c.new-2.result.items c.in_ok-outputs.outputs.items c.new-2.ensures.items c.in_ok-outputs.ensures.items

pub returns-clause-more : goal.returns-clause-more
returns-clause-more c =
    more_first c.in_ok-rows.rows.drivers c.in_ok-rows.rows.next c.in_ok-rows.rows.feeds.items c.deref.result.now c.args.more.now c.args.outputs.now c.in_ok-drivers.drivers c.in_ok-next.next
    (begins (goal.at.returns-clause-more c).In_ok-outputs) c.new-2.result.items c.in_ok-outputs.outputs.items c.new-2.ensures.items
