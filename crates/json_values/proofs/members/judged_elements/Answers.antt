use Rattle.std.proofs.Common.{refl, ◌∙◌}
use Rattle.serde_json.specs.View.{view}
use Rattle.json_values.proofs.InTurn.{none_yet, one_further}
use Rattle.json_values.proofs.members.judged_elements.Goals as goal

pub loop-value-init : goal.loop-value-init
loop-value-init g c =
    rw (c.from_vec-list.ensures, c.in_ok-with_capacity.ensures.items) (record { found = refl; count = refl; rest = none_yet c.args.name.now g.T.FromJson.value_in (g.J.Judge.verdict c.args.judge.now) _ }, c.requires, refl)

pub loop-value-preserved : goal.loop-value-preserved
loop-value-preserved g c =
    let so_far = c.loop-value.invariant in
    let read = rw so_far.2 at c.in_ok-read_element.ensures.read in
    rw c.in_ok-push.ensures.ok (
      one_further view c.args.name.now g.T.FromJson.value_in (g.J.Judge.verdict c.args.judge.now) c.args.values.now c.loop-value.value-index c.value-item.result c.loop-value.list c.in_ok-read_element.field-0 c.loop-value-test.true c.value-item.is so_far.0 read,
      c.in_ok-read_element.ensures.knows,
      c.in_ok-read_element.ensures.same ∙ so_far.2,
    )
