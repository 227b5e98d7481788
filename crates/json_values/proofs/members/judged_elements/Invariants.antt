use Rattle.std.proofs.Common.{◌≡◌}
use Rattle.serde_json.specs.View.{view}
use Rattle.json_values.proofs.InTurn.{IsReadUpTo}
use Rattle.json_values.proofs.members.judged_elements.Given as goal

-- the judge, who judges as at first, knows the elements so far
abbrev pub invariant-loop-value : goal.invariant-loop-value
invariant-loop-value g l =
    IsReadUpTo view l.name g.T.FromJson.value_in (g.J.Judge.verdict l.initial.judge) l.values l.value-index l.list
    × g.J.Judge.Knows l.judge l.list × (g.J.Judge.verdict l.judge ≡ g.J.Judge.verdict l.initial.judge)
