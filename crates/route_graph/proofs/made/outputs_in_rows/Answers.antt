use Rattle.std.proofs.Common.{◌<◌, ℕ, List, subst, ◌∙◌}
use Rattle.std.specs.Prelude.{count_by, nat_eq}
use Rattle.std.specs.Ordering.{nat_cmp}
use Rattle.fabric.specs.InOrder.{InOrderOnce}
use Rattle.link_rows.specs.Kept.{IsFirstTwice}
use Rattle.size_laws.proofs.Counts.{once_does_not}
use Rattle.route_graph.proofs.Built.{counted, outputs_within_rows}
use Rattle.route_graph.proofs.made.outputs_in_rows.Goals as goal

pub new-requires : goal.new-requires
new-requires c = record { within = outputs_within_rows c.args.numbers.now.device c.args.numbers.now.wires c.len.result c.args.outputs.now (counted c.args.numbers.now.wires c.wires.result.now c.len.result c.wires.ensures.wires c.len.ensures.len) c.requires.all }

pub returns-in-Ok-clause-outputs : goal.returns-in-Ok-clause-outputs
returns-in-Ok-clause-outputs c = subst (λ (os : List ℕ). InOrderOnce nat_cmp os c.in-Ok.outputs.outputs) c.requires.all c.in-Ok.ensures.outputs

pub returns-in-Ok-clause-wires : goal.returns-in-Ok-clause-wires
returns-in-Ok-clause-wires c = c.in-Ok.ensures.wires ∙ counted c.args.numbers.now.wires c.wires.result.now c.len.result c.wires.ensures.wires c.len.ensures.len

pub returns-in-Ok-clause-apart : goal.returns-in-Ok-clause-apart
returns-in-Ok-clause-apart c =
    once_does_not c.args.numbers.now.device c.args.numbers.now.wires c.wires.ensures.named
    (subst (λ (os : List ℕ). (w : ℕ) → count_by (nat_eq w) os < 2) c.requires.all c.in-Ok.ensures.once)

pub overlap_of-requires-clause-known : goal.overlap_of-requires-clause-known
overlap_of-requires-clause-known c = λ w is. subst (λ n. w < n) (counted c.args.numbers.now.wires c.wires.result.now c.len.result c.wires.ensures.wires c.len.ensures.len) (c.in-Err.ensures.known w (cc))

pub overlap_of-requires-clause-first : goal.overlap_of-requires-clause-first
overlap_of-requires-clause-first c = λ w is. subst (λ (os : List ℕ). IsFirstTwice os w) c.requires.all (c.in-Err.ensures.twice w (cc))
