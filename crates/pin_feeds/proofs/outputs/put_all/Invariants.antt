use Rattle.std.proofs.Common.{◌≡◌, drop}
use Rattle.pin_feeds.specs.Outputs.{outputs_from}
use Rattle.pin_feeds.proofs.outputs.put_all.Given as goal

-- the rest, written to what is written, is all
abbrev pub invariant-loop-number : goal.invariant-loop-number
invariant-loop-number l = outputs_from l.parts l.number (drop l.number l.sources) ≡ outputs_from l.fn.parts 0 l.sources
