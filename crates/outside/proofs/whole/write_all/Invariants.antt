use Rattle.std.proofs.Common.{◌≡◌, length}
use Rattle.outside.proofs.Appended.{AppendsBut}
use Rattle.outside.proofs.whole.write_all.Given as goal

-- all bytes but those that are left were appended, and no call failed
abbrev pub invariant-loop-rest : goal.invariant-loop-rest
invariant-loop-rest g l =
    let O = g.O.Sink in
    record {
      told : O.told l.fn.out → O.told l.out;
      content : O.told l.fn.out → AppendsBut (O.written l.fn.out) (O.written l.out) l.bytes l.rest;
      faults : O.faults l.out ≡ O.faults l.fn.out;
    }

abbrev pub decreases-loop-rest : goal.decreases-loop-rest
decreases-loop-rest g l = length l.rest
