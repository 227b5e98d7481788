use Rattle.std.proofs.Common.{◌≡◌, filter, take}
use Rattle.std.specs.Prelude.{option_to_list}
use Rattle.wire_contests.specs.Contests.{is_fed}
use Rattle.wire_contests.proofs.two.first_two.Given as goal

-- the wires so far with a feed are the first, where there is one
abbrev pub invariant-loop-x : goal.invariant-loop-x
invariant-loop-x l = filter (is_fed l.feeds) (take l.x-index l.row) ≡ option_to_list l.first
