use Rattle.std.proofs.Common.{◌≡◌, map, take, drop}
use Rattle.words.specs.Firsts.{first_fault_after, first_fault}
use Rattle.side_form.specs.Side.{entry_fault}
use Rattle.side_file.specs.Known.{KnowsNames}
use Rattle.side_file.proofs.uses.second_name.Given as goal

-- the names so far are known, and the first fault is among those that are left
abbrev pub invariant-loop-name : goal.invariant-loop-name
invariant-loop-name l = record {
  names : KnowsNames l.known (map (λ n. n.now) (take l.name-index l.names));
  rest : first_fault_after entry_fault (map (λ n. n.now) (take l.name-index l.names)) (map (λ n. n.now) (drop l.name-index l.names)) ≡ first_fault entry_fault (map (λ n. n.now) l.names);
}
