use Rattle.std.proofs.Common.{◌≡◌, ◌++◌, length}
use Rattle.fabric.specs.GraphOf.{fixed_of, outputs_of}
use Rattle.fixed_links.specs.Tiles.{fixed_from, links_of_types, outputs_from}
use Rattle.fixed_links.proofs.gather.links_of.Given as goal

-- the types so far; the links and outputs so far, and those of the tiles that are left
abbrev pub invariant-loop-number : goal.invariant-loop-number
invariant-loop-number l = record {
  types : l.known.links.items ≡ links_of_types l.numbers.device l.known.kinds;
  fixed : l.links.fixed.items ++ fixed_from l.numbers l.number ≡ fixed_of l.numbers.device l.numbers.wires;
  outputs : l.links.outputs.items ++ outputs_from l.numbers l.number ≡ outputs_of l.numbers.device l.numbers.wires;
}
