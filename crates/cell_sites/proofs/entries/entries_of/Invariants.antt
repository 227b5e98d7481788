use Rattle.std.proofs.Common.{◌≤◌, drop, length, flat_map}
use Rattle.circuit.specs.Triples.{names_of}
use Rattle.cell_sites.specs.Names.{HoldsNames}
use Rattle.cell_sites.proofs.entries.entries_of.Given as goal

-- the names of the triples behind those that are left are there
abbrev pub invariant-loop-left : goal.invariant-loop-left
invariant-loop-left l = record { within : l.left ≤ length l.triples; held : HoldsNames (flat_map names_of (drop l.left l.triples)) l.names }

abbrev pub decreases-loop-left : goal.decreases-loop-left
decreases-loop-left l = l.left
