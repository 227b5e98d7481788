-- What is looked up by name in a side file. (Our own.)
use Rattle.std.specs.Prelude.{ℕ, List, flat_map}
use Rattle.std.specs.BTreeMap.{BTreeMap}
use Rattle.std.specs.BTreeSet.{BTreeSet}
use Rattle.records.specs.Side.{Placed, Side}
use Rattle.circuit.specs.Triples.{names_of}
use Rattle.cell_sites.specs.Names.{HoldsFirst, HoldsNames}
use Rattle.cell_sites.specs.Pairs.{Pair, HoldsPairs}
use denote.Ref.{Bor}

-- maps have the slices and pads of a side file, and sets the names in its triples
pub record HoldsSide (side : Side) (of_slices : BTreeMap (Bor (List ℕ)) (Bor Placed)) (of_pads : BTreeMap Pair (Bor Placed)) (of_inputs of_outputs : BTreeSet (Bor (List ℕ))) : Type 0 where
  pub slices : HoldsFirst (λ p. p.name) side.slices of_slices
  pub pads : HoldsPairs (λ p. p.tile) (λ p. p.kind) side.pads of_pads
  pub inputs : HoldsNames (flat_map names_of side.inputs) of_inputs
  pub outputs : HoldsNames (flat_map names_of side.outputs) of_outputs
