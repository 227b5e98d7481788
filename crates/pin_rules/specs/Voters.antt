-- Which parts are voters. (Our own.)
use Rattle.std.specs.Prelude.{◌≡◌, ◌↔◌, ℕ, Bool, true, false, List, get_or, Some, slice_get}
use Rattle.circuit.specs.Parts.{Source, sources}
use Rattle.circuit.specs.Circuits.{Circuit}
use Rattle.circuit.specs.Triplicated.{IsVoter}

-- The list has for each part a flag, raised exactly where the side file lists it as a voter.
pub record AreVoters (c : Circuit) (voters : List Bool) : Type 0 where
  pub flags : (k : ℕ) (s : Source) → slice_get (sources c.cells) k ≡ Some s → (get_or voters k false ≡ true) ↔ IsVoter c s.part
