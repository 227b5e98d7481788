-- Triples of slices at sites of equal shape. (Our own.)
use Rattle.std.specs.Prelude.{Bool, ◌&&◌}
use Rattle.records.specs.Profile.{Profile}
use Rattle.records.specs.Side.{Triple, Side}
use Rattle.fabric.specs.Graph.{Graph}
use Rattle.cells.specs.Faults.{site_of_slice, shaped_alike}

-- the slices of a triple stand at sites of equal shape
abbrev pub triple_alike : Graph → Profile → Side → Triple → Bool
triple_alike g profile side t =
    shaped_alike g (site_of_slice g profile side t.first) (site_of_slice g profile side t.second) && shaped_alike g (site_of_slice g profile side t.first) (site_of_slice g profile side t.third)
