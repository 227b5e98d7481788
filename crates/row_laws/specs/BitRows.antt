-- Rows of device bits that are those of a graph's muxes. (Our own.)
use Rattle.std.specs.Prelude.{◌≡◌, ℕ, List, Some, length, slice_get}
use Rattle.patterns.specs.Bits.{DeviceBit}
use Rattle.fabric.specs.Graph.{Graph}
use Rattle.graph_lists.specs.BitLists.{AreBitsOf}

-- there is a row for each mux, with the bits of the mux
pub record AreBitRows (g : Graph) (rows : List (List DeviceBit)) : Type 0 where
  pub each : length rows ≡ length g.muxes
  pub bits : (m : ℕ) (row : List DeviceBit) → slice_get rows m ≡ Some row → AreBitsOf g m row
