use Rattle.std.proofs.Common.{◌≡◌, ◌≤◌, ◌++◌, length}
use Rattle.records.specs.Limits.{most_muxes}
use Rattle.graph_numbers.specs.Numbers.{mux_numbers}
use Rattle.device_numbers.specs.Numbered.{muxes_from}
use Rattle.device_numbers.proofs.device.DeviceNumbers.muxes.Given as goal

-- the muxes so far, and those of the tiles that are left
abbrev pub invariant-loop-number : goal.invariant-loop-number
invariant-loop-number l = record {
  all : l.muxes.items ++ muxes_from l.self l.number ≡ mux_numbers l.self.device l.self.wires;
  few : length l.muxes.items ≤ most_muxes;
}
