use Rattle.std.proofs.Common.{◌≡◌, ◌≤◌, ◌++◌, drop, length}
use Rattle.records.specs.Limits.{most_arcs}
use Rattle.device_numbers.specs.Numbered.{arcs_from}
use Rattle.device_numbers.proofs.device.DeviceNumbers.arcs.Given as goal

-- the arcs so far, and those of the muxes that are left
abbrev pub invariant-loop-number : goal.invariant-loop-number
invariant-loop-number l = record {
  all : l.arcs.items ++ arcs_from l.self l.number (drop l.number l.muxes) ≡ arcs_from l.self 0 l.muxes;
  few : length l.arcs.items ≤ most_arcs;
}
