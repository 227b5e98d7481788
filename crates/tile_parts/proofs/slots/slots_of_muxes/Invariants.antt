use Rattle.std.proofs.Common.{◌≡◌, map, take}
use Rattle.tile_parts.specs.Slots.{mux_slots}
use Rattle.tile_parts.proofs.slots.slots_of_muxes.Given as goal

-- the muxes so far
abbrev pub invariant-loop-mux : goal.invariant-loop-mux
invariant-loop-mux l = l.slots.items ≡ map (mux_slots l.kind.names) (take l.mux-index l.muxes)
