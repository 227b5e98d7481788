use Rattle.std.proofs.Common.{◌≡◌, ◌++◌, drop, filter_map, option_map}
use Rattle.std.specs.List.{enumerate_from}
use Rattle.tile_parts.specs.Slots.{muxes_in, wire_at}
use Rattle.tile_parts.proofs.muxes.add_muxes.Given as goal

-- the muxes so far, and what is left
abbrev pub invariant-loop-place : goal.invariant-loop-place
invariant-loop-place l =
    l.muxes.items ++ filter_map (λ m. option_map (λ sink. record { tile = l.tile; place = m.0; sink = sink }) (wire_at l.row m.1.sink)) (enumerate_from l.place (drop l.place l.shapes)) ≡ l.fn.muxes.items ++ muxes_in l.tile l.row l.shapes
