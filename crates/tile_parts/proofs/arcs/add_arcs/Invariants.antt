use Rattle.std.proofs.Common.{◌≡◌, ◌++◌, drop, filter_map, option_map}
use Rattle.std.specs.List.{enumerate_from}
use Rattle.tile_parts.specs.Slots.{arcs_in, wire_at}
use Rattle.tile_parts.proofs.arcs.add_arcs.Given as goal

-- the arcs so far, and what is left
abbrev pub invariant-loop-place : goal.invariant-loop-place
invariant-loop-place l =
    l.arcs.items ++ filter_map (λ a. option_map (λ source. record { mux = l.mux; place = a.0; source = source; sink = l.sink }) (wire_at l.row a.1)) (enumerate_from l.place (drop l.place l.sources)) ≡ l.fn.arcs.items ++ arcs_in l.row l.mux l.sink l.sources
