use Rattle.std.proofs.Common.{◌≡◌, take}
use Rattle.database_names.proofs.names.mux_names.Given as goal

-- those so far
abbrev pub invariant-loop-mux : goal.invariant-loop-mux
invariant-loop-mux l = l.each.items ≡ take l.mux-index l.muxes
