-- Of things with patterns, as the arcs of a mux, those that a set of device bits chooses.
-- (After Project Trellis; that the longer pattern wins, and that a tie leaves all of them, is our own.)
use Rattle.std.specs.Prelude.{Bool, not, List, length, filter, nat_le, ◌&&◌, ◌||◌}
use Rattle.std.specs.List.{list_all}
use Rattle.patterns.specs.Bits.{DeviceBit, PatternBit, Bits}
use Rattle.patterns.specs.Fits.{fits}
use Rattle.records.specs.Database.{Arc, Mux}

-- one of the list has at least as many bits as each of the list that fits
abbrev pub is_longest : {X : Type 0} → (X → List PatternBit) → Bits → DeviceBit → List X → X → Bool
is_longest pattern image origin xs x = list_all (λ other. not (fits image origin (pattern other)) || nat_le (length (pattern other)) (length (pattern x))) xs

-- it fits, and has as many bits as any of the list that fits
abbrev pub is_best_fit : {X : Type 0} → (X → List PatternBit) → Bits → DeviceBit → List X → X → Bool
is_best_fit pattern image origin xs x = fits image origin (pattern x) && is_longest pattern image origin xs x

-- those of the list that fit, and have as many bits as any of it that fits
abbrev pub best_fits : {X : Type 0} → (X → List PatternBit) → Bits → DeviceBit → List X → List X
best_fits pattern image origin xs = filter (is_best_fit pattern image origin xs) xs

-- the chosen arcs of a mux
abbrev pub chosen : Bits → DeviceBit → Mux → List Arc
chosen image origin mux = best_fits (λ arc. arc.bits) image origin mux.arcs
