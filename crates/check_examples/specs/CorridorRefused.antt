-- The corridor with a fault, and its circuit. (Our own.)
use Rattle.std.specs.Prelude.{[], ◌∷◌, map, drop, bytes_eq, codes, if◌then◌else◌}
use Rattle.records.specs.Config.{Config}
use Rattle.records.specs.Side.{Side}
use Rattle.fabric.specs.Graph.{Graph}
use Rattle.circuit.specs.Cells.{SliceCell, Cells}
use Rattle.circuit.specs.Circuits.{Circuit}
use Rattle.upset.specs.Configured.{circuit_of}
use Rattle.design_files.specs.Designs.{Design}
use Rattle.design_checks.specs.DesignChecks.{configured_as}
use Rattle.mini.specs.Toggle.{line}
use Rattle.mini_b.specs.MiniB.{mini_b}
use Rattle.mini_b.specs.Corridor.{corridor, corridor_side}
use Rattle.mini_b.specs.CorridorCells.{corridor_cells}
use Rattle.check_examples.specs.Changed.{in_section, with_arc, without_arc, with_word}
use Rattle.check_examples.specs.Refused.{slice_with_word}

abbrev pub on_corridor : Config → Side → Design
on_corridor config side = record { config = config; device = mini_b; side = side }

-- w0 drives the track that it reads
abbrev pub looped : Config
looped = with_arc (codes "R1C3:SLC") (line (codes "V") (codes "F")) (without_arc (codes "R1C3:SLC") (codes "V") corridor)

abbrev pub looped_circuit : Graph → Circuit
looped_circuit g = circuit_of (configured_as (on_corridor looped corridor_side) g (corridor_cells g))

-- the side file without the slices u, which are its first three and its first triple
abbrev pub side_without_u : Side
side_without_u = record corridor_side { slices = drop 3 corridor_side.slices; triples = drop 1 corridor_side.triples }

abbrev pub cells_without_u : Graph → Cells
cells_without_u g = record (corridor_cells g) { slices = drop 3 (corridor_cells g).slices }

abbrev pub unnamed_circuit : Graph → Circuit
unnamed_circuit g = circuit_of (configured_as (on_corridor corridor side_without_u) g (cells_without_u g))

-- the corridor with a bit set in the unused mux U of the first slice
abbrev pub stray_track : Config
stray_track = in_section (codes "R1C1:SLC") (λ text. record text { unknowns = record { frame = 2; bit = 2; line = 0 } ∷ [] }) corridor

abbrev pub stray_unnamed_circuit : Graph → Circuit
stray_unnamed_circuit g = circuit_of (configured_as (on_corridor stray_track side_without_u) g (cells_without_u g))

-- w1 gives the opposite of its pin
abbrev pub turned : Config
turned = with_word (codes "R1C8:SLC") (codes "01") corridor

abbrev pub turned_slice : SliceCell → SliceCell
turned_slice s = if bytes_eq s.name (codes "w1") then slice_with_word 1 s else s

abbrev pub turned_cells : Graph → Cells
turned_cells g = record (corridor_cells g) { slices = map turned_slice (corridor_cells g).slices }

abbrev pub turned_circuit : Graph → Circuit
turned_circuit g = circuit_of (configured_as (on_corridor turned corridor_side) g (turned_cells g))
