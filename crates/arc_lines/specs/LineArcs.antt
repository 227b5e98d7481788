-- The arcs of the lines of a text, by their numbers. (Our own.)
use Rattle.std.specs.Prelude.{◌≡◌, ℕ, ◌↔◌, ◌==◌, ◌&&◌, Bool, true, false, List, [], filter_map, flat_map, position, Option, Some, get_or, slice_get}
use Rattle.std.specs.Option.{option_and_then, option_map_or}
use Rattle.std.specs.Str.{bytes_eq}
use Rattle.records.specs.Config.{ArcLine, TileText, Config}
use Rattle.fabric.specs.Graph.{GraphArc, Graph}
use Rattle.fabric.specs.Image.{tile_named, mux_named}
use Rattle.fabric.specs.Agree.{HasLine}

-- the number of the arc of a mux from a source
abbrev pub arc_place : Graph → ℕ → List ℕ → Option ℕ
arc_place g mux source = position (λ a. (a.mux == mux) && bytes_eq a.arc.source source) g.arcs

-- the number of the arc of a line in a tile
abbrev pub line_place : Graph → ℕ → ArcLine → Option ℕ
line_place g tile line = option_and_then (λ mux. arc_place g mux line.source) (mux_named g tile line.sink)

-- the numbers of the arcs of the lines of a section, in the order of its lines
abbrev pub section_places : Graph → TileText → List ℕ
section_places g text = option_map_or (λ tile. filter_map (line_place g tile) text.arcs) (tile_named g text.tile) []

-- those of a text
abbrev pub text_places : Graph → Config → List ℕ
text_places g config = flat_map (section_places g) config.tiles

-- of each arc of the graph, in order, whether it has a line
abbrev pub AreLineMarks : Graph → Config → List Bool → Type 0
AreLineMarks g config marks = (a : ℕ) (arc : GraphArc) → slice_get g.arcs a ≡ Some arc → (get_or marks a false ≡ true) ↔ HasLine g config arc
