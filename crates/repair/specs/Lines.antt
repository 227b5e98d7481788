-- The arc lines of a configuration: the line of an arc, a text with one more line, and a text without some. (The
-- order of lines is our own.)
use Rattle.std.specs.Prelude.{◌≡◌, ℕ, List, [], ◌∷◌, slice_get, Option, option_map, option_and_then}
use Rattle.std.specs.declared.cmp.Ordering.{Ordering}
use Rattle.std.specs.Ordering.{match_ordering, ordering_then}
use Rattle.std.specs.Option.{option_map_or}
use Rattle.records.specs.Config.{ArcLine, TileText, Config}
use Rattle.fabric.specs.Wires.{name_cmp}
use Rattle.fabric.specs.Graph.{GraphArc, Graph}

-- an arc line in the section of a tile, by the tile's name
pub record TileLine : Type 0 where
  pub tile : List ℕ
  pub line : ArcLine

-- The line of an arc, in the section of its tile. A line that is made has the number 0.
abbrev pub line_of_arc : Graph → GraphArc → Option TileLine
line_of_arc g a =
    option_and_then (λ mux. option_map (λ tile. record { tile = tile.name; line = record { sink = mux.mux.sink; source = a.arc.source; line = 0 } }) (slice_get g.grid.tiles mux.tile))
    (slice_get g.muxes a.mux)

-- Arc lines are ordered by their bytes, so by sink, then source: no name has a byte as low as the space between
-- them.
abbrev pub arc_line_cmp : ArcLine → ArcLine → Ordering
arc_line_cmp a b = ordering_then (name_cmp a.sink b.sink) (name_cmp a.source b.source)

-- lines in order with one more in its place; a line that stands there already isn't repeated
abbrev pub with_line : ArcLine → List ArcLine → List ArcLine
with_line line [] = line ∷ []
with_line line (next ∷ lines) = match_ordering (arc_line_cmp line next) (line ∷ next ∷ lines) (next ∷ lines) (next ∷ with_line line lines)

abbrev pub text_with_line : ArcLine → TileText → TileText
text_with_line line text = record { tile = text.tile; line = text.line; arcs = with_line line text.arcs; words = text.words; enums = text.enums; unknowns = text.unknowns }

-- a section with one arc line alone
abbrev pub text_of_line : TileLine → TileText
text_of_line l = record { tile = l.tile; line = 0; arcs = l.line ∷ []; words = []; enums = []; unknowns = [] }

-- sections in order of tiles with one more arc line; where the tile has no section, one is made in its place
abbrev pub texts_with_line : TileLine → List TileText → List TileText
texts_with_line l [] = text_of_line l ∷ []
texts_with_line l (text ∷ texts) =
    match_ordering (name_cmp l.tile text.tile) (text_of_line l ∷ text ∷ texts) (text_with_line l.line text ∷ texts) (text ∷ texts_with_line l texts)

abbrev pub with_texts : Config → List TileText → Config
with_texts config texts = record { device = config.device; heads = config.heads; tiles = texts }

-- the configuration with the line of an arc
abbrev pub with_arc_line : Graph → Config → GraphArc → Config
with_arc_line g config a = option_map_or (λ l. with_texts config (texts_with_line l config.tiles)) (line_of_arc g a) config

-- the configuration with the lines of arcs
abbrev pub with_arc_lines : Graph → Config → List GraphArc → Config
with_arc_lines g config [] = config
with_arc_lines g config (a ∷ rest) = with_arc_lines g (with_arc_line g config a) rest

-- lines without those that are dropped
pub data WithoutLines (Dropped : ArcLine → Type 0) : List ArcLine → List ArcLine → Type 0 where
  no_lines : WithoutLines Dropped [] []
  keeps : {line : ArcLine} {lines rest : List ArcLine} → (Dropped line → ⊥) → WithoutLines Dropped lines rest → WithoutLines Dropped (line ∷ lines) (line ∷ rest)
  drops : {line : ArcLine} {lines rest : List ArcLine} → Dropped line → WithoutLines Dropped lines rest → WithoutLines Dropped (line ∷ lines) rest

-- the second section is the first without the arc lines that are dropped
pub record TextWithout (Dropped : ArcLine → Type 0) (text rest : TileText) : Type 0 where
  pub arcs : WithoutLines Dropped text.arcs rest.arcs
  pub others : rest ≡ record { tile = text.tile; line = text.line; arcs = rest.arcs; words = text.words; enums = text.enums; unknowns = text.unknowns }

pub data TextsWithout (Dropped : List ℕ → ArcLine → Type 0) : List TileText → List TileText → Type 0 where
  no_texts : TextsWithout Dropped [] []
  next_text : {text new : TileText} {texts rest : List TileText} → TextWithout (Dropped text.tile) text new → TextsWithout Dropped texts rest → TextsWithout Dropped (text ∷ texts) (new ∷ rest)

-- The second configuration is the first without the arc lines that are dropped, which are told by the name of a
-- tile and a line there. A section stays where all its lines go.
pub record WithoutArcLines (Dropped : List ℕ → ArcLine → Type 0) (config rest : Config) : Type 0 where
  pub texts : TextsWithout Dropped config.tiles rest.tiles
  pub others : rest ≡ with_texts config rest.tiles
