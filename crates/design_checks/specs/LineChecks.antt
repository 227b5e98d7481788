-- The lines of a configuration, against the graph: each names what is there. (Our own.)
use Rattle.std.specs.Prelude.{ℕ, List, [], ◌∷◌, ◌++◌, length, flat_map, Option, Some, None, option_map, slice_get, nat_le, nat_lt, ◌==◌, ◌&&◌, if◌then◌else◌}
use Rattle.std.specs.Option.{option_map_or}
use Rattle.records.specs.Grid.{Tile}
use Rattle.records.specs.Config.{ArcLine, WordLine, EnumLine, UnknownLine, TileText, Config}
use Rattle.records.specs.Database.{WordSetting, EnumSetting}
use Rattle.fabric.specs.Settings.{Settings, word_named, enum_named, option_of}
use Rattle.fabric.specs.Graph.{Graph}
use Rattle.fabric.specs.Image.{tile_named, mux_named, arc_named}
use Rattle.answers.specs.Refusals.{Refusal, UnknownTile, NoPlace, UnknownSink, UnknownSource, UnknownSetting, UnknownValue, WordLength, OutsideTile}

-- what is refused of a line, with the line's number
pub record LineFault : Type 0 where
  pub line : ℕ
  pub refusal : Refusal

abbrev pub fault_at : ℕ → (ℕ → Refusal) → LineFault
fault_at line refusal = record { line = line; refusal = refusal line }

-- ---- arc lines

abbrev pub source_fault : Graph → ℕ → ArcLine → ℕ → List LineFault
source_fault g number line mux = option_map_or (λ arc. []) (arc_named g mux line.source) (fault_at line.line UnknownSource ∷ [])

-- the mux of an arc line is in the tile, and has the arc
abbrev pub arc_faults_in : Graph → ℕ → ArcLine → List LineFault
arc_faults_in g number line = option_map_or (source_fault g number line) (mux_named g number line.sink) (fault_at line.line UnknownSink ∷ [])

-- a tile without a place has no arcs
abbrev pub arc_faults : Graph → ℕ → Tile → ArcLine → List LineFault
arc_faults g number tile line = option_map_or (λ place. arc_faults_in g number line) tile.place (fault_at line.line NoPlace ∷ [])

-- ---- settings

-- the tile has the word, with as many bits
abbrev pub word_length_faults : WordLine → WordSetting → List LineFault
word_length_faults line word = if length word.bits == length line.bits then [] else fault_at line.line WordLength ∷ []

abbrev pub word_faults : Settings → WordLine → List LineFault
word_faults settings line = option_map_or (word_length_faults line) (word_named settings line.name) (fault_at line.line UnknownSetting ∷ [])

-- the tile has the enum, with the option
abbrev pub option_faults : EnumLine → EnumSetting → List LineFault
option_faults line enum = option_map_or (λ found. []) (option_of enum line.value) (fault_at line.line UnknownValue ∷ [])

abbrev pub enum_faults : Settings → EnumLine → List LineFault
enum_faults settings line = option_map_or (option_faults line) (enum_named settings line.name) (fault_at line.line UnknownSetting ∷ [])

-- a raw bit lies in the tile
abbrev pub unknown_faults : Tile → UnknownLine → List LineFault
unknown_faults tile line = if nat_lt line.frame tile.cols && nat_lt line.bit tile.rows then [] else fault_at line.line OutsideTile ∷ []

-- ---- sections

abbrev pub lines_faults : Graph → TileText → ℕ → Tile → Settings → List LineFault
lines_faults g text number tile settings =
    flat_map (arc_faults g number tile) text.arcs
    ++ flat_map (word_faults settings) text.words
    ++ flat_map (enum_faults settings) text.enums
    ++ flat_map (unknown_faults tile) text.unknowns

-- the faults of a section: its tile is in the grid, and its lines name what is there
abbrev pub section_faults_in : Graph → TileText → ℕ → List LineFault
section_faults_in g text number = option_map_or (λ tile. option_map_or (lines_faults g text number tile) (slice_get g.settings number) []) (slice_get g.grid.tiles number) []

abbrev pub section_faults : Graph → TileText → List LineFault
section_faults g text = option_map_or (section_faults_in g text) (tile_named g text.tile) (fault_at text.line UnknownTile ∷ [])

-- the faults of all sections, in written order
abbrev pub line_faults : Graph → Config → List LineFault
line_faults g config = flat_map (section_faults g) config.tiles

-- of two faults the one with the lower line, and where their lines are equal the earlier one
abbrev pub lower_line : LineFault → Option LineFault → LineFault
lower_line fault None = fault
lower_line fault (Some later) = if nat_le fault.line later.line then fault else later

abbrev pub lowest_line : List LineFault → Option LineFault
lowest_line [] = None
lowest_line (fault ∷ faults) = Some (lower_line fault (lowest_line faults))

-- 14 to 21: the first line with a fault by number, and of equal numbers the first in written order
abbrev pub line_refusal : Graph → Config → Option Refusal
line_refusal g config = option_map (λ fault. fault.refusal) (lowest_line (line_faults g config))
