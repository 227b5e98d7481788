-- The image of a configuration: the set of device bits that its lines leave. (After Project Trellis; the order
-- of writes, and that no default of the database is written, are our own.)
use Rattle.std.specs.Prelude.{ℕ, true, false, List, [], ◌∷◌, ◌++◌, map, flat_map, find, position, zip, Option, slice_get, if◌then◌else◌, ◌==◌, ◌&&◌}
use Rattle.std.specs.Option.{option_and_then, option_map_or}
use Rattle.std.specs.Str.{bytes_eq}
use Rattle.patterns.specs.Bits.{DeviceBit, PatternBit, Bits}
use Rattle.patterns.specs.Written.{written, opposite}
use Rattle.records.specs.Grid.{Tile, origin_of}
use Rattle.records.specs.Config.{ArcLine, WordLine, EnumLine, UnknownLine, TileText, Config}
use Rattle.fabric.specs.Settings.{Settings, word_named, enum_named, option_of}
use Rattle.fabric.specs.Graph.{GraphArc, Graph}

-- a pattern that is written, in a tile whose bit F0B0 is the device bit `origin`
pub record Write : Type 0 where
  pub origin : DeviceBit
  pub pattern : List PatternBit

-- the set that a list of writes leaves, where the first is done first
abbrev pub after_writes : Bits → List Write → Bits
after_writes image [] = image
after_writes image (w ∷ ws) = after_writes (written image w.origin w.pattern) ws

-- no bit at all
abbrev pub no_bits : Bits
no_bits b = false

-- the number of a tile in the grid, by its name
abbrev pub tile_named : Graph → List ℕ → Option ℕ
tile_named g name = position (λ t. bytes_eq t.name name) g.grid.tiles

-- the number of the mux of a tile that drives a sink, and the arc of a mux from a source, by the names that the
-- database gives them
abbrev pub mux_named : Graph → ℕ → List ℕ → Option ℕ
mux_named g tile sink = position (λ m. (m.tile == tile) && bytes_eq m.mux.sink sink) g.muxes

abbrev pub arc_named : Graph → ℕ → List ℕ → Option GraphArc
arc_named g mux source = find (λ a. (a.mux == mux) && bytes_eq a.arc.source source) g.arcs

-- the arc of an arc line in a tile
abbrev pub arc_of_line : Graph → ℕ → ArcLine → Option GraphArc
arc_of_line g tile line = option_and_then (λ mux. arc_named g mux line.source) (mux_named g tile line.sink)

-- An arc line writes the pattern of its arc.
abbrev pub arc_writes : Graph → ℕ → ArcLine → List Write
arc_writes g tile line = option_map_or (λ a. record { origin = a.origin; pattern = a.arc.bits } ∷ []) (arc_of_line g tile line) []

-- A word line writes, from the lowest bit on, the pattern of each bit that is 1 and the opposite of each that
-- is 0.
abbrev pub word_writes : DeviceBit → Settings → WordLine → List Write
word_writes origin settings line =
    option_map_or (λ w. map (λ p. record { origin = origin; pattern = if p.1 then p.0 else opposite p.0 }) (zip w.bits line.bits)) (word_named settings line.name) []

-- An enum line writes the pattern of its option.
abbrev pub enum_writes : DeviceBit → Settings → EnumLine → List Write
enum_writes origin settings line =
    option_map_or (λ o. record { origin = origin; pattern = o.bits } ∷ []) (option_and_then (λ e. option_of e line.value) (enum_named settings line.name)) []

-- An unknown line sets its bit.
abbrev pub unknown_writes : DeviceBit → UnknownLine → List Write
unknown_writes origin line = record { origin = origin; pattern = record { frame = line.frame; bit = line.bit; set = true } ∷ [] } ∷ []

-- the writes of a section, in the tile of a number
abbrev pub section_writes : Graph → TileText → ℕ → Tile → Settings → List Write
section_writes g text number tile settings =
    flat_map (arc_writes g number) text.arcs
    ++ flat_map (word_writes (origin_of tile) settings) text.words
    ++ flat_map (enum_writes (origin_of tile) settings) text.enums
    ++ flat_map (unknown_writes (origin_of tile)) text.unknowns

-- The writes of a tile's section: arcs, then words, enums and unknowns, each in the order of the section. What
-- isn't found in the graph writes nothing here; a reader refuses such a line.
abbrev pub tile_writes : Graph → TileText → List Write
tile_writes g text =
    option_map_or (λ number. option_map_or (λ tile. option_map_or (section_writes g text number tile) (slice_get g.settings number) []) (slice_get g.grid.tiles number) []) (tile_named g text.tile) []

-- the writes of a configuration, section by section as it lists them: in byte order of tiles, where it is in order
abbrev pub writes_of : Graph → Config → List Write
writes_of g config = flat_map (tile_writes g) config.tiles

-- The image of a configuration: what its writes leave, where all bits are 0 at first.
abbrev pub image_of : Graph → Config → Bits
image_of g config = after_writes no_bits (writes_of g config)
