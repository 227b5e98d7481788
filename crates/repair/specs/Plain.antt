-- Plain muxes: those that a router may set and clear, since nothing else is told by their bits. (Our own.)
use Rattle.std.specs.Prelude.{◌≡◌, ℕ, ◌+◌, true, List, [], ◌++◌, map, zip, flat_map, option_and_then, slice_get}
use Rattle.std.specs.Option.{option_map_or}
use Rattle.words.specs.Members.{In}
use Rattle.patterns.specs.Bits.{DeviceBit, PatternBit}
use Rattle.patterns.specs.Fits.{has_plain_bit}
use Rattle.records.specs.Grid.{Tile, origin_of}
use Rattle.records.specs.Config.{UnknownLine, TileText, Config}
use Rattle.fabric.specs.Settings.{Settings}
use Rattle.fabric.specs.Graph.{GraphArc, Graph}
use Rattle.fabric.specs.Links.{arcs_of_mux}
use Rattle.fabric.specs.Image.{tile_named}
use Rattle.fabric.specs.MuxBits.{bits_named}

-- the device bits of the mux of a number: those of all its patterns
abbrev pub bits_of_mux : Graph → ℕ → List DeviceBit
bits_of_mux g mux = flat_map (λ a. bits_named a.origin a.arc.bits) (arcs_of_mux g mux)

-- the patterns of words and enums
abbrev pub setting_patterns : Settings → List (List PatternBit)
setting_patterns settings = flat_map (λ w. w.bits) settings.words ++ flat_map (λ e. map (λ o. o.bits) e.options) settings.enums

-- the device bits that words and enums of a tile name
abbrev pub setting_bits_in : Tile → Settings → List DeviceBit
setting_bits_in tile settings = flat_map (bits_named (origin_of tile)) (setting_patterns settings)

-- the device bits that words and enums of any tile name
abbrev pub setting_bits : Graph → List DeviceBit
setting_bits g = flat_map (λ t. setting_bits_in t.0 t.1) (zip g.grid.tiles g.settings)

abbrev pub unknown_bit : Tile → UnknownLine → DeviceBit
unknown_bit tile line = record { frame = tile.start_frame + line.frame; bit = tile.start_bit + line.bit }

-- the device bits that the `unknown` lines of a section name
abbrev pub unknown_bits_in : Graph → TileText → List DeviceBit
unknown_bits_in g text = option_map_or (λ tile. map (unknown_bit tile) text.unknowns) (option_and_then (slice_get g.grid.tiles) (tile_named g text.tile)) []

-- the device bits that the `unknown` lines of a configuration name
abbrev pub unknown_bits : Graph → Config → List DeviceBit
unknown_bits g config = flat_map (unknown_bits_in g) config.tiles

-- A mux is plain when its device bits stand in no other mux, in no word or enum of any tile and in no `unknown`
-- line, and each of its arcs has a plain bit.
pub record IsPlain (g : Graph) (config : Config) (mux : ℕ) : Type 0 where
  pub alone : (b : DeviceBit) → In (bits_of_mux g mux) b → (other : ℕ) → In (bits_of_mux g other) b → other ≡ mux
  pub no_setting : (b : DeviceBit) → In (bits_of_mux g mux) b → In (setting_bits g) b → ⊥
  pub no_unknown : (b : DeviceBit) → In (bits_of_mux g mux) b → In (unknown_bits g config) b → ⊥
  pub has_plain_bits : (a : GraphArc) → In g.arcs a → a.mux ≡ mux → has_plain_bit a.arc.bits ≡ true
