-- The values that the settings of a tile have in a set of device bits.
use Rattle.std.specs.Prelude.{ℕ, Bool, List, Option, option_map, option_and_then, slice_get}
use Rattle.patterns.specs.Bits.{Bits}
use Rattle.records.specs.Grid.{origin_of}
use Rattle.fabric.specs.Settings.{word_named, enum_named, word_bits, enum_value}
use Rattle.fabric.specs.Graph.{Graph}

-- the bits of a word of the tile of a number, the lowest first; none where it has no such word
abbrev pub word_at : Graph → Bits → ℕ → List ℕ → Option (List Bool)
word_at g image tile name =
    option_and_then (λ t. option_and_then (λ settings. option_map (word_bits image (origin_of t)) (word_named settings name)) (slice_get g.settings tile)) (slice_get g.grid.tiles tile)

-- the value of an enum of the tile of a number; none where it has no such enum, or no value
abbrev pub value_at : Graph → Bits → ℕ → List ℕ → Option (List ℕ)
value_at g image tile name =
    option_and_then (λ t. option_and_then (λ settings. option_and_then (enum_value image (origin_of t)) (enum_named settings name)) (slice_get g.settings tile)) (slice_get g.grid.tiles tile)
