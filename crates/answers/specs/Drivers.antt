-- The command `drivers`: the chosen sources of each mux of a database, where exactly some bits are set.
-- (After Project Trellis; the report is our own.)
use Rattle.std.specs.Prelude.{ℕ, List, [], ◌∷◌, ◌++◌, map, codes}
use Rattle.std.specs.List.{flat_map}
use Rattle.patterns.specs.Bits.{DeviceBit, Bits}
use Rattle.texts.specs.Printing.{spaced, line_feed}
use Rattle.records.specs.Database.{Mux}
use Rattle.fabric.specs.Chosen.{chosen}

-- tile bits are taken as device bits
abbrev pub no_origin : DeviceBit
no_origin = record { frame = 0; bit = 0 }

-- the sources that a mux chooses where exactly these bits are set, in file order
abbrev pub chosen_sources : Bits → Mux → List (List ℕ)
chosen_sources bits mux = map (λ arc. arc.source) (chosen bits no_origin mux)

-- the sources, or `-` where there is none
abbrev pub or_dash : List (List ℕ) → List (List ℕ)
or_dash [] = codes "-" ∷ []
or_dash (source ∷ sources) = source ∷ sources

-- `SINK SOURCE..`, or `SINK -`
abbrev pub driver_line : Bits → Mux → List ℕ
driver_line bits mux = mux.sink ++ spaced (or_dash (chosen_sources bits mux)) ++ line_feed

-- a line for each mux, in file order
abbrev pub drivers_text : Bits → List Mux → List ℕ
drivers_text bits muxes = flat_map (driver_line bits) muxes
