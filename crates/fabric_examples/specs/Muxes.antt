-- Muxes whose patterns overlap.
use Rattle.std.specs.Prelude.{ℕ, List, [], ◌∷◌, map, true, false, codes}
use Rattle.patterns.specs.Bits.{DeviceBit, PatternBit, bits_of_list}
use Rattle.records.specs.Database.{Mux}
use Rattle.fabric.specs.Chosen.{chosen}

abbrev pub f0b0 : PatternBit
f0b0 = record { frame = 0; bit = 0; set = true }

abbrev pub f0b1 : PatternBit
f0b1 = record { frame = 0; bit = 1; set = true }

abbrev pub not_f0b1 : PatternBit
not_f0b1 = record { frame = 0; bit = 1; set = false }

-- a mux with two sources
abbrev pub mux_of : List PatternBit → List PatternBit → Mux
mux_of first second = record { sink = codes "W"; arcs = record { source = codes "S1"; bits = first } ∷ record { source = codes "S2"; bits = second } ∷ [] }

-- the second pattern is longer
abbrev pub longer : Mux
longer = mux_of (f0b0 ∷ []) (f0b0 ∷ f0b1 ∷ [])

-- both patterns are one
abbrev pub tied : Mux
tied = mux_of (f0b0 ∷ []) (f0b0 ∷ [])

-- the second pattern has a bit that must be 0
abbrev pub must_be_zero : Mux
must_be_zero = mux_of [] (f0b0 ∷ not_f0b1 ∷ [])

abbrev pub at : ℕ → ℕ → DeviceBit
at frame bit = record { frame = frame; bit = bit }

-- the sources that a list of bits chooses
abbrev pub chosen_sources : List DeviceBit → Mux → List (List ℕ)
chosen_sources bits mux = map (λ arc. arc.source) (chosen (bits_of_list bits) (at 0 0) mux)
