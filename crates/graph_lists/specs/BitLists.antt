-- The device bits of the muxes of a graph, and those of its settings. (Our own.)
use Rattle.std.specs.Prelude.{ℕ, List, ◌++◌, filter, flat_map, length}
use Rattle.std.specs.List.{range_with_len, zip}
use Rattle.patterns.specs.Bits.{DeviceBit, Bits, bits_of_list}
use Rattle.records.specs.Grid.{origin_of}
use Rattle.fabric.specs.InOrder.{InOrderOnce}
use Rattle.fabric.specs.Settings.{Settings}
use Rattle.fabric.specs.Graph.{Graph}
use Rattle.fabric.specs.Links.{arcs_of_mux}
use Rattle.fabric.specs.MuxBits.{bit_cmp, bits_named, mux_bits}

-- the device bits that the patterns of a mux name, as often as they do
abbrev pub bits_in : Graph → ℕ → List DeviceBit
bits_in g m = flat_map (λ a. bits_named a.origin a.arc.bits) (arcs_of_mux g m)

-- the device bits of a mux in order, each once
abbrev pub AreBitsOf : Graph → ℕ → List DeviceBit → Type 0
AreBitsOf g m bits = InOrderOnce bit_cmp (bits_in g m) bits

-- the routing-mux bits in order, each once
abbrev pub AreMuxBits : Graph → List DeviceBit → Type 0
AreMuxBits g bits = InOrderOnce bit_cmp (mux_bits g) bits

-- the muxes with a pattern that names a bit
abbrev pub muxes_of_bit : Graph → DeviceBit → List ℕ
muxes_of_bit g b = filter (λ m. bits_of_list (bits_in g m) b) (range_with_len 0 (length g.muxes))

-- the device bits that the words and enums of a tile name
abbrev pub bits_of_settings : DeviceBit → Settings → List DeviceBit
bits_of_settings origin settings =
    flat_map (λ w. flat_map (bits_named origin) w.bits) settings.words
    ++ flat_map (λ e. flat_map (λ o. bits_named origin o.bits) e.options) settings.enums

-- those of all tiles
abbrev pub setting_bits : Graph → List DeviceBit
setting_bits g = flat_map (λ t. bits_of_settings (origin_of t.0) t.1) (zip g.grid.tiles g.settings)

-- some word or enum names the bit
abbrev pub is_setting_bit : Graph → Bits
is_setting_bit g = bits_of_list (setting_bits g)
