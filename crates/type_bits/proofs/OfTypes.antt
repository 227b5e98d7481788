-- What is gathered for the types of a device is what its tiles have.
use Rattle.std.proofs.Common.{◌≡◌, ℕ, List, [], map, Option, None, Some, option_map, option_and_then, refl, sym, ap, ◌∙◌}
use Rattle.std.specs.Prelude.{slice_get}
use Rattle.std.specs.Option.{option_map_or}
use Rattle.std.proofs.lemmas.Option.{slice_get-map}
use Rattle.patterns.specs.Bits.{DeviceBit}
use Rattle.records.specs.Grid.{Tile}
use Rattle.fabric.specs.Device.{TypeDb, Device}
use Rattle.record_laws.specs.KeptBits.{bits_at, bits_in, kept_bits}
use Rattle.device_names.specs.Types.{type_named}
use Rattle.tile_types.specs.Types.{Types, AreTypesOf, type_in}
use Rattle.named_device.proofs.OfTypes.{by_number, type_is}
use Rattle.type_bits.specs.TypeBits.{device_bits, kept_at, type_bits}

inner : (bits : List (List (List DeviceBit))) (place : ℕ) (o : Option ℕ)
    → option_and_then (λ n. option_and_then (λ muxes. slice_get muxes place) (slice_get bits n)) o ≡ option_and_then (λ (muxes : List (List DeviceBit)). slice_get muxes place) (option_and_then (slice_get bits) o)
inner bits place None = refl
inner bits place (Some n) = refl

module _ (device : Device) (place : ℕ) where
  abbrev at_place : List (List DeviceBit) → Option (List DeviceBit)
  at_place muxes = slice_get muxes place

  of_type : (o : Option TypeDb) → slice_get (map (kept_bits device.profile.rules) (option_map_or (λ db. db.muxes) (option_map (λ t. t.db) o) [])) place
      ≡ option_map (kept_bits device.profile.rules) (slice_get (option_map_or (λ t. t.db) o (record { muxes = []; words = []; enums = []; fixed = [] })).muxes place)
  of_type None = refl
  of_type (Some t) = slice_get-map (kept_bits device.profile.rules) t.db.muxes place

  of_tile : (o : Option Tile) → option_and_then at_place (option_map (type_bits device.profile.rules) (option_map (type_in device) o)) ≡ option_and_then (bits_in device place) o
  of_tile None = refl
  of_tile (Some tile) = of_type (type_named device.types tile.kind)

  kept_is : (types : Types) (bits : List (List (List DeviceBit))) (tile : ℕ) → AreTypesOf device types → bits ≡ map (type_bits device.profile.rules) types.types → kept_at bits types tile place ≡ bits_at device tile place
  kept_is types bits tile are e =
      ap (λ bs. kept_at bs types tile place) e
      ∙ (inner (map (type_bits device.profile.rules) types.types) place (slice_get types.tiles tile)
      ∙ (ap (option_and_then at_place) (by_number (type_bits device.profile.rules) types.types (slice_get types.tiles tile) ∙ ap (option_map (type_bits device.profile.rules)) (type_is device types tile are))
      ∙ of_tile (slice_get device.grid.tiles tile)))

  -- the bits that are kept for a tile are those of its muxes
  pub bits_are : (types : Types) (bits : List (List (List DeviceBit))) (tile : ℕ) (o : Option (List DeviceBit)) → AreTypesOf device types → bits ≡ device_bits device → o ≡ kept_at bits types tile place → o ≡ bits_at device tile place
  bits_are types bits tile o are e h = h ∙ kept_is types bits tile are (e ∙ sym (ap (map (type_bits device.profile.rules)) are.once))

-- the bits of the types of a device
pub bits_are_of_types : (device : Device) (types : Types) (bits : List (List (List DeviceBit))) → AreTypesOf device types → bits ≡ map (type_bits device.profile.rules) types.types → bits ≡ device_bits device
bits_are_of_types device types bits are e = e ∙ ap (map (type_bits device.profile.rules)) are.once
