-- An enum with two options of one pattern.
use Rattle.std.specs.Prelude.{ℕ, List, [], ◌∷◌, Option, codes}
use Rattle.records.specs.Database.{EnumSetting}
use Rattle.fabric_examples.specs.Muxes.{f0b0}

-- LEFT and RIGHT are tied where their bit is set, and OFF has no bits
abbrev pub tied_enum : Option (List ℕ) → EnumSetting
tied_enum default = record {
  name = codes "SIDE";
  default = default;
  options = record { value = codes "OFF"; bits = [] } ∷ record { value = codes "LEFT"; bits = f0b0 ∷ [] } ∷ record { value = codes "RIGHT"; bits = f0b0 ∷ [] } ∷ [];
}
