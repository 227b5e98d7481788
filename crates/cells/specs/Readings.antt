-- The settings of cells as they are read, each with its value, and whether the profile models that value. (Our own.)
use Rattle.std.specs.Prelude.{ℕ, Bool, false, List, [], ◌∷◌, ◌++◌, ◌^◌, ◌==◌, map, flat_map, reverse, length, codes, Option, option_map, unwrap_or, if◌then◌else◌}
use Rattle.std.specs.Option.{option_map_or, is_some, option_to_list}
use Rattle.std.specs.Str.{bytes_eq}
use Rattle.words.specs.Ordered.{in_order}
use Rattle.patterns.specs.Bits.{Bits}
use Rattle.records.specs.Profile.{Choice, Require, TableKind, RegisterKind, SliceKind, PadKind, Profile}
use Rattle.records.specs.Side.{Placed, Side}
use Rattle.fabric.specs.Graph.{Graph}
use Rattle.fabric.specs.Values.{word_at, value_at}
use Rattle.cells.specs.Sites.{Site, slice_site, pad_site, unnamed_pads}
use Rattle.cells.specs.Takes.{choice_value, take_at, suits}
use Rattle.cells.specs.Resolved.{role_of}

-- a setting as it is read for a cell, with its value where it has one
pub record Reading : Type 0 where
  pub cell : List ℕ
  pub setting : List ℕ
  pub value : Option (List ℕ)
  pub modelled : Bool

-- a required enum has the value that is required
abbrev pub require_reading : Graph → Bits → List ℕ → ℕ → Require → Reading
require_reading g image cell tile r = record {
  cell = cell;
  setting = r.setting;
  value = value_at g image tile r.setting;
  modelled = option_map_or (bytes_eq r.value) (value_at g image tile r.setting) false;
}

-- the bits of a word as digits, the highest first
abbrev pub digits_of : List Bool → List ℕ
digits_of bits = flat_map (λ b. if b then codes "1" else codes "0") (reverse bits)

-- the word of a table has a bit for each assignment of bits to its pins
abbrev pub table_reading : Graph → Bits → List ℕ → ℕ → TableKind → Reading
table_reading g image cell tile t = record {
  cell = cell;
  setting = t.word;
  value = option_map digits_of (word_at g image tile t.word);
  modelled = option_map_or (λ bits. length bits == 2 ^ length t.pins) (word_at g image tile t.word) false;
}

-- a choice has a case for its value
abbrev pub choice_reading : Graph → Bits → List ℕ → ℕ → Choice → Reading
choice_reading g image cell tile choice =
    record { cell = cell; setting = unwrap_or choice.setting []; value = choice_value g image tile choice; modelled = is_some (take_at g image tile choice) }

-- the choices of a register: data, enable, reset, set value and clock
abbrev pub choices_of : RegisterKind → List Choice
choices_of r = r.input ∷ r.enable ∷ r.reset ∷ r.set ∷ r.clock ∷ []

abbrev pub register_readings : Graph → Bits → List ℕ → ℕ → RegisterKind → List Reading
register_readings g image cell tile r = map (choice_reading g image cell tile) (choices_of r)

-- the settings of a slice: those that are required, the words of its tables, and the choices of its registers
abbrev pub slice_readings : Graph → Bits → Placed → Site SliceKind → List Reading
slice_readings g image p site =
    map (require_reading g image p.name site.number) site.kind.require
    ++ map (table_reading g image p.name site.number) site.kind.tables
    ++ flat_map (register_readings g image p.name site.number) site.kind.registers

-- a named pad has the mode of its role
abbrev pub pad_reading : Graph → Bits → Side → Placed → Site PadKind → Reading
pad_reading g image side p site =
    record (choice_reading g image p.name site.number site.kind.mode) { modelled = option_map_or (suits (role_of side p.name)) (take_at g image site.number site.kind.mode) false }

-- an unnamed pad has a mode; it goes by the name of its tile
abbrev pub unnamed_reading : Graph → Bits → Site PadKind → Reading
unnamed_reading g image site = choice_reading g image site.tile.name site.number site.kind.mode

-- the slices and the named pads of a side file in byte order of their names
abbrev pub slices_of : Side → List Placed
slices_of side = in_order (λ p. p.name) side.slices

abbrev pub pads_of : Side → List Placed
pads_of side = in_order (λ p. p.name) side.pads

-- all settings that are read: those of slices, of named pads, and of unnamed pads
abbrev pub readings : Graph → Profile → Bits → Side → List Reading
readings g profile image side =
    flat_map (λ p. option_map_or (slice_readings g image p) (slice_site g profile p) []) (slices_of side)
    ++ flat_map (λ p. option_to_list (option_map (pad_reading g image side p) (pad_site g profile p))) (pads_of side)
    ++ map (unnamed_reading g image) (unnamed_pads g profile side)
