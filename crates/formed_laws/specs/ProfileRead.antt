-- What a profile says that a reader takes. (Our own.)
use Rattle.std.specs.Prelude.{◌≡◌, ◌≤◌, ℕ, List, ◌++◌, length, map, Some}
use Rattle.words.specs.Members.{In}
use Rattle.words.specs.Twice.{HasNoneTwice}
use Rattle.records.specs.Profile.{TakeIn, TakeOut, Case, TableKind, SliceKind, PadKind, Profile}
use Rattle.fabric.specs.WireNames.{BeginsWithOne}
use Rattle.json_forms.specs.KindRules.{slice_name, pad_name}
use Rattle.cells.specs.Standing.{slice_wires, pad_wires}

-- as many settings, tables, pins of each table in turn, and registers
pub record HaveEqualCounts (k l : SliceKind) : Type 0 where
  pub settings : length k.settings ≡ length l.settings
  pub pins : map (λ t. length t.pins) k.tables ≡ map (λ t. length t.pins) l.tables
  pub registers : length k.registers ≡ length l.registers

-- No two kinds, slices or pads, have one type of tile and one name. Slices of one shape have equal counts, and a table
-- has 1 to 4 pins. No wire is one of another chip. A pad that may be an input has a wire into the fabric, and
-- one that may be an output has one out of it.
pub record IsFit (profile : Profile) : Type 0 where
  pub kinds : HasNoneTwice (map slice_name profile.slices ++ map pad_name profile.pads)
  pub counts : (k l : SliceKind) → In profile.slices k → In profile.slices l → k.shape ≡ l.shape → HaveEqualCounts k l
  pub some_pins : (k : SliceKind) (t : TableKind) → In profile.slices k → In k.tables t → 1 ≤ length t.pins
  pub few_pins : (k : SliceKind) (t : TableKind) → In profile.slices k → In k.tables t → length t.pins ≤ 4
  pub slice_wires_own : (k : SliceKind) (name : List ℕ) → In profile.slices k → In (slice_wires k) name → BeginsWithOne profile.rules.other_chips name → ⊥
  pub pad_wires_own : (k : PadKind) (name : List ℕ) → In profile.pads k → In (pad_wires k) name → BeginsWithOne profile.rules.other_chips name → ⊥
  pub in_wires : (k : PadKind) (c : Case) → In profile.pads k → In k.mode.cases c → c.take ≡ TakeIn → (wire : List ℕ) × (k.in_wire ≡ Some wire)
  pub out_wires : (k : PadKind) (c : Case) → In profile.pads k → In k.mode.cases c → c.take ≡ TakeOut → (wire : List ℕ) × (k.out_wire ≡ Some wire)
