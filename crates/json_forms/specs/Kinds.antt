-- The kinds of a profile: which wires and settings of a tile type make slices and pads, each by its form alone.
-- (Our own.)
use Rattle.std.specs.Prelude.{ℕ, Bool, List, length, Option, Some, None, nat_le, if◌then◌else◌, ◌&&◌, codes}
use Rattle.serde_json.specs.Data.{Data}
use Rattle.records.specs.Profile.{Join, Require, TableKind, RegisterKind, SliceKind, PadKind}
use Rattle.json_forms.specs.Options.{◌>>=◌}
use Rattle.json_forms.specs.Values.{member_in, name_in}
use Rattle.json_forms.specs.Parts.{list_of, pair_in, triple_in, name_or_empty_in}
use Rattle.json_forms.specs.Choices.{choice_in, input_take, set_take, clock_take, mode_take}

-- a join `[TYPE, SINK, SOURCE]`
unfoldable pub join_in : Data → Option Join
join_in d = do
  triple ← triple_in d
  tile ← name_in triple.0
  sink ← name_in triple.1
  source ← name_in triple.2
  Some (record { tile = tile; sink = sink; source = source })

-- a requirement `[ENUM, VALUE]`
unfoldable pub require_in : Data → Option Require
require_in d = do
  pair ← pair_in d
  setting ← name_in pair.0
  value ← name_in pair.1
  Some (record { setting = setting; value = value })

-- a table has 1 to 4 pins
abbrev pub is_pin_count : ℕ → Bool
is_pin_count count = nat_le 1 count && nat_le count 4

unfoldable pub table_in : Data → Option TableKind
table_in d = do
  word ← member_in (codes "word") name_in d
  pins ← member_in (codes "pins") (list_of name_in) d
  out ← member_in (codes "out") name_in d
  if is_pin_count (length pins) then Some (record { word = word; pins = pins; out = out }) else None

unfoldable pub register_in : Data → Option RegisterKind
register_in d = do
  out ← member_in (codes "out") name_in d
  input ← member_in (codes "data") (choice_in input_take) d
  enable ← member_in (codes "enable") (choice_in input_take) d
  reset ← member_in (codes "reset") (choice_in input_take) d
  set ← member_in (codes "set") (choice_in set_take) d
  clock ← member_in (codes "clock") (choice_in clock_take) d
  Some (record { input = input; enable = enable; reset = reset; set = set; clock = clock; out = out })

unfoldable pub slice_in : Data → Option SliceKind
slice_in d = do
  tile ← member_in (codes "tile") name_in d
  name ← member_in (codes "name") name_in d
  shape ← member_in (codes "shape") name_in d
  settings ← member_in (codes "settings") (list_of name_in) d
  require ← member_in (codes "require") (list_of require_in) d
  tables ← member_in (codes "tables") (list_of table_in) d
  registers ← member_in (codes "registers") (list_of register_in) d
  Some (record { tile = tile; name = name; shape = shape; settings = settings; require = require; tables = tables; registers = registers })

unfoldable pub pad_in : Data → Option PadKind
pad_in d = do
  tile ← member_in (codes "tile") name_in d
  name ← member_in (codes "name") name_in d
  settings ← member_in (codes "settings") (list_of name_in) d
  mode ← member_in (codes "mode") (choice_in mode_take) d
  in_wire ← member_in (codes "in") name_or_empty_in d
  out_wire ← member_in (codes "out") name_or_empty_in d
  Some (record { tile = tile; name = name; settings = settings; mode = mode; in_wire = in_wire; out_wire = out_wire })
