-- Refusals: the checks of an input in their order, of which the first that fails decides. (Our own.)
use Rattle.std.specs.Prelude.{ℕ, List, codes}
use Rattle.fabric.specs.Wires.{Wire}
use Rattle.circuit.specs.Parts.{PartRef}
use Rattle.circuit.specs.Pins.{PinRef}

-- What is refused, each kind with its arguments: names and files as their bytes, numbers of lines from 1. `drivers`
-- refuses by 1, 2, 3 and 6; the others are those of the commands over a whole design.
pub data Refusal : Type 0 where
  -- 1: the file isn't there
  Missing : List ℕ → Refusal
  -- 2: the file is longer than its limit
  TooLong : List ℕ → Refusal
  -- 3: the file's first line outside the grammar
  BadLine : List ℕ → ℕ → Refusal
  -- 4: a line of a block that isn't modelled: `.tile_group` or `.bram_init`
  OutsideBlock : List ℕ → ℕ → Refusal
  -- 5: the file has no `.device` line
  NoDevice : List ℕ → Refusal
  -- 6: a limit that is passed; for the graph the file is `graph`
  TooLarge : List ℕ → List ℕ → Refusal
  -- 7: the file has no JSON reading
  NotJson : List ℕ → Refusal
  -- 8: JSON of another form, at a member, an element or a tile
  BadShape : List ℕ → List ℕ → Refusal
  -- 9: a second use in the side file
  DuplicateName : List ℕ → Refusal
  -- 10: a triple or voter names what isn't listed as such
  UnknownName : List ℕ → Refusal
  -- 11: a slice or pad in no triple
  Unpaired : List ℕ → Refusal
  -- 12: an entry of a triple isn't in its domain
  WrongDomain : List ℕ → Refusal
  -- 13: the output of two tables, registers or pads
  OverlapShape : Wire → Refusal
  -- 14: the tile isn't in the grid
  UnknownTile : ℕ → Refusal
  -- 15: an arc in a tile without a place
  NoPlace : ℕ → Refusal
  -- 16: no such mux
  UnknownSink : ℕ → Refusal
  -- 17: no such arc
  UnknownSource : ℕ → Refusal
  -- 18: no such word or enum
  UnknownSetting : ℕ → Refusal
  -- 19: no such option
  UnknownValue : ℕ → Refusal
  -- 20: another number of bits than the word has
  WordLength : ℕ → Refusal
  -- 21: a raw bit past the tile
  OutsideTile : ℕ → Refusal
  -- 22: chosen arcs and arc lines don't agree at a sink of a tile
  ArcDiffers : List ℕ → List ℕ → Refusal
  -- 23: a wire with two counting drivers
  Contested : Wire → Wire → Wire → Refusal
  -- 24: the tile or the kind isn't there, or the tile has no place
  UnknownSite : List ℕ → Refusal
  -- 25: slices of a triple of unequal shape; its first name
  ShapeDiffers : List ℕ → Refusal
  -- 26: a value of a setting without a case; a missing value is `?`
  Unmodelled : List ℕ → List ℕ → List ℕ → Refusal
  -- 27: an unnamed pad that drives the outside
  UnnamedPad : List ℕ → List ℕ → Refusal
  -- 28: the pin's feed isn't a modelled output
  UnnamedSource : PinRef → Wire → Refusal
  -- 29: a table on a cycle of tables
  Loop : PartRef → Refusal
  -- 30: a pin without a feed that isn't ignored
  OpenPin : PinRef → Refusal
  -- 31: a pin that a clock pad feeds and that is no clock pin
  ClockAsData : PinRef → Refusal
  -- 32: a register whose clock pin no clock pad feeds
  NotClocked : PartRef → Refusal
  -- 33: a pin that is fed from another domain and is no voter's
  ForeignRead : PinRef → Refusal
  -- 34: a table whose output another domain changes, with the address so reached
  NotMasking : PartRef → ℕ → Refusal
  -- 35: copies that aren't alike, and where
  CopiesDiffer : PartRef → List ℕ → Refusal
  -- 36: no output triple
  NoOutputs : Refusal

abbrev pub refusal_number : Refusal → ℕ
refusal_number (Missing file) = 1
refusal_number (TooLong file) = 2
refusal_number (BadLine file line) = 3
refusal_number (OutsideBlock file line) = 4
refusal_number (NoDevice file) = 5
refusal_number (TooLarge file limit) = 6
refusal_number (NotJson file) = 7
refusal_number (BadShape file key) = 8
refusal_number (DuplicateName cell) = 9
refusal_number (UnknownName cell) = 10
refusal_number (Unpaired cell) = 11
refusal_number (WrongDomain cell) = 12
refusal_number (OverlapShape wire) = 13
refusal_number (UnknownTile line) = 14
refusal_number (NoPlace line) = 15
refusal_number (UnknownSink line) = 16
refusal_number (UnknownSource line) = 17
refusal_number (UnknownSetting line) = 18
refusal_number (UnknownValue line) = 19
refusal_number (WordLength line) = 20
refusal_number (OutsideTile line) = 21
refusal_number (ArcDiffers tile sink) = 22
refusal_number (Contested wire first second) = 23
refusal_number (UnknownSite cell) = 24
refusal_number (ShapeDiffers cell) = 25
refusal_number (Unmodelled cell setting value) = 26
refusal_number (UnnamedPad tile kind) = 27
refusal_number (UnnamedSource pin wire) = 28
refusal_number (Loop part) = 29
refusal_number (OpenPin pin) = 30
refusal_number (ClockAsData pin) = 31
refusal_number (NotClocked part) = 32
refusal_number (ForeignRead pin) = 33
refusal_number (NotMasking part address) = 34
refusal_number (CopiesDiffer part what) = 35
refusal_number NoOutputs = 36

abbrev pub refusal_name : Refusal → List ℕ
refusal_name (Missing file) = codes "Missing"
refusal_name (TooLong file) = codes "TooLong"
refusal_name (BadLine file line) = codes "BadLine"
refusal_name (OutsideBlock file line) = codes "OutsideBlock"
refusal_name (NoDevice file) = codes "NoDevice"
refusal_name (TooLarge file limit) = codes "TooLarge"
refusal_name (NotJson file) = codes "NotJson"
refusal_name (BadShape file key) = codes "BadShape"
refusal_name (DuplicateName cell) = codes "DuplicateName"
refusal_name (UnknownName cell) = codes "UnknownName"
refusal_name (Unpaired cell) = codes "Unpaired"
refusal_name (WrongDomain cell) = codes "WrongDomain"
refusal_name (OverlapShape wire) = codes "OverlapShape"
refusal_name (UnknownTile line) = codes "UnknownTile"
refusal_name (NoPlace line) = codes "NoPlace"
refusal_name (UnknownSink line) = codes "UnknownSink"
refusal_name (UnknownSource line) = codes "UnknownSource"
refusal_name (UnknownSetting line) = codes "UnknownSetting"
refusal_name (UnknownValue line) = codes "UnknownValue"
refusal_name (WordLength line) = codes "WordLength"
refusal_name (OutsideTile line) = codes "OutsideTile"
refusal_name (ArcDiffers tile sink) = codes "ArcDiffers"
refusal_name (Contested wire first second) = codes "Contested"
refusal_name (UnknownSite cell) = codes "UnknownSite"
refusal_name (ShapeDiffers cell) = codes "ShapeDiffers"
refusal_name (Unmodelled cell setting value) = codes "Unmodelled"
refusal_name (UnnamedPad tile kind) = codes "UnnamedPad"
refusal_name (UnnamedSource pin wire) = codes "UnnamedSource"
refusal_name (Loop part) = codes "Loop"
refusal_name (OpenPin pin) = codes "OpenPin"
refusal_name (ClockAsData pin) = codes "ClockAsData"
refusal_name (NotClocked part) = codes "NotClocked"
refusal_name (ForeignRead pin) = codes "ForeignRead"
refusal_name (NotMasking part address) = codes "NotMasking"
refusal_name (CopiesDiffer part what) = codes "CopiesDiffer"
refusal_name NoOutputs = codes "NoOutputs"
