-- How parts and pins are printed. (Our own.)
use Rattle.std.specs.Prelude.{ℕ, List, ◌++◌, codes, ◌==◌, if◌then◌else◌}
use Rattle.std.specs.Fmt.{decimal}
use Rattle.circuit.specs.Parts.{PartKind, Table, Register, Pad, PartRef}
use Rattle.circuit.specs.Pins.{PinRef}

-- behind the name of a cell: `.t0` for a table, `.q0` for a register, nothing for a pad
abbrev pub kind_text : PartKind → List ℕ
kind_text (Table n) = codes ".t" ++ decimal n
kind_text (Register n) = codes ".q" ++ decimal n
kind_text Pad = codes ""

abbrev pub part_text : PartRef → List ℕ
part_text part = part.cell ++ kind_text part.part

-- the pin of a table by its number, of a register and of a pad by its word
abbrev pub register_pin_text : ℕ → List ℕ
register_pin_text n =
    if n == 0 then codes "data" else if n == 1 then codes "enable" else if n == 2 then codes "reset" else codes "clock"

abbrev pub pin_text_of : PartKind → ℕ → List ℕ
pin_text_of (Table t) n = decimal n
pin_text_of (Register r) n = register_pin_text n
pin_text_of Pad n = codes "out"

abbrev pub pin_text : PinRef → List ℕ
pin_text pin = pin_text_of pin.part.part pin.pin
