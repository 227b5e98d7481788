-- Connections whose parts the cells of a placement name. (Our own.)
use Rattle.std.specs.Prelude.{◌≡◌, List}
use Rattle.words.specs.Members.{In}
use Rattle.circuit.specs.Cells.{Cells}
use Rattle.circuit.specs.Parts.{PartRef, Source, sources}
use Rattle.circuit.specs.Circuits.{Connection}

-- a part of the cells has this name
pub record IsNamed (cells : Cells) (part : PartRef) : Type 0 where
  pub source : Source
  pub listed : In (sources cells) source
  pub is : source.part ≡ part

-- each connection of an order begins at a named part
abbrev pub AllNamed : Cells → List Connection → Type 0
AllNamed cells order = (x : Connection) → In order x → IsNamed cells x.source
