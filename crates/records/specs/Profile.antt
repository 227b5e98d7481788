-- The cell profile: which wires and settings of a tile type make slices and pads. (Our own.)
use Rattle.std.specs.Prelude.{ℕ, List, Option}

-- how names of wires are read
pub record Rules : Type 0 where
  pub chip_prefix : Option (List ℕ)
  pub other_chips : List (List ℕ)
  pub wide : List (List ℕ)

-- a connection of a tile type that is always there, beside those of its database
pub record Join : Type 0 where
  pub tile : List ℕ
  pub sink : List ℕ
  pub source : List ℕ

-- what a value of a setting makes a cell take
pub data Take : Type 0 where
  TakeWire : List ℕ → Take
  TakeNotWire : List ℕ → Take
  TakeZero : Take
  TakeOne : Take
  TakeOff : Take
  TakeIn : Take
  TakeOut : Take

pub record Case : Type 0 where
  pub value : Option (List ℕ)
  pub take : Take

-- what is taken by the value of a setting, or always where there is no setting; of cases with one value the
-- first counts
pub record Choice : Type 0 where
  pub setting : Option (List ℕ)
  pub cases : List Case

-- an enum and the value that it must have
pub record Require : Type 0 where
  pub setting : List ℕ
  pub value : List ℕ

-- a table: its word, its pins from number 0 on, and its output
pub record TableKind : Type 0 where
  pub word : List ℕ
  pub pins : List (List ℕ)
  pub out : List ℕ

-- a register; `input` is its data
pub record RegisterKind : Type 0 where
  pub input : Choice
  pub enable : Choice
  pub reset : Choice
  pub set : Choice
  pub clock : Choice
  pub out : List ℕ

pub record SliceKind : Type 0 where
  pub tile : List ℕ
  pub name : List ℕ
  pub shape : List ℕ
  pub settings : List (List ℕ)
  pub require : List Require
  pub tables : List TableKind
  pub registers : List RegisterKind

pub record PadKind : Type 0 where
  pub tile : List ℕ
  pub name : List ℕ
  pub settings : List (List ℕ)
  pub mode : Choice
  pub in_wire : Option (List ℕ)
  pub out_wire : Option (List ℕ)

pub record Profile : Type 0 where
  pub rules : Rules
  pub joins : List Join
  pub slices : List SliceKind
  pub pads : List PadKind
