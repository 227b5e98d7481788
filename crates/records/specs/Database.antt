-- The database of a tile type, `bits.db`, as records of lists, however a program keeps it. Names are their
-- bytes, and each list is in file order. (After Project Trellis.)
use Rattle.std.specs.Prelude.{ℕ, List, Option}
use Rattle.patterns.specs.Bits.{PatternBit}

-- a programmable connection from a source, made by a pattern
pub record Arc : Type 0 where
  pub source : List ℕ
  pub bits : List PatternBit

-- the arcs that may drive a sink
pub record Mux : Type 0 where
  pub sink : List ℕ
  pub arcs : List Arc

-- a word of configuration bits, a pattern for each, the lowest first
pub record WordSetting : Type 0 where
  pub name : List ℕ
  pub bits : List (List PatternBit)

pub record EnumOption : Type 0 where
  pub value : List ℕ
  pub bits : List PatternBit

-- a setting with named values
pub record EnumSetting : Type 0 where
  pub name : List ℕ
  pub default : Option (List ℕ)
  pub options : List EnumOption

-- a connection that is always there
pub record Fixed : Type 0 where
  pub sink : List ℕ
  pub source : List ℕ

pub record TileDb : Type 0 where
  pub muxes : List Mux
  pub words : List WordSetting
  pub enums : List EnumSetting
  pub fixed : List Fixed
