-- A text configuration, `.config`, as its reader gives it; `line` is the number of the line, from 1.
-- (After Project Trellis.)
use Rattle.std.specs.Prelude.{ℕ, Bool, List}

-- a line with no meaning for the circuit, kept as text
pub record Head : Type 0 where
  pub text : List ℕ

pub record ArcLine : Type 0 where
  pub sink : List ℕ
  pub source : List ℕ
  pub line : ℕ

-- the bits of a word, the lowest first
pub record WordLine : Type 0 where
  pub name : List ℕ
  pub bits : List Bool
  pub line : ℕ

pub record EnumLine : Type 0 where
  pub name : List ℕ
  pub value : List ℕ
  pub line : ℕ

-- a bit of the tile that is set by its place
pub record UnknownLine : Type 0 where
  pub frame : ℕ
  pub bit : ℕ
  pub line : ℕ

-- the section of a tile
pub record TileText : Type 0 where
  pub tile : List ℕ
  pub line : ℕ
  pub arcs : List ArcLine
  pub words : List WordLine
  pub enums : List EnumLine
  pub unknowns : List UnknownLine

-- tiles in byte order of their names, arcs in byte order of their lines and without repeats, all else in
-- input order
pub record Config : Type 0 where
  pub device : List ℕ
  pub heads : List Head
  pub tiles : List TileText
