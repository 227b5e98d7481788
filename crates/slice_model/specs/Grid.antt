-- What is asked of sites, and of the words of the tables of a kind. (Our own.)
use Rattle.std.specs.Prelude.{◌≡◌, ◌≤◌, ℕ, List, [], Some, length, slice_get, unwrap_or}
use Rattle.words.specs.Members.{In}
use Rattle.patterns.specs.Bits.{Bits}
use Rattle.records.specs.Profile.{TableKind, SliceKind, Profile}
use Rattle.records.specs.Side.{Placed}
use Rattle.fabric.specs.Graph.{Graph}
use Rattle.fabric.specs.Values.{word_at}
use Rattle.cells.specs.Resolved.{word_of}
use Rattle.cells.specs.Sites.{Site}

-- the tile of a site is that of its number in the grid
pub record StandsInGrid {K : Type 0} (g : Graph) (site : Site K) : Type 0 where
  pub at : slice_get g.grid.tiles site.number ≡ Some site.tile

-- the sites of a list stand in the grid
pub record AllStand {K : Type 0} (g : Graph) (sites : List (Site K)) : Type 0 where
  pub each : (s : Site K) → In sites s → StandsInGrid g s

-- the placed cells of a list stand in the grid
pub record AllPlaced {K : Type 0} (g : Graph) (cells : List (Placed × Site K)) : Type 0 where
  pub each : (q : Placed × Site K) → In cells q → StandsInGrid g q.1

-- the word of a table in the tile of a number; 0 where there is none
abbrev pub table_word : Graph → Bits → ℕ → List ℕ → ℕ
table_word g image tile name = word_of (unwrap_or (word_at g image tile name) [])

-- the word of a name in the tile of a number has 16 bits at most, if it is there
pub record HasSmallWord (g : Graph) (image : Bits) (tile : ℕ) (name : List ℕ) : Type 0 where
  pub few : length (unwrap_or (word_at g image tile name) []) ≤ 16

-- so have the words of tables
pub record HaveSmallWords (g : Graph) (image : Bits) (tile : ℕ) (tables : List TableKind) : Type 0 where
  pub each : (t : TableKind) → In tables t → HasSmallWord g image tile t.word

-- so have the words of placed slices
pub record AllHaveSmallWords (g : Graph) (image : Bits) (slices : List (Placed × Site SliceKind)) : Type 0 where
  pub each : (q : Placed × Site SliceKind) → In slices q → HaveSmallWords g image q.1.number q.1.kind.tables

-- a table of a profile has 4 pins at most, as a reader of profiles sees to
pub record HasFewPins (profile : Profile) : Type 0 where
  pub few : (k : SliceKind) (t : TableKind) → In profile.slices k → In k.tables t → length t.pins ≤ 4

-- so have the tables of placed slices
pub record HaveFewPins (slices : List (Placed × Site SliceKind)) : Type 0 where
  pub few : (q : Placed × Site SliceKind) (t : TableKind) → In slices q → In q.1.kind.tables t → length t.pins ≤ 4
