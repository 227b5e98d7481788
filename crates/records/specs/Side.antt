-- The side file: which sites hold which named cells, their copies, and the voters. (Our own.)
use Rattle.std.specs.Prelude.{ℕ, List}

-- one of the three copies of a triplicated design
pub data Domain : Type 0 where
  D0 : Domain
  D1 : Domain
  D2 : Domain

-- a named cell at its site: the name of a tile, and of a kind
pub record Placed : Type 0 where
  pub name : List ℕ
  pub tile : List ℕ
  pub kind : List ℕ
  pub domain : Domain

-- three names, of the copies 0, 1 and 2
pub record Triple : Type 0 where
  pub first : List ℕ
  pub second : List ℕ
  pub third : List ℕ

-- a table that may read all three copies
pub record Voter : Type 0 where
  pub slice : List ℕ
  pub table : ℕ

pub record Side : Type 0 where
  pub slices : List Placed
  pub pads : List Placed
  pub triples : List Triple
  pub inputs : List Triple
  pub outputs : List Triple
  pub clocks : List Triple
  pub voters : List Voter
