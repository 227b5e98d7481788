-- Links and cell outputs as a program keeps them. (Our own.)
use Rattle.std.specs.Prelude.{◌≡◌, ◌<◌, ◌≤◌, ℕ, List, [], map, flat_map, length, get_or, nat_eq, count_by}
use Rattle.words.specs.Members.{In}
use Rattle.links.specs.Links.{Link}
use Rattle.grouped.specs.Rows.{grouped}

-- how many wires there are, and the links in order, each once
pub record LinkTable : Type 0 where
  pub wires : ℕ
  pub links : List Link

-- the rows are those of the links: of each wire the sources of links into it, and the sinks of links from it
pub record AreEndsOf (links : List Link) (sources sinks : List (List ℕ)) : Type 0 where
  pub by_sink : sources ≡ grouped (λ k. k) (length sources) (map (λ l. l.sink) links) (map (λ l. l.source) links)
  pub by_source : sinks ≡ grouped (λ k. k) (length sources) (map (λ l. l.source) links) (map (λ l. l.sink) links)

-- how many wires there are, and the cell outputs in order, each once
pub record OutputTable : Type 0 where
  pub wires : ℕ
  pub outputs : List ℕ

-- the row of a wire holds the wire alone, and does where some row does
pub record AreOutputRows (rows : List (List ℕ)) : Type 0 where
  pub own : (w x : ℕ) → In (get_or rows w []) x → (x ≡ w) × In (flat_map (λ row. row) rows) w
  pub all : (w : ℕ) → In (flat_map (λ row. row) rows) w → In (get_or rows w []) w

-- all of these wires are below a number
abbrev pub AreBelow : ℕ → List ℕ → Type 0
AreBelow wires outputs = (w : ℕ) → In outputs w → w < wires

-- a wire stands in a list twice, and no lower one does
pub record IsFirstTwice (outputs : List ℕ) (w : ℕ) : Type 0 where
  pub twice : 2 ≤ count_by (nat_eq w) outputs
  pub first : (lower : ℕ) → lower < w → count_by (nat_eq lower) outputs < 2
