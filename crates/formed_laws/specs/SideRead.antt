-- What a side file says that a reader takes. (Our own.)
use Rattle.std.specs.Prelude.{◌≡◌, ℕ, List, ◌++◌, map, flat_map}
use Rattle.words.specs.Members.{In}
use Rattle.words.specs.Twice.{HasNoneTwice}
use Rattle.records.specs.Side.{Domain, D0, D1, D2, Placed, Triple, Side}
use Rattle.side_form.specs.Side.{pad_triples}
use Rattle.circuit.specs.Triples.{names_of, IsEntry, all_triples}

-- all placed cells, slices and pads
abbrev pub placed_cells : Side → List Placed
placed_cells side = side.slices ++ side.pads

-- the site of a placed cell: a tile and a kind
abbrev pub site_of : Placed → List ℕ × List ℕ
site_of p = (p.tile, p.kind)

-- one of some cells has this name and this domain
abbrev pub Lists : List Placed → List ℕ → Domain → Type 0
Lists cells name domain = (p : Placed) × (In cells p × (p.name ≡ name) × (p.domain ≡ domain))

-- entry i of a triple is one of some cells, in domain i
pub record EntriesAre (cells : List Placed) (t : Triple) : Type 0 where
  pub first : Lists cells t.first D0
  pub second : Lists cells t.second D1
  pub third : Lists cells t.third D2

-- a name is an entry of one of some triples
abbrev pub IsPaired : List Triple → List ℕ → Type 0
IsPaired triples name = (t : Triple) × (In triples t × IsEntry t name)

-- No two placed cells have one name or one site. The entries of triples are slices, those of inputs, outputs and clocks
-- are pads, each in the domain of its place. Each cell is in a triple of its sort, and no name is twice an entry.
pub record IsApart (side : Side) : Type 0 where
  pub names : HasNoneTwice (map (λ p. p.name) (placed_cells side))
  pub sites : HasNoneTwice (map site_of (placed_cells side))
  pub slice_entries : (t : Triple) → In side.triples t → EntriesAre side.slices t
  pub pad_entries : (t : Triple) → In (pad_triples side) t → EntriesAre side.pads t
  pub slices_paired : (p : Placed) → In side.slices p → IsPaired side.triples p.name
  pub pads_paired : (p : Placed) → In side.pads p → IsPaired (pad_triples side) p.name
  pub entries : HasNoneTwice (flat_map names_of (all_triples side))
