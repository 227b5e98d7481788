-- When a cell stands at a site, in words of the files. (Our own.)
use Rattle.std.specs.Prelude.{◌≡◌, ℕ, List, ◌∷◌, ◌++◌, flat_map, Some, slice_get, option_to_list}
use Rattle.words.specs.Members.{In}
use Rattle.records.specs.Grid.{Tile}
use Rattle.records.specs.Profile.{SliceKind, PadKind, Profile}
use Rattle.records.specs.Side.{Placed}
use Rattle.fabric.specs.Device.{choice_names}
use Rattle.fabric.specs.Graph.{Graph}
use Rattle.cells.specs.Sites.{Site}

-- The site's tile is in the grid, has the name that is given and a row and a column, and the site's kind is listed
-- for the tile's type under the name that is given.
pub record StandsAtSite {K : Type 0} (g : Graph) (kinds : List K) (type_of name_of : K → List ℕ) (p : Placed) (s : Site K) : Type 0 where
  pub in_grid : slice_get g.grid.tiles s.number ≡ Some s.tile
  pub tile_name : s.tile.name ≡ p.tile
  pub place : ℕ × ℕ
  pub has_place : s.tile.place ≡ Some place
  pub listed : In kinds s.kind
  pub of_type : type_of s.kind ≡ s.tile.kind
  pub kind_name : name_of s.kind ≡ p.kind

abbrev pub SliceStandsAt : Graph → Profile → Placed → Site SliceKind → Type 0
SliceStandsAt g profile p s = StandsAtSite g profile.slices (λ k. k.tile) (λ k. k.name) p s

abbrev pub PadStandsAt : Graph → Profile → Placed → Site PadKind → Type 0
PadStandsAt g profile p s = StandsAtSite g profile.pads (λ k. k.tile) (λ k. k.name) p s

-- no two tiles of the grid have one name
abbrev pub TilesApart : Graph → Type 0
TilesApart g = (m n : ℕ) (t u : Tile) → slice_get g.grid.tiles m ≡ Some t → slice_get g.grid.tiles n ≡ Some u → t.name ≡ u.name → m ≡ n

-- no two kinds of one type of tile have one name
abbrev pub KindsApart : {K : Type 0} → (K → List ℕ) → (K → List ℕ) → List K → Type 0
KindsApart {K} type_of name_of kinds = (k l : K) → In kinds k → In kinds l → type_of k ≡ type_of l → name_of k ≡ name_of l → k ≡ l

-- the names of the wires of a kind of slice: pins and outputs of tables, what registers may take, and their outputs
abbrev pub slice_wires : SliceKind → List (List ℕ)
slice_wires kind =
    flat_map (λ t. t.out ∷ t.pins) kind.tables ++ flat_map (λ r. r.out ∷ (choice_names r.input ++ choice_names r.enable ++ choice_names r.reset ++ choice_names r.clock)) kind.registers

-- those of a kind of pad
abbrev pub pad_wires : PadKind → List (List ℕ)
pad_wires kind = option_to_list kind.in_wire ++ option_to_list kind.out_wire
