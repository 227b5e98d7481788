-- Sites to which a slice may move, in their order. MINI-C is MINI-A with another type of tile in its third column: its pin
-- B can take a clock too. (Our own.)
use Rattle.std.specs.Prelude.{ℕ, Bool, not, List, [], ◌∷◌, ◌++◌, map, filter, filter_map, flat_map, Some, None, codes, ◌&&◌, if◌then◌else◌}
use Rattle.std.specs.List.{list_any, enumerate_from}
use Rattle.std.specs.Str.{bytes_eq}
use Rattle.records.specs.Database.{Mux, TileDb}
use Rattle.records.specs.Grid.{Tile}
use Rattle.records.specs.Profile.{SliceKind}
use Rattle.records.specs.Side.{D2, Side}
use Rattle.fabric.specs.Device.{Device}
use Rattle.fabric.specs.Graph.{Graph}
use Rattle.fabric_laws.specs.Insertion.{sorted_once}
use Rattle.cells.specs.Sites.{Site, site_in, settings_at}
use Rattle.cells.specs.Shapes.{equal_shape}
use Rattle.attempts.specs.Candidates.{site_cmp}
use Rattle.mini.specs.MiniA.{at, arc, mlc, mio, mck, mini_a}
use Rattle.mini.specs.Toggle.{placed, toggle_side}
use Rattle.mini_b.specs.MiniB.{mini_profile}
use Rattle.attempt_examples.specs.TwoTiles.{the_kind}

-- ---- MINI-C

abbrev with_clock_at_b : Mux → Mux
with_clock_at_b m = if bytes_eq m.sink (codes "B") then record m { arcs = m.arcs ++ arc (codes "G_CK1") (at 2 7 ∷ []) ∷ [] } else m

abbrev pub mld : TileDb
mld = record mlc { muxes = map with_clock_at_b mlc.muxes }

abbrev third_column : Tile → Tile
third_column t = if bytes_eq t.name (codes "R1C3:MLC") then record t { name = codes "R1C3:MLD"; kind = codes "MLD" } else t

abbrev pub mini_c : Device
mini_c = record {
  grid = record mini_a.grid { tiles = map third_column mini_a.grid.tiles };
  types = record { kind = codes "MCK"; db = mck } ∷ record { kind = codes "MIO"; db = mio } ∷ record { kind = codes "MLC"; db = mlc } ∷ record { kind = codes "MLD"; db = mld } ∷ [];
  profile = mini_profile;
}

-- the toggle's side file there
abbrev pub toggle_side_c : Side
toggle_side_c = record toggle_side { slices = map (λ p. if bytes_eq p.name (codes "a2") then placed (codes "a2") (codes "R1C3:MLD") (codes "S0") D2 else p) toggle_side.slices }

-- ---- sites

-- the sites of slices
abbrev slice_sites : Graph → List (Site SliceKind)
slice_sites g = flat_map (λ t. filter_map (λ k. if bytes_eq k.tile t.1.kind then site_in t.0 t.1 k else None) mini_profile.slices) (enumerate_from 0 g.grid.tiles)

abbrev same_site : Site SliceKind → Site SliceKind → Bool
same_site a b = bytes_eq a.tile.name b.tile.name && bytes_eq a.kind.name b.kind.name

-- the others of equal shape, in order from a site
abbrev pub sites_from : Graph → Site SliceKind → List (Site SliceKind)
sites_from g from = sorted_once (site_cmp from) (filter (λ s. equal_shape (settings_at g from) from.kind (settings_at g s) s.kind && not (same_site from s)) (slice_sites g))

abbrev pub stands_at : List ℕ → Graph → List (Site SliceKind)
stands_at tile g = filter (λ s. bytes_eq s.tile.name tile) (slice_sites g)

-- those of sites at which no slice stands
abbrev pub empty_sites : Side → List (Site SliceKind) → List (Site SliceKind)
empty_sites side sites = filter (λ s. not (list_any (λ p. bytes_eq p.tile s.tile.name && bytes_eq p.kind s.kind.name) side.slices)) sites

abbrev pub tiles_of : List (Site SliceKind) → List (List ℕ)
tiles_of sites = map (λ s. s.tile.name) sites

-- ---- ties

-- a site by its row, column, kind and tile
abbrev pub site : ℕ → ℕ → List ℕ → List ℕ → Site SliceKind
site row column kind name = record {
  number = 0;
  tile = record { name = name; kind = codes "L"; place = Some (row, column); cols = 1; rows = 1; start_frame = 0; start_bit = 0 };
  kind = record the_kind { name = kind };
}

abbrev pub present : Site SliceKind
present = site 5 5 (codes "S") (codes "R5C5:L")
