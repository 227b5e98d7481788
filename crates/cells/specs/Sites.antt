-- Sites: where a cell can stand. A site is a tile of the grid that has a row and a column, with a kind of slice
-- or pad of the profile for the tile's type. (Our own.)
use Rattle.std.specs.Prelude.{ℕ, Bool, not, List, [], find, filter, filter_map, flat_map, Option, option_map, option_and_then, slice_get, unwrap_or, ◌&&◌}
use Rattle.std.specs.List.{list_any, enumerate_from}
use Rattle.std.specs.Str.{bytes_eq}
use Rattle.words.specs.Ordered.{in_order}
use Rattle.records.specs.Grid.{Tile}
use Rattle.records.specs.Profile.{SliceKind, PadKind, Profile}
use Rattle.records.specs.Side.{Placed, Side}
use Rattle.fabric.specs.Settings.{Settings}
use Rattle.fabric.specs.Graph.{Graph}
use Rattle.fabric.specs.Image.{tile_named}

-- a site: its tile, with the tile's number in the grid, and its kind
pub record Site (K : Type 0) : Type 0 where
  pub number : ℕ
  pub tile : Tile
  pub kind : K

-- the kind of slice, and the kind of pad, of a name in a tile
abbrev pub slice_kind : Profile → List ℕ → Tile → Option SliceKind
slice_kind profile name tile = find (λ k. bytes_eq k.tile tile.kind && bytes_eq k.name name) profile.slices

abbrev pub pad_kind : Profile → List ℕ → Tile → Option PadKind
pad_kind profile name tile = find (λ k. bytes_eq k.tile tile.kind && bytes_eq k.name name) profile.pads

-- the site of a kind in a tile with its number in the grid, where the tile has a row and a column
abbrev pub site_in : {K : Type 0} → ℕ → Tile → K → Option (Site K)
site_in number tile kind = option_map (λ place. record { number = number; tile = tile; kind = kind }) tile.place

-- the site of a kind in the tile of a number
abbrev pub site_at : {K : Type 0} → Graph → (Tile → Option K) → ℕ → Option (Site K)
site_at g kind_in number = option_and_then (λ tile. option_and_then (site_in number tile) (kind_in tile)) (slice_get g.grid.tiles number)

-- the site at which a placed slice, or a placed pad, stands; none where the tile or the kind isn't there, or
-- the tile has no row and column
abbrev pub slice_site : Graph → Profile → Placed → Option (Site SliceKind)
slice_site g profile p = option_and_then (site_at g (slice_kind profile p.kind)) (tile_named g p.tile)

abbrev pub pad_site : Graph → Profile → Placed → Option (Site PadKind)
pad_site g profile p = option_and_then (site_at g (pad_kind profile p.kind)) (tile_named g p.tile)

-- the words and enums of the tile of a site
abbrev pub settings_at : {K : Type 0} → Graph → Site K → Settings
settings_at g site = unwrap_or (slice_get g.settings site.number) (record { words = []; enums = [] })

-- a pad of the side file stands at a site
abbrev pub is_named : Side → Site PadKind → Bool
is_named side site = list_any (λ p. bytes_eq p.tile site.tile.name && bytes_eq p.kind site.kind.name) side.pads

-- the pad sites of the tile of a number, by the names of their kinds
abbrev pub tile_pad_sites : Profile → ℕ → Tile → List (Site PadKind)
tile_pad_sites profile number tile =
    filter_map (site_in number tile) (in_order (λ k. k.name) (filter (λ k. bytes_eq k.tile tile.kind) profile.pads))

-- the pad sites at which no named pad stands, by the names of their tiles, then of their kinds
abbrev pub unnamed_pads : Graph → Profile → Side → List (Site PadKind)
unnamed_pads g profile side = filter (λ s. not (is_named side s)) (flat_map (λ t. tile_pad_sites profile t.0 t.1) (enumerate_from 0 g.grid.tiles))
