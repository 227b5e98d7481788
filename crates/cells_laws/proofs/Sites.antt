-- The site of a placed cell is the one at which it stands.
use Rattle.std.proofs.Common.{◌≡◌, ℕ, Bool, true, List, Option, Some, find, sym, ap, subst, ◌∙◌, ◌↔◌}
use Rattle.std.specs.Prelude.{slice_get, ◌&&◌}
use Rattle.std.specs.Option.{option_and_then}
use Rattle.std.specs.Str.{bytes_eq}
use Rattle.std.proofs.lemmas.Bool.{and_parts, and_from}
use Rattle.std.proofs.lemmas.Slice.Eq.{bytes_eq-Decides}
use Rattle.std.proofs.lemmas.Option.{same_Some}
use Rattle.words.specs.Members.{In}
use Rattle.records.specs.Grid.{Tile}
use Rattle.records.specs.Profile.{SliceKind, PadKind, Profile}
use Rattle.records.specs.Side.{Placed}
use Rattle.fabric.specs.Graph.{Graph}
use Rattle.fabric.specs.Image.{tile_named}
use Rattle.cells.specs.Sites.{Site, site_in, site_at, slice_site, pad_site}
use Rattle.cells.specs.Standing.{StandsAtSite, SliceStandsAt, PadStandsAt, TilesApart, KindsApart}
use Rattle.fabric_laws.proofs.Members.{find_from, find_to}
use Rattle.fabric_laws.proofs.Numbered.{get_in, at_position, position_there}
use Rattle.cells_laws.proofs.Options.{mapped_from, mapped_to, then_from, then_to}

module _ {K : Type 0} (g : Graph) (kinds : List K) (type_of name_of : K → List ℕ) (p : Placed) where
  -- what the kind of a name in a tile is found by
  abbrev fits : Tile → K → Bool
  fits tile k = bytes_eq (type_of k) tile.kind && bytes_eq (name_of k) p.kind

  abbrev kind_in : Tile → Option K
  kind_in tile = find (fits tile) kinds

  abbrev is_tile : Tile → Bool
  is_tile t = bytes_eq t.name p.tile

  abbrev made : ℕ → Tile → K → ℕ × ℕ → Site K
  made n tile kind place = record { number = n; tile = tile; kind = kind }

  pub site_stands : (s : Site K) → option_and_then (site_at g kind_in) (tile_named g p.tile) ≡ Some s → StandsAtSite g kinds type_of name_of p s
  site_stands s h =
      let a = then_from (site_at g kind_in) (tile_named g p.tile) s h in
      let b = then_from (λ tile. option_and_then (site_in a.0 tile) (kind_in tile)) (slice_get g.grid.tiles a.0) s a.1.1 in
      let c = then_from (site_in a.0 b.0) (kind_in b.0) s b.1.1 in
      let d = mapped_from (made a.0 b.0 c.0) b.0.place s c.1.1 in
      let t = at_position is_tile g.grid.tiles a.0 a.1.0 in
      let same : t.0 ≡ b.0 = same_Some t.0 b.0 (sym t.1.0 ∙ b.1.0) in
      let k = find_from (fits b.0) kinds c.0 c.1.0 in
      let f = and_parts (bytes_eq (type_of c.0) b.0.kind) (bytes_eq (name_of c.0) p.kind) k.1 in
      subst (StandsAtSite g kinds type_of name_of p) d.1.1 (record {
        in_grid = b.1.0;
        tile_name = subst (λ u. u.name ≡ p.tile) same ((bytes_eq-Decides t.0.name p.tile).0 t.1.1);
        place = d.0;
        has_place = d.1.0;
        listed = k.0;
        of_type = (bytes_eq-Decides (type_of c.0) b.0.kind).0 f.0;
        kind_name = (bytes_eq-Decides (name_of c.0) p.kind).0 f.1;
      })

  pub stands_site : (s : Site K) → TilesApart g → KindsApart type_of name_of kinds → StandsAtSite g kinds type_of name_of p s
      → option_and_then (site_at g kind_in) (tile_named g p.tile) ≡ Some s
  stands_site s tiles_apart kinds_apart h =
      let there = position_there is_tile g.grid.tiles s.tile (get_in g.grid.tiles s.number s.tile h.in_grid) ((bytes_eq-Decides s.tile.name p.tile).1 h.tile_name) in
      let t = at_position is_tile g.grid.tiles there.0 there.1 in
      let number : there.0 ≡ s.number = tiles_apart there.0 s.number t.0 s.tile t.1.0 h.in_grid ((bytes_eq-Decides t.0.name p.tile).0 t.1.1 ∙ sym h.tile_name) in
      let named : tile_named g p.tile ≡ Some s.number = there.1 ∙ ap (λ n. Some n) number in
      let fit : fits s.tile s.kind ≡ true = and_from (bytes_eq (type_of s.kind) s.tile.kind) (bytes_eq (name_of s.kind) p.kind)
      ((bytes_eq-Decides (type_of s.kind) s.tile.kind).1 h.of_type) ((bytes_eq-Decides (name_of s.kind) p.kind).1 h.kind_name) in
      let found : kind_in s.tile ≡ Some s.kind = find_to (fits s.tile) kinds s.kind h.listed fit (only h kinds_apart) in
      then_to (site_at g kind_in) (tile_named g p.tile) s.number s named
      (then_to (λ tile. option_and_then (site_in s.number tile) (kind_in tile)) (slice_get g.grid.tiles s.number) s.tile s h.in_grid
      (then_to (site_in s.number s.tile) (kind_in s.tile) s.kind s found (mapped_to (made s.number s.tile s.kind) s.tile.place h.place h.has_place)))
    where
      only : {s : Site K} → StandsAtSite g kinds type_of name_of p s → KindsApart type_of name_of kinds → (k : K) → In kinds k → fits s.tile k ≡ true → k ≡ s.kind
      only {s} h apart k i e =
          let parts = and_parts (bytes_eq (type_of k) s.tile.kind) (bytes_eq (name_of k) p.kind) e in
          apart k s.kind i h.listed ((bytes_eq-Decides (type_of k) s.tile.kind).0 parts.0 ∙ sym h.of_type) ((bytes_eq-Decides (name_of k) p.kind).0 parts.1 ∙ sym h.kind_name)

pub slice_sites : (g : Graph) (profile : Profile) (p : Placed) (s : Site SliceKind) → TilesApart g → KindsApart (λ k. k.tile) (λ k. k.name) profile.slices
    → (slice_site g profile p ≡ Some s) ↔ SliceStandsAt g profile p s
slice_sites g profile p s tiles kinds =
    (site_stands g profile.slices (λ k. k.tile) (λ k. k.name) p s, stands_site g profile.slices (λ k. k.tile) (λ k. k.name) p s tiles kinds)

pub pad_sites : (g : Graph) (profile : Profile) (p : Placed) (s : Site PadKind) → TilesApart g → KindsApart (λ k. k.tile) (λ k. k.name) profile.pads
    → (pad_site g profile p ≡ Some s) ↔ PadStandsAt g profile p s
pad_sites g profile p s tiles kinds =
    (site_stands g profile.pads (λ k. k.tile) (λ k. k.name) p s, stands_site g profile.pads (λ k. k.tile) (λ k. k.name) p s tiles kinds)
