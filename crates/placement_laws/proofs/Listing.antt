-- The sites of equal shape are one list.
use Rattle.std.proofs.Common.{◌≡◌, ℕ, true, ◌↔◌, List, [], map, Option, Some, sym, ap, ◌∙◌}
use Rattle.std.specs.List.{flat_map, filter_map}
use Rattle.std.specs.declared.cmp.Ordering.{Ordering}
use Rattle.std.specs.declared.cmp.Ordering.TheVariants.{Equal, Greater}
use Rattle.std.specs.Ordering.{ordering_reverse}
use Rattle.words.specs.Members.{In}
use Rattle.records.specs.Grid.{Tile}
use Rattle.records.specs.Profile.{SliceKind, Profile}
use Rattle.records.specs.Side.{D0}
use Rattle.fabric.specs.Graph.{Graph}
use Rattle.cells.specs.Sites.{Site, settings_at}
use Rattle.cells.specs.Shapes.{equal_shape}
use Rattle.attempts.specs.Candidates.{site_named, site_cmp}
use Rattle.links.proofs.Members.{in_map, in_flat_map}
use Rattle.fabric_laws.proofs.Graphs.{some_same}
use Rattle.fabric_laws.proofs.Members.{in_filter_map_to, in_filter_map_from}
use Rattle.fabric_laws.proofs.Numbered.{get_in}
use Rattle.fabric_laws.proofs.Sorted.{determined}
use Rattle.cells_laws.proofs.Sites.{site_stands}
use Rattle.words.proofs.Decided.{Decided, both, never, is_true, chosen}
use Rattle.route_laws.proofs.Same.{names}
use Rattle.attempt_laws.proofs.Orders.{same_names}
use Rattle.answer_laws.proofs.Lists.{ordered}
use Rattle.answer_laws.proofs.Candidates.{site_total}
use Rattle.placements.specs.EqualSites.{IsSliceSite, IsSameSite, IsEqualSite, AreEqualSites}

-- a tile and a kind by their names
abbrev Names : Type 0
Names = List ℕ × List ℕ

module _ (g : Graph) (profile : Profile) where
  abbrev named : Names → Option (Site SliceKind)
  named n = site_named g profile n.0 n.1

  abbrev all_names : List Names
  all_names = flat_map (λ (t : Tile). map (λ (k : SliceKind). let n : Names = (t.name, k.name) in n) profile.slices) g.grid.tiles

  abbrev all_sites : List (Site SliceKind)
  all_sites = filter_map named all_names

  -- a site has the names by which it is found
  found_names : (n : Names) (s : Site SliceKind) → named n ≡ Some s → (s.tile.name ≡ n.0) × (s.kind.name ≡ n.1)
  found_names n s e =
      let h = site_stands g profile.slices (λ k. k.tile) (λ k. k.name) (record { name = []; tile = n.0; kind = n.1; domain = D0 }) s e in
      (h.tile_name, h.kind_name)

  site_listed : (s : Site SliceKind) → IsSliceSite g profile s → In all_sites s
  site_listed s e =
      let h = site_stands g profile.slices (λ k. k.tile) (λ k. k.name) (record { name = []; tile = s.tile.name; kind = s.kind.name; domain = D0 }) s e in
      in_filter_map_to named all_names (s.tile.name, s.kind.name) s
      (in_flat_map (λ (t : Tile). map (λ (k : SliceKind). let n : Names = (t.name, k.name) in n) profile.slices) g.grid.tiles s.tile (s.tile.name, s.kind.name)
      (get_in g.grid.tiles s.number s.tile h.in_grid)
      (in_map (λ (k : SliceKind). let n : Names = (s.tile.name, k.name) in n) profile.slices s.kind h.listed)) e

  site_from : (s : Site SliceKind) → In all_sites s → IsSliceSite g profile s
  site_from s i =
      let n = in_filter_map_from named all_names s i in
      let h = found_names n.0 s n.2 in
      (λ i. site_named g profile (h.0 i) (h.1 i)) ∙ n.2

  module _ (from : Site SliceKind) where
    -- another site of equal shape
    abbrev Fits : Site SliceKind → Type 0
    Fits s = (equal_shape (settings_at g from) from.kind (settings_at g s) s.kind ≡ true) × (IsSameSite from s → ⊥)

    fits : (s : Site SliceKind) → Decided (Fits s)
    fits s = both (is_true (equal_shape (settings_at g from) from.kind (settings_at g s) s.kind)) (never (both (names from.tile.name s.tile.name) (names from.kind.name s.kind.name)))

    -- sites that tie have the same names, so they are one
    ties_are_one : (s u : Site SliceKind) → IsSliceSite g profile s → IsSliceSite g profile u → site_cmp from s u ≡ Equal → u ≡ s
    ties_are_one s u p q e =
        let back : site_cmp from u s ≡ Equal = (site_total from).antisymm u s ∙ ap ordering_reverse e in
        let same = same_names from s u (no_greater (site_cmp from s u) e) (no_greater (site_cmp from u s) back) in
        some_same (sym q ∙ (λ i. site_named g profile (sym same.tile i) (sym same.kind i)) ∙ p)
      where
        no_greater : (o : Ordering) → o ≡ Equal → o ≡ Greater → ⊥
        no_greater o h k = (let no : ⊥ = cc in no)

    equal_sites : (xs : List (Site SliceKind)) × ((s : Site SliceKind) → In xs s ↔ IsEqualSite g profile from s)
    equal_sites = go (chosen Fits fits all_sites)
      where
        go : ((xs : List (Site SliceKind)) × ((s : Site SliceKind) → In xs s ↔ (In all_sites s × Fits s))) → (xs : List (Site SliceKind)) × ((s : Site SliceKind) → In xs s ↔ IsEqualSite g profile from s)
        go list = (
          list.0,
          λ s. (
            (λ i. let h = (list.1 s).0 i in record { site = site_from s h.0; shape = h.1.0; other = h.1.1 }),
            (λ h. (list.1 s).1 (site_listed s h.site, (h.shape, h.other))),
          ),
        )

    pub some_equal_sites : (list : List (Site SliceKind)) × AreEqualSites g profile from list
    some_equal_sites =
        let o = ordered (site_cmp from) (site_total from) (IsEqualSite g profile from) equal_sites.0 equal_sites.1
        (λ s u i j. ties_are_one s u ((equal_sites.1 s).0 i).site ((equal_sites.1 u).0 j).site) in
        (o.0, record { rising = o.1.rising; members = o.1.members })

    pub one_list : (list others : List (Site SliceKind)) → AreEqualSites g profile from list → AreEqualSites g profile from others → list ≡ others
    one_list list others p q = determined (site_cmp from) (site_total from) list others p.rising q.rising
        (λ s i. (q.members s).1 ((p.members s).0 i)) (λ s i. (p.members s).1 ((q.members s).0 i))
