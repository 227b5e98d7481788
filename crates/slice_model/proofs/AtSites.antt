-- Placed cells at their sites stand in the grid, and their kinds are the profile's.
use Rattle.std.proofs.Common.{◌≡◌, ◌<◌, ◌≤◌, List, [], ◌∷◌, length, inl, inr, Option, None, Some, refl, sym, subst}
use Rattle.std.specs.Prelude.{option_map, slice_get, IfSome}
use Rattle.std.specs.List.{cons_option}
use Rattle.std.proofs.lemmas.Option.{slice_get_within}
use Rattle.words.specs.Members.{In}
use Rattle.records.specs.Profile.{TableKind, SliceKind, PadKind, Profile}
use Rattle.records.specs.Side.{Placed}
use Rattle.fabric.specs.Graph.{Graph}
use Rattle.cells.specs.Sites.{Site, slice_site, pad_site}
use Rattle.cells_laws.proofs.Sites.{site_stands}
use Rattle.slice_model.specs.Grid.{StandsInGrid, AllPlaced, HasFewPins, HaveFewPins}
use Rattle.slice_model.specs.Standing.{standing}

-- a cell at its site is one that has it
pub of_standing : {K : Type 0} (site_of : Placed → Option (Site K)) (ps : List Placed) (q : Placed × Site K) → In (standing site_of ps) q → site_of q.0 ≡ Some q.1
of_standing site_of [] q i = absurd i
of_standing {K} site_of (p ∷ ps) q i = go (site_of p) refl i (of_standing site_of ps q)
  where
    go : (o : Option (Site K)) → site_of p ≡ o → In (cons_option (option_map (λ s. (p, s)) o) (standing site_of ps)) q → (In (standing site_of ps) q → site_of q.0 ≡ Some q.1)
        → site_of q.0 ≡ Some q.1
    go None e j ih = ih j
    go (Some s) e j ih = elim j [ inl k ↦ subst (λ (r : Placed × Site K). site_of r.0 ≡ Some r.1) k e | inr k ↦ ih k ]

pub slices_stand : (g : Graph) (profile : Profile) (ps : List Placed) → AllPlaced g (standing (slice_site g profile) ps)
slices_stand g profile ps = record {
  each = λ q i. record { at = (site_stands g profile.slices (λ k. k.tile) (λ k. k.name) q.0 q.1 (of_standing (slice_site g profile) ps q i)).in_grid };
}

pub pads_stand : (g : Graph) (profile : Profile) (ps : List Placed) → AllPlaced g (standing (pad_site g profile) ps)
pads_stand g profile ps = record {
  each = λ q i. record { at = (site_stands g profile.pads (λ k. k.tile) (λ k. k.name) q.0 q.1 (of_standing (pad_site g profile) ps q i)).in_grid };
}

pub slices_have_few : (g : Graph) (profile : Profile) (ps : List Placed) → HasFewPins profile → HaveFewPins (standing (slice_site g profile) ps)
slices_have_few g profile ps h = record {
  few = λ q t i j. h.few q.1.kind t (site_stands g profile.slices (λ k. k.tile) (λ k. k.name) q.0 q.1 (of_standing (slice_site g profile) ps q i)).listed j;
}

-- what stands in the grid has a number there
pub stands_below : {K : Type 0} (g : Graph) (s : Site K) → StandsInGrid g s → s.number < length g.grid.tiles
stands_below g s h = slice_get_within g.grid.tiles s.number s.tile h.at

-- so the site of a placed slice has
pub slice_below : (g : Graph) (profile : Profile) (p : Placed) (o : Option (Site SliceKind)) → o ≡ slice_site g profile p → IfSome o (λ s. s.number < length g.grid.tiles)
slice_below g profile p None e = tt
slice_below g profile p (Some s) e = slice_get_within g.grid.tiles s.number s.tile (site_stands g profile.slices (λ k. k.tile) (λ k. k.name) p s (sym e)).in_grid
