-- The cells are those that the side file names.
use Rattle.std.proofs.Common.{◌≡◌, inl, inr, List, [], ◌∷◌, map, filter_map, Option, Some, option_map, refl, sym, ap₂, subst, ◌↔◌}
use Rattle.std.specs.Prelude.{Ok}
use Rattle.std.specs.List.{cons_option}
use Rattle.words.specs.Members.{In}
use Rattle.patterns.specs.Bits.{Bits}
use Rattle.records.specs.Profile.{Profile}
use Rattle.records.specs.Side.{Placed, Side}
use Rattle.fabric.specs.Graph.{Graph}
use Rattle.circuit.specs.Cells.{SliceCell, PadCell, Cells}
use Rattle.circuit.specs.Triples.{Member}
use Rattle.circuit.specs.Designs.{placed_members}
use Rattle.cells.specs.Sites.{Site, slice_site, pad_site}
use Rattle.cells.specs.Resolved.{slice_cell, pad_cell}
use Rattle.cells.specs.Readings.{slices_of, pads_of}
use Rattle.cells.specs.Faults.{cell_fault}
use Rattle.cells.specs.CellsOf.{slice_cells, pad_cells, cells_of, IsSliceOf, IsPadOf}
use Rattle.fabric_laws.proofs.Members.{in_filter_map_from, in_filter_map_to}
use Rattle.cells_laws.proofs.Options.{mapped_from, mapped_to}
use Rattle.cells_laws.proofs.NameOrder.{ordered_from, ordered_to}
use Rattle.cells_laws.proofs.Faults.{ok_from, cells_accepted}

-- cells that are made at sites have the names and domains of the placed cells
made_members : {K C : Type 0} (site : Placed → Option (Site K)) (make : Placed → Site K → C) (member : C → Member)
    → ((p : Placed) (s : Site K) → member (make p s) ≡ record { name = p.name; domain = p.domain })
    → (ps : List Placed) → ((p : Placed) → In ps p → (s : Site K) × (site p ≡ Some s))
    → map member (filter_map (λ p. option_map (make p) (site p)) ps) ≡ placed_members ps
made_members site make member same [] h = refl
made_members site make member same (p ∷ ps) h =
    let s = h p (inl refl) in
    let rest = made_members site make member same ps (λ q i. h q (inr i)) in
    subst (λ o. map member (cons_option (option_map (make p) o) (filter_map (λ p. option_map (make p) (site p)) ps)) ≡ placed_members (p ∷ ps)) (sym s.1)
    (ap₂ (λ x xs. x ∷ xs) (same p s.0) rest)

module _ (g : Graph) (profile : Profile) (image : Bits) (side : Side) (cells : Cells) (h : cells_of g profile image side ≡ Ok cells) where
  same_cells : record { slices = slice_cells g profile image side; pads = pad_cells g profile side } ≡ cells
  same_cells = (ok_from (cell_fault g profile image side) (record { slices = slice_cells g profile image side; pads = pad_cells g profile side }) cells h).1

  pub slice_names : map (λ s. record { name = s.name; domain = s.domain }) cells.slices ≡ placed_members (slices_of side)
  slice_names = subst (λ c. map (λ s. record { name = s.name; domain = s.domain }) c.slices ≡ placed_members (slices_of side)) same_cells
      (made_members (slice_site g profile) (slice_cell g profile.rules image) (λ s. record { name = s.name; domain = s.domain }) (λ p s. refl) (slices_of side)
      (λ p i. (let s = (cells_accepted g profile image side cells h).slices p (ordered_from (λ p. p.name) side.slices p i) in (s.0, s.1.0))))

  pub pad_names : map (λ p. record { name = p.name; domain = p.domain }) cells.pads ≡ placed_members (pads_of side)
  pad_names = subst (λ c. map (λ p. record { name = p.name; domain = p.domain }) c.pads ≡ placed_members (pads_of side)) same_cells
      (made_members (pad_site g profile) (pad_cell g profile.rules side) (λ p. record { name = p.name; domain = p.domain }) (λ p s. refl) (pads_of side)
      (λ p i. (let s = (cells_accepted g profile image side cells h).pads p (ordered_from (λ p. p.name) side.pads p i) in (s.0, s.1.0))))

  pub slices_named : (c : SliceCell) → In cells.slices c ↔ IsSliceOf g profile image side c
  slices_named c = subst (λ k. In k.slices c ↔ IsSliceOf g profile image side c) same_cells (there, back)
    where
      there : In (slice_cells g profile image side) c → IsSliceOf g profile image side c
      there i =
          let r = in_filter_map_from (λ p. option_map (slice_cell g profile.rules image p) (slice_site g profile p)) (slices_of side) c i in
          let s = mapped_from (slice_cell g profile.rules image r.0) (slice_site g profile r.0) c r.2 in
          record { placed = r.0; site = s.0; listed = ordered_from (λ p. p.name) side.slices r.0 r.1; stands = s.1.0; cell = s.1.1 }

      back : IsSliceOf g profile image side c → In (slice_cells g profile image side) c
      back k = in_filter_map_to (λ p. option_map (slice_cell g profile.rules image p) (slice_site g profile p)) (slices_of side) k.placed c (ordered_to (λ p. p.name) side.slices k.placed k.listed)
          (subst (λ d. option_map (slice_cell g profile.rules image k.placed) (slice_site g profile k.placed) ≡ Some d) k.cell (mapped_to (slice_cell g profile.rules image k.placed) (slice_site g profile k.placed) k.site k.stands))

  pub pads_named : (c : PadCell) → In cells.pads c ↔ IsPadOf g profile side c
  pads_named c = subst (λ k. In k.pads c ↔ IsPadOf g profile side c) same_cells (there, back)
    where
      there : In (pad_cells g profile side) c → IsPadOf g profile side c
      there i =
          let r = in_filter_map_from (λ p. option_map (pad_cell g profile.rules side p) (pad_site g profile p)) (pads_of side) c i in
          let s = mapped_from (pad_cell g profile.rules side r.0) (pad_site g profile r.0) c r.2 in
          record { placed = r.0; site = s.0; listed = ordered_from (λ p. p.name) side.pads r.0 r.1; stands = s.1.0; cell = s.1.1 }

      back : IsPadOf g profile side c → In (pad_cells g profile side) c
      back k = in_filter_map_to (λ p. option_map (pad_cell g profile.rules side p) (pad_site g profile p)) (pads_of side) k.placed c (ordered_to (λ p. p.name) side.pads k.placed k.listed)
          (subst (λ d. option_map (pad_cell g profile.rules side k.placed) (pad_site g profile k.placed) ≡ Some d) k.cell (mapped_to (pad_cell g profile.rules side k.placed) (pad_site g profile k.placed) k.site k.stands))
