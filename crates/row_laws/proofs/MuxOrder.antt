-- The arcs of a device stand in mux order.
use Rattle.std.proofs.Common.{◌≡◌, ℕ, ◌+◌, ◌≤◌, List, [], ◌∷◌, map, Option, Some, None, refl, sym, ap, subst, ◌∙◌, arith}
use Rattle.std.specs.Prelude.{flat_map, filter_map, slice_get, option_map}
use Rattle.std.specs.Option.{option_map_or}
use Rattle.std.specs.List.{enumerate_from, cons_option}
use Rattle.std.specs.Ordering.{nat_cmp, ordering_then}
use Rattle.std.specs.declared.cmp.Ordering.{Ordering}
use Rattle.std.specs.declared.cmp.Ordering.TheVariants.{Less}
use Rattle.words.specs.Members.{In}
use Rattle.links.proofs.Members.{of_map, of_flat_map}
use Rattle.records.specs.Grid.{Tile}
use Rattle.records.specs.Database.{Arc}
use Rattle.fabric.specs.InOrder.{IsRising}
use Rattle.fabric.specs.Wires.{Wire}
use Rattle.fabric.specs.Device.{Device}
use Rattle.fabric.specs.Graph.{GraphArc, GraphMux}
use Rattle.fabric.specs.GraphOf.{arc_in, arcs_of, mux_arcs, muxes_of, number_in}
use Rattle.fabric_laws.proofs.Members.{in_filter_map_from}
use Rattle.graph_lists.specs.ArcLists.{mux_order, numbers_of}
use Rattle.graph_lists.proofs.Listed.{equal_is, less_is, not_before}
use Rattle.grouped_laws.proofs.Stable.{rising_as, rising_both}

-- what is made of numbered elements and keeps their numbers rises by them
module _ {X Y : Type 0} (make : ℕ × X → Option Y) (key : Y → ℕ) (keeps : (e : ℕ × X) (y : Y) → make e ≡ Some y → key y ≡ e.0) where
  made_from : (n : ℕ) (xs : List X) (y : Y) → In (filter_map make (enumerate_from n xs)) y → n ≤ key y
  made_from n xs y i =
      let found = in_filter_map_from make (enumerate_from n xs) y i in
      let at = not_before xs n found.0.0 found.0.1 found.1 in
      let same = keeps found.0 y found.2 in
      omega arith

  pub made_rise : (n : ℕ) (xs : List X) → IsRising (λ a b. nat_cmp (key a) (key b)) (filter_map make (enumerate_from n xs))
  made_rise n [] = tt
  made_rise n (x ∷ xs) = go (make (n, x)) refl (made_rise (n + 1) xs)
    where
      rest : List Y
      rest = filter_map make (enumerate_from (n + 1) xs)

      go : (o : Option Y) → make (n, x) ≡ o → IsRising (λ a b. nat_cmp (key a) (key b)) rest → IsRising (λ a b. nat_cmp (key a) (key b)) (cons_option o rest)
      go None e rises = rises
      go (Some y) e rises = ((λ z i. let later = made_from (n + 1) xs z i in let here = keeps (n, x) y e in less_is (key y) (key z) (omega arith)), rises)

abbrev order : GraphArc → GraphArc → Ordering
order a b = mux_order (numbers_of a) (numbers_of b)

module _ (device : Device) (wires : List Wire) where
  -- an arc has the numbers of its mux and of its place
  numbered : (tile : Tile) (n : ℕ) (mux : GraphMux) (place : ℕ) (arc : Arc) (a : GraphArc) → arc_in device wires tile n mux place arc ≡ Some a → (a.mux ≡ n) × (a.place ≡ place)
  numbered tile n mux place arc a h = go (number_in wires device.profile.rules tile arc.source) h
    where
      go : (o : Option ℕ) → option_map (λ source. record { mux = n; place = place; source = source; sink = mux.sink; origin = mux.origin; arc = arc }) o ≡ Some a → (a.mux ≡ n) × (a.place ≡ place)
      go None h = absurd (let no : ⊥ = cc in no)
      go (Some source) h =
          let made : GraphArc = record { mux = n; place = place; source = source; sink = mux.sink; origin = mux.origin; arc = arc } in
          let same : made ≡ a = cc in
          (sym (ap (λ (b : GraphArc). b.mux) same), sym (ap (λ (b : GraphArc). b.place) same))

  -- the arcs of one mux
  of_mux : (n : ℕ) (mux : GraphMux) (a : GraphArc) → In (mux_arcs device wires n mux) a → a.mux ≡ n
  of_mux n mux a i = go (slice_get device.grid.tiles mux.tile) i
    where
      go : (o : Option Tile) → In (option_map_or (λ tile. filter_map (λ e. arc_in device wires tile n mux e.0 e.1) (enumerate_from 0 mux.mux.arcs)) o []) a → a.mux ≡ n
      go None i = absurd i
      go (Some tile) i =
          let found = in_filter_map_from (λ (e : ℕ × Arc). arc_in device wires tile n mux e.0 e.1) (enumerate_from 0 mux.mux.arcs) a i in
          (numbered tile n mux found.0.0 found.0.1 a found.2).0

  mux_rises : (n : ℕ) (mux : GraphMux) → IsRising order (mux_arcs device wires n mux)
  mux_rises n mux =
      rising_as (λ (a b : GraphArc). nat_cmp a.place b.place) order (mux_arcs device wires n mux)
      (λ a b i j less. ap (λ o. ordering_then o (nat_cmp a.place b.place)) (equal_is a.mux b.mux (of_mux n mux a i ∙ sym (of_mux n mux b j))) ∙ less)
      (go (slice_get device.grid.tiles mux.tile))
    where
      go : (o : Option Tile) → IsRising (λ (a b : GraphArc). nat_cmp a.place b.place) (option_map_or (λ tile. filter_map (λ e. arc_in device wires tile n mux e.0 e.1) (enumerate_from 0 mux.mux.arcs)) o [])
      go None = tt
      go (Some tile) =
          made_rise (λ (e : ℕ × Arc). arc_in device wires tile n mux e.0 e.1) (λ (a : GraphArc). a.place)
          (λ e a h. (numbered tile n mux e.0 e.1 a h).1) 0 mux.mux.arcs

  all_rise : (n : ℕ) (muxes : List GraphMux) → IsRising order (flat_map (λ m. mux_arcs device wires m.0 m.1) (enumerate_from n muxes))
  all_rise n [] = tt
  all_rise n (mux ∷ muxes) =
      rising_both order (mux_arcs device wires n mux) (flat_map (λ m. mux_arcs device wires m.0 m.1) (enumerate_from (n + 1) muxes)) (mux_rises n mux) (all_rise (n + 1) muxes)
      (λ a b i j.
      let found = of_flat_map (λ (m : ℕ × GraphMux). mux_arcs device wires m.0 m.1) (enumerate_from (n + 1) muxes) b j in
      let later = not_before muxes (n + 1) found.0.0 found.0.1 found.1.0 in
      let here = of_mux n mux a i in
      let there = of_mux found.0.0 found.0.1 b found.1.1 in
      ap (λ o. ordering_then o (nat_cmp a.place b.place)) (less_is a.mux b.mux (omega arith)))

rising_mapped : (arcs : List GraphArc) → IsRising order arcs → IsRising mux_order (map numbers_of arcs)
rising_mapped [] rising = tt
rising_mapped (a ∷ arcs) rising = (
  (λ n i. let found = of_map numbers_of arcs n i in subst (λ m. mux_order (numbers_of a) m ≡ Less) found.1.1 (rising.0 found.0 found.1.0)),
  rising_mapped arcs rising.1,
)

pub in_mux_order : (device : Device) (wires : List Wire) → IsRising mux_order (map numbers_of (arcs_of device wires))
in_mux_order device wires = rising_mapped (arcs_of device wires) (all_rise device wires 0 (muxes_of device wires))
