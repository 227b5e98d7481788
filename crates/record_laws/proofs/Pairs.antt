-- Muxes with their device bits, one mux after the other.
use Rattle.std.proofs.Common.{◌≡◌, ℕ, ◌+◌, ◌<◌, ◌≤◌, List, [], ◌∷◌, ◌++◌, length, drop, get_or, flat_map, Option, None, Some, option_map, option_and_then, refl, sym, ap, subst, ◌∙◌, arith}
use Rattle.std.specs.Prelude.{slice_get}
use Rattle.std.specs.Option.{option_map_or}
use Rattle.std.specs.List.{enumerate_from}
use Rattle.std.specs.Ordering.{ordering_then}
use Rattle.std.proofs.lemmas.List.{append_assoc, append-nil, drop_more, drop_all}
use Rattle.words.specs.Members.{In}
use Rattle.links.proofs.Members.{of_flat_map, of_map}
use Rattle.patterns.specs.Bits.{DeviceBit}
use Rattle.records.specs.Database.{Mux}
use Rattle.records.specs.Grid.{Tile, origin_of}
use Rattle.fabric.specs.InOrder.{IsRising}
use Rattle.fabric.specs.Device.{Device, database_at}
use Rattle.fabric.specs.MuxBits.{bit_cmp}
use Rattle.graph_lists.proofs.Listed.{equal_is, less_is, not_before}
use Rattle.grouped_laws.proofs.Stable.{rising_both}
use Rattle.mux_rows.specs.MuxTable.{MuxNumbers}
use Rattle.bit_rows.specs.MuxBits.{MuxBit, mux_first}
use Rattle.fabric_laws.proofs.Graphs.{some_same}
use Rattle.fabric_laws.proofs.Numbered.{entry_is}
use Rattle.bit_rows.proofs.Rising.{get_below}
use Rattle.record_laws.specs.KeptBits.{arc_bits, bits_at, bits_in, kept_bits, moved, mux_pairs, pairs_from, pairs_in}
use Rattle.record_laws.proofs.Order.{in_order_once, moved_cmp, rising_map}

-- the pairs of the muxes from one on are its own, then those of the next
from_next : (device : Device) (muxes : List MuxNumbers) (i : ℕ) (d : MuxNumbers) → i < length muxes
    → pairs_from device i (drop i muxes) ≡ mux_pairs device i (get_or muxes i d) ++ pairs_from device (i + 1) (drop (i + 1) muxes)
from_next device muxes i d below = ap (pairs_from device i) (drop_more muxes i d below)

pub one_mux_more : (device : Device) (muxes : List MuxNumbers) (i : ℕ) (d : MuxNumbers) (pairs more : List MuxBit) → i < length muxes
    → pairs ++ pairs_from device i (drop i muxes) ≡ pairs_from device 0 muxes → more ≡ pairs ++ mux_pairs device i (get_or muxes i d)
    → more ++ pairs_from device (i + 1) (drop (i + 1) muxes) ≡ pairs_from device 0 muxes
one_mux_more device muxes i d pairs more below all is =
    ap (λ xs. xs ++ pairs_from device (i + 1) (drop (i + 1) muxes)) is
    ∙ (append_assoc pairs (mux_pairs device i (get_or muxes i d)) (pairs_from device (i + 1) (drop (i + 1) muxes)) ∙ (ap (λ xs. pairs ++ xs) (sym (from_next device muxes i d below)) ∙ all))

pub no_mux_left : (device : Device) (muxes : List MuxNumbers) (i : ℕ) (pairs : List MuxBit) → length muxes ≤ i
    → pairs ++ pairs_from device i (drop i muxes) ≡ pairs_from device 0 muxes → pairs ≡ pairs_from device 0 muxes
no_mux_left device muxes i pairs over all =
    let gone : pairs_from device i (drop i muxes) ≡ [] = ap (pairs_from device i) (drop_all i muxes over) in
    sym (append-nil pairs) ∙ (ap (λ xs. pairs ++ xs) (sym gone) ∙ all)

-- ---- the order of all pairs

module _ (device : Device) where
  in_type_rise : (place : ℕ) (tile : Tile) (o : Option Mux) (bits : List DeviceBit) → option_map (kept_bits device.profile.rules) o ≡ Some bits → IsRising bit_cmp bits
  in_type_rise place tile None bits h = absurd (let no : ⊥ = cc in no)
  in_type_rise place tile (Some mux) bits h = subst (IsRising bit_cmp) (some_same h) (in_order_once (flat_map (arc_bits device.profile.rules) mux.arcs)).rising

  in_tile_rise : (place : ℕ) (o : Option Tile) (bits : List DeviceBit) → option_and_then (bits_in device place) o ≡ Some bits → IsRising bit_cmp bits
  in_tile_rise place None bits h = absurd (let no : ⊥ = cc in no)
  in_tile_rise place (Some tile) bits h = in_type_rise place tile (slice_get (database_at device.types tile).muxes place) bits h

  -- the pairs of one mux in its tile
  of_number : (number : ℕ) (ot : Option Tile) (ob : Option (List DeviceBit)) (p : MuxBit) → In (option_map_or (λ t. option_map_or (pairs_in number t) ob []) ot []) p → p.mux ≡ number
  of_number number None ob p i = absurd i
  of_number number (Some t) None p i = absurd i
  of_number number (Some t) (Some bits) p i =
      let found = of_map (λ (b : DeviceBit). let x : MuxBit = record { mux = number; bit = moved (origin_of t) b } in x) bits p i in
      sym (ap (λ (x : MuxBit). x.mux) found.1.1)

  pub pair_of : (number : ℕ) (m : MuxNumbers) (p : MuxBit) → In (mux_pairs device number m) p → p.mux ≡ number
  pair_of number m p i = of_number number (slice_get device.grid.tiles m.tile) (bits_at device m.tile m.place) p i

  tile_rise : (number : ℕ) (ot : Option Tile) (ob : Option (List DeviceBit)) → ((bits : List DeviceBit) → ob ≡ Some bits → IsRising bit_cmp bits)
      → IsRising mux_first (option_map_or (λ t. option_map_or (pairs_in number t) ob []) ot [])
  tile_rise number None ob rise = tt
  tile_rise number (Some t) None rise = tt
  tile_rise number (Some t) (Some bits) rise =
      rising_map bit_cmp mux_first (λ (b : DeviceBit). let x : MuxBit = record { mux = number; bit = moved (origin_of t) b } in x)
      (λ a b less. ap (λ o. ordering_then o (bit_cmp (moved (origin_of t) a) (moved (origin_of t) b))) (equal_is number number refl) ∙ (moved_cmp (origin_of t) a b ∙ less)) bits (rise bits refl)

  mux_rises : (number : ℕ) (m : MuxNumbers) → IsRising mux_first (mux_pairs device number m)
  mux_rises number m = tile_rise number (slice_get device.grid.tiles m.tile) (bits_at device m.tile m.place) (λ bits h. in_tile_rise m.place (slice_get device.grid.tiles m.tile) bits h)

  pub all_rise : (n : ℕ) (muxes : List MuxNumbers) → IsRising mux_first (pairs_from device n muxes)
  all_rise n [] = tt
  all_rise n (m ∷ muxes) =
      rising_both mux_first (mux_pairs device n m) (pairs_from device (n + 1) muxes) (mux_rises n m) (all_rise (n + 1) muxes)
      (λ a b i j.
      let found = of_flat_map (λ (e : ℕ × MuxNumbers). mux_pairs device e.0 e.1) (enumerate_from (n + 1) muxes) b j in
      let later = not_before muxes (n + 1) found.0.0 found.0.1 found.1.0 in
      let here = pair_of n m a i in
      let there = pair_of found.0.0 found.0.1 b found.1.1 in
      ap (λ o. ordering_then o (bit_cmp a.bit b.bit)) (less_is a.mux b.mux (omega arith)))

  -- each is of one of the muxes
  pub all_below : (muxes : List MuxNumbers) (p : MuxBit) → In (pairs_from device 0 muxes) p → p.mux < length muxes
  all_below muxes p i =
      let found = of_flat_map (λ (e : ℕ × MuxNumbers). mux_pairs device e.0 e.1) (enumerate_from 0 muxes) p i in
      let there = pair_of found.0.0 found.0.1 p found.1.1 in
      let below = get_below muxes found.0.0 found.0.1 (entry_is muxes found.0.0 found.0.1 found.1.0) in
      omega arith
