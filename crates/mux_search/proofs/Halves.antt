-- Rising places, of which one half is left each time.
use Rattle.std.proofs.Common.{◌≡◌, ℕ, ◌+◌, ◌<◌, ◌≤◌, ◌⊎◌, inl, inr, List, length, get_or, sym, ap, subst, ◌∙◌, arith}
use Rattle.std.proofs.lemmas.List.{get_or_default}
use Rattle.words.specs.Members.{In}
use Rattle.fabric_laws.proofs.Numbered.{number_there}
use Rattle.bit_rows.proofs.Rising.{at_place, get_below, or_is}
use Rattle.mux_rows.specs.MuxTable.{MuxNumbers}
use Rattle.record_laws.specs.Records.{PlacesRise, place_of}

module _ (muxes : List MuxNumbers) (row : List ℕ) where
  abbrev place_at : ℕ → ℕ
  place_at k = place_of muxes (get_or row k 0)

  -- the mux at a middle of the row
  pub listed : (middle m : ℕ) → m ≡ get_or row middle m → middle < length row → In row m
  listed middle m is below = subst (In row) (sym is) (at_place row middle m below)

  its_place : (middle m at : ℕ) → m ≡ get_or row middle m → middle < length row → at ≡ place_of muxes m → place_at middle ≡ at
  its_place middle m at is below e = ap (place_of muxes) (sym (get_or_default row middle m 0 below) ∙ sym is) ∙ sym e

  or_before : (k middle : ℕ) → k < middle + 1 → (k < middle) ⊎ (k ≡ middle)
  or_before k middle less = grind arith

  or_behind : (k middle : ℕ) → middle ≤ k → (middle < k) ⊎ (k ≡ middle)
  or_behind k middle less = grind arith

  pub lower : (middle m at place : ℕ) → PlacesRise muxes row → m ≡ get_or row middle m → middle < length row → at ≡ place_of muxes m → at < place
      → (k : ℕ) → k < middle + 1 → place_at k < place
  lower middle m at place rise is below e less k before =
      let here = its_place middle m at is below e in
      elim (or_before k middle before) [
        | inl l ↦ (let step = rise k middle l below in omega arith)
        | inr s ↦ (let same = ap place_at s in omega arith)
      ]

  pub higher : (middle m at place : ℕ) → PlacesRise muxes row → m ≡ get_or row middle m → middle < length row → at ≡ place_of muxes m → place < at
      → (k : ℕ) → middle ≤ k → k < length row → place < place_at k
  higher middle m at place rise is below e less k behind within =
      let here = its_place middle m at is below e in
      elim (or_behind k middle behind) [
        | inl l ↦ (let step = rise middle k l within in omega arith)
        | inr s ↦ (let same = ap place_at s in omega arith)
      ]

  -- nothing is left
  pub none_left : (low high place : ℕ) → high ≤ low → ((k : ℕ) → k < low → place_at k < place) → ((k : ℕ) → high ≤ k → k < length row → place < place_at k)
      → (m : ℕ) → In row m → place_of muxes m ≡ place → ⊥
  none_left low high place over before behind m i e =
      let at = number_there row m i in
      let within = get_below row at.0 m at.1 in
      let same : place_at at.0 ≡ place = ap (place_of muxes) (or_is row at.0 m 0 at.1) ∙ e in
      elim (sides at.0 low) [
        | inl l ↦ (let less = before at.0 l in omega arith)
        | inr l ↦ (let more = behind at.0 (omega arith) within in omega arith)
      ]
    where
      sides : (a b : ℕ) → (a < b) ⊎ (b ≤ a)
      sides a b = grind arith
