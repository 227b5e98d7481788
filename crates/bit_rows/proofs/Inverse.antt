-- Rows of bits by mux, and rows of muxes by bit.
use Rattle.std.proofs.Common.{◌≡◌, ℕ, zero, suc, ◌<◌, Bool, true, false, cond, List, [], ◌∷◌, map, filter, length, get_or, Some, inl, inr, refl, sym, ap, subst, ◌∙◌, arith}
use Rattle.std.specs.Prelude.{slice_get, flat_map, ◌==◌}
use Rattle.std.specs.List.{range_with_len, zip}
use Rattle.std.specs.Ordering.{nat_cmp, ordering_then}
use Rattle.std.specs.Cmp.{nat_cmp_total}
use Rattle.std.specs.declared.cmp.Ordering.TheVariants.{Equal}
use Rattle.std.proofs.lemmas.Bool.{cases_eq, eq-eqb, ne_eqb, eqb-true}
use Rattle.std.proofs.lemmas.List.FromFn.{fill_by_all, length-map-range_with_len, get_or-map-range_with_len}
use Rattle.std.proofs.lemmas.List.{length-map}
use Rattle.std.proofs.lemmas.Option.{slice_get-get_or}
use Rattle.words.specs.Members.{In}
use Rattle.links.proofs.Members.{in_map, of_map, in_flat_map, of_flat_map}
use Rattle.patterns.specs.Bits.{DeviceBit, bits_of_list, same_bit}
use Rattle.fabric.specs.InOrder.{InOrderOnce, IsRising}
use Rattle.fabric.specs.MuxBits.{bit_cmp}
use Rattle.fabric_laws.proofs.Members.{in_filter_from, in_filter_to, is_false}
use Rattle.fabric_laws.proofs.Numbered.{get_in}
use Rattle.fabric_laws.proofs.SameBits.{same_is, same_refl}
use Rattle.fabric_laws.proofs.Sorted.{determined}
use Rattle.graph_lists.proofs.Listed.{place_from, place_to, places_rise, rising_map_filter}
use Rattle.graph_lists.proofs.Pairs.{first_less, second_less}
use Rattle.graph_lists.proofs.BitsOf.{listed_from, listed_to, range_to}
use Rattle.grouped.specs.Rows.{grouped, row_of}
use Rattle.bit_rows.specs.MuxBits.{MuxBit, bit_first, bits_by_mux, muxes_with}
use Rattle.bit_rows.specs.Numbered.{AreNumbered}
use Rattle.bit_rows.proofs.Numbering.{bit_tied}
use Rattle.bit_rows.proofs.Rising.{get_below, one_place}

-- the element of a place of a list that is made of another one
pub get_map : {X Y : Type 0} (f : X → Y) (xs : List X) (k : ℕ) (x : X) → slice_get xs k ≡ Some x → slice_get (map f xs) k ≡ Some (f x)
get_map f [] k x h = absurd (let no : ⊥ = cc in no)
get_map f (y ∷ xs) zero x h = let e : y ≡ x = cc in ap (λ z. Some (f z)) e
get_map f (y ∷ xs) (suc k) x h = get_map f xs k x h

or_map : {X Y : Type 0} (f : X → Y) (xs : List X) (k : ℕ) (x : X) (d : Y) → slice_get xs k ≡ Some x → get_or (map f xs) k d ≡ f x
or_map f [] k x d h = absurd (let no : ⊥ = cc in no)
or_map f (y ∷ xs) zero x d h = let e : y ≡ x = cc in ap f e
or_map f (y ∷ xs) (suc k) x d h = or_map f xs k x d h

there_is : {X : Type 0} (xs : List X) (k : ℕ) → k < length xs → (x : X) × (slice_get xs k ≡ Some x)
there_is [] k below = absurd (omega arith)
there_is (x ∷ xs) zero below = (x, refl)
there_is (x ∷ xs) (suc k) below = there_is xs k (omega arith)

-- the row of a number below a count
pub get_row : {X : Type 0} (f : ℕ → List X) (count k : ℕ) → k < count → slice_get (map f (range_with_len 0 count)) k ≡ Some (f k)
get_row f count k below =
    let long = length-map-range_with_len f 0 count in
    slice_get-get_or (map f (range_with_len 0 count)) k [] (omega arith) ∙ ap (λ r. Some r) (get_or-map-range_with_len f 0 count k k [] below (omega arith))

-- ---- bits in rows by mux

mux_row : (k : ℕ) (pairs : List MuxBit) → row_of (λ (n : ℕ). n) (map (λ p. p.mux) pairs) (map (λ p. p.bit) pairs) k ≡ map (λ p. p.bit) (filter (λ p. p.mux == k) pairs)
mux_row k [] = refl
mux_row k (p ∷ pairs) = go (p.mux == k) (mux_row k pairs)
  where
    beside : List (ℕ × DeviceBit)
    beside = filter (λ (q : ℕ × DeviceBit). q.0 == k) (zip (map (λ (p : MuxBit). p.mux) pairs) (map (λ (p : MuxBit). p.bit) pairs))

    rest : List MuxBit
    rest = filter (λ (p : MuxBit). p.mux == k) pairs

    go : (t : Bool) → map (λ (q : ℕ × DeviceBit). q.1) beside ≡ map (λ (p : MuxBit). p.bit) rest
        → map (λ (q : ℕ × DeviceBit). q.1) (cond t ((p.mux, p.bit) ∷ beside) beside) ≡ map (λ (p : MuxBit). p.bit) (cond t (p ∷ rest) rest)
    go true e = ap (λ r. p.bit ∷ r) e
    go false e = e

pub mux_rows : (count : ℕ) (pairs : List MuxBit) → grouped (λ (n : ℕ). n) count (map (λ p. p.mux) pairs) (map (λ p. p.bit) pairs) ≡ bits_by_mux count pairs
mux_rows count pairs = λ j. map (λ k. mux_row k pairs j) (range_with_len 0 count)

-- ---- muxes in rows by bit

-- the muxes of the pairs with a bit
abbrev pub muxes_at : List MuxBit → DeviceBit → List ℕ
muxes_at pairs b = map (λ p. p.mux) (filter (λ p. same_bit b p.bit) pairs)

module _ (bits : List DeviceBit) (rising : IsRising bit_cmp bits) (k : ℕ) (b : DeviceBit) (here : slice_get bits k ≡ Some b) where
  same_test : (n : ℕ) (c : DeviceBit) → slice_get bits n ≡ Some c → (n == k) ≡ same_bit b c
  same_test n c h = elim (cases_eq n k) [
    | inl e ↦ (let there : slice_get bits n ≡ Some b = ap (slice_get bits) e ∙ here in
        let same : b ≡ c = cc in
        eq-eqb n k e ∙ sym (subst (λ w. same_bit b w ≡ true) same (same_refl b)))
    | inr d ↦ ne_eqb n k d ∙ sym (is_false (same_bit b c) (λ t. d (one_place bit_cmp bit_tied bits n k b rising (h ∙ ap (λ w. Some w) (sym (same_is b c t))) here)))
  ]

  bit_row : (numbers : List ℕ) (pairs : List MuxBit) → map (slice_get bits) numbers ≡ map (λ p. Some p.bit) pairs
      → row_of (λ (n : ℕ). n) numbers (map (λ p. p.mux) pairs) k ≡ muxes_at pairs b
  bit_row [] [] h = refl
  bit_row [] (p ∷ pairs) h = absurd (let no : ⊥ = cc in no)
  bit_row (n ∷ numbers) [] h = absurd (let no : ⊥ = cc in no)
  bit_row (n ∷ numbers) (p ∷ pairs) h =
      let first : slice_get bits n ≡ Some p.bit = cc in
      let others : map (slice_get bits) numbers ≡ map (λ p. Some p.bit) pairs = cc in
      go (n == k) (bit_row numbers pairs others) ∙ (λ j. map (λ (q : MuxBit). q.mux) (cond (same_test n p.bit first j) (p ∷ rest) rest))
    where
      beside : List (ℕ × ℕ)
      beside = filter (λ (q : ℕ × ℕ). q.0 == k) (zip numbers (map (λ (p : MuxBit). p.mux) pairs))

      rest : List MuxBit
      rest = filter (λ (q : MuxBit). same_bit b q.bit) pairs

      go : (t : Bool) → map (λ (q : ℕ × ℕ). q.1) beside ≡ map (λ (q : MuxBit). q.mux) rest
          → map (λ (q : ℕ × ℕ). q.1) (cond t ((n, p.mux) ∷ beside) beside) ≡ map (λ (q : MuxBit). q.mux) (cond t (p ∷ rest) rest)
      go true e = ap (λ r. p.mux ∷ r) e
      go false e = e

pub bit_rows : (bits : List DeviceBit) (numbers : List ℕ) (pairs : List MuxBit) → AreNumbered pairs bits numbers
    → grouped (λ (n : ℕ). n) (length bits) numbers (map (λ p. p.mux) pairs) ≡ map (muxes_at pairs) bits
bit_rows bits numbers pairs are =
    let row : ℕ → List ℕ = row_of (λ (n : ℕ). n) numbers (map (λ p. p.mux) pairs) in
    sym (fill_by_all row (map (muxes_at pairs) bits) (length bits) [] (length-map bits (muxes_at pairs))
    (λ k below. let found = there_is bits k below in or_map (muxes_at pairs) bits k found.0 [] found.1 ∙ sym (bit_row bits are.rising k found.0 found.1 numbers pairs are.numbered)))

-- each number is below the number of bits
pub numbers_known : (bits : List DeviceBit) (numbers : List ℕ) (pairs : List MuxBit) → AreNumbered pairs bits numbers → (k d : ℕ) → k < length numbers → get_or numbers k d < length bits
numbers_known bits numbers pairs are k d within =
    let n = get_or numbers k d in
    let there = get_in numbers k n (slice_get-get_or numbers k d within) in
    let named : In (map (λ (p : MuxBit). Some p.bit) pairs) (slice_get bits n) = subst (λ os. In os (slice_get bits n)) are.numbered (in_map (slice_get bits) numbers n there) in
    let found = of_map (λ (p : MuxBit). Some p.bit) pairs (slice_get bits n) named in
    get_below bits n found.0.bit (sym found.1.1)

-- ---- both hold the same pairs

module _ (count : ℕ) (pairs sorted : List MuxBit) (known : (p : MuxBit) → In pairs p → p.mux < count) (are : InOrderOnce bit_first pairs sorted) where
  abbrev rows : List (List DeviceBit)
  rows = bits_by_mux count pairs

  abbrev row : ℕ → List DeviceBit
  row m = map (λ p. p.bit) (filter (λ p. p.mux == m) pairs)

  -- the bit of a pair stands in the row of its mux
  in_row : (p : MuxBit) → In pairs p → In (row p.mux) p.bit
  in_row p i = in_map (λ (q : MuxBit). q.bit) (filter (λ q. q.mux == p.mux) pairs) p (in_filter_to (λ (q : MuxBit). q.mux == p.mux) pairs p i (eq-eqb p.mux p.mux refl))

  -- and what stands in a row is of a pair
  of_row : (m : ℕ) (b : DeviceBit) → In (row m) b → (p : MuxBit) × (In pairs p × ((p.mux ≡ m) × (p.bit ≡ b)))
  of_row m b i =
      let found = of_map (λ (q : MuxBit). q.bit) (filter (λ q. q.mux == m) pairs) b i in
      let passes = in_filter_from (λ (q : MuxBit). q.mux == m) pairs found.0 found.1.0 in
      (found.0, (passes.0, (eqb-true found.0.mux m passes.1, found.1.1)))

  module _ (b : DeviceBit) where
    left_from : (m : ℕ) → In (muxes_at sorted b) m → In (muxes_with rows b) m
    left_from m i =
        let found = of_map (λ (q : MuxBit). q.mux) (filter (λ q. same_bit b q.bit) sorted) m i in
        let p = found.0 in
        let passes = in_filter_from (λ (q : MuxBit). same_bit b q.bit) sorted p found.1.0 in
        let there = (are.members p).0 passes.0 in
        let has : In (row p.mux) b = subst (In (row p.mux)) (sym (same_is b p.bit passes.1)) (in_row p there) in
        subst (In (muxes_with rows b)) found.1.1
        (place_to (λ (r : List DeviceBit). bits_of_list r b) rows p.mux (row p.mux) (get_row row count p.mux (known p there)) (listed_to (row p.mux) b has))

    left_to : (m : ℕ) → In (muxes_with rows b) m → In (muxes_at sorted b) m
    left_to m i =
        let found = place_from (λ (r : List DeviceBit). bits_of_list r b) rows m i in
        let long = length-map-range_with_len row 0 count in
        let within = get_below rows m found.0 found.1.0 in
        let at : slice_get rows m ≡ Some (row m) = get_row row count m (omega arith) in
        let at' : slice_get rows m ≡ Some found.0 = found.1.0 in
        let same : found.0 ≡ row m = cc in
        let pair = of_row m b (subst (λ r. In r b) same (listed_from found.0 b found.1.1)) in
        let p = pair.0 in
        let test : same_bit b p.bit ≡ true = subst (λ w. same_bit b w ≡ true) (sym pair.1.1.1) (same_refl b) in
        subst (In (muxes_at sorted b)) pair.1.1.0
        (in_map (λ (q : MuxBit). q.mux) (filter (λ q. same_bit b q.bit) sorted) p (in_filter_to (λ (q : MuxBit). same_bit b q.bit) sorted p ((are.members p).1 pair.1.0) test))

    left_rises : IsRising nat_cmp (muxes_at sorted b)
    left_rises = rising_map_filter bit_first nat_cmp (λ (q : MuxBit). same_bit b q.bit) (λ (q : MuxBit). q.mux)
        (λ x y here there less.
        let same : x.bit ≡ y.bit = sym (same_is b x.bit here) ∙ same_is b y.bit there in
        let ties = subst (λ w. bit_cmp x.bit w ≡ Equal) same (bit_tied x.bit) in
        first_less (nat_cmp x.mux y.mux) (bit_cmp x.bit y.bit) ties
        (second_less (bit_cmp x.bit y.bit) (ordering_then (nat_cmp x.mux y.mux) (bit_cmp x.bit y.bit)) ties less))
        sorted are.rising

    pub muxes_same : muxes_at sorted b ≡ muxes_with rows b
    muxes_same = determined nat_cmp nat_cmp_total (muxes_at sorted b) (muxes_with rows b) left_rises (places_rise (λ (r : List DeviceBit). bits_of_list r b) rows) left_from left_to

  -- the numbered bits are those of all rows
  pub all_bits : (bits : List DeviceBit) (numbers : List ℕ) → AreNumbered sorted bits numbers → InOrderOnce bit_cmp (flat_map (λ r. r) rows) bits
  all_bits bits numbers is = record { rising = is.rising; members = λ b. (to b, from b) }
    where
      to : (b : DeviceBit) → In bits b → In (flat_map (λ r. r) rows) b
      to b i =
          let found = of_map (λ (q : MuxBit). q.bit) sorted b (is.named b i) in
          let p = found.0 in
          let there = (are.members p).0 found.1.0 in
          in_flat_map (λ (r : List DeviceBit). r) rows (row p.mux) b
          (in_map row (range_with_len 0 count) p.mux (range_to 0 count p.mux (omega arith) (let below = known p there in omega arith)))
          (subst (In (row p.mux)) found.1.1 (in_row p there))

      from : (b : DeviceBit) → In (flat_map (λ r. r) rows) b → In bits b
      from b i =
          let found = of_flat_map (λ (r : List DeviceBit). r) rows b i in
          let at = of_map row (range_with_len 0 count) found.0 found.1.0 in
          let pair = of_row at.0 b (subst (λ r. In r b) (sym at.1.1) found.1.1) in
          let p = pair.0 in
          let named : In (map (λ (q : MuxBit). Some q.bit) sorted) (Some p.bit) = in_map (λ (q : MuxBit). Some q.bit) sorted p ((are.members p).1 pair.1.0) in
          let number = of_map (slice_get bits) numbers (Some p.bit) (subst (λ os. In os (Some p.bit)) (sym is.numbered) named) in
          subst (In bits) pair.1.1.1 (get_in bits number.0 p.bit number.1.1)
