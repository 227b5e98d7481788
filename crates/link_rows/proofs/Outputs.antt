-- Rows of cell outputs.
use Rattle.std.proofs.Common.{◌≡◌, ℕ, zero, suc, ◌+◌, ◌<◌, ◌≤◌, Bool, true, false, eqb, List, [], ◌∷◌, map, filter, length, get_or, nat_eq, nat_cmp, Some, refl, sym, ap, subst, ◌∙◌, inl, inr, arith}
use Rattle.std.specs.Prelude.{◌==◌, ◌↔◌, IsTrue, slice_get, flat_map}
use Rattle.std.specs.List.{All, range_with_len, count_by}
use Rattle.std.proofs.lemmas.Bool.{cases_lt, eqb-true, eq-eqb, lt-ltb}
use Rattle.std.proofs.lemmas.List.{map-id, get_or_past}
use Rattle.std.proofs.lemmas.List.Sums.{length-filter}
use Rattle.std.proofs.lemmas.Option.{slice_get-get_or}
use Rattle.std.proofs.lemmas.List.FromFn.{get_or-map-range_with_len}
use Rattle.words.specs.Members.{In}
use Rattle.fabric.specs.InOrder.{InOrderOnce, IsRising}
use Rattle.fabric_laws.proofs.Members.{in_filter_from, in_filter_to}
use Rattle.grouped.specs.Rows.{grouped}
use Rattle.grouped_laws.proofs.Stable.{from_all, from_are, rising_both, rows_same}
use Rattle.place_rows.proofs.RowsBy as rows_by
use Rattle.link_rows.specs.Kept.{AreBelow, AreOutputRows, IsFirstTwice, OutputTable}
use Rattle.link_rows.proofs.Ends.{long}

pub keys_known : (wires : ℕ) (outputs : List ℕ) → AreBelow wires outputs → All (λ key. key < wires) outputs
keys_known wires outputs below = subst (λ ks. All (λ key. key < wires) ks) (map-id outputs) (rows_by.keys_known (λ (k : ℕ). k) wires outputs below)

same_test : (a b : ℕ) → eqb a b ≡ eqb b a
same_test a b = go (eqb a b) (eqb b a) refl refl
  where
    go : (s t : Bool) → eqb a b ≡ s → eqb b a ≡ t → s ≡ t
    go true true e d = refl
    go false false e d = refl
    go true false e d = sym (eq-eqb b a (sym (eqb-true a b e))) ∙ d
    go false true e d = sym e ∙ eq-eqb a b (sym (eqb-true b a d))

short_rises : (xs : List ℕ) → length xs < 2 → IsRising nat_cmp xs
short_rises [] short = tt
short_rises (x ∷ []) short = ((λ y i. absurd i), tt)
short_rises (x ∷ y ∷ ys) short = absurd (omega arith)

no_length : (xs : List ℕ) → ((x : ℕ) → In xs x → ⊥) → length xs ≡ 0
no_length [] none = refl
no_length (x ∷ xs) none = absurd (none x (inl refl))

module _ (xs : List ℕ) where
  -- the row of a wire
  abbrev row : ℕ → List ℕ
  row k = filter (λ x. x == k) xs

  in_row : (k x : ℕ) → In (row k) x → In xs x × (x ≡ k)
  in_row k x i = let found = in_filter_from (λ y. y == k) xs x i in (found.0, eqb-true x k found.1)

  count_is : (k : ℕ) → count_by (nat_eq k) xs ≡ length (row k)
  count_is k = sym (length-filter (nat_eq k) xs) ∙ (λ i. length (filter (λ x. same_test k x i) xs))

  abbrev from : ℕ → ℕ → List ℕ
  from a n = flat_map (λ r. r) (map row (range_with_len a n))

  from_rises : (a n : ℕ) → ((k : ℕ) → a ≤ k → k < a + n → length (row k) < 2) → IsRising nat_cmp (from a n)
  from_rises a zero short = tt
  from_rises a (suc n) short =
      rising_both nat_cmp (row a) (from (a + 1) n) (short_rises (row a) (short a (omega arith) (omega arith)))
      (from_rises (a + 1) n (λ k low high. short k (omega arith) (omega arith)))
      (λ x y i j. let here = (in_row a x i).1 in let later = (from_are (λ (k : ℕ). k) xs (a + 1) n y j).1.0 in let l : x < y = omega arith in rw (lt-ltb x y l) refl)

  module _ (wires : ℕ) (rows : List (List ℕ)) (are : rows ≡ grouped (λ (k : ℕ). k) wires xs xs) (below : AreBelow wires xs) where
    rows_are : rows ≡ map row (range_with_len 0 wires)
    rows_are = are ∙ rows_same (λ (k : ℕ). k) (λ (k : ℕ). k) xs xs refl wires

    flat_are : flat_map (λ r. r) rows ≡ from 0 wires
    flat_are = ap (flat_map (λ r. r)) rows_are

    count : length rows ≡ wires
    count = ap length are ∙ long wires xs xs

    at : (w : ℕ) → w < wires → get_or rows w [] ≡ row w
    at w l = ap (λ rs. get_or rs w []) rows_are ∙ get_or-map-range_with_len row 0 wires w w [] l (omega arith)

    at_get : (w : ℕ) → w < wires → slice_get rows w ≡ Some (row w)
    at_get w l = slice_get-get_or rows w [] (let c = count in omega arith) ∙ ap (λ r. Some r) (at w l)

    flat_has : (x : ℕ) → In xs x → In (flat_map (λ r. r) rows) x
    flat_has x i = let l = below x i in subst (λ zs. In zs x) (sym flat_are) (from_all (λ (k : ℕ). k) xs 0 wires x i (omega arith) (omega arith))

    has_flat : (x : ℕ) → In (flat_map (λ r. r) rows) x → In xs x
    has_flat x i = (from_are (λ (k : ℕ). k) xs 0 wires x (subst (λ zs. In zs x) flat_are i)).0

    pub output_rows : AreOutputRows rows
    output_rows = record {
      own = λ w x i. elim (cases_lt w wires) [
        | inl l ↦ (let found = in_row w x (subst (λ zs. In zs x) (at w l) i) in (found.1, subst (In (flat_map (λ r. r) rows)) found.1 (flat_has x found.0)))
        | inr past ↦ absurd (subst (λ zs. In zs x) (get_or_past rows w [] (let c = count in omega arith)) i)
      ];
      all = λ w i. (let there = has_flat w i in let l = below w there in
          subst (λ zs. In zs w) (sym (at w l)) (in_filter_to (λ y. y == w) xs w there (eq-eqb w w refl)));
    }

    -- where no row holds more than one, all are in order
    pub in_order : ((k : ℕ) → k < wires → (r : List ℕ) → slice_get rows k ≡ Some r → length r < 2) → InOrderOnce nat_cmp xs (flat_map (λ r. r) rows)
    in_order short = record {
      rising = subst (IsRising nat_cmp) (sym flat_are) (from_rises 0 wires (λ k low high. short k (omega arith) (row k) (at_get k (omega arith))));
      members = λ x. (has_flat x, flat_has x);
    }

    pub counted_once : ((k : ℕ) → k < wires → (r : List ℕ) → slice_get rows k ≡ Some r → length r < 2) → (w : ℕ) → count_by (nat_eq w) xs < 2
    counted_once short w = elim (cases_lt w wires) [
      | inl l ↦ (let few = short w l (row w) (at_get w l) in let c = count_is w in omega arith)
      | inr past ↦ (let none = no_length (row w) (λ x i. let found = in_row w x i in let e = found.1 in let b = below x found.0 in let no : ⊥ = omega arith in no) in let c = count_is w in omega arith)
    ]

    pub first_twice : (w : ℕ) → w < wires → ((r : List ℕ) → slice_get rows w ≡ Some r → 2 ≤ length r)
        → ((k : ℕ) → k < w → (r : List ℕ) → slice_get rows k ≡ Some r → length r < 2) → IsFirstTwice xs w
    first_twice w l two first = record {
      twice = (let t = two (row w) (at_get w l) in let c = count_is w in omega arith);
      first = λ k lower. (let b : k < wires = omega arith in let f = first k lower (row k) (at_get k b) in let c = count_is k in omega arith);
    }

    pub count_of_rows : length rows ≡ wires
    count_of_rows = count

got : (xs : List (List ℕ)) (n : ℕ) (x : List ℕ) → slice_get xs n ≡ Some x → get_or xs n [] ≡ x
got [] n x h = absurd (let no : ⊥ = cc in no)
got (y ∷ ys) zero x h = cc
got (y ∷ ys) (suc n) x h = got ys n x h

-- a wire is an output exactly where its row isn't empty
pub shown : (t : OutputTable) (rows : List (List ℕ)) (w : ℕ) (r : List ℕ) (b : Bool) → AreOutputRows rows
    → (let made : OutputTable = record { wires = length rows; outputs = flat_map (λ x. x) rows } in made) ≡ t
    → Some r ≡ slice_get rows w → (IsTrue b ↔ (0 < length r)) → (IsTrue b ↔ In t.outputs w)
shown t rows w r b are is there long =
    subst (λ (x : OutputTable). IsTrue b ↔ In x.outputs w) is ((λ e. first r row_is (long.0 e)), (λ i. long.1 (full r row_is (are.all w i))))
  where
    row_is : get_or rows w [] ≡ r
    row_is = got rows w r (sym there)

    first : (xs : List ℕ) → get_or rows w [] ≡ xs → 0 < length xs → In (flat_map (λ x. x) rows) w
    first [] e l = absurd (omega arith)
    first (x ∷ xs) e l = (are.own w x (subst (λ zs. In zs x) (sym e) (inl refl))).1

    full : (xs : List ℕ) → get_or rows w [] ≡ xs → In (get_or rows w []) w → 0 < length xs
    full [] e i = absurd (subst (λ zs. In zs w) e i)
    full (x ∷ xs) e i = omega arith
