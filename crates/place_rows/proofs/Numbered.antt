-- Places beside their keys.
use Rattle.std.proofs.Common.{◌≡◌, ℕ, ◌+◌, Bool, true, false, cond, List, [], ◌∷◌, map, filter, length, refl, ap}
use Rattle.std.specs.Prelude.{◌==◌}
use Rattle.std.specs.List.{range_with_len, enumerate_from, zip}
use Rattle.grouped.specs.Rows.{grouped}
use Rattle.place_rows.specs.PlaceRows.{place_rows}

module _ {K P : Type 0} (number : K → ℕ) (id : ℕ → P) where
  -- the numbers of the keys beside them, from a start on
  row_from : (k n : ℕ) (keys : List K)
      → map (λ (p : K × P). p.1) (filter (λ (p : K × P). number p.0 == k) (zip keys (map id (range_with_len n (length keys)))))
      ≡ map id (map (λ (e : ℕ × K). e.0) (filter (λ (e : ℕ × K). number e.1 == k) (enumerate_from n keys)))
  row_from k n [] = refl
  row_from k n (key ∷ keys) = go (number key == k) (row_from k (n + 1) keys)
    where
      beside : List (K × P)
      beside = filter (λ (p : K × P). number p.0 == k) (zip keys (map id (range_with_len (n + 1) (length keys))))

      behind : List (ℕ × K)
      behind = filter (λ (e : ℕ × K). number e.1 == k) (enumerate_from (n + 1) keys)

      go : (b : Bool) → map (λ (p : K × P). p.1) beside ≡ map id (map (λ (e : ℕ × K). e.0) behind)
          → map (λ (p : K × P). p.1) (cond b ((key, id n) ∷ beside) beside) ≡ map id (map (λ (e : ℕ × K). e.0) (cond b ((n, key) ∷ behind) behind))
      go true e = ap (λ r. id n ∷ r) e
      go false e = e

  -- places beside their keys are grouped in the rows of places
  pub rows_are_places : (count : ℕ) (keys : List K) → grouped number count keys (map id (range_with_len 0 (length keys))) ≡ place_rows number id count keys
  rows_are_places count keys = λ j. map (λ k. row_from k 0 keys j) (range_with_len 0 count)
