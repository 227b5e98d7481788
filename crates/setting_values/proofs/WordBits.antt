-- The bits of a word, from the highest down.
use Rattle.std.proofs.Common.{◌≡◌, ℕ, suc, zero, ◌+◌, ◌*◌, ◌^◌, ◌<◌, ◌≤◌, Bool, true, false, List, [], ◌∷◌, ◌++◌, length, map, get_or, drop, length-drop, flat_map, reverse, sym, ap, ◌∙◌, arith}
use Rattle.std.specs.Prelude.{codes, if◌then◌else◌}
use Rattle.std.proofs.lemmas.Grind.{flat_map-append}
use Rattle.std.proofs.lemmas.List.{append-nil, length-map, reverse-append}
use Rattle.circuit.specs.Worlds.{address}
use Rattle.cells.specs.Readings.{digits_of}

-- the address of few bits is small
address_below : (bits : List Bool) (n : ℕ) → length bits ≤ n → address bits < 2 ^ n
address_below [] zero l = omega arith
address_below [] (suc n) l = let h = address_below [] n (let k : 0 ≤ n = omega arith in k) in grind arith
address_below (b ∷ bs) zero l = absurd (let no : ⊥ = omega arith in no)
address_below (b ∷ bs) (suc n) l = go b (address_below bs n (let k : length bs ≤ n = omega arith in k))
  where
    go : (b : Bool) → address bs < 2 ^ n → ((if b then 1 else 0) + 2 * address bs) < 2 ^ suc n
    go true h = grind arith
    go false h = grind arith

pub number_small : {X : Type 0} (test : X → Bool) (xs : List X) (left : ℕ) → length xs ≤ 16 → 0 < left → address (map test (drop left xs)) < 32768
number_small test xs left l p = address_below (map test (drop left xs)) 15 (simp (length-map, length-drop) (omega arith))

lowest_last : (b : Bool) (bs : List Bool) → digits_of (b ∷ bs) ≡ digits_of bs ++ (if b then codes "1" else codes "0")
lowest_last b bs =
    ap (flat_map (λ c. if c then codes "1" else codes "0")) (reverse-append (b ∷ []) bs)
    ∙ (flat_map-append (λ c. if c then codes "1" else codes "0") (reverse bs) (b ∷ []) ∙ ap (λ ds. digits_of bs ++ ds) (append-nil (if b then codes "1" else codes "0")))

module _ {X : Type 0} (test : X → Bool) where
  -- one digit more behind the others
  pub one_digit : (xs : List X) (i : ℕ) (x : X) → i < length xs → x ≡ get_or xs i x
      → digits_of (map test (drop i xs)) ≡ digits_of (map test (drop (suc i) xs)) ++ (if test x then codes "1" else codes "0")
  one_digit [] i x l e = absurd (let no : ⊥ = omega arith in no)
  one_digit (y ∷ ys) zero x l e = lowest_last (test y) (map test ys) ∙ ap (λ z. digits_of (map test ys) ++ (if test z then codes "1" else codes "0")) (sym e)
  one_digit (y ∷ ys) (suc i) x l e = one_digit ys i x (let k : i < length ys = omega arith in k) e

  -- one bit more below the others
  pub one_bit : (xs : List X) (i : ℕ) (x : X) → i < length xs → x ≡ get_or xs i x
      → address (map test (drop i xs)) ≡ (if test x then 1 else 0) + 2 * address (map test (drop (suc i) xs))
  one_bit [] i x l e = absurd (let no : ⊥ = omega arith in no)
  one_bit (y ∷ ys) zero x l e = ap (λ z. (if test z then 1 else 0) + 2 * address (map test ys)) (sym e)
  one_bit (y ∷ ys) (suc i) x l e = one_bit ys i x (let k : i < length ys = omega arith in k) e
