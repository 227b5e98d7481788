-- The first piece of a text, by the place of its first separator, and the first line.
use Rattle.std.proofs.Common.{◌≡◌, ℕ, suc, ◌+◌, ◌<◌, List, [], ◌∷◌, length, take, drop, Bool, true, false, cond, not, min, refl, ap, arith, length-drop}
use Rattle.std.proofs.lemmas.List.{length-take-le, drop_min}
use Rattle.std.proofs.lemmas.List.Sums.{prefix_len-le-length}
use Rattle.std.specs.List.{position_or_len, before_first, after_first}
use Rattle.texts.specs.Pieces.{put_front, pieces, placed}
use Rattle.texts.specs.Lines.{Line, is_line_feed, without_return, last_number, numbered_lines}

one_more : (n : ℕ) → 1 + n ≡ suc n
one_more n = omega arith

put_front_is : (b : ℕ) (bs : List ℕ) (n : ℕ) (rest : List ℕ → List (List ℕ)) (ps : List (List ℕ)) → ps ≡ take n bs ∷ rest (drop (n + 1) bs)
    → put_front b ps ≡ take (1 + n) (b ∷ bs) ∷ rest (drop (1 + n + 1) (b ∷ bs))
put_front_is b bs n rest ps is =
    let ahead : 1 + n + 1 ≡ suc (n + 1) = omega arith in
    rw (is, ahead, one_more) refl

-- the first piece is what stands before the first separator, and the others are the pieces of what stands after it
module _ (p : ℕ → Bool) where
  first_at : (b : ℕ) (bs : List ℕ) (t : Bool)
      → ((c : ℕ) (cs : List ℕ) → bs ≡ c ∷ cs → pieces p bs ≡ before_first p bs ∷ pieces p (after_first p bs))
      → cond t ([] ∷ pieces p bs) (put_front b (pieces p bs))
      ≡ take (cond (not t) (1 + position_or_len p bs) 0) (b ∷ bs) ∷ pieces p (drop (cond (not t) (1 + position_or_len p bs) 0 + 1) (b ∷ bs))
  first_at b bs true later = refl
  first_at b [] false later = refl
  first_at b (c ∷ cs) false later = put_front_is b (c ∷ cs) (position_or_len p (c ∷ cs)) (pieces p) _ (later c cs refl)

  pub pieces_first : (b : ℕ) (bs : List ℕ) → pieces p (b ∷ bs) ≡ before_first p (b ∷ bs) ∷ pieces p (after_first p (b ∷ bs))
  pieces_first b [] = first_at b [] (p b) (λ c cs e. absurd (let no : ⊥ = cc in no))
  pieces_first b (d ∷ ds) = first_at b (d ∷ ds) (p b) (λ c cs e. pieces_first d ds)

  -- the length of the first piece
  pub length_first : (xs : List ℕ) → length (before_first p xs) ≡ position_or_len p xs
  length_first xs = length-take-le (position_or_len p xs) xs (prefix_len-le-length (λ x. not (p x)) xs)

  -- where no byte is left, the place doesn't matter
  placed_same : (a b : ℕ) (xs : List ℕ) → (0 < length xs → a ≡ b) → placed a (pieces p xs) ≡ placed b (pieces p xs)
  placed_same a b [] same = refl
  placed_same a b (x ∷ xs) same = ap (λ start. placed start (pieces p (x ∷ xs))) (same (omega arith))

  -- the first piece with its place, and the others behind its separator, if one stands there
  pub placed_first : (start : ℕ) (b : ℕ) (bs : List ℕ) (after : ℕ) → after ≡ min (position_or_len p (b ∷ bs) + 1) (length (b ∷ bs))
      → placed start (pieces p (b ∷ bs)) ≡ record { start = start; text = before_first p (b ∷ bs) } ∷ placed (start + after) (pieces p (drop after (b ∷ bs)))
  placed_first start b bs after is =
      let n = position_or_len p (b ∷ bs) in
      let xs : List ℕ = b ∷ bs in
      let tail : placed (start + n + 1) (pieces p (drop (n + 1) xs)) ≡ placed (start + min (n + 1) (length xs)) (pieces p (drop (n + 1) xs)) =
      placed_same (start + n + 1) (start + min (n + 1) (length xs)) (drop (n + 1) xs) (λ some. omega (arith, length-drop (n + 1) xs)) in
      rw (pieces_first b bs, is, drop_min, length_first (b ∷ bs)) (ap (λ rest. record { start = start; text = before_first p xs } ∷ rest) tail)

-- the lines of a text that begins at a place, numbered from a number on
abbrev pub lines_from : ℕ → ℕ → List ℕ → List Line
lines_from number start xs = numbered_lines number (placed start (pieces is_line_feed xs))

-- the first of them, and the others
pub line_first : (number next start after : ℕ) (xs text rest : List ℕ) → (length xs ≡ 0 → ⊥) → text ≡ without_return (before_first is_line_feed xs)
    → after ≡ min (position_or_len is_line_feed xs + 1) (length xs) → rest ≡ drop after xs → next ≡ min (number + 1) last_number
    → lines_from number start xs ≡ record { number = number; start = start; text = text } ∷ lines_from next (start + after) rest
line_first number next start after [] text rest some text_is after_is rest_is next_is = absurd (some refl)
line_first number next start after (b ∷ bs) text rest some text_is after_is rest_is next_is =
    rw (text_is, rest_is, next_is) (ap (numbered_lines number) (placed_first is_line_feed start b bs after after_is))
