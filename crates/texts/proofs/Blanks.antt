-- The first piece that has bytes, behind the separators in front of it.
use Rattle.std.proofs.Common.{◌≡◌, ℕ, suc, ◌+◌, ◌<◌, List, [], ◌∷◌, length, take, drop, get_or, Bool, true, false, cond, not, refl, sym, ap, ◌∙◌, arith, filter, inl, inr, length-drop, add-zero}
use Rattle.std.proofs.lemmas.List.{drop_more, drop_all, get_or-drop}
use Rattle.std.proofs.lemmas.List.Sums.{passes_at_first}
use Rattle.std.proofs.lemmas.Bool.{cases_lt}
use Rattle.std.specs.List.{position_or_len, before_first, after_first}
use Rattle.texts.specs.Pieces.{Span, pieces, placed}
use Rattle.texts.specs.Words.{has_bytes}
use Rattle.texts.proofs.Joined.{not_true}
use Rattle.texts.proofs.FirstPiece.{pieces_first, length_first}

module _ (p : ℕ → Bool) where
  -- the pieces with bytes of a text that begins at a place
  abbrev pub full_pieces : ℕ → List ℕ → List Span
  full_pieces start xs = filter has_bytes (placed start (pieces p xs))

  -- a separator in front goes
  pub skip_one : (start b : ℕ) (bs : List ℕ) → p b ≡ true → full_pieces start (b ∷ bs) ≡ full_pieces (start + 1) bs
  skip_one start b bs separates =
      let same : start + 0 + 1 ≡ start + 1 = omega arith in
      rw (separates, same) refl

  abbrev fails : ℕ → Bool
  fails b = not (p b)

  skip_at : (start b : ℕ) (bs : List ℕ) (t : Bool) → p b ≡ t
      → ((from : ℕ) → full_pieces from bs ≡ full_pieces (from + position_or_len fails bs) (drop (position_or_len fails bs) bs))
      → full_pieces start (b ∷ bs) ≡ full_pieces (start + cond (not (not t)) (1 + position_or_len fails bs) 0) (drop (cond (not (not t)) (1 + position_or_len fails bs) 0) (b ∷ bs))
  skip_at start b bs false is later = let same : start + 0 ≡ start = omega arith in rw same refl
  skip_at start b bs true is later =
      let n = position_or_len fails bs in
      let ahead : 1 + n ≡ suc n = omega arith in
      let same : start + suc n ≡ start + 1 + n = omega arith in
      rw (ahead, same) (skip_one start b bs is ∙ later (start + 1))

  -- so do all separators in front
  pub skip_separators : (start : ℕ) (xs : List ℕ) → full_pieces start xs ≡ full_pieces (start + position_or_len fails xs) (drop (position_or_len fails xs) xs)
  skip_separators start [] = refl
  skip_separators start (b ∷ bs) = skip_at start b bs (p b) refl (λ from. skip_separators from bs)

  -- behind a piece it is the same to begin at its separator or after it
  behind : (start n : ℕ) (xs : List ℕ) → (n < length xs → p (get_or xs n 0) ≡ true) → full_pieces (start + n + 1) (drop (n + 1) xs) ≡ full_pieces (start + n) (drop n xs)
  behind start n xs stops = elim (cases_lt n (length xs)) [
    | inl within ↦ rw (drop_more xs n 0 within) (sym (skip_one (start + n) (get_or xs n 0) (drop (n + 1) xs) (stops within)))
    | inr past ↦ rw (drop_all n xs past, drop_all (n + 1) xs (omega arith)) refl
  ]

  kept : (start : ℕ) (text : List ℕ) (c : ℕ) (cs : List ℕ) (rest : List Span) → text ≡ c ∷ cs
      → filter has_bytes (record { start = start; text = text } ∷ rest) ≡ record { start = start; text = text } ∷ filter has_bytes rest
  kept start text c cs rest is = rw is refl

  pub before_is : (b : ℕ) (bs : List ℕ) → p b ≡ false → before_first p (b ∷ bs) ≡ b ∷ before_first p bs
  before_is b bs is =
      let ahead : 1 + position_or_len p bs ≡ suc (position_or_len p bs) = omega arith in
      rw (is, ahead) refl

  -- a piece with bytes, and what stands behind it
  pub piece_first : (start b : ℕ) (bs : List ℕ) → p b ≡ false → full_pieces start (b ∷ bs)
      ≡ record { start = start; text = before_first p (b ∷ bs) } ∷ full_pieces (start + position_or_len p (b ∷ bs)) (drop (position_or_len p (b ∷ bs)) (b ∷ bs))
  piece_first start b bs is =
      let xs : List ℕ = b ∷ bs in
      let n = position_or_len p xs in
      let rest = placed (start + length (before_first p xs) + 1) (pieces p (after_first p xs)) in
      let whole : full_pieces start xs ≡ filter has_bytes (record { start = start; text = before_first p xs } ∷ rest) =
      ap (λ ps. filter has_bytes (placed start ps)) (pieces_first p b bs) in
      let placed_at : filter has_bytes rest ≡ full_pieces (start + n + 1) (drop (n + 1) xs) =
      ap (λ m. full_pieces (start + m + 1) (drop (n + 1) xs)) (length_first p xs) in
      whole
      ∙ (kept start (before_first p xs) b (before_first p bs) rest (before_is b bs is)
      ∙ ap (λ spans. record { start = start; text = before_first p xs } ∷ spans) (placed_at ∙ behind start n xs (passes_at_first p xs 0)))

  -- what stands behind separators begins with none
  pub bare_front : (xs : List ℕ) (c : ℕ) (cs : List ℕ) → drop (position_or_len fails xs) xs ≡ c ∷ cs → p c ≡ false
  bare_front xs c cs is =
      let n = position_or_len fails xs in
      let within : n < length xs = omega (arith, length-drop n xs, ap length is) in
      let first : get_or xs (n + 0) 0 ≡ c = sym (get_or-drop n xs 0 0) ∙ ap (λ ys. get_or ys 0 0) is in
      let here : get_or xs n 0 ≡ c = rw (add-zero n) at first in
      not_true (p c) (ap fails (sym here) ∙ passes_at_first fails xs 0 within)

  -- The first piece with bytes: `skipped` separators stand in front, `from` is what stands behind them, `text`
  -- the n bytes there before the next separator, and `rest` what stands behind these.
  pub record IsFirstPiece (xs : List ℕ) (skipped : ℕ) (from : List ℕ) (n : ℕ) (text rest : List ℕ) : Type 0 where
    pub front : skipped ≡ position_or_len fails xs
    pub behind_front : from ≡ drop skipped xs
    pub size : n ≡ position_or_len p from
    pub piece : text ≡ take n from
    pub behind_piece : rest ≡ drop n from

  first_at : (start n : ℕ) (from text rest : List ℕ) → ((c : ℕ) (cs : List ℕ) → from ≡ c ∷ cs → p c ≡ false)
      → n ≡ position_or_len p from → text ≡ take n from → rest ≡ drop n from → (length text ≡ 0 → ⊥)
      → full_pieces start from ≡ record { start = start; text = text } ∷ full_pieces (start + n) rest
  first_at start n [] text rest bare size piece behind some = absurd (some (ap length (piece ∙ ap (λ m. take m []) size)))
  first_at start n (c ∷ cs) text rest bare size piece behind some = rw (behind, piece, size) (piece_first start c cs (bare c cs refl))

  none_at : (n : ℕ) (from : List ℕ) → ((c : ℕ) (cs : List ℕ) → from ≡ c ∷ cs → p c ≡ false) → n ≡ position_or_len p from → n ≡ 0 → from ≡ []
  none_at n [] bare size empty = refl
  none_at n (c ∷ cs) bare size empty = absurd (omega (arith, ap length (before_is c cs (bare c cs refl)), length_first p (c ∷ cs)))

  module _ (xs : List ℕ) (skipped : ℕ) (from : List ℕ) (n : ℕ) (text rest : List ℕ) (is : IsFirstPiece xs skipped from n text rest) where
    bare : (c : ℕ) (cs : List ℕ) → from ≡ c ∷ cs → p c ≡ false
    bare c cs e = bare_front xs c cs (ap (λ m. drop m xs) (sym is.front) ∙ (sym is.behind_front ∙ e))

    skipped_is : (start : ℕ) → full_pieces start xs ≡ full_pieces (start + skipped) from
    skipped_is start = rw (is.behind_front, is.front) (skip_separators start xs)

    size_is : length text ≡ n
    size_is = ap length is.piece ∙ (ap (λ m. length (take m from)) is.size ∙ (length_first p from ∙ sym is.size))

    pub first_piece : (start : ℕ) → (length text ≡ 0 → ⊥) → full_pieces start xs ≡ record { start = start + skipped; text = text } ∷ full_pieces (start + skipped + length text) rest
    first_piece start some = rw size_is (skipped_is start ∙ first_at (start + skipped) n from text rest bare is.size is.piece is.behind_piece some)

    -- where it has no bytes nothing is left
    pub no_piece : (start later : ℕ) → length text ≡ 0 → (full_pieces start xs ≡ []) × (full_pieces later rest ≡ [])
    no_piece start later empty =
        let zero_size : n ≡ 0 = sym size_is ∙ empty in
        let none : from ≡ [] = none_at n from bare is.size zero_size in (
          skipped_is start ∙ ap (full_pieces (start + skipped)) none,
          ap (full_pieces later) (is.behind_piece ∙ (ap (λ m. drop m from) zero_size ∙ none)),
        )
