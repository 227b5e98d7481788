-- Pieces of a text that is put together from pieces and separators.
use Rattle.std.proofs.Common.{◌≡◌, ℕ, suc, ◌+◌, List, [], ◌∷◌, ◌++◌, length, take, drop, get_or, Bool, true, false, cond, not, ◌&&◌, refl, sym, ap, ◌∙◌, arith, inl, inr}
use Rattle.std.proofs.lemmas.Bool.{cases_lt}
use Rattle.std.proofs.lemmas.List.{take-append-drop, drop_more, drop_all}
use Rattle.std.proofs.lemmas.List.Folds.{list_all-append}
use Rattle.std.proofs.lemmas.List.Sums.{passes_at_first}
use Rattle.std.specs.List.{list_all, position_or_len, before_first}
use Rattle.texts.specs.Pieces.{put_front, pieces}

pub both_left : (s t : Bool) → (s && t) ≡ true → s ≡ true
both_left true t h = refl
both_left false t h = absurd (let no : ⊥ = cc in no)

pub both_right : (s t : Bool) → (s && t) ≡ true → t ≡ true
both_right true t h = h
both_right false t h = absurd (let no : ⊥ = cc in no)

pub both : (s t : Bool) → s ≡ true → t ≡ true → (s && t) ≡ true
both true t h k = k
both false t h k = absurd (let no : ⊥ = cc in no)

pub not_true : (t : Bool) → not t ≡ true → t ≡ false
not_true true h = absurd (let no : ⊥ = cc in no)
not_true false h = refl

-- what holds of each byte holds of each of the first
pub list_all-take : (q : ℕ → Bool) (n : ℕ) (xs : List ℕ) → list_all q xs ≡ true → list_all q (take n xs) ≡ true
list_all-take q n xs h =
    both_left (list_all q (take n xs)) (list_all q (drop n xs)) (sym (list_all-append q (take n xs) (drop n xs)) ∙ (ap (list_all q) (take-append-drop n xs) ∙ h))

module _ (p : ℕ → Bool) where
  abbrev fails : ℕ → Bool
  fails b = not (p b)

  before_at : (b : ℕ) (bs : List ℕ) (t : Bool) → p b ≡ t → list_all fails (before_first p bs) ≡ true
      → list_all fails (take (cond (not t) (1 + position_or_len p bs) 0) (b ∷ bs)) ≡ true
  before_at b bs true is later = refl
  before_at b bs false is later =
      let ahead : 1 + position_or_len p bs ≡ suc (position_or_len p bs) = omega arith in
      rw ahead (both (fails b) _ (ap not is) later)

  -- before the first separator stands none
  pub list_all-before_first : (xs : List ℕ) → list_all fails (before_first p xs) ≡ true
  list_all-before_first [] = refl
  list_all-before_first (b ∷ bs) = before_at b bs (p b) refl (list_all-before_first bs)

  -- and behind that stands a separator or nothing
  pub stops_at_first : (xs : List ℕ) → list_all p (take 1 (drop (position_or_len p xs) xs)) ≡ true
  stops_at_first xs =
      let n = position_or_len p xs in
      elim (cases_lt n (length xs)) [
        | inl within ↦ rw (drop_more xs n 0 within) (both (p (get_or xs n 0)) true (passes_at_first p xs 0 within) refl)
        | inr past ↦ rw (drop_all n xs past) refl
      ]

  none_before : (after : List ℕ) → list_all p (take 1 after) ≡ true → position_or_len p after ≡ 0
  none_before [] h = refl
  none_before (b ∷ bs) h = rw (both_left (p b) true h) refl

  -- a piece, and a separator behind it or nothing
  pub position_or_len-append : (piece after : List ℕ) → list_all fails piece ≡ true → list_all p (take 1 after) ≡ true → position_or_len p (piece ++ after) ≡ length piece
  position_or_len-append [] after none ends = none_before after ends
  position_or_len-append (b ∷ bs) after none ends =
      let first : p b ≡ false = not_true (p b) (both_left (fails b) (list_all fails bs) none) in
      let later : position_or_len p (bs ++ after) ≡ length bs = position_or_len-append bs after (both_right (fails b) (list_all fails bs) none) ends in
      rw (first, later) (omega arith)

  -- a piece, a separator and more text
  pub pieces-append : (piece : List ℕ) (c : ℕ) (after : List ℕ) → list_all fails piece ≡ true → p c ≡ true → pieces p (piece ++ c ∷ after) ≡ piece ∷ pieces p after
  pieces-append [] c after none separates = rw separates refl
  pieces-append (b ∷ bs) c after none separates =
      let first : p b ≡ false = not_true (p b) (both_left (fails b) (list_all fails bs) none) in
      rw first (ap (put_front b) (pieces-append bs c after (both_right (fails b) (list_all fails bs) none) separates))

  -- a piece alone
  pub pieces_alone : (b : ℕ) (bs : List ℕ) → list_all fails (b ∷ bs) ≡ true → pieces p (b ∷ bs) ≡ (b ∷ bs) ∷ []
  pieces_alone b [] none =
      let first : p b ≡ false = not_true (p b) (both_left (fails b) true none) in
      rw first refl
  pieces_alone b (c ∷ cs) none =
      let first : p b ≡ false = not_true (p b) (both_left (fails b) (list_all fails (c ∷ cs)) none) in
      rw first (ap (put_front b) (pieces_alone c cs (both_right (fails b) (list_all fails (c ∷ cs)) none)))
