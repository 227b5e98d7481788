-- Rows are opened.
use Rattle.std.proofs.Common.{◌≡◌, ℕ, zero, suc, ◌+◌, ◌-◌, ◌<◌, ◌≤◌, List, [], ◌∷◌, ◌++◌, map, length, get_or, set, take, drop, refl, sym, ap, ap₂, ◌∙◌, inl, inr, arith}
use Rattle.std.specs.Ordering.{nat_cmp}
use Rattle.std.proofs.lemmas.Bool.{cases_eq}
use Rattle.std.proofs.lemmas.List.{append-nil, append_assoc, drop_more, drop_all, ext_get_or, get_or-set_same, get_or-set_other, length-set, length-append, set-get_or, set-set, take_all, take_more, length-take-le}
use Rattle.std.specs.Prelude.{slice_get, Some}
use Rattle.std.proofs.lemmas.Option.{get_or_from_slice_get}
use Rattle.open_rows.specs.Rows.{HasRoom, Rows, pushed}
use Rattle.words.specs.Twice.{HasNoneTwice}
use Rattle.fabric.specs.InOrder.{IsRising}
use Rattle.wire_contests.proofs.Deciding.{less_from}
use Rattle.live_links.specs.Joined.{more_of}
use Rattle.live_links.specs.Opened.{rooms_of}

-- one more room is known
pub rooms_left : (rows : List (List ℕ)) (more : List ℕ) (k : ℕ) → k < length rows → k < length more
    → rooms_of (drop k rows) (drop k more) ≡ (length (get_or rows k []) + get_or more k 0) ∷ rooms_of (drop (k + 1) rows) (drop (k + 1) more)
rooms_left rows more k below within = ap₂ (λ (r : List (List ℕ)) (m : List ℕ). rooms_of r m) (drop_more rows k [] below) (drop_more more k 0 within)

pub rooms_all : (rows : List (List ℕ)) (more : List ℕ) (k : ℕ) → length rows ≤ k → rooms_of (drop k rows) (drop k more) ≡ []
rooms_all rows more k all = ap (λ (r : List (List ℕ)). rooms_of r (drop k more)) (drop_all k rows all)

pub room_at : (rows : List (List ℕ)) (more : List ℕ) (k : ℕ) → length more ≡ length rows → get_or (rooms_of rows more) k 0 ≡ length (get_or rows k []) + get_or more k 0
room_at [] [] k same = refl
room_at [] (m ∷ ms) k same = absurd (omega arith)
room_at (row ∷ rows) [] k same = absurd (omega arith)
room_at (row ∷ rows) (m ∷ ms) zero same = refl
room_at (row ∷ rows) (m ∷ ms) (suc k) same = room_at rows ms k (omega arith)

pub length-rooms_of : (rows : List (List ℕ)) (more : List ℕ) → length more ≡ length rows → length (rooms_of rows more) ≡ length rows
length-rooms_of [] more same = refl
length-rooms_of (row ∷ rows) [] same = absurd (omega arith)
length-rooms_of (row ∷ rows) (m ∷ ms) same = ap suc (length-rooms_of rows ms (omega arith))

-- so many more may be added
pub more_given : (rows : List (List ℕ)) (more : List ℕ) → length more ≡ length rows → more_of (rooms_of rows more) rows ≡ more
more_given [] [] same = refl
more_given [] (m ∷ ms) same = absurd (omega arith)
more_given (row ∷ rows) [] same = absurd (omega arith)
more_given (row ∷ rows) (m ∷ ms) same = let e : (length row + m) - length row ≡ m = omega arith in ap₂ (λ x xs. x ∷ xs) e (more_given rows ms (omega arith))

-- rows that have no item yet
pub none_at : (room : List ℕ) (k : ℕ) → get_or (map (λ (r : ℕ). let none : List ℕ = [] in none) room) k [] ≡ []
none_at [] k = refl
none_at (r ∷ rs) zero = refl
none_at (r ∷ rs) (suc k) = none_at rs k

-- the first rows are filled
pub record AreFilled (rows opened : List (List ℕ)) (k : ℕ) : Type 0 where
  pub long : length opened ≡ length rows
  pub filled : (j : ℕ) → j < k → get_or opened j [] ≡ get_or rows j []
  pub empty : (j : ℕ) → k ≤ j → get_or opened j [] ≡ []

pub filled_more : (rows opened now : List (List ℕ)) (k w : ℕ) (row : List ℕ) → AreFilled rows opened k → k < length rows → w ≡ k → row ≡ get_or rows k []
    → now ≡ set opened w (get_or opened w [] ++ row) → AreFilled rows now (k + 1)
filled_more rows opened now k w row are below at is now_is =
    let l = length-set opened w (get_or opened w [] ++ row) in
    let known : w < length opened = (let a = are.long in omega arith) in
    record {
      long = ap length now_is ∙ (l ∙ are.long);
      filled = λ j less. elim (cases_eq j w) [
        | inl e ↦ ap (λ (r : List (List ℕ)). get_or r j []) now_is ∙ (ap (λ z. get_or (set opened w (get_or opened w [] ++ row)) z []) e
            ∙ (get_or-set_same opened w (get_or opened w [] ++ row) [] known ∙ (ap (λ (r : List ℕ). r ++ row) (are.empty w (omega arith)) ∙ (is ∙ ap (λ z. get_or rows z []) (sym at ∙ sym e)))))
        | inr other ↦ ap (λ (r : List (List ℕ)). get_or r j []) now_is ∙ (get_or-set_other opened w j (get_or opened w [] ++ row) [] other ∙ are.filled j (omega arith))
      ];
      empty = λ j more. ap (λ (r : List (List ℕ)). get_or r j []) now_is ∙ (get_or-set_other opened w j (get_or opened w [] ++ row) [] (omega arith) ∙ are.empty j (omega arith));
    }

pub filled_all : (rows opened : List (List ℕ)) (k : ℕ) → AreFilled rows opened k → length rows ≤ k → opened ≡ rows
filled_all rows opened k are all = ext_get_or [] opened rows are.long (λ j below. are.filled j (let l = are.long in omega arith))

-- numbers in order stand once
pub rising_once : (xs : List ℕ) → IsRising nat_cmp xs → HasNoneTwice xs
rising_once [] h = tt
rising_once (x ∷ xs) h = ((λ i. absurd (let l = less_from x x (h.0 x i) in omega arith)), rising_once xs h.1)

-- a row is filled item by item
pub record IsRowFilled (old now : Rows ℕ) (w i : ℕ) (row : List ℕ) : Type 0 where
  pub rows : now.rows ≡ set old.rows w (get_or old.rows w [] ++ take i row)
  pub room : now.room ≡ old.room

pub row_begun : (old : Rows ℕ) (w : ℕ) (row : List ℕ) → IsRowFilled old old w 0 row
row_begun old w row = record {
  rows = sym (ap (λ (r : List ℕ). set old.rows w r) (append-nil (get_or old.rows w [])) ∙ set-get_or old.rows w []);
  room = refl;
}

row_now : (old now : Rows ℕ) (w i : ℕ) (row : List ℕ) → IsRowFilled old now w i row → w < length old.rows → get_or now.rows w [] ≡ get_or old.rows w [] ++ take i row
row_now old now w i row are known = ap (λ (r : List (List ℕ)). get_or r w []) are.rows ∙ get_or-set_same old.rows w (get_or old.rows w [] ++ take i row) [] known

pub row_has_room : (old now : Rows ℕ) (w i : ℕ) (row : List ℕ) → IsRowFilled old now w i row → w < length old.rows
    → length (get_or old.rows w []) + length row ≤ get_or old.room w 0 → i < length row → HasRoom now w
row_has_room old now w i row are known room below =
    let here = ap length (row_now old now w i row are known) in
    let both = length-append (get_or old.rows w []) (take i row) in
    let front = length-take-le i row (omega arith) in
    let same = ap (λ (r : List ℕ). get_or r w 0) are.room in
    omega arith

pub row_more : (old now new : Rows ℕ) (w i x : ℕ) (row : List ℕ) → IsRowFilled old now w i row → w < length old.rows → i < length row → x ≡ get_or row i x
    → new.rows ≡ pushed now.rows w x → new.room ≡ now.room → IsRowFilled old new w (i + 1) row
row_more old now new w i x row are known below is rows_is room_is =
    let r : List ℕ = get_or old.rows w [] in
    let item : take i row ++ x ∷ [] ≡ take (i + 1) row = ap (λ z. take i row ++ z ∷ []) is ∙ sym (take_more row i x below) in
    let end : get_or now.rows w [] ++ x ∷ [] ≡ r ++ take (i + 1) row =
    ap (λ (z : List ℕ). z ++ x ∷ []) (row_now old now w i row are known) ∙ (append_assoc r (take i row) (x ∷ []) ∙ ap (λ (z : List ℕ). r ++ z) item) in
    record {
      rows = rows_is ∙ (ap (λ (z : List ℕ). set now.rows w z) end ∙ (ap (λ (z : List (List ℕ)). set z w (r ++ take (i + 1) row)) are.rows ∙ set-set old.rows w (r ++ take i row) (r ++ take (i + 1) row)));
      room = room_is ∙ are.room;
    }

pub row_whole : (old now : Rows ℕ) (w i : ℕ) (row : List ℕ) → IsRowFilled old now w i row → length row ≤ i → now.rows ≡ set old.rows w (get_or old.rows w [] ++ row)
row_whole old now w i row are all = are.rows ∙ ap (λ (z : List ℕ). set old.rows w (get_or old.rows w [] ++ z)) (take_all i row all)

-- one more room is made
pub rooms_more : (rows : List (List ℕ)) (more made : List ℕ) (k room : ℕ) (row : List ℕ) → k < length rows → k < length more → Some row ≡ slice_get rows k → room ≡ length row + get_or more k 0
    → made ++ rooms_of (drop k rows) (drop k more) ≡ rooms_of rows more → (made ++ room ∷ []) ++ rooms_of (drop (k + 1) rows) (drop (k + 1) more) ≡ rooms_of rows more
rooms_more rows more made k room row below within row_is room_is all =
    let later : List ℕ = rooms_of (drop (k + 1) rows) (drop (k + 1) more) in
    let here : room ≡ length (get_or rows k []) + get_or more k 0 = room_is ∙ ap (λ (r : List ℕ). length r + get_or more k 0) (sym (get_or_from_slice_get rows k row [] (sym row_is))) in
    append_assoc made (room ∷ []) later ∙ (ap (λ (xs : List ℕ). made ++ xs) (ap (λ z. z ∷ later) here ∙ sym (rooms_left rows more k below within)) ∙ all)
