-- A text is made of its lines, and of no others.
use Rattle.std.proofs.Common.{◌≡◌, ℕ, zero, suc, ◌+◌, ◌-◌, ◌<◌, ◌≤◌, List, [], ◌∷◌, ◌++◌, length, take, drop, get_or, Bool, true, false, cond, not, min, ltb, refl, sym, ap, subst, ◌∙◌, arith, length-drop, length-append, append_assoc, append-nil}
use Rattle.std.proofs.lemmas.Bool.{ltb-true, ltb-false, eqb-true}
use Rattle.std.proofs.lemmas.List.{take_all, take_at, take_more, drop_all, length_push, get_or_push}
use Rattle.std.proofs.lemmas.List.Folds.{list_all-append}
use Rattle.std.proofs.lemmas.List.Sums.{split_at_first, passes_at_first}
use Rattle.std.specs.List.{position_or_len, before_first}
use Rattle.texts.specs.Pieces.{pieces, placed}
use Rattle.texts.specs.Lines.{Line, is_line_feed, without_return, last_number, numbered_lines}
use Rattle.texts.specs.Parts.{BeginsWithLine, IsTextOf, ends_in_return, no_line_feed}
use Rattle.texts.proofs.FirstPiece.{lines_from, line_first}
use Rattle.texts.proofs.Joined.{list_all-before_first, pieces-append, pieces_alone, both, both_left}

-- ---- a piece, its carriage return, and its line feed

abbrev return_of : Bool → List ℕ
return_of has = cond has (13 ∷ []) []

abbrev feed_of : Bool → List ℕ
feed_of has = cond has (10 ∷ []) []

with_return : (piece : List ℕ) (t : Bool) → ends_in_return piece ≡ t → cond t (take (length piece - 1) piece) piece ++ return_of t ≡ piece
with_return piece false is = append-nil piece
with_return [] true is = absurd (let never : ⊥ = cc in never)
with_return (b ∷ bs) true is =
    let piece : List ℕ = b ∷ bs in
    let n = length piece - 1 in
    let last : get_or piece n 0 ≡ 13 = eqb-true _ 13 is in
    ap (λ c. take n piece ++ c ∷ []) (sym last) ∙ (sym (take_more piece n 0 (omega arith)) ∙ take_all (n + 1) piece (omega arith))

-- a piece is its line, and the carriage return that was dropped
line_and_return : (piece : List ℕ) → without_return piece ++ return_of (ends_in_return piece) ≡ piece
line_and_return piece = with_return piece (ends_in_return piece) refl

dropped_return : (piece : List ℕ) (t : Bool) → ends_in_return piece ≡ t → t ≡ false → ends_in_return (cond t (take (length piece - 1) piece) piece) ≡ false
dropped_return piece false is none = is
dropped_return piece true is none = absurd (let never : ⊥ = cc in never)

-- the line is given back
without_return-append : (line : List ℕ) (t : Bool) → (t ≡ false → ends_in_return line ≡ false) → without_return (line ++ return_of t) ≡ line
without_return-append line false dropped = rw (append-nil, dropped refl) refl
without_return-append line true dropped =
    let size : length (line ++ 13 ∷ []) - 1 ≡ length line = omega (arith, length_push line 13) in
    rw (size, get_or_push line 13 0 (length line) refl) (take_at line (13 ∷ []) (length line) refl)

-- ---- a text is made of its lines

piece_and_feed : (text : List ℕ) (t : Bool) → ltb (position_or_len is_line_feed text) (length text) ≡ t
    → before_first is_line_feed text ++ feed_of t ++ drop (min (position_or_len is_line_feed text + 1) (length text)) text ≡ text
piece_and_feed text true is =
    let n = position_or_len is_line_feed text in
    let within : n < length text = ltb-true n (length text) is in
    let all : min (n + 1) (length text) ≡ n + 1 = omega arith in
    let feed : get_or text n 0 ≡ 10 = eqb-true _ 10 (passes_at_first is_line_feed text 0 within) in
    rw (all, append_assoc) (ap (λ c. before_first is_line_feed text ++ c ∷ drop (n + 1) text) (sym feed) ∙ sym (split_at_first is_line_feed text 0 within))
piece_and_feed text false is =
    let n = position_or_len is_line_feed text in
    let past : length text ≤ n = ltb-false n (length text) is in
    let all : min (n + 1) (length text) ≡ length text = omega arith in
    rw (all, drop_all (length text) text (omega arith), append-nil, append-nil) (take_all n text past)

line_has_none : (text : List ℕ) → no_line_feed (without_return (before_first is_line_feed text)) ≡ true
line_has_none text =
    let piece = before_first is_line_feed text in
    let ending = return_of (ends_in_return piece) in
    both_left (no_line_feed (without_return piece)) (no_line_feed ending)
    (sym (list_all-append (λ b. not (is_line_feed b)) (without_return piece) ending) ∙ (ap no_line_feed (line_and_return piece) ∙ list_all-before_first is_line_feed text))

begins : (b : ℕ) (bs : List ℕ) → BeginsWithLine (b ∷ bs) (without_return (before_first is_line_feed (b ∷ bs))) (drop (min (position_or_len is_line_feed (b ∷ bs) + 1) (length (b ∷ bs))) (b ∷ bs))
begins b bs =
    let text : List ℕ = b ∷ bs in
    let n = position_or_len is_line_feed text in
    let piece = before_first is_line_feed text in record {
      has_return = ends_in_return piece;
      has_feed = ltb n (length text);
      whole = sym (ap (λ ys. ys ++ feed_of (ltb n (length text)) ++ drop (min (n + 1) (length text)) text) (line_and_return piece) ∙ piece_and_feed text (ltb n (length text)) refl);
      not_empty = omega arith;
      one_line = line_has_none text;
      dropped = dropped_return piece (ends_in_return piece) refl;
      last = λ none. let past : length text ≤ n = ltb-false n (length text) none in drop_all (min (n + 1) (length text)) text (omega arith);
    }

made : (k number start : ℕ) (text : List ℕ) → length text ≤ k → IsTextOf number start (lines_from number start text) text
made k number start [] h = refl
made zero number start (b ∷ bs) h = absurd (omega arith)
made (suc k) number start (b ∷ bs) h =
    let text : List ℕ = b ∷ bs in
    let m = min (position_or_len is_line_feed text + 1) (length text) in
    let after = drop m text in
    let next = min (number + 1) last_number in
    let lines : lines_from number start text ≡ record { number = number; start = start; text = without_return (before_first is_line_feed text) } ∷ lines_from next (start + m) after =
    line_first number next start m text _ after (omega arith) refl refl refl refl in
    let place : start + m ≡ start + (length text - length after) = omega (arith, length-drop m text) in
    let later : IsTextOf next (start + (length text - length after)) (lines_from next (start + m) after) after =
    subst (λ at. IsTextOf next at (lines_from next (start + m) after) after) place (made k next (start + m) after (omega (arith, length-drop m text))) in
    subst (λ ls. IsTextOf number start ls text) (sym lines) (after, begins b bs, refl, refl, later)

pub lines_make : (text : List ℕ) → IsTextOf 1 0 (lines_from 1 0 text) text
lines_make text = made (length text) 1 0 text (omega arith)

-- ---- and of no others

same_line : (line : Line) (number start : ℕ) (text : List ℕ) → line.number ≡ number → line.start ≡ start → line.text ≡ text → line ≡ record { number = number; start = start; text = text }
same_line line number start text e f g =
    ap (λ n. record { number = n; start = line.start; text = line.text }) e
    ∙ (ap (λ s. record { number = number; start = s; text = line.text }) f ∙ ap (λ t. record { number = number; start = start; text = t }) g)

return_has_none : (t : Bool) → no_line_feed (return_of t) ≡ true
return_has_none true = refl
return_has_none false = refl

alone : (text : List ℕ) → 0 < length text → no_line_feed text ≡ true → pieces is_line_feed text ≡ text ∷ []
alone [] some none = absurd (omega arith)
alone (b ∷ bs) some none = pieces_alone is_line_feed b bs none

module _ (number start : ℕ) (text line after : List ℕ) (b : BeginsWithLine text line after) where
  abbrev next : ℕ
  next = min (number + 1) last_number

  abbrev piece : List ℕ
  piece = line ++ return_of b.has_return

  piece_has_none : no_line_feed piece ≡ true
  piece_has_none =
      list_all-append (λ c. not (is_line_feed c)) line (return_of b.has_return)
      ∙ both (no_line_feed line) (no_line_feed (return_of b.has_return)) b.one_line (return_has_none b.has_return)

  -- where the first piece and what stands behind it are these, the first line is this
  first_of : (rest : List (List ℕ)) (at : ℕ) → pieces is_line_feed text ≡ piece ∷ rest
      → numbered_lines next (placed (start + length piece + 1) rest) ≡ lines_from next at after
      → lines_from number start text ≡ record { number = number; start = start; text = line } ∷ lines_from next at after
  first_of rest at cut later =
      ap (λ ps. numbered_lines number (placed start ps)) cut
      ∙ (ap (λ t. record { number = number; start = start; text = t } ∷ numbered_lines next (placed (start + length piece + 1) rest)) (without_return-append line b.has_return b.dropped)
      ∙ ap (λ ls. record { number = number; start = start; text = line } ∷ ls) later)

  first_line_at : (t : Bool) → b.has_feed ≡ t
      → lines_from number start text ≡ record { number = number; start = start; text = line } ∷ lines_from next (start + (length text - length after)) after
  first_line_at true is =
      let text_is : text ≡ piece ++ 10 ∷ after = b.whole ∙ (ap (λ t. piece ++ feed_of t ++ after) is ∙ append_assoc piece (10 ∷ []) after) in
      let place : start + length piece + 1 ≡ start + (length text - length after) = omega (arith, ap length text_is, length-append piece (10 ∷ after)) in
      first_of (pieces is_line_feed after) _ (ap (pieces is_line_feed) text_is ∙ pieces-append is_line_feed piece 10 after piece_has_none refl)
      (ap (λ at. lines_from next at after) place)
  first_line_at false is =
      let none : after ≡ [] = b.last is in
      let text_is : text ≡ piece = b.whole ∙ (ap (λ t. piece ++ feed_of t ++ after) is ∙ (ap (λ ys. piece ++ [] ++ ys) none ∙ (append-nil (piece ++ []) ∙ append-nil piece))) in
      let some : 0 < length piece = subst (λ ys. 0 < length ys) text_is b.not_empty in
      first_of [] _ (ap (pieces is_line_feed) text_is ∙ alone piece some piece_has_none)
      (sym (ap (lines_from next (start + (length text - length after))) none))

  first_line : lines_from number start text ≡ record { number = number; start = start; text = line } ∷ lines_from next (start + (length text - length after)) after
  first_line = first_line_at b.has_feed refl

only : (lines : List Line) (number start : ℕ) (text : List ℕ) → IsTextOf number start lines text → lines ≡ lines_from number start text
only [] number start text h = rw h refl
only (line ∷ lines) number start text h =
    let same : line ≡ record { number = number; start = start; text = line.text } = same_line line number start line.text h.2 h.3 refl in
    let later = only lines _ _ h.0 h.4 in
    sym (first_line number start text line.text h.0 h.1 ∙ (ap (λ l. l ∷ lines_from (min (number + 1) last_number) (start + (length text - length h.0)) h.0) (sym same) ∙ ap (λ ls. line ∷ ls) (sym later)))

pub no_others : (text : List ℕ) (lines : List Line) → IsTextOf 1 0 lines text → lines ≡ lines_from 1 0 text
no_others text lines h = only lines 1 0 text h
