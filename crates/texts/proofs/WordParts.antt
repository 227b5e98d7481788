-- A line is made of its words, and of no others.
use Rattle.std.proofs.Common.{◌≡◌, ℕ, zero, suc, ◌+◌, ◌<◌, ◌≤◌, List, [], ◌∷◌, ◌++◌, length, take, drop, Bool, true, false, not, refl, sym, ap, subst, ◌∙◌, arith, length-drop, append_assoc, append-nil}
use Rattle.std.proofs.lemmas.List.{take-append-drop, take_at, drop_at}
use Rattle.std.specs.List.{list_all, position_or_len, before_first}
use Rattle.texts.specs.Pieces.{Span}
use Rattle.texts.specs.Words.{is_blank}
use Rattle.texts.specs.Parts.{BeginsWithWord, IsLineOf, no_blank}
use Rattle.texts.proofs.FirstPiece.{length_first}
use Rattle.texts.proofs.Joined.{list_all-before_first, stops_at_first, position_or_len-append, both, both_left, both_right, not_true}
use Rattle.texts.proofs.Blanks.{full_pieces, skip_one, skip_separators, piece_first, bare_front, before_is}

abbrev is_bare : ℕ → Bool
is_bare b = not (is_blank b)

-- the words of a text that begins at a place
abbrev pub words_from : ℕ → List ℕ → List Span
words_from start text = full_pieces is_blank start text

-- ---- a line is made of its words

-- what stands before the first byte that isn't blank
abbrev blanks_of : List ℕ → List ℕ
blanks_of text = before_first is_bare text

-- and what stands from it on
abbrev from_of : List ℕ → List ℕ
from_of text = drop (position_or_len is_bare text) text

not_not : (t : Bool) → not (not t) ≡ t
not_not true = refl
not_not false = refl

all_not_not : (xs : List ℕ) → list_all (λ b. not (is_bare b)) xs ≡ true → list_all is_blank xs ≡ true
all_not_not [] h = refl
all_not_not (b ∷ bs) h =
    both (is_blank b) (list_all is_blank bs) (sym (not_not (is_blank b)) ∙ both_left (not (is_bare b)) _ h) (all_not_not bs (both_right (not (is_bare b)) _ h))

blanks_are_blank : (text : List ℕ) → list_all is_blank (blanks_of text) ≡ true
blanks_are_blank text = all_not_not (blanks_of text) (list_all-before_first is_bare text)

begins : (text : List ℕ) (c : ℕ) (cs : List ℕ) → from_of text ≡ c ∷ cs
    → BeginsWithWord text (blanks_of text) (before_first is_blank (c ∷ cs)) (drop (position_or_len is_blank (c ∷ cs)) (c ∷ cs))
begins text c cs is = record {
  whole =
      sym (append_assoc (blanks_of text) (before_first is_blank (c ∷ cs)) (drop (position_or_len is_blank (c ∷ cs)) (c ∷ cs))
      ∙ (ap (λ ys. blanks_of text ++ ys) (take-append-drop (position_or_len is_blank (c ∷ cs)) (c ∷ cs) ∙ sym is)
      ∙ take-append-drop (position_or_len is_bare text) text));
  all_blank = blanks_are_blank text;
  has_bytes = omega (arith, ap length (before_is is_blank c cs (bare_front is_blank text c cs is)));
  one_word = list_all-before_first is_blank (c ∷ cs);
  ends = stops_at_first is_blank (c ∷ cs);
}

all_blank : (text : List ℕ) → from_of text ≡ [] → list_all is_blank text ≡ true
all_blank text is =
    let whole : blanks_of text ≡ text = sym (append-nil (blanks_of text)) ∙ (ap (λ ys. blanks_of text ++ ys) (sym is) ∙ take-append-drop (position_or_len is_bare text) text) in
    ap (list_all is_blank) (sym whole) ∙ blanks_are_blank text

made_at : (k start : ℕ) (text from : List ℕ) → from_of text ≡ from → length text ≤ suc k
    → ((at : ℕ) (rest : List ℕ) → length rest ≤ k → IsLineOf at (words_from at rest) rest) → IsLineOf start (words_from start text) text
made_at k start text [] is h later =
    let none : words_from start text ≡ [] = skip_separators is_blank start text ∙ ap (words_from (start + position_or_len is_bare text)) is in
    subst (λ ws. IsLineOf start ws text) (sym none) (all_blank text is)
made_at k start text (c ∷ cs) is h later =
    let from : List ℕ = c ∷ cs in
    let at = start + position_or_len is_bare text in
    let n = position_or_len is_blank from in
    let word = before_first is_blank from in
    let after = drop n from in
    let bare = bare_front is_blank text c cs is in
    let words : words_from start text ≡ record { start = at; text = word } ∷ words_from (at + n) after =
    skip_separators is_blank start text ∙ (ap (words_from at) is ∙ piece_first is_blank at c cs bare) in
    let shorter : length after ≤ k =
    omega (arith, length-drop n from, length_first is_blank from, ap length (before_is is_blank c cs bare), ap length is, length-drop (position_or_len is_bare text) text) in
    let place : at ≡ start + length (blanks_of text) = ap (λ m. start + m) (sym (length_first is_bare text)) in
    let rest : IsLineOf (at + length word) (words_from (at + n) after) after =
    subst (λ m. IsLineOf (at + m) (words_from (at + n) after) after) (sym (length_first is_blank from)) (later (at + n) after shorter) in
    subst (λ ws. IsLineOf start ws text) (sym words) (blanks_of text, after, begins text c cs is, place, rest)

made : (k start : ℕ) (text : List ℕ) → length text ≤ k → IsLineOf start (words_from start text) text
made zero start [] h = refl
made zero start (b ∷ bs) h = absurd (omega arith)
made (suc k) start text h = made_at k start text (from_of text) refl h (λ at rest l. made k at rest l)

pub words_make : (start : ℕ) (text : List ℕ) → IsLineOf start (words_from start text) text
words_make start text = made (length text) start text (omega arith)

-- ---- and of no others

behind_blanks : (start : ℕ) (blanks ys : List ℕ) → list_all is_blank blanks ≡ true → words_from start (blanks ++ ys) ≡ words_from (start + length blanks) ys
behind_blanks start [] ys h = let place : start + 0 ≡ start = omega arith in rw place refl
behind_blanks start (b ∷ bs) ys h =
    let place : start + 1 + length bs ≡ start + length (b ∷ bs) = omega arith in
    skip_one is_blank start b (bs ++ ys) (both_left (is_blank b) (list_all is_blank bs) h)
    ∙ (behind_blanks (start + 1) bs ys (both_right (is_blank b) (list_all is_blank bs) h) ∙ ap (λ at. words_from at ys) place)

first_word : (at : ℕ) (word after : List ℕ) → 0 < length word → no_blank word ≡ true → list_all is_blank (take 1 after) ≡ true
    → words_from at (word ++ after) ≡ record { start = at; text = word } ∷ words_from (at + length word) after
first_word at [] after some none ends = absurd (omega arith)
first_word at (c ∷ cs) after some none ends =
    let word : List ℕ = c ∷ cs in
    let bare : is_blank c ≡ false = not_true (is_blank c) (both_left (is_bare c) (no_blank cs) none) in
    let size : position_or_len is_blank (word ++ after) ≡ length word = position_or_len-append is_blank word after none ends in
    piece_first is_blank at c (cs ++ after) bare
    ∙ (ap (λ n. record { start = at; text = take n (word ++ after) } ∷ words_from (at + n) (drop n (word ++ after))) size
    ∙ (ap (λ t. record { start = at; text = t } ∷ words_from (at + length word) (drop (length word) (word ++ after))) (take_at word after (length word) refl)
    ∙ ap (λ ys. record { start = at; text = word } ∷ words_from (at + length word) ys) (drop_at word after (length word) refl)))

only : (words : List Span) (start : ℕ) (text : List ℕ) → IsLineOf start words text → words ≡ words_from start text
only [] start text h = sym (ap (words_from start) (sym (append-nil text)) ∙ behind_blanks start text [] h)
only (word ∷ words) start text h =
    let blanks = h.0 in
    let after = h.1 in
    let begins_so = h.2 in
    let whole : text ≡ blanks ++ (word.text ++ after) = begins_so.whole ∙ append_assoc blanks word.text after in
    let first : words_from start text ≡ word ∷ words_from (word.start + length word.text) after =
    ap (words_from start) whole
    ∙ (behind_blanks start blanks (word.text ++ after) begins_so.all_blank
    ∙ (ap (λ at. words_from at (word.text ++ after)) (sym h.3) ∙ first_word word.start word.text after begins_so.has_bytes begins_so.one_word begins_so.ends)) in
    ap (λ ws. word ∷ ws) (only words _ after h.4) ∙ sym first

pub no_others : (start : ℕ) (text : List ℕ) (words : List Span) → IsLineOf start words text → words ≡ words_from start text
no_others start text words h = only words start text h
