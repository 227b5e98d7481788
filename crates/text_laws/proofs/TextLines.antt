-- Texts that are printed on lines are the lines, and a line's words are the pieces between its blanks.
use Rattle.std.proofs.Common.{◌≡◌, ℕ, zero, suc, ◌+◌, ◌-◌, Bool, true, false, inl, inr, List, [], ◌∷◌, ◌++◌, length, get_or, map, filter, min, refl, ap, ap₂, ◌∙◌, append_assoc}
use Rattle.std.specs.Prelude.{◌==◌}
use Rattle.std.specs.List.{list_any}
use Rattle.std.proofs.lemmas.Bool.{or_parts}
use Rattle.words.specs.Members.{In}
use Rattle.texts.specs.Pieces.{pieces, placed}
use Rattle.texts.specs.Lines.{Line, is_line_feed, without_return, last_number, numbered_lines, lines_of}
use Rattle.texts.specs.Words.{is_blank, has_bytes}
use Rattle.texts.specs.Parts.{no_line_feed, no_blank}
use Rattle.texts.proofs.Joined.{pieces-append, pieces_alone}
use Rattle.config_grammar.specs.ConfigLines.{is_return, words_in}
use Rattle.text_laws.specs.Printed.{lined, AreOneLine}

-- ---- lines

pieces_back : (texts : List (List ℕ)) → ((text : List ℕ) → In texts text → no_line_feed text ≡ true) → pieces is_line_feed (lined texts) ≡ texts
pieces_back [] h = refl
pieces_back (text ∷ texts) h =
    ap (pieces is_line_feed) (append_assoc text (10 ∷ []) (lined texts)) ∙ pieces-append is_line_feed text 10 (lined texts) (h text (inl refl)) refl
    ∙ ap (λ ts. text ∷ ts) (pieces_back texts (λ t i. h t (inr i)))

no_return_at : (bytes : List ℕ) (k : ℕ) → list_any is_return bytes ≡ false → (get_or bytes k 0 == 13) ≡ false
no_return_at [] k h = refl
no_return_at (b ∷ bs) zero h = (or_parts (is_return b) (list_any is_return bs) h).0
no_return_at (b ∷ bs) (suc k) h = no_return_at bs k (or_parts (is_return b) (list_any is_return bs) h).1

returns_kept : (bytes : List ℕ) → list_any is_return bytes ≡ false → without_return bytes ≡ bytes
returns_kept bytes h = rw (no_return_at bytes (length bytes - 1) h)

texts_numbered : (number start : ℕ) (texts : List (List ℕ)) → ((text : List ℕ) → In texts text → list_any is_return text ≡ false)
    → map (λ line. line.text) (numbered_lines number (placed start texts)) ≡ texts
texts_numbered number start [] h = refl
texts_numbered number start (text ∷ texts) h =
    ap₂ (λ (t : List ℕ) ts. t ∷ ts) (returns_kept text (h text (inl refl))) (texts_numbered (min (number + 1) last_number) (start + length text + 1) texts (λ t i. h t (inr i)))

pub lines_back : (texts : List (List ℕ)) → AreOneLine texts → map (λ line. line.text) (lines_of (lined texts)) ≡ texts
lines_back texts h =
    ap (λ ps. map (λ line. line.text) (numbered_lines 1 (placed 0 ps))) (pieces_back texts (λ t i. (h t i).0)) ∙ texts_numbered 1 0 texts (λ t i. (h t i).1)

-- ---- words

abbrev pub is_word : List ℕ → Bool
is_word [] = false
is_word (b ∷ bs) = true

-- the words of a text
abbrev pub word_texts : List ℕ → List (List ℕ)
word_texts text = filter is_word (pieces is_blank text)

placed_words : (start : ℕ) (ps : List (List ℕ)) → map (λ w. w.text) (filter has_bytes (placed start ps)) ≡ filter is_word ps
placed_words start [] = refl
placed_words start ([] ∷ ps) = placed_words (start + 0 + 1) ps
placed_words start ((b ∷ bs) ∷ ps) = ap (λ ws. (b ∷ bs) ∷ ws) (placed_words (start + length (b ∷ bs) + 1) ps)

pub words_are : (line : Line) → words_in line ≡ word_texts line.text
words_are line = placed_words line.start (pieces is_blank line.text)

-- a word with no blank in it
pub record IsWord (word : List ℕ) : Type 0 where
  pub some : is_word word ≡ true
  pub whole : no_blank word ≡ true

one_word_at : (word : List ℕ) → is_word word ≡ true → no_blank word ≡ true → pieces is_blank word ≡ word ∷ []
one_word_at [] some whole = absurd (let no : ⊥ = cc in no)
one_word_at (b ∷ bs) some whole = pieces_alone is_blank b bs whole

kept_word : (word : List ℕ) (ps : List (List ℕ)) → is_word word ≡ true → filter is_word (word ∷ ps) ≡ word ∷ filter is_word ps
kept_word word ps h = rw h

pub one_word : (word : List ℕ) → IsWord word → word_texts word ≡ word ∷ []
one_word word h = ap (filter is_word) (one_word_at word h.some h.whole) ∙ kept_word word [] h.some

pub more_words : (word rest : List ℕ) → IsWord word → word_texts (word ++ 32 ∷ rest) ≡ word ∷ word_texts rest
more_words word rest h = ap (filter is_word) (pieces-append is_blank word 32 rest h.whole refl) ∙ kept_word word (pieces is_blank rest) h.some
