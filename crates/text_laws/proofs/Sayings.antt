-- A line that says something and is printed again says the same.
use Rattle.std.proofs.Common.{◌≡◌, ◌≤◌, ◌<◌, ℕ, Bool, true, false, not, cond, List, [], ◌∷◌, ◌++◌, length, map, reverse, Option, Some, None, decimal, refl, sym, ap, ◌∙◌, arith, rules, append-nil, append_assoc}
use Rattle.std.specs.Prelude.{◌||◌, ◌&&◌, ◌==◌, nat_le, codes}
use Rattle.std.specs.List.{list_any, list_all}
use Rattle.std.specs.Option.{option_and_then}
use Rattle.std.proofs.lemmas.Bool.{false≢true, and_parts, and_from, ne_eqb, eqb-true, leb-true, le-leb}
use Rattle.std.proofs.lemmas.List.{map-append, reverse-append, reverse-reverse, length-map, length-reverse}
use Rattle.std.proofs.lemmas.List.Folds.{list_all-append}
use Rattle.std.proofs.lemmas.Fmt.{digits_decimal}
use Rattle.std.proofs.lemmas.Str.Parse.{IsNumeralModel, numerals_by_fold}
use Rattle.texts.specs.Lines.{Line, is_line_feed}
use Rattle.texts.specs.Names.{is_name_byte, is_name}
use Rattle.texts.specs.Numbers.{is_digit, value_behind, value_of}
use Rattle.texts.specs.Parts.{no_line_feed, no_blank}
use Rattle.texts.specs.PatternBits.{pattern_bit_of}
use Rattle.texts.specs.Words.{is_blank}
use Rattle.texts.proofs.Printed.{bit_of_spelling}
use Rattle.config_grammar.specs.ConfigLines.{ConfigLine, DeviceLine, HeadLine, TileLine, ArcOf, WordOf, EnumOf, UnknownOf, OutsideLine, without_blanks, is_bit_digit, bits_of_digits, unknown_at, says_two, says_three, says_words, is_outside, begins_outside, is_return, says}
use Rattle.config_grammar.specs.ConfigPrint.{word_digits}
use Rattle.text_laws.specs.Printed.{words_text, printed_line}
use Rattle.text_laws.specs.Formed.{IsHead, CanStand}
use Rattle.text_laws.proofs.TextLines.{is_word, word_texts, words_are, IsWord, one_word, more_words}

-- ---- bytes of printed lines

-- a byte of a name, or a space
abbrev pub is_line_byte : ℕ → Bool
is_line_byte b = is_name_byte b || (b == 32)

abbrev pub LineBytes : List ℕ → Type 0
LineBytes text = list_all is_line_byte text ≡ true

line_byte_is : (b : ℕ) (name space : Bool) → is_name_byte b ≡ name → (b == 32) ≡ space → name || space ≡ true → 32 ≤ b
line_byte_is b true space e f h = let low = leb-true 0x21 b (and_parts (nat_le 0x21 b) (nat_le b 0x7E) e).0 in omega arith
line_byte_is b false true e f h = omega (arith, eqb-true b 32 f)
line_byte_is b false false e f h = absurd (false≢true h)

line_byte_high : (b : ℕ) → is_line_byte b ≡ true → 32 ≤ b
line_byte_high b h = line_byte_is b (is_name_byte b) (b == 32) refl refl h

pub no_feeds : (text : List ℕ) → LineBytes text → no_line_feed text ≡ true
no_feeds [] h = refl
no_feeds (b ∷ bs) h =
    let p = and_parts (is_line_byte b) (list_all is_line_byte bs) h in
    let high = line_byte_high b p.0 in
    and_from (not (is_line_feed b)) (no_line_feed bs) (ap not (ne_eqb b 10 (λ e. omega arith))) (no_feeds bs p.1)

pub no_returns : (text : List ℕ) → LineBytes text → list_any is_return text ≡ false
no_returns [] h = refl
no_returns (b ∷ bs) h =
    let p = and_parts (is_line_byte b) (list_all is_line_byte bs) h in
    let high = line_byte_high b p.0 in
    ap (λ t. t || list_any is_return bs) (ne_eqb b 13 (λ e. omega arith)) ∙ no_returns bs p.1

joined_bytes : (xs ys : List ℕ) → LineBytes xs → LineBytes ys → LineBytes (xs ++ ys)
joined_bytes xs ys h k = list_all-append is_line_byte xs ys ∙ and_from (list_all is_line_byte xs) (list_all is_line_byte ys) h k

-- a word of such bytes as names have
record IsNameLike (word : List ℕ) : Type 0 where
  some : is_word word ≡ true
  bytes : list_all is_name_byte word ≡ true

some_bytes : (name : List ℕ) → is_name name ≡ true → is_word name ≡ true
some_bytes [] h = absurd (false≢true h)
some_bytes (b ∷ bs) h = refl

name_like : (name : List ℕ) → is_name name ≡ true → IsNameLike name
name_like name h = record { some = some_bytes name h; bytes = (and_parts _ (list_all is_name_byte name) h).1 }

no_blanks : (word : List ℕ) → list_all is_name_byte word ≡ true → no_blank word ≡ true
no_blanks [] h = refl
no_blanks (b ∷ bs) h =
    let p = and_parts (is_name_byte b) (list_all is_name_byte bs) h in
    let low = leb-true 0x21 b (and_parts (nat_le 0x21 b) (nat_le b 0x7E) p.0).0 in
    and_from (not (is_blank b)) (no_blank bs) (rw (ne_eqb b 32 (λ e. omega arith), ne_eqb b 9 (λ e. omega arith))) (no_blanks bs p.1)

word_like : (word : List ℕ) → IsNameLike word → IsWord word
word_like word h = record { some = h.some; whole = no_blanks word h.bytes }

bytes_like : (word : List ℕ) → list_all is_name_byte word ≡ true → LineBytes word
bytes_like [] h = refl
bytes_like (b ∷ bs) h =
    let p = and_parts (is_name_byte b) (list_all is_name_byte bs) h in
    and_from (is_line_byte b) (list_all is_line_byte bs) (ap (λ t. t || (b == 32)) p.0) (bytes_like bs p.1)

-- ---- two or three words with a space between two

two_words : (f a : List ℕ) → IsNameLike f → IsNameLike a → word_texts (words_text f (a ∷ [])) ≡ f ∷ a ∷ []
two_words f a hf ha =
    ap (λ t. word_texts (f ++ 32 ∷ t)) (append-nil a) ∙ more_words f a (word_like f hf) ∙ ap (λ ws. f ∷ ws) (one_word a (word_like a ha))

two_bytes : (f a : List ℕ) → IsNameLike f → IsNameLike a → LineBytes (words_text f (a ∷ []))
two_bytes f a hf ha = joined_bytes f (32 ∷ a ++ []) (bytes_like f hf.bytes) (joined_bytes a [] (bytes_like a ha.bytes) refl)

three_words : (f a b : List ℕ) → IsNameLike f → IsNameLike a → IsNameLike b → word_texts (words_text f (a ∷ b ∷ [])) ≡ f ∷ a ∷ b ∷ []
three_words f a b hf ha hb =
    ap (λ t. word_texts (f ++ 32 ∷ (a ++ 32 ∷ t))) (append-nil b) ∙ more_words f (a ++ 32 ∷ b) (word_like f hf)
    ∙ ap (λ ws. f ∷ ws) (more_words a b (word_like a ha) ∙ ap (λ ws. a ∷ ws) (one_word b (word_like b hb)))

three_bytes : (f a b : List ℕ) → IsNameLike f → IsNameLike a → IsNameLike b → LineBytes (words_text f (a ∷ b ∷ []))
three_bytes f a b hf ha hb =
    joined_bytes f (32 ∷ (a ++ 32 ∷ (b ++ []))) (bytes_like f hf.bytes)
    (joined_bytes a (32 ∷ (b ++ [])) (bytes_like a ha.bytes) (joined_bytes b [] (bytes_like b hb.bytes) refl))

-- what a text says with its words
abbrev pub says_text : List ℕ → Option ConfigLine
says_text text = says text (word_texts text)

pub says_as : (text : List ℕ) (words : List (List ℕ)) → list_any is_return text ≡ false → word_texts text ≡ words → begins_outside words ≡ false
    → says_text text ≡ says_words (without_blanks text) words
says_as text words r e o =
    ap (λ b. cond b None (cond (begins_outside (word_texts text)) (Some OutsideLine) (says_words (without_blanks text) (word_texts text)))) r
    ∙ ap (λ ws. cond (begins_outside ws) (Some OutsideLine) (says_words (without_blanks text) ws)) e
    ∙ ap (λ b. cond b (Some OutsideLine) (says_words (without_blanks text) words)) o

two_say : (f a : List ℕ) → IsNameLike f → IsNameLike a → is_outside f ≡ false → says_text (words_text f (a ∷ [])) ≡ says_two (without_blanks (words_text f (a ∷ []))) f a
two_say f a hf ha o = says_as (words_text f (a ∷ [])) (f ∷ a ∷ []) (no_returns (words_text f (a ∷ [])) (two_bytes f a hf ha)) (two_words f a hf ha) o

three_say : (f a b : List ℕ) → IsNameLike f → IsNameLike a → IsNameLike b → is_outside f ≡ false
    → says_text (words_text f (a ∷ b ∷ [])) ≡ says_three (without_blanks (words_text f (a ∷ b ∷ []))) f a b
three_say f a b hf ha hb o =
    says_as (words_text f (a ∷ b ∷ [])) (f ∷ a ∷ b ∷ []) (no_returns (words_text f (a ∷ b ∷ [])) (three_bytes f a b hf ha hb)) (three_words f a b hf ha hb) o

-- ---- digits of bits

digits_are : (bits : List Bool) → list_all is_bit_digit (map (λ b. cond b 49 48) bits) ≡ true
digits_are [] = refl
digits_are (true ∷ bs) = digits_are bs
digits_are (false ∷ bs) = digits_are bs

digits_bytes : (bits : List Bool) → list_all is_name_byte (map (λ b. cond b 49 48) bits) ≡ true
digits_bytes [] = refl
digits_bytes (true ∷ bs) = digits_bytes bs
digits_bytes (false ∷ bs) = digits_bytes bs

bits_same : (bits : List Bool) → map (λ b. b == 49) (map (λ b. cond b 49 48) bits) ≡ bits
bits_same [] = refl
bits_same (true ∷ bs) = ap (λ r. true ∷ r) (bits_same bs)
bits_same (false ∷ bs) = ap (λ r. false ∷ r) (bits_same bs)

map_reverse : {X Y : Type 0} (f : X → Y) (xs : List X) → map f (reverse xs) ≡ reverse (map f xs)
map_reverse f [] = refl
map_reverse f (x ∷ xs) =
    ap (map f) (reverse-append (x ∷ []) xs) ∙ map-append f (reverse xs) (x ∷ []) ∙ ap (λ r. r ++ f x ∷ []) (map_reverse f xs) ∙ sym (reverse-append (f x ∷ []) (map f xs))

bits_back : (bits : List Bool) → bits_of_digits (word_digits bits) ≡ bits
bits_back bits =
    ap (λ ds. map (λ b. b == 49) (reverse ds)) (map_reverse (λ b. cond b 49 48) bits)
    ∙ ap (λ ds. map (λ b. b == 49) ds) (reverse-reverse (map (λ b. cond b 49 48) bits)) ∙ bits_same bits

some_word : (word : List ℕ) → 0 < length word → is_word word ≡ true
some_word [] h = absurd (omega arith)
some_word (b ∷ bs) h = refl

digits_like : (bits : List Bool) → 0 < length bits → IsNameLike (word_digits bits)
digits_like bits h =
    let size : 0 < length (word_digits bits) = omega (arith, length-map {B = ℕ} (reverse bits) (λ b. cond b 49 48), length-reverse bits) in
    record { some = some_word (word_digits bits) size; bytes = digits_bytes (reverse bits) }

-- ---- an unknown bit

own : IsNumeralModel (λ ds. list_all is_digit ds ≡ true) value_of
own = numerals_by_fold _ (search rules) value_behind (search rules)

digit_bytes : (ds : List ℕ) → list_all is_digit ds ≡ true → list_all is_name_byte ds ≡ true
digit_bytes [] h = refl
digit_bytes (d ∷ ds) h =
    let p = and_parts (is_digit d) (list_all is_digit ds) h in
    let q = and_parts (nat_le 48 d) (nat_le d 57) p.0 in
    let low = leb-true 48 d q.0 in
    let high = leb-true d 57 q.1 in
    and_from (is_name_byte d) (list_all is_name_byte ds) (and_from (nat_le 0x21 d) (nat_le d 0x7E) (le-leb 0x21 d (omega arith)) (le-leb d 0x7E (omega arith))) (digit_bytes ds p.1)

abbrev unknown_word : ℕ → ℕ → List ℕ
unknown_word frame bit = codes "F" ++ decimal frame ++ codes "B" ++ decimal bit

unknown_is : (f b : List ℕ) → codes "F" ++ f ++ codes "B" ++ b ≡ 70 ∷ (f ++ 66 ∷ b)
unknown_is f b = append_assoc (70 ∷ f) (66 ∷ []) b

unknown_like : (frame bit : ℕ) → frame ≤ 65535 → bit ≤ 65535 → IsNameLike (unknown_word frame bit)
unknown_like frame bit f b = record {
  some = refl;
  bytes =
      ap (list_all is_name_byte) (unknown_is (decimal frame) (decimal bit)) ∙ list_all-append is_name_byte (decimal frame) (66 ∷ decimal bit)
      ∙ and_from (list_all is_name_byte (decimal frame)) (list_all is_name_byte (66 ∷ decimal bit)) (digit_bytes (decimal frame) (digits_decimal own frame (omega arith)))
      (digit_bytes (decimal bit) (digits_decimal own bit (omega arith)));
}

-- ---- lines that can stand in a text

-- a text as the line of a number
abbrev pub line_saying : List ℕ → Line
line_saying text = record { number = 0; start = 0; text = text }

-- a head says itself, by its words
pub head_says : (text : List ℕ) → IsHead text → says_text text ≡ Some (HeadLine text)
head_says text h = sym (ap (says text) (words_are (line_saying text))) ∙ h.says_itself (line_saying text) refl

if_named : (line : ConfigLine) (b : Bool) → b ≡ true → cond b (Some line) None ≡ Some line
if_named line b h = ap (λ c. cond c (Some line) None) h

-- a line that is printed says what it said
pub says_printed : (line : ConfigLine) → CanStand line → says_text (printed_line line) ≡ Some line
says_printed (DeviceLine name) h = two_say (codes ".device") name (record { some = refl; bytes = refl }) (name_like name h) refl ∙ if_named (DeviceLine name) (is_name name) h
says_printed (HeadLine text) h = head_says text h
says_printed (TileLine name) h = two_say (codes ".tile") name (record { some = refl; bytes = refl }) (name_like name h) refl ∙ if_named (TileLine name) (is_name name) h
says_printed (ArcOf sink source) h =
    three_say (codes "arc:") sink source (record { some = refl; bytes = refl }) (name_like sink h.0) (name_like source h.1) refl
    ∙ if_named (ArcOf sink source) (is_name sink && is_name source) (and_from (is_name sink) (is_name source) h.0 h.1)
says_printed (WordOf name bits) h =
    three_say (codes "word:") name (word_digits bits) (record { some = refl; bytes = refl }) (name_like name h.0) (digits_like bits h.1) refl
    ∙ if_named (WordOf name (bits_of_digits (word_digits bits))) (is_name name && list_all is_bit_digit (word_digits bits))
    (and_from (is_name name) (list_all is_bit_digit (word_digits bits)) h.0 (digits_are (reverse bits)))
    ∙ ap (λ bs. Some (WordOf name bs)) (bits_back bits)
says_printed (EnumOf name value) h =
    three_say (codes "enum:") name value (record { some = refl; bytes = refl }) (name_like name h.0) (name_like value h.1) refl
    ∙ if_named (EnumOf name value) (is_name name && is_name value) (and_from (is_name name) (is_name value) h.0 h.1)
says_printed (UnknownOf frame bit) h =
    two_say (codes "unknown:") (unknown_word frame bit) (record { some = refl; bytes = refl }) (unknown_like frame bit h.0 h.1) refl
    ∙ ap (λ w. option_and_then unknown_at (pattern_bit_of w)) (unknown_is (decimal frame) (decimal bit))
    ∙ ap (option_and_then unknown_at) (bit_of_spelling (record { frame = frame; bit = bit; set = true }) h.0 h.1)
says_printed OutsideLine h = absurd h

-- and stays one line
pub printed_bytes : (line : ConfigLine) → CanStand line → (no_line_feed (printed_line line) ≡ true) × (list_any is_return (printed_line line) ≡ false)
printed_bytes (DeviceLine name) h = (let b = two_bytes (codes ".device") name (record { some = refl; bytes = refl }) (name_like name h) in (no_feeds (words_text (codes ".device") (name ∷ [])) b, no_returns (words_text (codes ".device") (name ∷ [])) b))
printed_bytes (HeadLine text) h = (h.one_line, h.returns)
printed_bytes (TileLine name) h = (let b = two_bytes (codes ".tile") name (record { some = refl; bytes = refl }) (name_like name h) in (no_feeds (words_text (codes ".tile") (name ∷ [])) b, no_returns (words_text (codes ".tile") (name ∷ [])) b))
printed_bytes (ArcOf sink source) h =
    (let b = three_bytes (codes "arc:") sink source (record { some = refl; bytes = refl }) (name_like sink h.0) (name_like source h.1) in
    (no_feeds (printed_line (ArcOf sink source)) b, no_returns (printed_line (ArcOf sink source)) b))
printed_bytes (WordOf name bits) h =
    (let b = three_bytes (codes "word:") name (word_digits bits) (record { some = refl; bytes = refl }) (name_like name h.0) (digits_like bits h.1) in
    (no_feeds (printed_line (WordOf name bits)) b, no_returns (printed_line (WordOf name bits)) b))
printed_bytes (EnumOf name value) h =
    (let b = three_bytes (codes "enum:") name value (record { some = refl; bytes = refl }) (name_like name h.0) (name_like value h.1) in
    (no_feeds (printed_line (EnumOf name value)) b, no_returns (printed_line (EnumOf name value)) b))
printed_bytes (UnknownOf frame bit) h =
    (let b = two_bytes (codes "unknown:") (unknown_word frame bit) (record { some = refl; bytes = refl }) (unknown_like frame bit h.0 h.1) in
    (no_feeds (printed_line (UnknownOf frame bit)) b, no_returns (printed_line (UnknownOf frame bit)) b))
printed_bytes OutsideLine h = absurd h
