-- Lines and words are slices of their source, in order.
use Rattle.std.proofs.Common.{◌≡◌, ℕ, ◌+◌, ◌-◌, ◌<◌, ◌≤◌, List, [], ◌∷◌, ◌++◌, length, take, drop, map, Bool, true, false, cond, not, refl, sym, ap, subst, ◌∙◌, arith, inl, inr, length-append, append_assoc}
use Rattle.std.proofs.lemmas.List.{take-append-drop, take_at, drop_at, length-take-le}
use Rattle.std.specs.List.{list_all, position_or_len}
use Rattle.words.specs.Members.{In}
use Rattle.texts.specs.Pieces.{Span}
use Rattle.texts.specs.Lines.{Line, is_hash, lines_of, before_hash}
use Rattle.texts.specs.Words.{is_blank, words_of}
use Rattle.texts.specs.Parts.{StandsAt, InOrder, span_of, BeginsWithLine, IsTextOf, BeginsWithWord, IsLineOf, IsBeforeHash, no_blank}
use Rattle.texts.proofs.LineParts.{lines_make}
use Rattle.texts.proofs.WordParts.{words_make}
use Rattle.texts.proofs.Joined.{list_all-before_first, stops_at_first, both_left, not_true}

-- ---- bytes between others

stands : (source front bytes back : List ℕ) (start : ℕ) → source ≡ front ++ (bytes ++ back) → length front ≡ start → StandsAt source start bytes
stands source front bytes back start whole place =
    let size : start + length bytes - start ≡ length bytes = omega arith in record {
      within = omega (arith, ap length whole, length-append front (bytes ++ back), length-append bytes back);
      same = rw (size, whole, drop_at front (bytes ++ back) start place) (take_at bytes back (length bytes) refl);
    }

-- the source round a slice
around : (source bytes : List ℕ) (start : ℕ) → StandsAt source start bytes → source ≡ take start source ++ (bytes ++ drop (length bytes) (drop start source))
around source bytes start at =
    let size : start + length bytes - start ≡ length bytes = omega arith in
    let same : take (length bytes) (drop start source) ≡ bytes = subst (λ n. take n (drop start source) ≡ bytes) size at.same in
    sym (ap (λ ys. take start source ++ (ys ++ drop (length bytes) (drop start source))) (sym same)
    ∙ (ap (λ ys. take start source ++ ys) (take-append-drop (length bytes) (drop start source)) ∙ take-append-drop start source))

-- ---- lines

-- a line with its end
abbrev ended : (text line after : List ℕ) → BeginsWithLine text line after → List ℕ
ended text line after b = line ++ cond b.has_return (13 ∷ []) [] ++ cond b.has_feed (10 ∷ []) []

ended_length : (text line after : List ℕ) (b : BeginsWithLine text line after) → length (ended text line after b) ≡ length text - length after
ended_length text line after b = omega (arith, ap length b.whole, length-append (ended text line after b) after)

lines_stand : (source : List ℕ) (lines : List Line) (line : Line) (number start : ℕ) (front text : List ℕ) → IsTextOf number start lines text
    → source ≡ front ++ text → length front ≡ start → In lines line → StandsAt source line.start line.text
lines_stand source [] line number start front text h whole place found = absurd found
lines_stand source (first ∷ lines) line number start front text h whole place (inl is) =
    let ending = cond h.1.has_return (13 ∷ []) [] in
    let feed = cond h.1.has_feed (10 ∷ []) [] in
    let parts : first.text ++ ending ++ feed ++ h.0 ≡ first.text ++ (ending ++ (feed ++ h.0)) = simp append_assoc in
    let at : StandsAt source start first.text = stands source front first.text _ start (whole ∙ ap (λ ys. front ++ ys) (h.1.whole ∙ parts)) place in
    subst (λ l. StandsAt source l.start l.text) is (subst (λ s. StandsAt source s first.text) (sym h.3) at)
lines_stand source (first ∷ lines) line number start front text h whole place (inr found) =
    let after = h.0 in
    let head = ended text first.text after h.1 in
    lines_stand source lines line _ _ (front ++ head) after h.4
    (whole ∙ (ap (λ ys. front ++ ys) h.1.whole ∙ sym (append_assoc front head after)))
    (omega (arith, length-append front head, ended_length text first.text after h.1)) found

-- each line begins at the text's place or behind it
lines_from_place : (lines : List Line) (other : Span) (number start : ℕ) (text : List ℕ) → IsTextOf number start lines text → In (map span_of lines) other → start ≤ other.start
lines_from_place [] other number start text h found = absurd found
lines_from_place (first ∷ lines) other number start text h (inl is) = omega (arith, ap (λ s. s.start) is, h.3)
lines_from_place (first ∷ lines) other number start text h (inr found) = omega (arith, lines_from_place lines other _ _ h.0 h.4 found)

no_line_left : (lines : List Line) (other : Span) (number start : ℕ) (text : List ℕ) → text ≡ [] → IsTextOf number start lines text → In (map span_of lines) other → ⊥
no_line_left [] other number start text none h found = found
no_line_left (first ∷ lines) other number start text none h found = absurd (omega (arith, h.1.not_empty, ap length none))

feed_length : (t : Bool) → t ≡ true → length {A = ℕ} (cond t (10 ∷ []) []) ≡ 1
feed_length true is = refl
feed_length false is = absurd (let never : ⊥ = cc in never)

apart : (first : Line) (lines : List Line) (other : Span) (number start next : ℕ) (text after : List ℕ) (b : BeginsWithLine text first.text after) (t : Bool) → b.has_feed ≡ t
    → first.start ≡ start → IsTextOf next (start + (length text - length after)) lines after → In (map span_of lines) other → first.start + length first.text < other.start
apart first lines other number start next text after b true is place h found =
    let ending : List ℕ = cond b.has_return (13 ∷ []) [] in
    let feed : List ℕ = cond b.has_feed (10 ∷ []) [] in
    let one : length feed ≡ 1 = feed_length b.has_feed is in
    omega (arith, lines_from_place lines other next _ after h found, ended_length text first.text after b, length-append (first.text ++ ending) feed, length-append first.text ending)
apart first lines other number start next text after b false is place h found = absurd (no_line_left lines other next _ after (b.last is) h found)

lines_in_order : (lines : List Line) (number start : ℕ) (text : List ℕ) → IsTextOf number start lines text → InOrder (map span_of lines)
lines_in_order [] number start text h = tt
lines_in_order (first ∷ lines) number start text h =
    (λ other found. apart first lines other number start _ text h.0 h.1 h.1.has_feed refl h.3 h.4 found, lines_in_order lines _ _ h.0 h.4)

-- each line takes a byte at least
ended_takes : (text line after : List ℕ) (b : BeginsWithLine text line after) (t : Bool) → b.has_feed ≡ t → length after < length text
ended_takes text line after b true is = omega (arith, feed_length b.has_feed is, ap length b.whole, length-append (ended text line after b) after, length-append (line ++ cond b.has_return (13 ∷ []) []) (cond b.has_feed (10 ∷ []) []))
ended_takes text line after b false is = omega (arith, b.not_empty, ap length (b.last is))

lines_few : (lines : List Line) (number start : ℕ) (text : List ℕ) → IsTextOf number start lines text → length lines ≤ length text
lines_few [] number start text h = omega arith
lines_few (first ∷ lines) number start text h = omega (arith, ended_takes text first.text h.0 h.1 h.1.has_feed refl, lines_few lines _ _ h.0 h.4)

-- ---- words

words_stand : (source : List ℕ) (words : List Span) (word : Span) (start : ℕ) (front text back : List ℕ) → IsLineOf start words text
    → source ≡ front ++ (text ++ back) → length front ≡ start → In words word → StandsAt source word.start word.text
words_stand source [] word start front text back h whole place found = absurd found
words_stand source (first ∷ words) word start front text back h whole place (inl is) =
    let blanks = h.0 in
    let parts : front ++ (blanks ++ first.text ++ h.1 ++ back) ≡ front ++ blanks ++ (first.text ++ (h.1 ++ back)) = simp append_assoc in
    let at : StandsAt source first.start first.text =
    stands source (front ++ blanks) first.text (h.1 ++ back) first.start (whole ∙ (ap (λ ys. front ++ (ys ++ back)) h.2.whole ∙ parts)) (omega (arith, h.3, length-append front blanks)) in
    subst (λ w. StandsAt source w.start w.text) is at
words_stand source (first ∷ words) word start front text back h whole place (inr found) =
    let blanks = h.0 in
    let parts : front ++ (blanks ++ first.text ++ h.1 ++ back) ≡ front ++ blanks ++ first.text ++ (h.1 ++ back) = simp append_assoc in
    words_stand source words word _ (front ++ blanks ++ first.text) h.1 back h.4
    (whole ∙ (ap (λ ys. front ++ (ys ++ back)) h.2.whole ∙ parts))
    (omega (arith, h.3, length-append (front ++ blanks) first.text, length-append front blanks)) found

-- each word begins at the text's place or behind it
words_from_place : (words : List Span) (other : Span) (start : ℕ) (text : List ℕ) → IsLineOf start words text → In words other → start ≤ other.start
words_from_place [] other start text h found = absurd found
words_from_place (first ∷ words) other start text h (inl is) = omega (arith, ap (λ s. s.start) is, h.3)
words_from_place (first ∷ words) other start text h (inr found) = omega (arith, h.3, words_from_place words other _ h.1 h.4 found)

-- a word that begins with no blank in front doesn't stand where a blank does
blank_between : (text blanks word after : List ℕ) → BeginsWithWord text blanks word after → list_all is_blank (take 1 text) ≡ true → 0 < length blanks
blank_between text (b ∷ bs) word after h ends = omega arith
blank_between text [] [] after h ends = absurd (omega (arith, h.has_bytes))
blank_between text [] (c ∷ cs) after h ends =
    let blank : is_blank c ≡ true = both_left (is_blank c) true (ap (λ ys. list_all is_blank (take 1 ys)) (sym h.whole) ∙ ends) in
    let bare : is_blank c ≡ false = not_true (is_blank c) (both_left (not (is_blank c)) (no_blank cs) h.one_word) in
    absurd (let never : ⊥ = cc in never)

words_behind : (words : List Span) (other : Span) (start : ℕ) (text : List ℕ) → list_all is_blank (take 1 text) ≡ true → IsLineOf start words text → In words other → start < other.start
words_behind [] other start text ends h found = absurd found
words_behind (first ∷ words) other start text ends h (inl is) = omega (arith, blank_between text h.0 first.text h.1 h.2 ends, ap (λ s. s.start) is, h.3)
words_behind (first ∷ words) other start text ends h (inr found) =
    omega (arith, blank_between text h.0 first.text h.1 h.2 ends, h.3, words_from_place words other _ h.1 h.4 found)

words_in_order : (words : List Span) (start : ℕ) (text : List ℕ) → IsLineOf start words text → InOrder words
words_in_order [] start text h = tt
words_in_order (first ∷ words) start text h = (λ other found. words_behind words other _ h.1 h.2.ends h.4 found, words_in_order words _ h.1 h.4)

words_few : (words : List Span) (start : ℕ) (text : List ℕ) → IsLineOf start words text → length words ≤ length text
words_few [] start text h = omega arith
words_few (first ∷ words) start text h =
    omega (arith, words_few words _ h.1 h.4, h.2.has_bytes, ap length h.2.whole, length-append (h.0 ++ first.text) h.1, length-append h.0 first.text)

-- ---- the laws

pub line_stands : (text : List ℕ) (line : Line) → In (lines_of text) line → StandsAt text line.start line.text
line_stands text line found = lines_stand text (lines_of text) line 1 0 [] text (lines_make text) refl refl found

pub line_order : (text : List ℕ) → InOrder (map span_of (lines_of text))
line_order text = lines_in_order (lines_of text) 1 0 text (lines_make text)

pub word_stands : (source : List ℕ) (line : Line) (word : Span) → StandsAt source line.start line.text → In (words_of line) word → StandsAt source word.start word.text
word_stands source line word at found =
    words_stand source (words_of line) word line.start (take line.start source) line.text _ (words_make line.start line.text)
    (around source line.text line.start at) (length-take-le line.start source (omega (arith, at.within))) found

pub word_order : (line : Line) → InOrder (words_of line)
word_order line = words_in_order (words_of line) line.start line.text (words_make line.start line.text)

pub few_lines : (text : List ℕ) → length (lines_of text) ≤ length text
few_lines text = lines_few (lines_of text) 1 0 text (lines_make text)

pub few_words : (line : Line) → length (words_of line) ≤ length line.text
few_words line = words_few (words_of line) line.start line.text (words_make line.start line.text)

pub before_hash_stands : (line : Line) → IsBeforeHash line.text (before_hash line).text
before_hash_stands line = record {
  after = drop (position_or_len is_hash line.text) line.text;
  whole = sym (take-append-drop (position_or_len is_hash line.text) line.text);
  no_hash = list_all-before_first is_hash line.text;
  ends = stops_at_first is_hash line.text;
}
