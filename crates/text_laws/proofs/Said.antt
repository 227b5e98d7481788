-- What a line says can stand in a text.
use Rattle.std.proofs.Common.{◌≡◌, ◌≤◌, ◌<◌, ◌+◌, ℕ, suc, Bool, true, false, not, cond, inl, inr, ◌⊎◌, List, [], ◌∷◌, ◌++◌, length, filter, reverse, append_assoc, Option, Some, None, option_map, refl, sym, ap, subst, ◌∙◌, arith}
use Rattle.std.specs.Prelude.{◌||◌, ◌&&◌, ◌==◌, nat_le, codes}
use Rattle.std.specs.List.{list_any, list_all, before_first, after_first}
use Rattle.std.specs.Str.{bytes_eq}
use Rattle.std.specs.Option.{option_and_then}
use Rattle.std.proofs.lemmas.Bool.{false≢true, and_parts, and_from, or_parts, leb-true}
use Rattle.std.proofs.lemmas.List.{reverse-append, reverse-reverse, length-map, length-reverse, append-nil}
use Rattle.std.proofs.lemmas.List.Elements.{filter-append}
use Rattle.std.proofs.lemmas.List.Folds.{list_all-append}
use Rattle.words.specs.Members.{In}
use Rattle.patterns.specs.Bits.{PatternBit}
use Rattle.texts.specs.Lines.{is_line_feed}
use Rattle.texts.specs.Names.{is_name}
use Rattle.texts.specs.Numbers.{is_number, value_of, number_up_to}
use Rattle.texts.specs.Parts.{no_line_feed}
use Rattle.texts.specs.PatternBits.{is_b, bit_behind_f, bit_behind_mark, pattern_bit_of}
use Rattle.texts.specs.Pieces.{put_front, pieces}
use Rattle.texts.specs.Words.{is_blank}
use Rattle.cells_laws.proofs.Options.{then_from, mapped_from}
use Rattle.config_grammar.specs.ConfigLines.{ConfigLine, DeviceLine, HeadLine, TileLine, ArcOf, WordOf, EnumOf, UnknownOf, OutsideLine, behind_blanks, without_blanks, is_bit_digit, bits_of_digits, unknown_at, says_one, says_two, says_three, says_words, begins_outside, is_return, says}
use Rattle.text_laws.specs.Formed.{IsHead, CanStand}
use Rattle.text_laws.proofs.TextLines.{is_word, word_texts, words_are}
use Rattle.text_laws.proofs.Sayings.{says_text, says_as}

-- ---- blanks at both ends

one_more : (n : ℕ) → 1 + n ≡ suc n
one_more n = omega arith

-- a blank at the front is left out, and another byte begins the rest
blank_left_out : (b : ℕ) (bs : List ℕ) → is_blank b ≡ true → behind_blanks (b ∷ bs) ≡ behind_blanks bs
blank_left_out b bs h = rw (h, one_more) refl

begins_bare : (b : ℕ) (bs : List ℕ) → is_blank b ≡ false → behind_blanks (b ∷ bs) ≡ b ∷ bs
begins_bare b bs h = rw h refl

-- a property of texts that a blank at the front doesn't change holds of what stands behind blanks
behind_holds : (P : List ℕ → Type 0) → ((b : ℕ) (bs : List ℕ) → is_blank b ≡ true → P (b ∷ bs) → P bs) → (text : List ℕ) → P text → P (behind_blanks text)
behind_holds P step [] h = h
behind_holds P step (b ∷ bs) h = go (is_blank b) refl (behind_holds P step bs)
  where
    go : (t : Bool) → is_blank b ≡ t → (P bs → P (behind_blanks bs)) → P (behind_blanks (b ∷ bs))
    go true e ih = subst P (sym (blank_left_out b bs e)) (ih (step b bs e h))
    go false e ih = subst P (sym (begins_bare b bs e)) h

words_behind : (b : ℕ) (bs : List ℕ) → is_blank b ≡ true → word_texts (b ∷ bs) ≡ word_texts bs
words_behind b bs h = rw h refl

-- a blank at the end gives no further word
AlikeAtEnd : List (List ℕ) → List (List ℕ) → Type 0
AlikeAtEnd ps qs = (qs ≡ ps ++ [] ∷ []) ⊎ (qs ≡ ps)

front_alike : (b : ℕ) (ps qs : List (List ℕ)) → AlikeAtEnd ps qs → AlikeAtEnd (put_front b ps) (put_front b qs)
unfolding AlikeAtEnd
front_alike b [] qs (inl e) = inr (ap (put_front b) e)
front_alike b (p ∷ ps) qs (inl e) = inl (ap (put_front b) e)
front_alike b ps qs (inr e) = inr (ap (put_front b) e)

separated_alike : (ps qs : List (List ℕ)) → AlikeAtEnd ps qs → AlikeAtEnd ([] ∷ ps) ([] ∷ qs)
unfolding AlikeAtEnd
separated_alike ps qs (inl e) = inl (ap (λ rs. [] ∷ rs) e)
separated_alike ps qs (inr e) = inr (ap (λ rs. [] ∷ rs) e)

pieces_alike : (text : List ℕ) (b : ℕ) → is_blank b ≡ true → AlikeAtEnd (pieces is_blank text) (pieces is_blank (text ++ b ∷ []))
pieces_alike [] b h = unfold AlikeAtEnd in inl (rw h refl)
pieces_alike (c ∷ cs) b h = go (is_blank c) (pieces_alike cs b h)
  where
    go : (t : Bool) → AlikeAtEnd (pieces is_blank cs) (pieces is_blank (cs ++ b ∷ []))
        → AlikeAtEnd (cond t ([] ∷ pieces is_blank cs) (put_front c (pieces is_blank cs))) (cond t ([] ∷ pieces is_blank (cs ++ b ∷ [])) (put_front c (pieces is_blank (cs ++ b ∷ []))))
    go true ih = separated_alike (pieces is_blank cs) (pieces is_blank (cs ++ b ∷ [])) ih
    go false ih = front_alike c (pieces is_blank cs) (pieces is_blank (cs ++ b ∷ [])) ih

alike_words : (ps qs : List (List ℕ)) → AlikeAtEnd ps qs → filter is_word qs ≡ filter is_word ps
unfolding AlikeAtEnd
alike_words ps qs (inl e) = ap (filter is_word) e ∙ filter-append is_word ps ([] ∷ []) ∙ append-nil (filter is_word ps)
alike_words ps qs (inr e) = ap (filter is_word) e

words_before : (text : List ℕ) (b : ℕ) → is_blank b ≡ true → word_texts (text ++ b ∷ []) ≡ word_texts text
words_before text b h = alike_words (pieces is_blank text) (pieces is_blank (text ++ b ∷ [])) (pieces_alike text b h)

-- a text without blanks at its ends has the same words
same_words : (text : List ℕ) → word_texts (without_blanks text) ≡ word_texts text
same_words text =
    let front = behind_blanks text in
    let back : word_texts (reverse (behind_blanks (reverse front))) ≡ word_texts front =
    behind_holds (λ r. word_texts (reverse r) ≡ word_texts front)
    (λ b bs blank e. sym (ap word_texts (reverse-append (b ∷ []) bs) ∙ words_before (reverse bs) b blank) ∙ e) (reverse front) (ap word_texts (reverse-reverse front)) in
    back ∙ behind_holds (λ t. word_texts t ≡ word_texts text) (λ b bs blank e. sym (words_behind b bs blank) ∙ e) text refl

-- its first byte isn't blank
BeginsBare : List ℕ → Type 0
BeginsBare [] = Unit {0}
BeginsBare (b ∷ bs) = is_blank b ≡ false

behind_is_bare : (text : List ℕ) → BeginsBare (behind_blanks text)
unfolding BeginsBare
behind_is_bare [] = tt
behind_is_bare (b ∷ bs) = go (is_blank b) refl (behind_is_bare bs)
  where
    go : (t : Bool) → is_blank b ≡ t → BeginsBare (behind_blanks bs) → BeginsBare (behind_blanks (b ∷ bs))
    go true e ih = subst BeginsBare (sym (blank_left_out b bs e)) ih
    go false e ih = subst BeginsBare (sym (begins_bare b bs e)) e

bare_is_kept : (text : List ℕ) → BeginsBare text → behind_blanks text ≡ text
unfolding BeginsBare
bare_is_kept [] h = refl
bare_is_kept (b ∷ bs) h = begins_bare b bs h

bare_front : (xs ys : List ℕ) → BeginsBare (xs ++ ys) → BeginsBare xs
unfolding BeginsBare
bare_front [] ys h = tt
bare_front (x ∷ xs) ys h = h

-- what stands behind blanks is the end of a text
record IsEndOf (text end : List ℕ) : Type 0 where
  front : List ℕ
  whole : text ≡ front ++ end

end_of : (text : List ℕ) → IsEndOf text (behind_blanks text)
end_of text = behind_holds (IsEndOf text) (λ b bs blank e. record { front = e.front ++ b ∷ []; whole = e.whole ∙ simp append_assoc }) text (record { front = []; whole = refl })

-- without blanks there are none left
trimmed_once : (text : List ℕ) → without_blanks (without_blanks text) ≡ without_blanks text
trimmed_once text =
    let front = behind_blanks text in
    let r = behind_blanks (reverse front) in
    let e = end_of (reverse front) in
    let split : front ≡ reverse r ++ reverse e.front = sym (reverse-reverse front) ∙ ap reverse e.whole ∙ reverse-append e.front r in
    let bare : BeginsBare (reverse r) = bare_front (reverse r) (reverse e.front) (subst BeginsBare split (behind_is_bare text)) in
    ap (λ t. reverse (behind_blanks (reverse t))) (bare_is_kept (reverse r) bare)
    ∙ ap (λ t. reverse (behind_blanks t)) (reverse-reverse r) ∙ ap reverse (bare_is_kept r (behind_is_bare (reverse front)))

-- what holds of each byte of a text holds without blanks
all_reversed : (q : ℕ → Bool) (xs : List ℕ) → list_all q xs ≡ true → list_all q (reverse xs) ≡ true
all_reversed q [] h = refl
all_reversed q (x ∷ xs) h =
    let p = and_parts (q x) (list_all q xs) h in
    ap (list_all q) (reverse-append (x ∷ []) xs) ∙ list_all-append q (reverse xs) (x ∷ [])
    ∙ and_from (list_all q (reverse xs)) (list_all q (x ∷ [])) (all_reversed q xs p.1) (and_from (q x) true p.0 refl)

all_trimmed : (q : ℕ → Bool) (text : List ℕ) → list_all q text ≡ true → list_all q (without_blanks text) ≡ true
all_trimmed q text h =
    let behind : (t : List ℕ) → list_all q t ≡ true → list_all q (behind_blanks t) ≡ true =
    behind_holds (λ t. list_all q t ≡ true) (λ b bs blank k. (and_parts (q b) (list_all q bs) k).1) in
    all_reversed q (behind_blanks (reverse (behind_blanks text))) (behind (reverse (behind_blanks text)) (all_reversed q (behind_blanks text) (behind text h)))

none_all : (q : ℕ → Bool) (xs : List ℕ) → list_any q xs ≡ false → list_all (λ b. not (q b)) xs ≡ true
none_all q [] h = refl
none_all q (x ∷ xs) h = let p = or_parts (q x) (list_any q xs) h in and_from (not (q x)) (list_all (λ b. not (q b)) xs) (ap not p.0) (none_all q xs p.1)

all_none : (q : ℕ → Bool) (xs : List ℕ) → list_all (λ b. not (q b)) xs ≡ true → list_any q xs ≡ false
all_none q [] h = refl
all_none q (x ∷ xs) h = (let p = and_parts (not (q x)) (list_all (λ b. not (q b)) xs) h in go (q x) p.0 (all_none q xs p.1))
  where
    go : (t : Bool) → not t ≡ true → list_any q xs ≡ false → t || list_any q xs ≡ false
    go true e rest = absurd (false≢true e)
    go false e rest = rest

-- ---- what the words of a line say

-- bits of words that say them are small
number_small : (most : ℕ) (word : List ℕ) (n : ℕ) → number_up_to most word ≡ Some n → n ≤ most
number_small most word n h = go (is_number word && nat_le (value_of word) most) refl h
  where
    go : (b : Bool) → is_number word && nat_le (value_of word) most ≡ b → cond b (Some (value_of word)) None ≡ Some n → n ≤ most
    go true e k =
        let same : value_of word ≡ n = cc in
        subst (λ m. m ≤ most) same (leb-true (value_of word) most (and_parts (is_number word) (nat_le (value_of word) most) e).1)
    go false e k = absurd (let no : ⊥ = cc in no)

IsSmallBit : PatternBit → Type 0
IsSmallBit p = (p.frame ≤ 65535) × (p.bit ≤ 65535)

f_small : (set : Bool) (rest : List ℕ) (p : PatternBit) → bit_behind_f set rest ≡ Some p → IsSmallBit p
unfolding IsSmallBit
f_small set rest p h =
    let f = then_from (λ frame. option_map (λ bit. let q : PatternBit = record { frame = frame; bit = bit; set = set } in q) (number_up_to 65535 (after_first is_b rest))) (number_up_to 65535 (before_first is_b rest)) p h in
    let b = mapped_from (λ bit. let q : PatternBit = record { frame = f.0; bit = bit; set = set } in q) (number_up_to 65535 (after_first is_b rest)) p f.1.1 in
    subst IsSmallBit b.1.1 (number_small 65535 (before_first is_b rest) f.0 f.1.0, number_small 65535 (after_first is_b rest) b.0 b.1.0)

mark_small : (set : Bool) (rest : List ℕ) (p : PatternBit) → bit_behind_mark set rest ≡ Some p → IsSmallBit p
mark_small set [] p h = absurd (let no : ⊥ = cc in no)
mark_small set (b ∷ rest) p h = go (b == 70) h
  where
    go : (t : Bool) → cond t (bit_behind_f set rest) None ≡ Some p → IsSmallBit p
    go true k = f_small set rest p k
    go false k = absurd (let no : ⊥ = cc in no)

bit_small : (word : List ℕ) (p : PatternBit) → pattern_bit_of word ≡ Some p → IsSmallBit p
bit_small [] p h = absurd (let no : ⊥ = cc in no)
bit_small (b ∷ rest) p h = go (b == 33) h
  where
    go : (t : Bool) → cond t (bit_behind_mark false rest) (bit_behind_mark true (b ∷ rest)) ≡ Some p → IsSmallBit p
    go true k = mark_small false rest p k
    go false k = mark_small true (b ∷ rest) p k

-- what words say, where a text stands for the line
abbrev Said : List ℕ → List (List ℕ) → ConfigLine → Type 0
Said text words (DeviceLine name) = is_name name ≡ true
Said text words (HeadLine head) = head ≡ text
Said text words (TileLine name) = is_name name ≡ true
Said text words (ArcOf sink source) = (is_name sink ≡ true) × (is_name source ≡ true)
Said text words (WordOf name bits) = (is_name name ≡ true) × ((digits : List ℕ) × (In words digits × (bits_of_digits digits ≡ bits)))
Said text words (EnumOf name value) = (is_name name ≡ true) × (is_name value ≡ true)
Said text words (UnknownOf frame bit) = (frame ≤ 65535) × (bit ≤ 65535)
Said text words OutsideLine = ⊥

either_way : (P : Type 0) (b : Bool) (x y : Option ConfigLine) (s : ConfigLine) → (x ≡ Some s → P) → (y ≡ Some s → P) → cond b x y ≡ Some s → P
either_way P true x y s f g h = f h
either_way P false x y s f g h = g h

where_true : (P : ConfigLine → Type 0) (b : Bool) (line s : ConfigLine) → (b ≡ true → P line) → cond b (Some line) None ≡ Some s → P s
where_true P true line s f h = let same : line ≡ s = cc in subst P same (f refl)
where_true P false line s f h = absurd (let no : ⊥ = cc in no)

head_said : (text : List ℕ) (words : List (List ℕ)) (s : ConfigLine) → Some (HeadLine text) ≡ Some s → Said text words s
head_said text words s h = let same : HeadLine text ≡ s = cc in subst (Said text words) same refl

one_said : (text : List ℕ) (words : List (List ℕ)) (first : List ℕ) (s : ConfigLine) → says_one text first ≡ Some s → Said text words s
one_said text words first s h = where_true (Said text words) (bytes_eq first (codes ".comment")) (HeadLine text) s (λ e. refl) h

unknown_said : (text : List ℕ) (words : List (List ℕ)) (word : List ℕ) (s : ConfigLine) → option_and_then unknown_at (pattern_bit_of word) ≡ Some s → Said text words s
unfolding IsSmallBit
unknown_said text words word s h =
    let p = then_from unknown_at (pattern_bit_of word) s h in
    where_true (Said text words) p.0.set (UnknownOf p.0.frame p.0.bit) s (λ e. bit_small word p.0 p.1.0) p.1.1

two_said : (text first second : List ℕ) (words : List (List ℕ)) (s : ConfigLine) → says_two text first second ≡ Some s → Said text words s
two_said text first second words s h =
    let P = Said text words s in
    let named : (line : ConfigLine) → (is_name second ≡ true → Said text words line) → cond (is_name second) (Some line) None ≡ Some s → P = λ line f. where_true (Said text words) (is_name second) line s f in
    either_way P _ _ _ s (named (DeviceLine second) (λ e. e))
    (either_way P _ _ _ s (named (HeadLine text) (λ e. refl))
    (either_way P _ _ _ s (named (TileLine second) (λ e. e)) (either_way P _ _ _ s (unknown_said text words second s) (one_said text words first s)))) h

three_said : (text first second third : List ℕ) (s : ConfigLine) → says_three text first second third ≡ Some s → Said text (first ∷ second ∷ third ∷ []) s
three_said text first second third s h =
    let words : List (List ℕ) = first ∷ second ∷ third ∷ [] in
    let P = Said text words s in
    let both : is_name second && is_name third ≡ true → (is_name second ≡ true) × (is_name third ≡ true) = and_parts (is_name second) (is_name third) in
    either_way P _ _ _ s (head_said text words s)
    (either_way P _ _ _ s (where_true (Said text words) (is_name second && is_name third) (ArcOf second third) s both)
    (either_way P _ _ _ s
    (where_true (Said text words) (is_name second && list_all is_bit_digit third) (WordOf second (bits_of_digits third)) s
    (λ e. ((and_parts (is_name second) (list_all is_bit_digit third) e).0, (third, (inr (inr (inl refl)), refl)))))
    (either_way P _ _ _ s (where_true (Said text words) (is_name second && is_name third) (EnumOf second third) s both) (one_said text words first s)))) h

words_said : (text : List ℕ) (words : List (List ℕ)) (s : ConfigLine) → says_words text words ≡ Some s → Said text words s
words_said text [] s h = absurd (let no : ⊥ = cc in no)
words_said text (a ∷ []) s h = one_said text (a ∷ []) a s h
words_said text (a ∷ b ∷ []) s h = two_said text a b (a ∷ b ∷ []) s h
words_said text (a ∷ b ∷ c ∷ []) s h = three_said text a b c s h
words_said text (a ∷ b ∷ c ∷ d ∷ rest) s h = one_said text (a ∷ b ∷ c ∷ d ∷ rest) a s h

-- ---- the whole line

says_parts : (r o : Bool) (x : Option ConfigLine) (s : ConfigLine) → cond r None (cond o (Some OutsideLine) x) ≡ Some s → (s ≡ OutsideLine → ⊥) → (r ≡ false) × (o ≡ false) × (x ≡ Some s)
says_parts true o x s h out = absurd (let no : ⊥ = cc in no)
says_parts false true x s h out = absurd (out (let same : s ≡ OutsideLine = cc in same))
says_parts false false x s h out = (refl, refl, h)

filtered_word : (ps : List (List ℕ)) (w : List ℕ) → In (filter is_word ps) w → is_word w ≡ true
filtered_word [] w i = absurd i
filtered_word ([] ∷ ps) w i = filtered_word ps w i
filtered_word ((b ∷ bs) ∷ ps) w i = elim i [ inl e ↦ subst (λ v. is_word v ≡ true) e refl | inr j ↦ filtered_word ps w j ]

some_length : (w : List ℕ) → is_word w ≡ true → 0 < length w
some_length [] h = absurd (false≢true h)
some_length (b ∷ bs) h = omega arith

bits_some : (digits : List ℕ) → is_word digits ≡ true → 0 < length (bits_of_digits digits)
bits_some digits h = omega (arith, some_length digits h, length-map (reverse digits) (λ b. b == 49), length-reverse digits)

can_stand : (text : List ℕ) (s : ConfigLine) → no_line_feed text ≡ true → list_any is_return text ≡ false → begins_outside (word_texts text) ≡ false
    → says_words (without_blanks text) (word_texts text) ≡ Some s → Said (without_blanks text) (word_texts text) s → CanStand s
can_stand text (DeviceLine name) feeds returns out told h = h
can_stand text (HeadLine head) feeds returns out told h =
    subst IsHead (sym h) (record {
      one_line = all_trimmed (λ b. not (is_line_feed b)) text feeds;
      returns = all_none is_return (without_blanks text) (all_trimmed (λ b. not (is_return b)) text (none_all is_return text returns));
      says_itself = λ line is.
          ap (says (without_blanks text)) (words_are line ∙ ap word_texts is)
          ∙ says_as (without_blanks text) (word_texts text) (all_none is_return (without_blanks text) (all_trimmed (λ b. not (is_return b)) text (none_all is_return text returns))) (same_words text) out
          ∙ ap (λ t. says_words t (word_texts text)) (trimmed_once text) ∙ told ∙ ap (λ t. Some (HeadLine t)) h;
    })
can_stand text (TileLine name) feeds returns out told h = h
can_stand text (ArcOf sink source) feeds returns out told h = h
can_stand text (WordOf name bits) feeds returns out told h =
    (h.0, subst (λ bs. 0 < length bs) h.1.1.1 (bits_some h.1.0 (filtered_word (pieces is_blank text) h.1.0 h.1.1.0)))
can_stand text (EnumOf name value) feeds returns out told h = h
can_stand text (UnknownOf frame bit) feeds returns out told h = h
can_stand text OutsideLine feeds returns out told h = absurd h

-- what a line says can stand in a text
pub said_stands : (text : List ℕ) (s : ConfigLine) → no_line_feed text ≡ true → says_text text ≡ Some s → (s ≡ OutsideLine → ⊥) → CanStand s
said_stands text s feeds h out =
    let p = says_parts (list_any is_return text) (begins_outside (word_texts text)) (says_words (without_blanks text) (word_texts text)) s h out in
    can_stand text s feeds p.0 p.1 p.2 (words_said (without_blanks text) (word_texts text) s p.2)
