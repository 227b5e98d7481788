-- A line feed behind printed tokens changes nothing: they are read back.
use Rattle.std.proofs.Common.{◌≡◌, ℕ, Bool, true, false, cond, ◌&&◌, List, [], ◌∷◌, ◌++◌, refl, sym, ap, ap₂, ◌∙◌, append_assoc}
use Rattle.json.specs.Token.{Token, begin_object, end_object, begin_array, end_array, key, string, number, boolean, null, bad}
use Rattle.json.specs.Word.{ends_word, word}
use Rattle.json.specs.Lex.{Lexeme, token, comma, colon, string_token, lex, between, fresh, punctuate, tokens}
use Rattle.json.specs.Print.{escape, quoted, token_text, begins, ends, separator, print_from, print, IsPrintable, ArePrintable}
use Rattle.json.proofs.Printed.Strings.{content-escape, lex-escape}
use Rattle.json.proofs.Printed.Numbers.{lex-number, in_word-ended}
use Rattle.json.proofs.Printed.Tokens.{tokens-print}

-- the lexemes of a token
abbrev lexemes_of : Token → List Lexeme
lexemes_of begin_object = token begin_object ∷ []
lexemes_of end_object = token end_object ∷ []
lexemes_of begin_array = token begin_array ∷ []
lexemes_of end_array = token end_array ∷ []
lexemes_of (key s) = token (string s) ∷ colon ∷ []
lexemes_of (string s) = token (string s) ∷ []
lexemes_of (number s) = token (number s) ∷ []
lexemes_of (boolean b) = token (boolean b) ∷ []
lexemes_of null = token null ∷ []
lexemes_of bad = []

quoted_lexed : (s r : List ℕ) → lex between (quoted s ++ r) ≡ token (string s) ∷ lex between r
unfolding lex
quoted_lexed s r =
    ap (λ l. lex between (34 ∷ l)) (append_assoc (escape s) (34 ∷ []) r) ∙ ap₂ (λ o l. token (string_token o) ∷ l) (content-escape s r) (lex-escape s r)

-- a printed token gives its lexemes, where a word ends behind a value
token_lexed : (t : Token) (r : List ℕ) → IsPrintable t → (ends t ≡ true → ends_word r ≡ true) → lex between (token_text t ++ r) ≡ lexemes_of t ++ lex between r
unfolding lex word
token_lexed begin_object r h ended = refl
token_lexed end_object r h ended = refl
token_lexed begin_array r h ended = refl
token_lexed end_array r h ended = refl
token_lexed (key s) r h ended = ap (lex between) (append_assoc (quoted s) (58 ∷ []) r) ∙ quoted_lexed s (58 ∷ r)
token_lexed (string s) r h ended = quoted_lexed s r
token_lexed (number s) r h ended = lex-number s r h (ended refl)
token_lexed (boolean true) r h ended = ap₂ (λ b l. token (cond b (boolean true) bad) ∷ l) (ended refl) (in_word-ended r (ended refl))
token_lexed (boolean false) r h ended = ap₂ (λ b l. token (cond b (boolean false) bad) ∷ l) (ended refl) (in_word-ended r (ended refl))
token_lexed null r h ended = ap₂ (λ b l. token (cond b null bad) ∷ l) (ended refl) (in_word-ended r (ended refl))
token_lexed bad r h ended = absurd h

comma_lexed : (b : Bool) (r : List ℕ) → lex between (cond b (44 ∷ []) [] ++ r) ≡ cond b (comma ∷ []) [] ++ lex between r
unfolding lex
comma_lexed true r = refl
comma_lexed false r = refl

-- behind a value a word ends, with a line feed at the end and without one
value_ends : (ts : List Token) → ends_word (print_from true ts) ≡ true
unfolding print_from
value_ends [] = refl
value_ends (begin_object ∷ ts) = refl
value_ends (end_object ∷ ts) = refl
value_ends (begin_array ∷ ts) = refl
value_ends (end_array ∷ ts) = refl
value_ends (key s ∷ ts) = refl
value_ends (string s ∷ ts) = refl
value_ends (number s ∷ ts) = refl
value_ends (boolean b ∷ ts) = refl
value_ends (null ∷ ts) = refl
value_ends (bad ∷ ts) = refl

value_ends_line : (ts : List Token) → ends_word (print_from true ts ++ 10 ∷ []) ≡ true
unfolding print_from
value_ends_line [] = refl
value_ends_line (begin_object ∷ ts) = refl
value_ends_line (end_object ∷ ts) = refl
value_ends_line (begin_array ∷ ts) = refl
value_ends_line (end_array ∷ ts) = refl
value_ends_line (key s ∷ ts) = refl
value_ends_line (string s ∷ ts) = refl
value_ends_line (number s ∷ ts) = refl
value_ends_line (boolean b ∷ ts) = refl
value_ends_line (null ∷ ts) = refl
value_ends_line (bad ∷ ts) = refl

-- the lexemes of a token with more behind it
front_lexed : (c : Bool) (t : Token) (rest : List ℕ) → IsPrintable t → (ends t ≡ true → ends_word rest ≡ true)
    → lex between (separator c t ++ (token_text t ++ rest)) ≡ cond (c && begins t) (comma ∷ []) [] ++ (lexemes_of t ++ lex between rest)
front_lexed c t rest h ended =
    comma_lexed (c && begins t) (token_text t ++ rest) ∙ ap (λ l. cond (c && begins t) (comma ∷ []) [] ++ l) (token_lexed t rest h ended)

regrouped : (a b c d : List ℕ) → (a ++ (b ++ c)) ++ d ≡ a ++ (b ++ (c ++ d))
regrouped a b c d = simp append_assoc

-- a line feed at the end adds no lexeme
line_feed_lexed : (c : Bool) (ts : List Token) → ArePrintable ts → lex between (print_from c ts ++ 10 ∷ []) ≡ lex between (print_from c ts)
unfolding lex print_from ArePrintable
line_feed_lexed c [] h = refl
line_feed_lexed c (t ∷ ts) h =
    let rest = print_from (ends t) ts in
    ap (lex between) (regrouped (separator c t) (token_text t) rest (10 ∷ []))
    ∙ front_lexed c t (rest ++ 10 ∷ []) h.0 (λ e. ap (λ b. ends_word (print_from b ts ++ 10 ∷ [])) e ∙ value_ends_line ts)
    ∙ ap (λ l. cond (c && begins t) (comma ∷ []) [] ++ (lexemes_of t ++ l)) (line_feed_lexed (ends t) ts h.1)
    ∙ sym (front_lexed c t rest h.0 (λ e. ap (λ b. ends_word (print_from b ts)) e ∙ value_ends ts))

-- a printed line is read as its tokens
pub tokens_of_line : (ts : List Token) → ArePrintable ts → tokens (print ts ++ 10 ∷ []) ≡ ts
tokens_of_line ts h = ap (punctuate fresh) (line_feed_lexed false ts h) ∙ tokens-print ts h
