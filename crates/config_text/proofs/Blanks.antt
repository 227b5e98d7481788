-- A text without blanks in front or at its end, byte by byte.
use Rattle.std.proofs.Common.{◌≡◌, ℕ, suc, ◌+◌, List, [], ◌∷◌, ◌++◌, true, false, cond, drop, reverse, ap, sym, ◌∙◌, arith}
use Rattle.std.specs.List.{prefix_len}
use Rattle.std.proofs.lemmas.List.{reverse-append, reverse-reverse}
use Rattle.texts.specs.Words.{is_blank}
use Rattle.config_grammar.specs.ConfigLines.{behind_blanks}

one_dropped : (n : ℕ) (b : ℕ) (bs : List ℕ) → drop (1 + n) (b ∷ bs) ≡ drop n bs
one_dropped n b bs = let e : 1 + n ≡ suc n = omega arith in ap (λ k. drop k (b ∷ bs)) e

-- a blank in front is passed over
pub blank_first : (b : ℕ) (bs : List ℕ) → is_blank b ≡ true → behind_blanks (b ∷ bs) ≡ behind_blanks bs
blank_first b bs h = ap (λ blank. drop (cond blank (1 + prefix_len is_blank bs) 0) (b ∷ bs)) h ∙ one_dropped (prefix_len is_blank bs) b bs

-- another byte in front stays
pub other_first : (b : ℕ) (bs : List ℕ) → is_blank b ≡ false → behind_blanks (b ∷ bs) ≡ b ∷ bs
other_first b bs h = ap (λ blank. drop (cond blank (1 + prefix_len is_blank bs) 0) (b ∷ bs)) h

-- a blank at the end is left off
pub blank_last : (bs : List ℕ) (b : ℕ) → is_blank b ≡ true → reverse (behind_blanks (reverse (bs ++ b ∷ []))) ≡ reverse (behind_blanks (reverse bs))
blank_last bs b h = ap (λ bytes. reverse (behind_blanks bytes)) (reverse-append bs (b ∷ [])) ∙ ap reverse (blank_first b (reverse bs) h)

-- another byte at the end stays
pub other_last : (bs : List ℕ) (b : ℕ) → is_blank b ≡ false → reverse (behind_blanks (reverse (bs ++ b ∷ []))) ≡ bs ++ b ∷ []
other_last bs b h =
    ap (λ bytes. reverse (behind_blanks bytes)) (reverse-append bs (b ∷ [])) ∙ ap reverse (other_first b (reverse bs) h)
    ∙ ap reverse (sym (reverse-append bs (b ∷ []))) ∙ reverse-reverse (bs ++ b ∷ [])
