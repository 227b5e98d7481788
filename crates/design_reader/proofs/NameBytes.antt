-- Bytes of names are characters.
use Rattle.std.proofs.Common.{◌≡◌, ℕ, zero, suc, ◌+◌, ◌<◌, Bool, true, false, ◌&&◌, List, [], ◌∷◌, ◌++◌, length, take, get_or, refl, sym, ap, ◌∙◌, append_assoc, arith}
use Rattle.std.specs.List.{list_all}
use Rattle.std.specs.Prelude.{nat_le, nat_lt}
use Rattle.std.proofs.lemmas.List.{take_more}
use Rattle.std.proofs.lemmas.Bool.Decides.{nat_tests}
use Rattle.texts.specs.Names.{is_name, is_name_byte}

first_true : (a b : Bool) → a && b ≡ true → a ≡ true
first_true true b e = refl
first_true false b e = e

second_true : (a b : Bool) → a && b ≡ true → b ≡ true
second_true true b e = e
second_true false b e = absurd (let no : ⊥ = cc in no)

-- the bytes of a name are such bytes
pub bytes_of_name : (bytes : List ℕ) → is_name bytes ≡ true → list_all is_name_byte bytes ≡ true
bytes_of_name bytes e = second_true (nat_lt 0 (length bytes) && nat_le (length bytes) 255) (list_all is_name_byte bytes) e

small : (b : ℕ) → nat_le b 126 ≡ true → b < 128
small b h = grind (arith, nat_tests)

-- so is each of them
byte_small : (bytes : List ℕ) (i : ℕ) → list_all is_name_byte bytes ≡ true → i < length bytes → get_or bytes i 0 < 128
byte_small [] i all h = absurd (omega arith)
byte_small (b ∷ bs) zero all h = small b (second_true (nat_le 33 b) (nat_le b 126) (first_true (is_name_byte b) (list_all is_name_byte bs) all))
byte_small (b ∷ bs) (suc i) all h = byte_small bs i (second_true (is_name_byte b) (list_all is_name_byte bs) all) (omega arith)

-- one byte more at the end of those so far
pub one_more : (old text bytes character : List ℕ) (i : ℕ) → list_all is_name_byte bytes ≡ true → i < length bytes
    → (get_or bytes i 0 < 128 → character ≡ get_or bytes i 0 ∷ []) → text ≡ old ++ take i bytes → text ++ character ≡ old ++ take (i + 1) bytes
one_more old text bytes character i all within one so_far =
    ap (λ t. t ++ character) so_far
    ∙ ap (λ c. (old ++ take i bytes) ++ c) (one (byte_small bytes i all within))
    ∙ append_assoc old (take i bytes) (get_or bytes i 0 ∷ [])
    ∙ sym (ap (λ t. old ++ t) (take_more bytes i 0 within))
