-- Digits in a text.
use Rattle.std.proofs.Common.{◌≡◌, ℕ, ◌+◌, ◌<◌, ◌≤◌, Bool, false, List, [], ◌∷◌, ◌++◌, length, get_or, take, append_assoc, sym, ap, ◌∙◌}
use Rattle.std.specs.Prelude.{if◌then◌else◌}
use Rattle.std.proofs.lemmas.List.{map-append, take_more, take_all}
use Rattle.texts.specs.Printing.{bit_digits}

abbrev digit : Bool → ℕ
digit b = if b then 49 else 48

-- a digit more
pub digits_more : (old now new : List ℕ) (ds : List Bool) (i : ℕ) (d : Bool) → i < length ds → d ≡ get_or ds i false → now ≡ old ++ bit_digits (take i ds) → new ≡ now ++ (if d then 49 else 48) ∷ []
    → new ≡ old ++ bit_digits (take (i + 1) ds)
digits_more old now new ds i d below is before added =
    let more : bit_digits (take (i + 1) ds) ≡ bit_digits (take i ds) ++ digit d ∷ [] =
    ap bit_digits (take_more ds i false below) ∙ (map-append digit (take i ds) (get_or ds i false ∷ []) ∙ ap (λ b. bit_digits (take i ds) ++ digit b ∷ []) (sym is)) in
    added ∙ (ap (λ xs. xs ++ digit d ∷ []) before ∙ (append_assoc old (bit_digits (take i ds)) (digit d ∷ []) ∙ ap (λ xs. old ++ xs) (sym more)))

-- all digits
pub digits_all : (old now : List ℕ) (ds : List Bool) (i : ℕ) → length ds ≤ i → now ≡ old ++ bit_digits (take i ds) → now ≡ old ++ bit_digits ds
digits_all old now ds i over before = before ∙ ap (λ xs. old ++ bit_digits xs) (take_all i ds over)
