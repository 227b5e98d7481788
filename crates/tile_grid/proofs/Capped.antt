-- A value that is capped after each digit is the capped value.
use Rattle.std.proofs.Common.{◌≡◌, ℕ, ◌+◌, ◌-◌, ◌*◌, ◌<◌, List, [], ◌∷◌, length, get_or, drop, ap, sym, ◌∙◌, arith}
use Rattle.std.proofs.lemmas.List.{at_drop_more}
use Rattle.texts.specs.Numbers.{value_behind}
use Rattle.tile_grid.specs.Capped.{capped}

capped_digit : (n d : ℕ) → capped (10 * capped n + d) ≡ capped (10 * n + d)
capped_digit n d = omega arith

capped_behind : (n : ℕ) (digits : List ℕ) → capped (value_behind (capped n) digits) ≡ capped (value_behind n digits)
capped_behind n [] = omega arith
capped_behind n (d ∷ ds) =
    sym (capped_behind (10 * capped n + (d - 48)) ds) ∙ (ap (λ m. capped (value_behind m ds)) (capped_digit n (d - 48)) ∙ capped_behind (10 * n + (d - 48)) ds)

-- one digit more
pub capped_more : (digits : List ℕ) (i n m : ℕ) → i < length digits → m ≡ capped (10 * n + (get_or digits i 0 - 48))
    → capped (value_behind m (drop (i + 1) digits)) ≡ capped (value_behind n (drop i digits))
capped_more digits i n m within e =
    ap (λ k. capped (value_behind k (drop (i + 1) digits))) e
    ∙ (capped_behind (10 * n + (get_or digits i 0 - 48)) (drop (i + 1) digits) ∙ ap capped (sym (at_drop_more (value_behind n) digits i 0 within)))
