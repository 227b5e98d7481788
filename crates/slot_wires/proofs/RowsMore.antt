-- Rows of numbers, as a row is added.
use Rattle.std.proofs.Common.{◌≡◌, ◌-◌, ◌≤◌, ℕ, List, [], ◌∷◌, ◌++◌, length, take, drop, refl, ap, ◌∙◌, arith}
use Rattle.std.specs.Prelude.{slice_range}
use Rattle.std.proofs.lemmas.List.{length-append, length-drop, drop-append-le, drop_all, take-append-le, take_all}
use Rattle.grouped.specs.Rows.{rows_from, AreEnds}
use Rattle.grouped.proofs.Cut.{ends_last}

-- a part of a list is a part of a longer one
range_longer : {X : Type 0} (xs ys : List X) (start end : ℕ) → start ≤ end → end ≤ length xs → slice_range (xs ++ ys) start end ≡ slice_range xs start end
range_longer xs ys start end order within =
    let long = length-drop start xs in
    ap (take (end - start)) (drop-append-le start xs ys (omega arith)) ∙ take-append-le (end - start) (drop start xs) ys (omega arith)

last_part : {X : Type 0} (xs ys : List X) (start : ℕ) → start ≡ length xs → slice_range (xs ++ ys) start (length (xs ++ ys)) ≡ ys
last_part xs ys start is =
    let long = length-append xs ys in
    ap (take (length (xs ++ ys) - start)) (drop-append-le start xs ys (omega arith) ∙ ap (λ zs. zs ++ ys) (drop_all start xs (omega arith)))
    ∙ take_all (length (xs ++ ys) - start) ys (omega arith)

-- rows within the front of a list are rows of a longer one, and the row behind them is what was added
pub rows_more : {X : Type 0} (start : ℕ) (ends : List ℕ) (xs ys : List X) → AreEnds start ends (length xs)
    → rows_from start (ends ++ length (xs ++ ys) ∷ []) (xs ++ ys) ≡ rows_from start ends xs ++ ys ∷ []
rows_more start [] xs ys are = ap (λ row. row ∷ []) (last_part xs ys start are)
rows_more start (end ∷ ends) xs ys are =
    let here = range_longer xs ys start end are.0 (ends_last end ends (length xs) are.1) in
    let rest = rows_more end ends xs ys are.1 in
    λ i. here i ∷ rest i

pub ends_more : (start : ℕ) (ends : List ℕ) (last more : ℕ) → AreEnds start ends last → last ≤ more → AreEnds start (ends ++ more ∷ []) more
ends_more start [] last more are up = (omega (arith, are), refl)
ends_more start (end ∷ ends) last more are up = (are.0, ends_more end ends last more are.1 up)
