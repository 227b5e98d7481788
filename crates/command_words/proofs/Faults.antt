-- The first fault is that of the elements that are left, each judged with those before it.
use Rattle.std.proofs.Common.{◌≡◌, ℕ, ◌+◌, ◌<◌, List, length, take, drop, get_or, Option, refl}
use Rattle.std.proofs.lemmas.List.{take_more, drop_more}
use Rattle.words.specs.Firsts.{or_else, first_fault_after}

pub one_more : {X E : Type 0} (fault : List X → X → Option E) (all : List X) (i : ℕ) (x : X) → i < length all → x ≡ get_or all i x
    → first_fault_after fault (take i all) (drop i all) ≡ or_else (fault (take i all) x) (first_fault_after fault (take (i + 1) all) (drop (i + 1) all))
one_more fault all i x within is =
    rw (take_more all i x within, drop_more all i x within, ← is) refl
