-- What is found first among elements is found first among those that are left, as long as none before is it.
use Rattle.std.proofs.Common.{◌≡◌, ℕ, ◌+◌, ◌<◌, List, length, drop, get_or, find, Bool, Some, None, if◌then◌else◌, refl, ap, arith}
use Rattle.std.proofs.lemmas.List.{drop_more, drop_all}

pub one_more_found : {X : Type 0} (p : X → Bool) (all : List X) (i : ℕ) (x : X) → i < length all → x ≡ get_or all i x
    → find p (drop i all) ≡ (if p x then Some x else find p (drop (i + 1) all))
one_more_found p all i x within is = rw (drop_more all i x within, ← is) refl

pub none_left : {X : Type 0} (p : X → Bool) (all : List X) → find p (drop (length all) all) ≡ None
none_left p all = ap (find p) (drop_all (length all) all (omega arith))
