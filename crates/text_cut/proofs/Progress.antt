-- An iterator whose value is the list of what is left makes progress: an item shortens it.
use Rattle.std.proofs.Common.{◌≡◌, List, ◌∷◌, length, Some, ap, arith}
use Rattle.std.specs.Iterator.{MakesProgress, item_count}

pub goes_on : {A B : Type 0} (can : List B → Type 0) (always : (left : List B) → can left) (old new : List B) (item : A) (x : B) → old ≡ x ∷ new
    → MakesProgress can (item_count {S = List B} {A = B} (λ left. left)) old (Some item) new
goes_on can always old new item x is = record {
  on = λ _. (always new, tt, omega (arith, ap length is));
  keeps = always new;
  rests = λ _. tt;
}
