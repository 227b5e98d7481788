-- What stands behind an answer that is no fault.
use Rattle.std.proofs.Common.{◌≡◌, Option, Some, None, refl}
use Rattle.std.specs.Prelude.{Result, Ok, Err}
use Rattle.std.specs.Option.{ok_or}
use Rattle.words.specs.Firsts.{unless_fault}
use Rattle.json_forms.specs.Results.{◌>>=◌}

-- both steps answered
pub both : {A B F : Type 0} (r : Result A F) (f : A → Result B F) (b : B) → (r >>= f) ≡ Ok b → (a : A) × ((r ≡ Ok a) × (f a ≡ Ok b))
both (Ok a) f b h = (a, (refl, h))
both (Err e) f b h = absurd (let no : ⊥ = cc in no)

-- what was asked for was there
pub was_there : {A F : Type 0} (o : Option A) (e : F) (a : A) → ok_or o e ≡ Ok a → o ≡ Some a
was_there (Some x) e a h = let s : x ≡ a = cc in cc
was_there None e a h = absurd (let no : ⊥ = cc in no)

-- there was no fault
pub no_fault : {A F : Type 0} (o : Option F) (x a : A) → unless_fault o x ≡ Ok a → (o ≡ None) × (x ≡ a)
no_fault None x a h = (refl, (let s : x ≡ a = cc in s))
no_fault (Some e) x a h = absurd (let no : ⊥ = cc in no)

-- one answer has one value
pub same_value : {A F : Type 0} (x y : A) (r : Result A F) → r ≡ Ok x → r ≡ Ok y → x ≡ y
same_value x y r h k = cc
