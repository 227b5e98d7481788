-- Faults that are looked for in turn, and readings one after another.
use Rattle.std.proofs.Common.{◌≡◌, Option, Some, None, Result, Ok, Err, IfSome, ap, ◌∙◌}
use Rattle.words.specs.Firsts.{or_else, unless_fault}
use Rattle.json_forms.specs.Results.{◌>>=◌}

-- the first that is looked for
pub at_once : {X F : Type 0} (named a rest : Option F) (x : X) → IfSome named (λ f. unless_fault a x ≡ Err f) → IfSome named (λ f. unless_fault (or_else a rest) x ≡ Err f)
at_once None a rest x is = is
at_once (Some f) None rest x is = absurd (let no : ⊥ = cc in no)
at_once (Some f) (Some e) rest x is = is

-- one behind a fault that isn't there
pub then_one : {X F : Type 0} (named a rest : Option F) (x : X) → unless_fault a x ≡ Ok x → IfSome named (λ f. unless_fault rest x ≡ Err f)
    → IfSome named (λ f. unless_fault (or_else a rest) x ≡ Err f)
then_one named None rest x none is = is
then_one named (Some e) rest x none is = absurd (let no : ⊥ = cc in no)

-- none behind a fault that isn't there
pub then_none : {X F : Type 0} (a rest : Option F) (x : X) → unless_fault a x ≡ Ok x → unless_fault rest x ≡ Ok x → unless_fault (or_else a rest) x ≡ Ok x
then_none None rest x none is = is
then_none (Some e) rest x none is = absurd (let no : ⊥ = cc in no)

-- ---- readings

-- the first reading fails
pub fails_at_once : {A B F : Type 0} (named : Option F) (r : Result A F) (next : A → Result B F) → IfSome named (λ f. r ≡ Err f) → IfSome named (λ f. (r >>= next) ≡ Err f)
fails_at_once None r next is = is
fails_at_once (Some f) r next is = ap (λ x. x >>= next) is

-- one behind a reading fails
pub fails_later : {A B F : Type 0} (named : Option F) (r : Result A F) (next : A → Result B F) (a : A) → r ≡ Ok a → IfSome named (λ f. next a ≡ Err f)
    → IfSome named (λ f. (r >>= next) ≡ Err f)
fails_later None r next a read is = is
fails_later (Some f) r next a read is = ap (λ x. x >>= next) read ∙ is

-- the readings are done
pub reads_then : {A B F : Type 0} (r : Result A F) (next : A → Result B F) (a : A) (b : Result B F) → r ≡ Ok a → next a ≡ b → (r >>= next) ≡ b
reads_then r next a b read is = ap (λ x. x >>= next) read ∙ is
