-- The fault of a part is the fault of the whole.
use Rattle.std.proofs.Common.{◌≡◌, Option, Some, None, Result, Err, refl, IfSome}
use Rattle.words.specs.OrMemory.{OrMemory}
use Rattle.json_forms.specs.Results.{◌>>=◌}

refused_by : {Y Z F : Type 0} (fault : Option F) (part : Result Y F) (rest : Y → Result Z F)
    → IfSome fault (λ f. part ≡ Err f) → IfSome fault (λ f. (part >>= rest) ≡ Err f)
refused_by None part rest e = tt
refused_by (Some f) part rest e = rw e refl

-- where a part is refused, so is the whole
pub refused : {X Y Z E F : Type 0} (view : X → Z) (fault : E → Option F) (part : Result Y F) (rest : Y → Result Z F) (result : Result X E) (e : E)
    → result ≡ Err e → IfSome (fault e) (λ f. part ≡ Err f) → OrMemory view fault result (part >>= rest)
refused view fault part rest result e is why = rw is (refused_by (fault e) part rest why)
