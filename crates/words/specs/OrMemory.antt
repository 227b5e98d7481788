-- Want of memory may take the place of any answer of a call that takes memory. Every other answer is
-- the one that a definition gives.
use Rattle.std.specs.Prelude.{◌≡◌, Result, Ok, Err, Option, IfSome}

-- The result of a call is what a definition gives. A view says what a value stands for, and `fault` which
-- fault of the definition an error stands for: none for want of memory, which may come at any time.
abbrev pub OrMemory : {X Y E F : Type 0} → (X → Y) → (E → Option F) → Result X E → Result Y F → Type 0
OrMemory view fault (Ok x) expected = expected ≡ Ok (view x)
OrMemory view fault (Err e) expected = IfSome (fault e) (λ f. expected ≡ Err f)
