-- What a call that looks for a form in a JSON value gives.
use Rattle.std.specs.Prelude.{◌≡◌, Option, Some, None, Result, Ok, Err}
use Rattle.json_values.specs.declared.FormError.{FormError}
use Rattle.json_values.specs.declared.FormError.TheVariants.{Unfit, Memory}

-- The result of a call is what a definition gives, and `Unfit` where it gives nothing; want of memory may come
-- at any time. A view says what a value stands for.
abbrev pub Reads : {X Y : Type 0} → (X → Y) → Result X FormError → Option Y → Type 0
Reads view (Ok x) expected = expected ≡ Some (view x)
Reads view (Err Unfit) expected = expected ≡ None
Reads view (Err Memory) expected = Unit {0}
