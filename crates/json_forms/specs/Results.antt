-- Values that may be faulty, one after another.
use Rattle.std.specs.Prelude.{Result, Ok, Err}

-- the second, of the value of the first, or the first fault
infixl 10 ◌>>=◌
abbrev pub ◌>>=◌ : {A B F : Type 0} → Result A F → (A → Result B F) → Result B F
(Ok x) >>= f = f x
(Err e) >>= f = Err e
