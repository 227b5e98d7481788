-- The greatest number so far.
use Rattle.std.proofs.Common.{ℕ, suc, max, List, map, fold}

-- as `extent_of`, behind numbers with an extent
abbrev pub extent_behind : ℕ → List ℕ → ℕ
extent_behind extent numbers = fold max extent (map suc numbers)
