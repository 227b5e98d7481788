-- Rows and columns as they are counted while a name is read: up to 256, which is above each that a grid may have.
use Rattle.std.specs.Prelude.{ℕ, min, List}

abbrev pub capped : ℕ → ℕ
capped n = min n 256

-- a number and what stands behind it
abbrev pub capped_front : ℕ × List ℕ → ℕ × List ℕ
capped_front p = (capped p.0, p.1)

abbrev pub capped_place : ℕ × ℕ → ℕ × ℕ
capped_place p = (capped p.0, capped p.1)
