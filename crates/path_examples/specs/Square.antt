-- Four wires a, b, c and d, the numbers 0 to 3, with the arcs a to b, b to d, a to c and c to d, the numbers 0 to
-- 3 in this order, and no links.
use Rattle.std.specs.Prelude.{ℕ, Bool, true, false, List, [], ◌∷◌, slice_get, unwrap_or, slice_index}
use Rattle.paths.specs.Wiring.{Wiring, Rules}

abbrev pub square : Wiring
square = record {
  wires = 4;
  outs = λ w. unwrap_or (slice_get ((0 ∷ 2 ∷ []) ∷ (1 ∷ []) ∷ (3 ∷ []) ∷ [] ∷ []) w) [];
  source = λ a. slice_index (0 ∷ 1 ∷ 0 ∷ 2 ∷ []) a;
  sink = λ a. slice_index (1 ∷ 3 ∷ 2 ∷ 3 ∷ []) a;
}

-- each wire weighs 1, but b has a weight of its own; arcs into d may be taken or not
abbrev pub rules : ℕ → Bool → Rules
rules b into_d = record {
  weight = λ w. slice_index (1 ∷ b ∷ 1 ∷ 1 ∷ []) w;
  usable = λ a. unwrap_or (slice_get (true ∷ into_d ∷ true ∷ into_d ∷ []) a) false;
  next = λ w. [];
}

-- a alone
abbrev pub tree : List ℕ
tree = 0 ∷ []
