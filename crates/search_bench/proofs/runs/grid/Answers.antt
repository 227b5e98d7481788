use Rattle.std.proofs.Common.{ℕ, ◌+◌, ◌-◌, ◌*◌, ◌<◌, ◌≤◌, [], ◌∷◌, get_or, zero, suc, arith}
use Rattle.std.proofs.Math.Nat.{mul-le-mul_right}
use Rattle.search_bench.proofs.runs.grid.Goals as goal

near : (side wires : ℕ) → 40 ≤ side → 40 * side ≤ wires → (j : ℕ) → j < 10
    → get_or (1 ∷ (wires - 1) ∷ side ∷ (wires - side) ∷ 2 ∷ (wires - 2) ∷ 2 * side ∷ (wires - 2 * side) ∷ (side + 1) ∷ (wires - side - 1) ∷ []) j 0 < wires
near side wires l h zero k = omega arith
near side wires l h (suc zero) k = omega arith
near side wires l h (suc (suc zero)) k = omega arith
near side wires l h (suc (suc (suc zero))) k = omega arith
near side wires l h (suc (suc (suc (suc zero)))) k = omega arith
near side wires l h (suc (suc (suc (suc (suc zero))))) k = omega arith
near side wires l h (suc (suc (suc (suc (suc (suc zero)))))) k = omega arith
near side wires l h (suc (suc (suc (suc (suc (suc (suc zero))))))) k = omega arith
near side wires l h (suc (suc (suc (suc (suc (suc (suc (suc zero)))))))) k = omega arith
near side wires l h (suc (suc (suc (suc (suc (suc (suc (suc (suc zero))))))))) k = omega arith
near side wires l h (suc (suc (suc (suc (suc (suc (suc (suc (suc (suc j)))))))))) k = absurd (omega arith)

pub new-requires-clause-distances : goal.new-requires-clause-distances
new-requires-clause-distances c = near c.args.side (c.args.side * c.args.side) c.requires.low (mul-le-mul_right c.args.side c.requires.low)
