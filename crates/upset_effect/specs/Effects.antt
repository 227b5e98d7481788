-- What is told of a flip: hit wires, disturbed wires and touched cells. (Our own.)
use Rattle.std.specs.Prelude.{◌≡◌, ℕ, List}
use Rattle.patterns.specs.Bits.{Bits}
use Rattle.upset.specs.Configured.{Configured}
use Rattle.upset.specs.Effect.{IsHit, IsDisturbed, touched_names}
use Rattle.upset_effect.specs.Reach.{AreThose}

pub record FlipEffect : Type 0 where
  pub hit : List ℕ
  pub disturbed : List ℕ
  pub touched : List (List ℕ)

-- the wires that are hit and those that are disturbed, each in order, once, and the names of the touched cells, slices first
pub record IsEffectOf (k : Configured) (flips : Bits) (e : FlipEffect) : Type 0 where
  pub hit : AreThose (IsHit k flips) e.hit
  pub disturbed : AreThose (IsDisturbed k flips) e.disturbed
  pub touched : e.touched ≡ touched_names k.cells flips
