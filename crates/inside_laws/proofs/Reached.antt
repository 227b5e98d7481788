-- Each state at which the attempts of a sound job stand keeps the design.
use Rattle.std.proofs.Common.{inl, inr, List, ◌∷◌, ◌++◌, subst}
use Rattle.words.specs.Members.{In}
use Rattle.links.proofs.Members.{in_left, in_right, in_either}
use Rattle.circuit.specs.Circuits.{Connection}
use Rattle.repair.specs.Layouts.{Layout}
use Rattle.attempts.specs.Jobs.{Job, State}
use Rattle.attempts.specs.Turns.{Cut, Blocked}
use Rattle.attempts.specs.Attempts.{Attempt, with_first}
use Rattle.headline_laws.specs.Sound.{IsSoundJob}
use Rattle.headline_laws.specs.Kept.{KeepsDesign, StateKeeps}
use Rattle.headline_laws.proofs.Attempts.{block_splits}
use Rattle.headline_laws.proofs.Starts.{start_keeps}
use Rattle.headline_laws.proofs.Moves.{step_keeps}
use Rattle.inside_laws.specs.Inside.{IsInside, IsReached, at_start, after_block, after_move}
use Rattle.inside_laws.specs.Statements.{HasOthers}
use Rattle.inside_laws.proofs.Keeping.{inside_keeps}

-- what stood in an order stands there when one of it comes first
still_there : (earlier : List Connection) (x : Connection) (later : List Connection) (v : Connection) → In (earlier ++ x ∷ later) v → In (x ∷ (earlier ++ later)) v
still_there earlier x later v i = elim (in_either earlier (x ∷ later) v i) [
  | inl j ↦ inr (in_left earlier later v j)
  | inr j ↦ elim j [ inl e ↦ inl e | inr l ↦ inr (in_right earlier later v l) ]
]

block_keeps : (job : Job) (state : State) → StateKeeps job state → (earlier : List Connection) (x : Connection) (later : List Connection) (cut : Cut)
    → Attempt job state (Blocked earlier x later cut) → StateKeeps job (with_first state x (earlier ++ later) cut)
block_keeps job state k earlier x later cut a = record {
  design = k.design;
  others = λ v c n. k.others v c (λ i. n (still_there earlier x later v (subst (λ order. In order v) (block_splits job state earlier x later cut a) i)));
}

module _ (job : Job) (sound : IsSoundJob job) where
  kept : {state : State} → IsReached job state → StateKeeps job state
  kept {state} (at_start s safe) = start_keeps job sound state s safe
  kept (after_block {state} c earlier x later cut r a n) = block_keeps job state (kept r) (c ∷ earlier) x later cut a
  kept (after_move {state} x later cut step r a n slice first) = step_keeps job sound state (kept r) step first.candidate cut

pub state_keeps : (job : Job) → IsSoundJob job → (state : State) → IsReached job state → StateKeeps job state
state_keeps job sound state r = kept job sound r

pub layout_keeps : (job : Job) → IsSoundJob job → (state : State) → IsReached job state → (z : Layout) (left : List Connection) → IsInside job state z left → KeepsDesign job z × HasOthers job z left
layout_keeps job sound state r = inside_keeps job sound state (kept job sound r)
