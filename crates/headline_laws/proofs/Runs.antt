-- From a state that keeps the design on, what is routed in the end keeps it.
use Rattle.std.proofs.Common.{ℕ, inl, inr, List, ◌∷◌, ◌++◌, subst}
use Rattle.words.specs.Members.{In}
use Rattle.circuit.specs.Circuits.{Connection}
use Rattle.repair.specs.Layouts.{Layout}
use Rattle.attempts.specs.Jobs.{Job, State}
use Rattle.attempts.specs.Turns.{Cut, Blocked}
use Rattle.attempts.specs.Attempts.{Event, Ending, Routed, NoRoute, Attempt, with_first, Runs, completes, enough, comes_first, at_pad, no_site, moves, IsAnswer, ended, Ended}
use Rattle.links.proofs.Members.{in_left, in_right, in_either}
use Rattle.headline_laws.specs.Sound.{IsSoundJob}
use Rattle.headline_laws.specs.Kept.{KeepsDesign, HasEachConnection, StateKeeps}
use Rattle.headline_laws.proofs.Attempts.{block_splits, attempt_keeps}
use Rattle.headline_laws.proofs.Starts.{start_keeps}
use Rattle.headline_laws.proofs.Moves.{step_keeps}

-- what holds of an end where all is routed
abbrev IsKept : Job → Ending → Type 0
IsKept job (Routed y n) = KeepsDesign job y × HasEachConnection job y
IsKept job (NoRoute end net pin cut) = Unit {0}

-- what comes first stands among the others of its order
first_among : (earlier : List Connection) (x : Connection) (later : List Connection) (v : Connection) → In (earlier ++ x ∷ later) v → In (x ∷ (earlier ++ later)) v
first_among earlier x later v i = elim (in_either earlier (x ∷ later) v i) [
  | inl j ↦ inr (in_left earlier later v j)
  | inr j ↦ elim j [ inl e ↦ inl e | inr l ↦ inr (in_right earlier later v l) ]
]

first_keeps : (job : Job) (state : State) → StateKeeps job state → (earlier : List Connection) (x : Connection) (later : List Connection) (cut : Cut)
    → Attempt job state (Blocked earlier x later cut) → StateKeeps job (with_first state x (earlier ++ later) cut)
first_keeps job state k earlier x later cut a = record {
  design = k.design;
  others = λ v c n. k.others v c (λ i. n (first_among earlier x later v (subst (λ order. In order v) (block_splits job state earlier x later cut a) i)));
}

pub run_keeps : (job : Job) → IsSoundJob job → {state : State} {log : List Event} {e : Ending} → StateKeeps job state → Runs job state log e → IsKept job e
run_keeps job sound {state} k (completes y a) = attempt_keeps job sound state k y a
run_keeps job sound {state} k (enough earlier x later cut a n) = tt
run_keeps job sound {state} k (comes_first c earlier x later cut a n r) = run_keeps job sound (first_keeps job state k (c ∷ earlier) x later cut a) r
run_keeps job sound {state} k (at_pad x later cut a n pad) = tt
run_keeps job sound {state} k (no_site x later cut a n slice none) = tt
run_keeps job sound {state} k (moves x later cut step a n slice first r) = run_keeps job sound (step_keeps job sound state k step first.candidate cut) r

-- what a router writes keeps the design
pub answer_keeps : (job : Job) → IsSoundJob job → (log : List Event) (y : Layout) (n : ℕ) → IsAnswer job (Ended log (Routed y n)) → KeepsDesign job y × HasEachConnection job y
answer_keeps job sound log y n (ended state s safe r) = run_keeps job sound (start_keeps job sound state s safe) r
