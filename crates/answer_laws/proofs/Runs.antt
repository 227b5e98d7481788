-- From a state on whose connections are those of the circuit that was read the attempts run to an end, and so a job has
-- an answer.
use Rattle.std.proofs.Common.{◌≡◌, ◌≢◌, ℕ, zero, suc, ◌+◌, ◌<◌, ◌⊎◌, inl, inr, List, [], ◌∷◌, ◌++◌, length, refl, sym, ap, subst, ◌∙◌, arith}
use Rattle.words.specs.Members.{In}
use Rattle.links.proofs.Members.{in_left, in_right, in_either, same_number}
use Rattle.circuit.specs.Parts.{PartKind, Table, Register, Pad}
use Rattle.circuit.specs.Designs.{shape_of}
use Rattle.circuit.specs.WellFormed.{OutputsApart}
use Rattle.circuit.specs.Circuits.{Circuit, Connection, IsConnection}
use Rattle.upset.specs.Safe.{IsSafe}
use Rattle.words.proofs.Decided.{Decided}
use Rattle.repair.specs.Layouts.{Layout, configured, with_path}
use Rattle.attempts.specs.Jobs.{Job, State, read_of}
use Rattle.attempts.specs.Turns.{Cut, Outcome, Complete, Blocked, behind, ComesOut}
use Rattle.attempts.specs.Candidates.{Step, IsFirst, HasNone}
use Rattle.attempts.specs.Starts.{IsFirstState}
use Rattle.attempts.specs.Attempts.{Event, Moved, AttemptComplete, EndRounds, EndPad, EndSite, Ending, Routed, Attempt, blocked_event, no_route, with_first, after_step, Runs, completes, enough, comes_first, at_pad, no_site, moves, Answer, Standing, Ended, IsAnswer, standing, ended}
use Rattle.answer_laws.specs.Named.{IsNamed, AllNamed}
use Rattle.answer_laws.proofs.Named.{named_along}
use Rattle.answer_laws.proofs.Ripped.{is_safe}
use Rattle.answer_laws.proofs.Starts.{of_named_part, some_start}
use Rattle.answer_laws.proofs.Outcomes.{comes_out}
use Rattle.answer_laws.proofs.Candidates.{first_or_none}

-- ---- a blocked attempt is blocked at one of its connections

-- the connections of a blocked outcome are those of an order
abbrev Within : List Connection → Outcome → Type 0
Within order (Complete y) = Unit {0}
Within order (Blocked earlier x later cut) = order ≡ earlier ++ x ∷ later

within_behind : (x : Connection) (rest : List Connection) (o : Outcome) → Within rest o → Within (x ∷ rest) (behind x o)
within_behind x rest (Complete y) e = tt
within_behind x rest (Blocked earlier at later cut) e = ap (λ xs. x ∷ xs) e

comes_within : (read : Circuit) (rims : List (List ℕ)) (order : List Connection) (y : Layout) (out : Outcome) → ComesOut read rims y order out → Within order out
comes_within read rims [] y out c = subst (Within []) (sym c) tt
comes_within read rims (x ∷ rest) y out c = elim c.1.1 [
  | inl p ↦ subst (Within (x ∷ rest)) (sym p.1.1.1.1) (within_behind x rest p.1.1.0 (comes_within read rims rest (with_path y p.0) p.1.1.0 p.1.1.1.0))
  | inr p ↦ subst (Within (x ∷ rest)) (sym p.1.1) refl
]

-- what comes first is one of the order, and so are the others
first_of_order : (earlier : List Connection) (x : Connection) (later : List Connection) (v : Connection) → In (x ∷ (earlier ++ later)) v → In (earlier ++ x ∷ later) v
first_of_order earlier x later v i = elim i [
  | inl e ↦ in_right earlier (x ∷ later) v (inl e)
  | inr j ↦ elim (in_either earlier later v j) [ inl k ↦ in_left earlier (x ∷ later) v k | inr l ↦ in_right earlier (x ∷ later) v (inr l) ]
]

is_pad : (k : PartKind) → Decided (k ≡ Pad)
is_pad (Table n) = inr (λ e. let no : ⊥ = cc in no)
is_pad (Register n) = inr (λ e. let no : ⊥ = cc in no)
is_pad Pad = inl refl

module _ (job : Job) where
  -- the cells of a state have the shape of those that were read, and its connections are of the circuit that was read
  record IsOfRead (state : State) : Type 0 where
    parts : shape_of job.design.cells ≡ shape_of state.layout.cells
    order : (x : Connection) → In state.order x → IsConnection (read_of job) x

  all_named : (state : State) → IsOfRead state → AllNamed state.layout.cells state.order
  all_named state is x i = named_along job.design.cells state.layout.cells is.parts x.source (of_named_part job x (is.order x i))

  of_first : (state : State) → IsOfRead state → (earlier : List Connection) (x : Connection) (later : List Connection) (cut : Cut)
      → Attempt job state (Blocked earlier x later cut) → IsOfRead (with_first state x (earlier ++ later) cut)
  of_first state is earlier x later cut a = record {
    parts = is.parts;
    order = λ v i. is.order v (subst (λ order. In order v) (sym (comes_within (read_of job) state.rims state.order state.layout (Blocked earlier x later cut) a)) (first_of_order earlier x later v i));
  }

  of_step : (state : State) → IsOfRead state → (slice : List ℕ) (step : Step) (cut : Cut) → IsFirst job state slice step → IsOfRead (after_step state step cut)
  of_step state is slice step cut first = record {
    parts = is.parts ∙ sym first.candidate.alike;
    order = λ v i. elim (in_either state.order step.ripped v i) [ inl j ↦ is.order v j | inr k ↦ ((first.candidate.moved.ripped v).0 k).connects ];
  }

  -- the attempts from a state on run to an end
  abbrev pub SomeRun : State → Type 0
  SomeRun state = (log : List Event) × ((e : Ending) × Runs job state log e)

  -- there are at most so many attempts to come
  abbrev Left : ℕ → State → Type 0
  Left n state = length state.rims + suc n ≡ job.rounds

  module _ (n : ℕ) (onward : (next : State) → IsOfRead next → length next.rims + suc n ≡ job.rounds → SomeRun next) (state : State) (is : IsOfRead state) (left : length state.rims + suc (suc n) ≡ job.rounds) where
    few : suc (length state.rims) < job.rounds
    few = omega arith

    one_more : suc (length state.rims) + suc n ≡ job.rounds
    one_more = omega arith

    blocked_later : (c : Connection) (earlier : List Connection) (x : Connection) (later : List Connection) (cut : Cut) → Attempt job state (Blocked (c ∷ earlier) x later cut) → SomeRun state
    blocked_later c earlier x later cut a =
        let r = onward (with_first state x ((c ∷ earlier) ++ later) cut) (of_first state is (c ∷ earlier) x later cut a) one_more in
        (blocked_event state x ∷ r.0, (r.1.0, comes_first c earlier x later cut a few r.1.1))

    moved_on : (x : Connection) (later : List Connection) (cut : Cut) → Attempt job state (Blocked [] x later cut) → x.pin.part.part ≢ Pad
        → ((step : Step) × IsFirst job state x.pin.part.cell step) ⊎ HasNone job state x.pin.part.cell → SomeRun state
    moved_on x later cut a slice (inl s) =
        let r = onward (after_step state s.0 cut) (of_step state is x.pin.part.cell s.0 cut s.1) one_more in
        (blocked_event state x ∷ (Moved s.0.move ∷ r.0), (r.1.0, moves x later cut s.0 a few slice s.1 r.1.1))
    moved_on x later cut a slice (inr none) = (blocked_event state x ∷ [], (no_route state EndSite x cut, no_site x later cut a few slice none))

    blocked_first : (x : Connection) (later : List Connection) (cut : Cut) → Attempt job state (Blocked [] x later cut) → SomeRun state
    blocked_first x later cut a = elim (is_pad x.pin.part.part) [
      | inl pad ↦ (blocked_event state x ∷ [], (no_route state EndPad x cut, at_pad x later cut a few pad))
      | inr slice ↦ moved_on x later cut a slice (first_or_none job state x.pin.part.cell)
    ]

    more : (out : Outcome) → Attempt job state out → SomeRun state
    more (Complete y) a = (AttemptComplete ∷ [], (Routed y (length state.order), completes y a))
    more (Blocked [] x later cut) a = blocked_first x later cut a
    more (Blocked (c ∷ earlier) x later cut) a = blocked_later c earlier x later cut a

  last : (state : State) → length state.rims + 1 ≡ job.rounds → (out : Outcome) → Attempt job state out → SomeRun state
  last state left (Complete y) a = (AttemptComplete ∷ [], (Routed y (length state.order), completes y a))
  last state left (Blocked earlier x later cut) a =
      (blocked_event state x ∷ [], (no_route state EndRounds x cut, enough earlier x later cut a (let e : suc (length state.rims) ≡ job.rounds = omega arith in e)))

  run_from : (n : ℕ) (state : State) → IsOfRead state → length state.rims + suc n ≡ job.rounds → SomeRun state
  run_from zero state is left =
      let a = comes_out (read_of job) state.rims state.order state.layout (all_named state is) in
      last state (let e : length state.rims + 1 ≡ job.rounds = omega arith in e) a.0 a.1
  run_from (suc n) state is left =
      let a = comes_out (read_of job) state.rims state.order state.layout (all_named state is) in
      more n (run_from n) state is left a.0 a.1

  of_start : (state : State) → IsFirstState job state → IsOfRead state
  of_start state s = record { parts = ap shape_of (sym s.cells); order = λ x i. ((s.order.members x).0 i).0 }

  one_left : (rounds : ℕ) → 0 < rounds → (n : ℕ) × (suc n ≡ rounds)
  one_left zero h = absurd (let no : ⊥ = omega arith in no)
  one_left (suc n) h = (n, refl)

  -- the log of a start and its end exist
  pub start_runs : 0 < job.rounds → (state : State) → IsFirstState job state → SomeRun state
  start_runs h state s =
      let n = one_left job.rounds h in
      run_from n.0 state (of_start state s) (ap (λ rims. length rims + suc n.0) s.no_rims ∙ (let e : 0 + suc n.0 ≡ suc n.0 = omega arith in e) ∙ n.1)

  pub some_answer : OutputsApart (read_of job) → 0 < job.rounds → (a : Answer) × IsAnswer job a
  some_answer apart h = go (some_start job apart)
    where
      go : ((state : State) × IsFirstState job state) → (a : Answer) × IsAnswer job a
      go s = elim (is_safe (configured s.0.layout)) [
        | inl safe ↦ (let r = start_runs h s.0 s.1 in (Ended r.0 r.1.0, ended s.0 s.1 safe r.1.1))
        | inr bad ↦ (Standing, standing s.0 s.1 bad)
      ]
