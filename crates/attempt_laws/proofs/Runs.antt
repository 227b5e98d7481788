-- From a state on the attempts run in one way, and a job has one answer.
use Rattle.std.proofs.Common.{◌≡◌, ◌≢◌, suc, ◌<◌, List, [], ◌∷◌, ◌++◌, length, refl, sym, ap, subst, arith}
use Rattle.fabric.specs.GraphOf.{IsGraph}
use Rattle.circuit.specs.Parts.{Pad}
use Rattle.circuit.specs.Circuits.{Connection}
use Rattle.upset.specs.Safe.{IsSafe}
use Rattle.repair.specs.Layouts.{Layout, configured}
use Rattle.attempts.specs.Turns.{Cut, Outcome, Complete, Blocked}
use Rattle.attempts.specs.Jobs.{Job, State, read_of}
use Rattle.attempts.specs.Candidates.{Step, IsFirst, HasNone}
use Rattle.attempts.specs.Attempts.{Event, Moved, AttemptComplete, EndRounds, EndPad, EndSite, Ending, Routed, Attempt, blocked_event, no_route, with_first, after_step, Runs, completes, enough, comes_first, at_pad, no_site, moves, Answer, Ended, IsAnswer, standing, ended}
use Rattle.attempt_laws.proofs.Starts.{one_start}
use Rattle.attempt_laws.proofs.Outcomes.{one_outcome}
use Rattle.attempt_laws.proofs.Steps.{one_step}

-- what two runs have in common that are one
pub record SameRun (log others : List Event) (e f : Ending) : Type 0 where
  pub logs : log ≡ others
  pub ends : e ≡ f

-- where a run is blocked: the connection with those before and behind it, and its cut
record SameBlock (earlier before : List Connection) (x y : Connection) (later behind : List Connection) (cut other : Cut) : Type 0 where
  earliers : earlier ≡ before
  places : x ≡ y
  laters : later ≡ behind
  cuts : cut ≡ other

same_layouts : {y z : Layout} → Complete y ≡ Complete z → y ≡ z
same_layouts {y} {z} e = let same : y ≡ z = cc in same

same_block : {earlier before : List Connection} {x y : Connection} {later behind : List Connection} {cut other : Cut}
    → Blocked earlier x later cut ≡ Blocked before y behind other → SameBlock earlier before x y later behind cut other
same_block {earlier} {before} {x} {y} {later} {behind} {cut} {other} e = record {
  earliers = let same : earlier ≡ before = cc in same;
  places = let same : x ≡ y = cc in same;
  laters = let same : later ≡ behind = cc in same;
  cuts = let same : cut ≡ other = cc in same;
}

-- not at the first place and at another
never_first : {c : Connection} {earlier : List Connection} {x y : Connection} {later behind : List Connection} {cut other : Cut} → SameBlock [] (c ∷ earlier) x y later behind cut other → ⊥
never_first b = let e = b.earliers in let no : ⊥ = cc in no

module _ (job : Job) where
  -- an attempt comes out in one way
  one_attempt : (state : State) (out other : Outcome) → IsGraph job.device state.layout.graph → Attempt job state out → Attempt job state other → out ≡ other
  one_attempt state out other is p q = one_outcome job.device (read_of job) state.rims state.order state.layout out other is p q

  -- it isn't complete and blocked
  never_both : (state : State) → IsGraph job.device state.layout.graph → (y : Layout) (earlier : List Connection) (x : Connection) (later : List Connection) (cut : Cut)
      → Attempt job state (Complete y) → Attempt job state (Blocked earlier x later cut) → ⊥
  never_both state is y earlier x later cut p q = let e = one_attempt state (Complete y) (Blocked earlier x later cut) is p q in let no : ⊥ = cc in no

  -- and is blocked at one place
  one_block : (state : State) → IsGraph job.device state.layout.graph
      → {earlier before : List Connection} {x y : Connection} {later behind : List Connection} {cut other : Cut}
      → Attempt job state (Blocked earlier x later cut) → Attempt job state (Blocked before y behind other) → SameBlock earlier before x y later behind cut other
  one_block state is {earlier} {before} {x} {y} {later} {behind} {cut} {other} p q = same_block (one_attempt state (Blocked earlier x later cut) (Blocked before y behind other) is p q)

  module _ (state : State) (is : IsGraph job.device state.layout.graph) where
    -- a run from the state that is complete, that has enough attempts, and so on, is any other from there
    complete_once : {others : List Event} {f : Ending} (y : Layout) → Attempt job state (Complete y) → Runs job state others f → SameRun (AttemptComplete ∷ []) others (Routed y (length state.order)) f
    complete_once y p (completes z q) = let same = same_layouts (one_attempt state (Complete y) (Complete z) is p q) in record { logs = refl; ends = ap (λ l. Routed l (length state.order)) same }
    complete_once y p (enough earlier x later cut q r) = absurd (never_both state is y earlier x later cut p q)
    complete_once y p (comes_first c earlier x later cut q r s) = absurd (never_both state is y (c ∷ earlier) x later cut p q)
    complete_once y p (at_pad x later cut q r s) = absurd (never_both state is y [] x later cut p q)
    complete_once y p (no_site x later cut q r s t) = absurd (never_both state is y [] x later cut p q)
    complete_once y p (moves x later cut step q r s t u) = absurd (never_both state is y [] x later cut p q)

    enough_once : {others : List Event} {f : Ending} (earlier : List Connection) (x : Connection) (later : List Connection) (cut : Cut) → Attempt job state (Blocked earlier x later cut) → suc (length state.rims) ≡ job.rounds
        → Runs job state others f → SameRun (blocked_event state x ∷ []) others (no_route state EndRounds x cut) f
    enough_once earlier x later cut p n (completes z q) = absurd (never_both state is z earlier x later cut q p)
    enough_once earlier x later cut p n (enough before y behind other q r) =
        let b = one_block state is p q in record { logs = ap (λ z. blocked_event state z ∷ []) b.places; ends = λ i. no_route state EndRounds (b.places i) (b.cuts i) }
    enough_once earlier x later cut p n (comes_first c before y behind other q r s) = absurd (omega arith)
    enough_once earlier x later cut p n (at_pad y behind other q r s) = absurd (omega arith)
    enough_once earlier x later cut p n (no_site y behind other q r s t) = absurd (omega arith)
    enough_once earlier x later cut p n (moves y behind other step q r s t u) = absurd (omega arith)

    first_once : {others : List Event} {f : Ending} (c : Connection) (earlier : List Connection) (x : Connection) (later : List Connection) (cut : Cut) (log : List Event) (e : Ending)
        → Attempt job state (Blocked (c ∷ earlier) x later cut) → suc (length state.rims) < job.rounds
        → ((rest : List Event) → Runs job (with_first state x ((c ∷ earlier) ++ later) cut) rest f → SameRun log rest e f)
        → Runs job state others f → SameRun (blocked_event state x ∷ log) others e f
    first_once c earlier x later cut log e p n ih (completes z q) = absurd (never_both state is z (c ∷ earlier) x later cut q p)
    first_once c earlier x later cut log e p n ih (enough before y behind other q r) = absurd (omega arith)
    first_once c earlier x later cut log e p n ih (comes_first {log = rest} {e = f} d before y behind other q r s) =
        let b = one_block state is p q in
        let onward = ih rest (subst (λ state. Runs job state rest f) (λ i. with_first state (sym b.places i) (sym b.earliers i ++ sym b.laters i) (sym b.cuts i)) s) in
        record { logs = λ i. blocked_event state (b.places i) ∷ onward.logs i; ends = onward.ends }
    first_once c earlier x later cut log e p n ih (at_pad y behind other q r s) = absurd (never_first (one_block state is q p))
    first_once c earlier x later cut log e p n ih (no_site y behind other q r s t) = absurd (never_first (one_block state is q p))
    first_once c earlier x later cut log e p n ih (moves y behind other step q r s t u) = absurd (never_first (one_block state is q p))

    pad_once : {others : List Event} {f : Ending} (x : Connection) (later : List Connection) (cut : Cut) → Attempt job state (Blocked [] x later cut) → suc (length state.rims) < job.rounds → x.pin.part.part ≡ Pad
        → Runs job state others f → SameRun (blocked_event state x ∷ []) others (no_route state EndPad x cut) f
    pad_once x later cut p n pad (completes z q) = absurd (never_both state is z [] x later cut q p)
    pad_once x later cut p n pad (enough before y behind other q r) = absurd (omega arith)
    pad_once x later cut p n pad (comes_first c before y behind other q r s) = absurd (never_first (one_block state is p q))
    pad_once x later cut p n pad (at_pad y behind other q r s) =
        let b = one_block state is p q in record { logs = ap (λ z. blocked_event state z ∷ []) b.places; ends = λ i. no_route state EndPad (b.places i) (b.cuts i) }
    pad_once x later cut p n pad (no_site y behind other q r s t) = absurd (s (subst (λ z. z.pin.part.part ≡ Pad) (one_block state is p q).places pad))
    pad_once x later cut p n pad (moves y behind other step q r s t u) = absurd (s (subst (λ z. z.pin.part.part ≡ Pad) (one_block state is p q).places pad))

    site_once : {others : List Event} {f : Ending} (x : Connection) (later : List Connection) (cut : Cut) → Attempt job state (Blocked [] x later cut) → suc (length state.rims) < job.rounds → x.pin.part.part ≢ Pad
        → HasNone job state x.pin.part.cell → Runs job state others f → SameRun (blocked_event state x ∷ []) others (no_route state EndSite x cut) f
    site_once x later cut p n slice none (completes z q) = absurd (never_both state is z [] x later cut q p)
    site_once x later cut p n slice none (enough before y behind other q r) = absurd (omega arith)
    site_once x later cut p n slice none (comes_first c before y behind other q r s) = absurd (never_first (one_block state is p q))
    site_once x later cut p n slice none (at_pad y behind other q r s) = absurd (slice (subst (λ z. z.pin.part.part ≡ Pad) (sym (one_block state is p q).places) s))
    site_once x later cut p n slice none (no_site y behind other q r s t) =
        let b = one_block state is p q in record { logs = ap (λ z. blocked_event state z ∷ []) b.places; ends = λ i. no_route state EndSite (b.places i) (b.cuts i) }
    site_once x later cut p n slice none (moves y behind other step q r s t u) =
        absurd (subst (λ z. HasNone job state z.pin.part.cell) (one_block state is p q).places none step t.candidate t.of_slice t.new)

    move_once : {others : List Event} {f : Ending} (x : Connection) (later : List Connection) (cut : Cut) (step : Step) (log : List Event) (e : Ending)
        → Attempt job state (Blocked [] x later cut) → suc (length state.rims) < job.rounds → x.pin.part.part ≢ Pad → IsFirst job state x.pin.part.cell step
        → ((rest : List Event) → Runs job (after_step state step cut) rest f → SameRun log rest e f)
        → Runs job state others f → SameRun (blocked_event state x ∷ (Moved step.move ∷ log)) others e f
    move_once x later cut step log e p n slice first ih (completes z q) = absurd (never_both state is z [] x later cut q p)
    move_once x later cut step log e p n slice first ih (enough before y behind other q r) = absurd (omega arith)
    move_once x later cut step log e p n slice first ih (comes_first c before y behind other q r s) = absurd (never_first (one_block state is p q))
    move_once x later cut step log e p n slice first ih (at_pad y behind other q r s) = absurd (slice (subst (λ z. z.pin.part.part ≡ Pad) (sym (one_block state is p q).places) s))
    move_once x later cut step log e p n slice first ih (no_site y behind other q r s t) =
        absurd (subst (λ z. HasNone job state z.pin.part.cell) (sym (one_block state is p q).places) t step first.candidate first.of_slice first.new)
    move_once x later cut step log e p n slice first ih (moves {log = rest} {e = f} y behind other next q r s t u) =
        let b = one_block state is p q in
        let steps : step ≡ next = one_step job state x.pin.part.cell step next first (subst (λ z. IsFirst job state z.pin.part.cell next) (sym b.places) t) in
        let onward = ih rest (subst (λ state. Runs job state rest f) (λ i. after_step state (sym steps i) (sym b.cuts i)) u) in
        record { logs = λ i. blocked_event state (b.places i) ∷ (Moved (steps i).move ∷ onward.logs i); ends = onward.ends }

  -- from a state on there is one run
  pub one_run : {state : State} {log others : List Event} {e f : Ending} → IsGraph job.device state.layout.graph → Runs job state log e → Runs job state others f → SameRun log others e f
  one_run {state} is (completes y p) r = complete_once state is y p r
  one_run {state} is (enough earlier x later cut p n) r = enough_once state is earlier x later cut p n r
  one_run {state} is (comes_first {log} {e} c earlier x later cut p n s) r = first_once state is c earlier x later cut log e p n (λ rest t. one_run is s t) r
  one_run {state} is (at_pad x later cut p n pad) r = pad_once state is x later cut p n pad r
  one_run {state} is (no_site x later cut p n slice none) r = site_once state is x later cut p n slice none r
  one_run {state} is (moves {log} {e} x later cut step p n slice first s) r =
      move_once state is x later cut step log e p n slice first (λ rest t. one_run (subst (IsGraph job.device) (sym first.candidate.moved.graph) is) s t) r

  pub one_answer : IsGraph job.device job.design.graph → (a b : Answer) → IsAnswer job a → IsAnswer job b → a ≡ b
  one_answer is a b (standing s p n) (standing t q m) = refl
  one_answer is a b (standing s p n) (ended t q safe r) = absurd (n (subst (λ state. IsSafe (configured state.layout)) (sym (one_start job s t p q)) safe))
  one_answer is a b (ended s p safe r) (standing t q m) = absurd (m (subst (λ state. IsSafe (configured state.layout)) (one_start job s t p q) safe))
  one_answer is a b (ended {log} {e} s p safe r) (ended {log = others} {e = f} t q sound u) =
      let same = one_run (subst (IsGraph job.device) (sym p.graph) is) r (subst (λ state. Runs job state others f) (sym (one_start job s t p q)) u) in
      λ i. Ended (same.logs i) (same.ends i)
