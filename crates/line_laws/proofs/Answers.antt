-- The answer to a job without numbers of lines is that to the job, without them.
use Rattle.std.proofs.Common.{◌≡◌, ℕ, inl, inr, List, [], ◌∷◌, refl, sym, ap, subst, ◌∙◌}
use Rattle.records.specs.Config.{ArcLine}
use Rattle.fabric.specs.GraphOf.{IsGraph}
use Rattle.circuit.specs.Circuits.{Circuit, Connection}
use Rattle.upset.specs.Configured.{circuit_of}
use Rattle.upset.specs.Safe.{IsSafe}
use Rattle.repair.specs.Layouts.{Layout, configured, with_path}
use Rattle.repair.specs.Nets.{IsRipped}
use Rattle.repair.specs.Ripping.{IsRippedLine}
use Rattle.attempts.specs.Jobs.{Job, State, read_of}
use Rattle.attempts.specs.Starts.{IsRippedAtStart, IsFirstState}
use Rattle.attempts.specs.Turns.{Outcome, Complete, Blocked, behind, ComesOut}
use Rattle.attempts.specs.Attempts.{Event, Ending, Attempt, Runs, completes, enough, comes_first, at_pad, no_site, moves, Answer, IsAnswer, standing, ended}
use Rattle.attempt_laws.proofs.Runs.{one_answer}
use Rattle.text_laws.specs.SameButLines.{unnumbered_arc}
use Rattle.line_laws.specs.Plain.{plain_layout, plain_job, plain_ending, plain_answer}
use Rattle.line_laws.proofs.Texts.{config_twice, now_same, plain_to, plain_from, path_same}
use Rattle.line_laws.proofs.Routes.{plain_route, plain_block}
use Rattle.line_laws.proofs.Lines.{rest_along}
use Rattle.line_laws.proofs.Alike.{turned_jobs, plain_alike, connection, ripped_net, ripped_part, ripped_line, plain_state}
use Rattle.line_laws.proofs.Candidates.{plain_step, first_to, none_to}

abbrev plain_outcome : Outcome → Outcome
plain_outcome (Complete y) = Complete (plain_layout y)
plain_outcome (Blocked earlier x later cut) = Blocked earlier x later cut

plain_behind : (x : Connection) (o : Outcome) → plain_outcome (behind x o) ≡ behind x (plain_outcome o)
plain_behind x (Complete y) = refl
plain_behind x (Blocked earlier at later cut) = refl

comes_out_plain : (read : Circuit) (rims : List (List ℕ)) (order : List Connection) (y : Layout) (out : Outcome) → ComesOut read rims y order out → ComesOut read rims (plain_layout y) order (plain_outcome out)
comes_out_plain read rims [] y out c = ap plain_outcome c
comes_out_plain read rims (x ∷ rest) y out c = elim c.1.1 [
  | inl p ↦ (
    c.0,
    (
      c.1.0,
      inl (
        p.0,
        (
          plain_route read y c.0 rims p.0 _ p.1.0,
          (
            plain_outcome p.1.1.0,
            (
              subst (λ z. ComesOut read rims z rest (plain_outcome p.1.1.0)) (sym (path_same y p.0)) (comes_out_plain read rims rest (with_path y p.0) p.1.1.0 p.1.1.1.0),
              ap plain_outcome p.1.1.1.1 ∙ plain_behind x p.1.1.0,
            ),
          ),
        ),
      ),
    ),
  )
  | inr b ↦ (c.0, (c.1.0, inr (b.0, (plain_block read y c.0 b.0.inside b.0.rim _ b.1.0, ap plain_outcome b.1.1))))
]

module _ (job : Job) where
  abbrev pj : Job
  pj = plain_job job

  attempt_plain : (s : State) (out : Outcome) → Attempt job s out → Attempt pj (plain_state s) (plain_outcome out)
  attempt_plain s out a = subst (λ r. ComesOut r s.rims (plain_layout s.layout) s.order (plain_outcome out)) (ap circuit_of (now_same job.design)) (comes_out_plain (read_of job) s.rims s.order s.layout out a)

  runs_plain : {s : State} {log : List Event} {e : Ending} → Runs job s log e → Runs pj (plain_state s) log (plain_ending e)
  runs_plain {s} (completes y a) = completes (plain_layout y) (attempt_plain s (Complete y) a)
  runs_plain {s} (enough earlier x later cut a n) = enough earlier x later cut (attempt_plain s (Blocked earlier x later cut) a) n
  runs_plain {s} (comes_first c earlier x later cut a n r) = comes_first c earlier x later cut (attempt_plain s (Blocked (c ∷ earlier) x later cut) a) n (runs_plain r)
  runs_plain {s} (at_pad x later cut a n pad) = at_pad x later cut (attempt_plain s (Blocked [] x later cut) a) n pad
  runs_plain {s} (no_site x later cut a n slice none) = no_site x later cut (attempt_plain s (Blocked [] x later cut) a) n slice (none_to job s x.pin.part.cell none)
  runs_plain {s} (moves x later cut step a n slice first r) = moves x later cut (plain_step step) (attempt_plain s (Blocked [] x later cut) a) n slice (first_to job s x.pin.part.cell step first) (runs_plain r)

  -- ---- the start

  abbrev Lost : List ℕ → ArcLine → Type 0
  Lost tile line = IsRippedLine (IsRipped job.rip job.device (configured job.design)) job.design.config (configured job.design) tile line

  abbrev PlainLost : List ℕ → ArcLine → Type 0
  PlainLost tile line = IsRippedLine (IsRipped job.rip job.device (configured pj.design)) pj.design.config (configured pj.design) tile line

  lost_to : (tile : List ℕ) (line : ArcLine) → Lost tile line → PlainLost tile (unnumbered_arc line)
  lost_to tile line = ripped_line (IsRipped job.rip job.device (configured job.design)) (IsRipped job.rip job.device (configured pj.design)) (ripped_net job pj (plain_alike job))
      job.design pj.design (now_same job.design) (plain_to job.design.graph job.design.config) tile line (unnumbered_arc line) refl

  lost_from : (tile : List ℕ) (line : ArcLine) → PlainLost tile (unnumbered_arc line) → Lost tile line
  lost_from tile line = ripped_line (IsRipped job.rip job.device (configured pj.design)) (IsRipped job.rip job.device (configured job.design)) (ripped_net pj job (turned_jobs job pj (plain_alike job)))
      pj.design job.design (sym (now_same job.design)) (plain_from job.design.graph job.design.config) tile (unnumbered_arc line) line refl

  at_start_to : (x : Connection) → IsRippedAtStart job x → IsRippedAtStart pj x
  at_start_to x h = (connection job pj (plain_alike job) x h.0, ripped_part job pj (plain_alike job) [] x.source h.1)

  at_start_from : (x : Connection) → IsRippedAtStart pj x → IsRippedAtStart job x
  at_start_from x h = (connection pj job (turned_jobs job pj (plain_alike job)) x h.0, ripped_part pj job (turned_jobs job pj (plain_alike job)) [] x.source h.1)

  start_plain : (s : State) → IsFirstState job s → IsFirstState pj (plain_state s)
  start_plain s f = record {
    graph = f.graph;
    text = rest_along Lost PlainLost lost_to lost_from job.design.config s.layout.config f.text;
    cells = f.cells;
    side = f.side;
    order = record { rising = f.order.rising; members = λ x. ((λ i. at_start_to x ((f.order.members x).0 i)), (λ h. (f.order.members x).1 (at_start_from x h))) };
    no_rims = f.no_rims;
    none_moved = f.none_moved;
    sides = f.sides;
  }

  pub answer_plain : (a : Answer) → IsAnswer job a → IsAnswer pj (plain_answer a)
  answer_plain _ (standing s f bad) = standing (plain_state s) (start_plain s f) (λ safe. bad (subst IsSafe (sym (now_same s.layout)) safe))
  answer_plain _ (ended s f safe r) = ended (plain_state s) (start_plain s f) (subst IsSafe (now_same s.layout) safe) (runs_plain r)

pub answers_alike : (job other : Job) → IsGraph job.device job.design.graph → plain_job job ≡ plain_job other → (a b : Answer) → IsAnswer job a → IsAnswer other b → plain_answer a ≡ plain_answer b
answers_alike job other is same a b p q =
    one_answer (plain_job job) is (plain_answer a) (plain_answer b) (answer_plain job a p) (subst (λ j. IsAnswer j (plain_answer b)) (sym same) (answer_plain other b q))

-- each job is the same as itself without numbers of lines
pub job_twice : (job : Job) → plain_job job ≡ plain_job (plain_job job)
job_twice job = λ i. record {
  device = job.device;
  design = record { graph = job.design.graph; config = sym (config_twice job.design.config) i; cells = job.design.cells; side = job.design.side };
  rounds = job.rounds;
  rip = job.rip;
}
