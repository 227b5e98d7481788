-- A slice has the same candidates, whatever the numbers of lines.
use Rattle.std.proofs.Common.{◌≡◌, ◌≢◌, ℕ, false, List, ◌++◌, refl, sym, ap, subst, ◌∙◌}
use Rattle.std.specs.Prelude.{Ok}
use Rattle.std.specs.declared.cmp.Ordering.TheVariants.{Greater}
use Rattle.words.specs.Members.{In}
use Rattle.records.specs.Config.{ArcLine, Config}
use Rattle.records.specs.Profile.{SliceKind}
use Rattle.links.specs.Links.{Feeds, IsClean}
use Rattle.fabric.specs.Agree.{ArcsAgree}
use Rattle.circuit.specs.Parts.{Source, sources}
use Rattle.circuit.specs.Pins.{Pin, pins}
use Rattle.circuit.specs.Circuits.{Circuit, Connection, IsConnection}
use Rattle.cells.specs.Sites.{Site}
use Rattle.cells.specs.CellsOf.{cells_of}
use Rattle.upset.specs.Configured.{Configured, circuit_of}
use Rattle.upset.specs.Safe.{IsSafe}
use Rattle.repair.specs.Layouts.{Layout, configured}
use Rattle.repair.specs.Lines.{WithoutArcLines}
use Rattle.repair.specs.Turns.{routing}
use Rattle.attempts.specs.Jobs.{Job, State, read_of}
use Rattle.attempts.specs.Moves.{moved_config, moved_side}
use Rattle.attempts.specs.Candidates.{IsRemoved, BecomesRipped, Step, IsMoved, IsCandidate, WasHeld, site_cmp, IsFirst, HasNone}
use Rattle.attempt_laws.proofs.WithoutLines.{one_config}
use Rattle.answer_laws.proofs.Lines.{some_rest}
use Rattle.answer_laws.proofs.Tests.{is_removed}
use Rattle.text_laws.specs.SameButLines.{unnumbered_arc}
use Rattle.text_laws.proofs.SameWrites.{same_agreeing}
use Rattle.line_laws.specs.Plain.{plain_config, plain_layout, plain_job}
use Rattle.line_laws.proofs.Texts.{same_but, now_same}
use Rattle.line_laws.proofs.Lines.{rest_along}
use Rattle.line_laws.proofs.Moves.{moved_same}
use Rattle.line_laws.proofs.Alike.{turned_jobs, plain_alike, turned_states, plain_state, plain_states, removed, becomes_ripped}

abbrev pub plain_step : Step → Step
plain_step step = record { move = step.move; layout = plain_layout step.layout; ripped = step.ripped }

-- arcs agree with the text of a layout, with numbers or without
agree_to : (y : Layout) → ArcsAgree y.graph (configured y).image y.config → ArcsAgree y.graph (configured (plain_layout y)).image (plain_config y.config)
agree_to y a = subst (λ (z : Configured). ArcsAgree y.graph z.image (plain_config y.config)) (now_same y) ((same_agreeing y.graph (configured y).image y.config (plain_config y.config) (same_but y.config)).0 a)

agree_from : (y : Layout) → ArcsAgree y.graph (configured (plain_layout y)).image (plain_config y.config) → ArcsAgree y.graph (configured y).image y.config
agree_from y a = (same_agreeing y.graph (configured y).image y.config (plain_config y.config) (same_but y.config)).1 (subst (λ (z : Configured). ArcsAgree y.graph z.image (plain_config y.config)) (sym (now_same y)) a)

-- what is asked of a configured circuit
abbrev AreModelled : Configured → Type 0
AreModelled k = (p : Pin) (o : ℕ) → In (pins k.cells) p → Feeds (routing k) o p.wire → (s : Source) × (In (sources k.cells) s × (s.out ≡ o))

abbrev HasBut : Circuit → List Connection → Configured → Type 0
HasBut read lost k = (x : Connection) → IsConnection read x → (In lost x → ⊥) → IsConnection (circuit_of k) x

abbrev HasNoOther : Circuit → Configured → Type 0
HasNoOther read k = (x : Connection) → IsConnection (circuit_of k) x → IsConnection read x

module _ (job : Job) (s : State) where
  abbrev pj : Job
  pj = plain_job job

  abbrev ps : State
  ps = plain_state s

  abbrev reads_same : read_of job ≡ read_of pj
  reads_same = ap circuit_of (now_same job.design)

  dropped_to : (slice tile : List ℕ) (line : ArcLine) → IsRemoved job s slice tile line → IsRemoved pj ps slice tile (unnumbered_arc line)
  dropped_to slice tile line = removed job pj (plain_alike job) s ps (plain_states s) slice tile line (unnumbered_arc line) refl

  dropped_from : (slice tile : List ℕ) (line : ArcLine) → IsRemoved pj ps slice tile (unnumbered_arc line) → IsRemoved job s slice tile line
  dropped_from slice tile line = removed pj job (turned_jobs job pj (plain_alike job)) ps s (turned_states s ps (plain_states s)) slice tile (unnumbered_arc line) line refl

  lost_to : (slice : List ℕ) (x : Connection) → BecomesRipped job s slice x → BecomesRipped pj ps slice x
  lost_to slice x = becomes_ripped job pj (plain_alike job) s ps (plain_states s) slice x

  lost_from : (slice : List ℕ) (x : Connection) → BecomesRipped pj ps slice x → BecomesRipped job s slice x
  lost_from slice x = becomes_ripped pj job (turned_jobs job pj (plain_alike job)) ps s (turned_states s ps (plain_states s)) slice x

  moved_to : (step : Step) (old new : Site SliceKind) → IsMoved job s step old new → IsMoved pj ps (plain_step step) old new
  moved_to step old new p = record {
    sites = record { from = p.sites.from; to = p.sites.to };
    rest = plain_config p.rest;
    without = rest_along (IsRemoved job s step.move.slice) (IsRemoved pj ps step.move.slice) (dropped_to step.move.slice) (dropped_from step.move.slice) s.layout.config p.rest p.without;
    graph = p.graph;
    text = ap plain_config p.text ∙ sym (moved_same old new p.rest);
    side = p.side;
    cells = subst (λ (z : Configured). cells_of s.layout.graph job.device.profile z.image step.layout.side ≡ Ok step.layout.cells) (now_same step.layout) p.cells;
    ripped_in_order = p.ripped_in_order;
    ripped = λ x. ((λ i. lost_to step.move.slice x ((p.ripped x).0 i)), (λ h. (p.ripped x).1 (lost_from step.move.slice x h)));
  }

  abbrev candidate_to : (step : Step) → IsCandidate job s step → IsCandidate pj ps (plain_step step)
  candidate_to step c = record {
    old = c.old;
    new = c.new;
    moved = moved_to step c.old c.new c.moved;
    shape = c.shape;
    empty = c.empty;
    clear = λ b i. subst (λ (z : Configured). z.image b ≡ false) (now_same s.layout) (c.clear b i);
    clean = subst (λ z. IsClean (routing z)) (now_same step.layout) c.clean;
    agree = agree_to step.layout c.agree;
    alike = c.alike;
    modelled = subst AreModelled (now_same step.layout) c.modelled;
    connected = subst (λ r. HasBut r (s.order ++ step.ripped) (configured (plain_layout step.layout))) reads_same (subst (HasBut (read_of job) (s.order ++ step.ripped)) (now_same step.layout) c.connected);
    none_new = subst (λ r. HasNoOther r (configured (plain_layout step.layout))) reads_same (subst (HasNoOther (read_of job)) (now_same step.layout) c.none_new);
    safe = subst IsSafe (now_same step.layout) c.safe;
  }

  -- ---- back

  -- a candidate of the plain job is one of the job, with the same move and sites
  record IsBack (other : Step) (c : IsCandidate pj ps other) : Type 0 where
    step : Step
    candidate : IsCandidate job s step
    move : step.move ≡ other.move
    old : candidate.old ≡ c.old
    new : candidate.new ≡ c.new

  module _ (other : Step) (c : IsCandidate pj ps other) where
    rest : (config : Config) × WithoutArcLines (IsRemoved job s other.move.slice) s.layout.config config
    rest = some_rest (IsRemoved job s other.move.slice) (is_removed job s other.move.slice) s.layout.config

    rests : plain_config rest.0 ≡ c.moved.rest
    rests = one_config (rest_along (IsRemoved job s other.move.slice) (IsRemoved pj ps other.move.slice) (dropped_to other.move.slice) (dropped_from other.move.slice) s.layout.config rest.0 rest.1) c.moved.without

    abbrev there : Layout
    there = record { graph = s.layout.graph; config = moved_config c.old c.new rest.0; cells = other.layout.cells; side = moved_side other.move s.layout.side }

    texts : plain_config (moved_config c.old c.new rest.0) ≡ other.layout.config
    texts = sym (moved_same c.old c.new rest.0) ∙ ap (moved_config c.old c.new) rests ∙ sym c.moved.text

    layouts : plain_layout there ≡ other.layout
    layouts = λ i. record { graph = sym c.moved.graph i; config = texts i; cells = other.layout.cells; side = sym c.moved.side i }

    back : configured other.layout ≡ configured there
    back = sym (now_same there ∙ ap configured layouts)

    read_back : read_of pj ≡ read_of job
    read_back = sym reads_same

    abbrev step_back : Step
    step_back = record { move = other.move; layout = there; ripped = other.ripped }

    agree_back : ArcsAgree there.graph (configured there).image there.config
    agree_back = agree_from there (subst (λ (y : Layout). ArcsAgree y.graph (configured y).image y.config) (sym layouts) c.agree)

    candidate_from : IsBack other c
    candidate_from = record {
      step = step_back;
      candidate = record {
        old = c.old;
        new = c.new;
        moved = record {
          sites = record { from = c.moved.sites.from; to = c.moved.sites.to };
          rest = rest.0;
          without = rest.1;
          graph = refl;
          text = refl;
          side = refl;
          cells = subst (λ (z : Configured). cells_of s.layout.graph job.device.profile z.image z.side ≡ Ok other.layout.cells) back c.moved.cells;
          ripped_in_order = c.moved.ripped_in_order;
          ripped = λ x. ((λ i. lost_from other.move.slice x ((c.moved.ripped x).0 i)), (λ h. (c.moved.ripped x).1 (lost_to other.move.slice x h)));
        };
        shape = c.shape;
        empty = c.empty;
        clear = λ b i. subst (λ (z : Configured). z.image b ≡ false) (sym (now_same s.layout)) (c.clear b i);
        clean = subst (λ z. IsClean (routing z)) back c.clean;
        agree = agree_back;
        alike = c.alike;
        modelled = subst AreModelled back c.modelled;
        connected = subst (λ r. HasBut r (s.order ++ other.ripped) (configured there)) read_back (subst (HasBut (read_of pj) (s.order ++ other.ripped)) back c.connected);
        none_new = subst (λ r. HasNoOther r (configured there)) read_back (subst (HasNoOther (read_of pj)) back c.none_new);
        safe = subst IsSafe back c.safe;
      };
      move = refl;
      old = refl;
      new = refl;
    }

  -- ---- the first

  pub first_to : (slice : List ℕ) (step : Step) → IsFirst job s slice step → IsFirst pj ps slice (plain_step step)
  first_to slice step f = record {
    candidate = candidate_to step f.candidate;
    of_slice = f.of_slice;
    new = f.new;
    first = λ other c e n. (let b = candidate_from other c in
        subst (λ new. site_cmp f.candidate.old f.candidate.new new ≢ Greater) b.new
        (f.first b.step b.candidate (ap (λ m. m.slice) b.move ∙ e) (λ h. n (subst (WasHeld s) b.move h))));
  }

  pub none_to : (slice : List ℕ) → HasNone job s slice → HasNone pj ps slice
  none_to slice none other c e n = let b = candidate_from other c in none b.step b.candidate (ap (λ m. m.slice) b.move ∙ e) (λ h. n (subst (WasHeld s) b.move h))
