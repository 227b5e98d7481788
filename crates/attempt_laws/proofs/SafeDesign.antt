-- A safe design of which only what bad bits reach is ripped: nothing is ripped, so the first attempt is complete and
-- leaves the design as it is.
use Rattle.std.proofs.Common.{◌≡◌, ℕ, List, [], ◌∷◌, refl, subst, inl, inr}
use Rattle.records.specs.Config.{ArcLine, TileText, Config}
use Rattle.records.specs.Ripping.{Rip, RipUnsafe}
use Rattle.fabric.specs.Device.{Device}
use Rattle.circuit.specs.Parts.{PartRef}
use Rattle.upset.specs.Configured.{Configured}
use Rattle.upset.specs.Safe.{IsSafe}
use Rattle.repair.specs.Lines.{WithoutLines, no_lines, keeps, TextsWithout, no_texts, next_text, WithoutArcLines}
use Rattle.repair.specs.Nets.{IsReached, IsChosenToRip, IsRipped}
use Rattle.repair.specs.Layouts.{configured}
use Rattle.attempts.specs.Jobs.{Job, State, IsRippedPart}
use Rattle.attempts.specs.Starts.{IsFirstState}
use Rattle.attempts.specs.Attempts.{AttemptComplete, Routed, completes, Ended, IsAnswer, ended}

-- where nothing is dropped a text stays
all_lines : (Dropped : ArcLine → Type 0) → ((line : ArcLine) → Dropped line → ⊥) → (lines : List ArcLine) → WithoutLines Dropped lines lines
all_lines Dropped none [] = no_lines
all_lines Dropped none (line ∷ lines) = keeps (none line) (all_lines Dropped none lines)

module _ (Dropped : List ℕ → ArcLine → Type 0) (none : (tile : List ℕ) (line : ArcLine) → Dropped tile line → ⊥) where
  all_texts : (texts : List TileText) → TextsWithout Dropped texts texts
  all_texts [] = no_texts
  all_texts (text ∷ texts) = next_text (record { arcs = all_lines (Dropped text.tile) (none text.tile) text.arcs; others = refl }) (all_texts texts)

  pub whole_text : (config : Config) → WithoutArcLines Dropped config config
  whole_text config = record { texts = all_texts config.tiles; others = refl }

-- no net of a safe image is reached by a bad bit
none_ripped : (rip : Rip) (device : Device) (k : Configured) (net : ℕ) → rip ≡ RipUnsafe → IsSafe k → IsRipped rip device k net → ⊥
none_ripped rip device k net unsafe safe r = let reached : IsReached k net = subst (λ which. IsChosenToRip which k net) unsafe r.chosen in safe reached.bit reached.mux_bit reached.bad

module _ (job : Job) (unsafe : job.rip ≡ RipUnsafe) (safe : IsSafe (configured job.design)) where
  abbrev first_state : State
  first_state = record { layout = job.design; order = []; rims = []; moved = []; sides = job.design.side ∷ [] }

  -- nor is the net of a part, before a slice moves
  pub no_part_ripped : (part : PartRef) → IsRippedPart job [] part → ⊥
  no_part_ripped part r = elim r [
    | inl first ↦ none_ripped job.rip job.device (configured job.design) first.source.out unsafe safe first.ripped
    | inr later ↦ absurd later.1.0
  ]

  starts : IsFirstState job first_state
  starts = record {
    graph = refl;
    text = whole_text _ (λ tile line dropped. none_ripped job.rip job.device (configured job.design) dropped.net unsafe safe dropped.ripped) job.design.config;
    cells = refl;
    side = refl;
    order = record { rising = tt; members = λ x. ((λ i. absurd i), (λ r. no_part_ripped x.source r.1)) };
    no_rims = refl;
    none_moved = refl;
    sides = refl;
  }

  pub safe_design_stays : IsAnswer job (Ended (AttemptComplete ∷ []) (Routed job.design 0))
  safe_design_stays = ended first_state starts safe (completes job.design refl)
