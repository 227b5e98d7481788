-- What the commands over a design answer: which status, text and written files belong to which state of the input.
-- (Our own.)
use Rattle.std.specs.Prelude.{◌≡◌, ◌≢◌, ℕ, List, [], ◌∷◌, length, Option, Some, None}
use Rattle.patterns.specs.Bits.{DeviceBit}
use Rattle.fabric.specs.Graph.{Graph}
use Rattle.circuit.specs.Cells.{Cells}
use Rattle.config_grammar.specs.ConfigPrint.{config_text}
use Rattle.side_form.specs.SidePrint.{side_text}
use Rattle.upset.specs.Safe.{IsSafe}
use Rattle.repair.specs.Layouts.{Layout, configured}
use Rattle.attempts.specs.Turns.{Cut}
use Rattle.attempts.specs.Jobs.{Job, State}
use Rattle.attempts.specs.Starts.{IsFirstState}
use Rattle.attempts.specs.Attempts.{Event, End, Routed, NoRoute, Standing, Ended, IsAnswer}
use Rattle.answers.specs.Answers as status
use Rattle.answers.specs.Refusals.{Refusal}
use Rattle.answers.specs.Texts.{refused_text}
use Rattle.commands.specs.Commands.{Inputs, Hardening, Command, Drivers, Check, Analyse, Harden, Run}
use Rattle.reports.specs.Reports as report
use Rattle.reports.specs.ReportTexts.{report_text}
use Rattle.design_files.specs.Parsed.{Files}
use Rattle.design_files.specs.Designs.{Design}
use Rattle.design_checks.specs.DesignChecks.{configured_as, IsFirstRefusal, IsAccepted}
use Rattle.design_answers.specs.BadBits.{AreBadPlaces, AreMuxBits}
use Rattle.design_answers.specs.Reported.{log_lines, end_word, cut_report, counts_of}

-- a file that is written, with its bytes
pub record Written : Type 0 where
  pub name : List ℕ
  pub bytes : List ℕ

-- the status of a run, what it prints, and what it writes, in this order
pub record Outcome : Type 0 where
  pub status : status.Status
  pub text : List ℕ
  pub written : List Written

abbrev pub printed : status.Status → report.Report → Outcome
printed s r = record { status = s; text = report_text r; written = [] }

abbrev pub refused : Refusal → Outcome
refused r = record { status = status.Refused; text = refused_text r; written = [] }

abbrev pub file : List ℕ → List ℕ → Written
file name bytes = record { name = name; bytes = bytes }

-- the inputs of a command over a design
abbrev pub inputs_of : Command → Option Inputs
inputs_of (Drivers name bits) = None
inputs_of (Check inputs) = Some inputs
inputs_of (Analyse inputs) = Some inputs
inputs_of (Harden inputs hardening) = Some inputs
inputs_of (Run blocks) = None

abbrev pub layout_of : Design → Graph → Cells → Layout
layout_of design g cells = record { graph = g; config = design.config; cells = cells; side = design.side }

-- what a router is given for an accepted design
abbrev pub job_of : Design → Graph → Cells → Hardening → Job
job_of design g cells h = record { device = design.device; design = layout_of design g cells; rounds = h.rounds; rip = h.rip }

-- after attempts that ended with all connections routed: the text and the side file are written
abbrev pub hardened : Graph → Hardening → List Event → Layout → ℕ → Outcome
hardened g h log y connections = record {
  status = status.Done;
  text = report_text (report.Hardened (log_lines g log) connections);
  written = file h.out (config_text y.config) ∷ file h.side_out (side_text y.side) ∷ [];
}

-- after attempts that ended without a route: the cut is written
abbrev pub not_routed : Graph → Hardening → List Event → End → ℕ → ℕ → Cut → Outcome
not_routed g h log end net pin cut = record {
  status = status.NoRoute;
  text = report_text (report.NoRoute (log_lines g log) (end_word end));
  written = file h.cut_out (report_text (report.CutFile (cut_report g net pin cut))) ∷ [];
}

-- The outcome of a command over files as they stand when the run begins: a refusal by the first check that fails, or
-- the report on the accepted design.
pub data IsOutcome (files : Files) : Command → Outcome → Type 0 where
  refuses : {command : Command} {inputs : Inputs} {r : Refusal} → inputs_of command ≡ Some inputs → IsFirstRefusal files inputs r → IsOutcome files command (refused r)
  -- `check`: the design is accepted
  checks : {inputs : Inputs} {design : Design} {g : Graph} {cells : Cells} → IsAccepted files inputs design g cells
      → IsOutcome files (Check inputs) (printed status.Done (report.Checked (counts_of design.side)))
  -- `analyse`: its image is safe, or these bits are bad
  is_safe : {inputs : Inputs} {design : Design} {g : Graph} {cells : Cells} {bits : List DeviceBit} → IsAccepted files inputs design g cells
      → IsSafe (configured_as design g cells) → AreMuxBits g bits → IsOutcome files (Analyse inputs) (printed status.Done (report.Safe (length bits)))
  is_unsafe : {inputs : Inputs} {design : Design} {g : Graph} {cells : Cells} {bad : List report.BadPlace} → IsAccepted files inputs design g cells
      → AreBadPlaces (configured_as design g cells) bad → bad ≢ [] → IsOutcome files (Analyse inputs) (printed status.Unsafe (report.Unsafe bad))
  -- `harden`: bits stand that no route can mend, or the attempts end with or without a routed text
  stands : {inputs : Inputs} {h : Hardening} {design : Design} {g : Graph} {cells : Cells} {state : State} {bad : List report.BadPlace} → IsAccepted files inputs design g cells
      → IsAnswer (job_of design g cells h) Standing → IsFirstState (job_of design g cells h) state → AreBadPlaces (configured state.layout) bad
      → IsOutcome files (Harden inputs h) (printed status.Unsafe (report.Standing bad))
  hardens : {inputs : Inputs} {h : Hardening} {design : Design} {g : Graph} {cells : Cells} {log : List Event} {y : Layout} {connections : ℕ} → IsAccepted files inputs design g cells
      → IsAnswer (job_of design g cells h) (Ended log (Routed y connections)) → IsOutcome files (Harden inputs h) (hardened g h log y connections)
  finds_no_route : {inputs : Inputs} {h : Hardening} {design : Design} {g : Graph} {cells : Cells} {log : List Event} {end : End} {net pin : ℕ} {cut : Cut} → IsAccepted files inputs design g cells
      → IsAnswer (job_of design g cells h) (Ended log (NoRoute end net pin cut)) → IsOutcome files (Harden inputs h) (not_routed g h log end net pin cut)
