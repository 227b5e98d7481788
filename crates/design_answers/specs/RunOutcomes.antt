-- What `run N` answers: it hardens the made design of N blocks, all of whose nets are ripped, in 32 attempts at most. It
-- reads and writes no file. (Our own.)
use Rattle.std.specs.Prelude.{◌≡◌, ℕ, List, length, Ok}
use Rattle.patterns.specs.Bits.{DeviceBit}
use Rattle.records.specs.Ripping.{RipAll}
use Rattle.fabric.specs.Graph.{Graph}
use Rattle.fabric.specs.GraphOf.{IsGraph}
use Rattle.fabric.specs.Image.{image_of}
use Rattle.circuit.specs.Cells.{Cells}
use Rattle.cells.specs.CellsOf.{cells_of}
use Rattle.repair.specs.Layouts.{Layout}
use Rattle.attempts.specs.Turns.{Cut}
use Rattle.attempts.specs.Jobs.{Job}
use Rattle.attempts.specs.Attempts.{Event, End, Routed, NoRoute, Standing, Ended, IsAnswer}
use Rattle.answers.specs.Answers as status
use Rattle.commands.specs.Commands.{Command, Drivers, Check, Analyse, Harden, Run}
use Rattle.reports.specs.Reports as report
use Rattle.design_files.specs.Parsed.{Files}
use Rattle.design_files.specs.Designs.{Design}
use Rattle.made_designs.specs.Made.{made_design}
use Rattle.design_answers.specs.BadBits.{AreMuxBits}
use Rattle.design_answers.specs.Reported.{attempt_count}
use Rattle.design_answers.specs.Outcomes.{Outcome, printed, layout_of, IsOutcome}
use Rattle.design_answers.specs.DriversOutcomes.{drivers_outcome}

abbrev pub run_rounds : ℕ
run_rounds = 32

-- what the router is given
abbrev pub run_job : Design → Graph → Cells → Job
run_job design g cells = record { device = design.device; design = layout_of design g cells; rounds = run_rounds; rip = RipAll }

-- the made design with its graph, its cells and its routing-mux bits
pub record IsMade (design : Design) (g : Graph) (cells : Cells) (bits : List DeviceBit) : Type 0 where
  pub graph : IsGraph design.device g
  pub cells_there : cells_of g design.device.profile (image_of g design.config) design.side ≡ Ok cells
  pub mux_bits : AreMuxBits g bits

-- the counts of a made design, how its hardening ended, after how many attempts and with how many connections
abbrev pub run_report : ℕ → Design → List DeviceBit → report.RunWord → ℕ → ℕ → report.Report
run_report blocks design bits word attempts connections = report.Ran (record {
  blocks = blocks;
  tiles = length design.device.grid.tiles;
  slices = length design.side.slices;
  pads = length design.side.pads;
  bits = length bits;
  answer = word;
  attempts = attempts;
  connections = connections;
})

-- The outcome of `run` of a number of blocks. Connections are counted only where it is hardened, and no attempt where
-- bits stand.
pub data IsRunOutcome (blocks : ℕ) : Outcome → Type 0 where
  hardens : {g : Graph} {cells : Cells} {bits : List DeviceBit} {log : List Event} {y : Layout} {connections : ℕ} → IsMade (made_design blocks) g cells bits
      → IsAnswer (run_job (made_design blocks) g cells) (Ended log (Routed y connections))
      → IsRunOutcome blocks (printed status.Done (run_report blocks (made_design blocks) bits report.RunHardened (attempt_count log) connections))
  finds_no_route : {g : Graph} {cells : Cells} {bits : List DeviceBit} {log : List Event} {end : End} {net pin : ℕ} {cut : Cut} → IsMade (made_design blocks) g cells bits
      → IsAnswer (run_job (made_design blocks) g cells) (Ended log (NoRoute end net pin cut))
      → IsRunOutcome blocks (printed status.NoRoute (run_report blocks (made_design blocks) bits report.RunNoRoute (attempt_count log) 0))
  stands : {g : Graph} {cells : Cells} {bits : List DeviceBit} → IsMade (made_design blocks) g cells bits
      → IsAnswer (run_job (made_design blocks) g cells) Standing
      → IsRunOutcome blocks (printed status.Unsafe (run_report blocks (made_design blocks) bits report.RunStanding 0 0))

-- the outcome of any command over files
abbrev pub IsCommandOutcome : Files → Command → Outcome → Type 0
IsCommandOutcome files (Drivers name bits) outcome = outcome ≡ drivers_outcome files name bits
IsCommandOutcome files (Run blocks) outcome = IsRunOutcome blocks outcome
IsCommandOutcome files (Check inputs) outcome = IsOutcome files (Check inputs) outcome
IsCommandOutcome files (Analyse inputs) outcome = IsOutcome files (Analyse inputs) outcome
IsCommandOutcome files (Harden inputs hardening) outcome = IsOutcome files (Harden inputs hardening) outcome
