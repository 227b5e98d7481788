-- A run of a number of blocks has one outcome at most, and so has each command.
use Rattle.std.proofs.Common.{◌≡◌, ℕ, List, ap, subst, sym, ◌∙◌}
use Rattle.std.specs.Prelude.{Ok}
use Rattle.patterns.specs.Bits.{DeviceBit}
use Rattle.fabric.specs.Graph.{Graph}
use Rattle.fabric.specs.Image.{image_of}
use Rattle.circuit.specs.Cells.{Cells}
use Rattle.cells.specs.CellsOf.{cells_of}
use Rattle.repair.specs.Layouts.{Layout}
use Rattle.attempts.specs.Turns.{Cut}
use Rattle.attempts.specs.Attempts.{Event, End, Routed, NoRoute, Answer, Standing, Ended, IsAnswer}
use Rattle.answers.specs.Answers as status
use Rattle.commands.specs.Commands.{Command, Drivers, Check, Analyse, Harden, Run}
use Rattle.reports.specs.Reports as report
use Rattle.design_files.specs.Parsed.{Files}
use Rattle.design_files.specs.Designs.{Design}
use Rattle.made_designs.specs.Made.{made_design}
use Rattle.design_answers.specs.BadBits.{AreMuxBits}
use Rattle.design_answers.specs.Reported.{attempt_count}
use Rattle.design_answers.specs.Outcomes.{Outcome, printed}
use Rattle.design_answers.specs.RunOutcomes.{run_job, IsMade, run_report, IsRunOutcome, hardens, finds_no_route, stands, IsCommandOutcome}
use Rattle.attempt_laws.proofs.Runs.{one_answer}
use Rattle.fabric_laws.proofs.Graphs.{one_graph}
use Rattle.formed_laws.proofs.Results.{same_value}
use Rattle.check_laws.proofs.BadPlaces.{one_list_of_bits}
use Rattle.check_laws.proofs.OneOutcome.{one_of}

-- a graph with its cells and its routing-mux bits
record Built : Type 0 where
  graph : Graph
  cells : Cells
  bits : List DeviceBit

abbrev built : Graph → Cells → List DeviceBit → Built
built g cells bits = record { graph = g; cells = cells; bits = bits }

module _ (design : Design) where
  -- a design has one graph, one list of cells and one list of routing-mux bits
  one_built : (g h : Graph) (c x : Cells) (bits others : List DeviceBit) → IsMade design g c bits → IsMade design h x others → built g c bits ≡ built h x others
  one_built g h c x bits others a b =
      let graphs : g ≡ h = one_graph design.device g h a.graph b.graph in
      let cells : c ≡ x = same_value c x (cells_of h design.device.profile (image_of h design.config) design.side)
      (subst (λ z. cells_of z design.device.profile (image_of z design.config) design.side ≡ Ok c) graphs a.cells_there) b.cells_there in
      let same : bits ≡ others = one_list_of_bits h bits others (subst (λ z. AreMuxBits z bits) graphs a.mux_bits) b.mux_bits in
      λ i. record { graph = graphs i; cells = cells i; bits = same i }

  -- so its hardening has one answer
  one_answered : (g h : Graph) (c x : Cells) (bits others : List DeviceBit) (p q : Answer) → IsMade design g c bits → IsMade design h x others
      → IsAnswer (run_job design g c) p → IsAnswer (run_job design h x) q → p ≡ q
  one_answered g h c x bits others p q a b u v =
      one_answer (run_job design h x) b.graph p q (subst (λ (z : Built). IsAnswer (run_job design z.graph z.cells) p) (one_built g h c x bits others a b) u) v

  one_bits : (g h : Graph) (c x : Cells) (bits others : List DeviceBit) → IsMade design g c bits → IsMade design h x others → bits ≡ others
  one_bits g h c x bits others a b = ap (λ (z : Built). z.bits) (one_built g h c x bits others a b)

-- what a run prints by the answer to its hardening
module _ (blocks : ℕ) (design : Design) where
  one_hardened : (bits others : List DeviceBit) (log logs : List Event) (y z : Layout) (m n : ℕ) → bits ≡ others → Ended log (Routed y m) ≡ Ended logs (Routed z n)
      → printed status.Done (run_report blocks design bits report.RunHardened (attempt_count log) m)
      ≡ printed status.Done (run_report blocks design others report.RunHardened (attempt_count logs) n)
  one_hardened bits others log logs y z m n same answers =
      let events : log ≡ logs = cc in
      let counts : m ≡ n = cc in
      λ i. printed status.Done (run_report blocks design (same i) report.RunHardened (attempt_count (events i)) (counts i))

  one_unrouted : (bits others : List DeviceBit) (log logs : List Event) (e f : End) (net other pin pins : ℕ) (cut cuts : Cut) → bits ≡ others
      → Ended log (NoRoute e net pin cut) ≡ Ended logs (NoRoute f other pins cuts)
      → printed status.NoRoute (run_report blocks design bits report.RunNoRoute (attempt_count log) 0)
      ≡ printed status.NoRoute (run_report blocks design others report.RunNoRoute (attempt_count logs) 0)
  one_unrouted bits others log logs e f net other pin pins cut cuts same answers =
      let events : log ≡ logs = cc in
      λ i. printed status.NoRoute (run_report blocks design (same i) report.RunNoRoute (attempt_count (events i)) 0)

  one_standing : (bits others : List DeviceBit) → bits ≡ others
      → printed status.Unsafe (run_report blocks design bits report.RunStanding 0 0) ≡ printed status.Unsafe (run_report blocks design others report.RunStanding 0 0)
  one_standing bits others same = ap (λ bs. printed status.Unsafe (run_report blocks design bs report.RunStanding 0 0)) same

hardened_stands : (log : List Event) (y : Layout) (n : ℕ) → Ended log (Routed y n) ≡ Standing → ⊥
hardened_stands log y n h = (let wrong : ⊥ = cc in wrong)

unrouted_stands : (log : List Event) (e : End) (net pin : ℕ) (cut : Cut) → Ended log (NoRoute e net pin cut) ≡ Standing → ⊥
unrouted_stands log e net pin cut h = (let wrong : ⊥ = cc in wrong)

hardened_unrouted : (log logs : List Event) (y : Layout) (n : ℕ) (e : End) (net pin : ℕ) (cut : Cut) → Ended log (Routed y n) ≡ Ended logs (NoRoute e net pin cut) → ⊥
hardened_unrouted log logs y n e net pin cut h = (let wrong : ⊥ = cc in wrong)

one_run : (blocks : ℕ) (o p : Outcome) → IsRunOutcome blocks o → IsRunOutcome blocks p → o ≡ p
one_run blocks _ _ (hardens {g} {cells} {bits} {log} {y} {connections} a u) (hardens {g = h} {cells = x} {bits = others} {log = logs} {y = z} {connections = n} b v) =
    one_hardened blocks (made_design blocks) bits others log logs y z connections n (one_bits (made_design blocks) g h cells x bits others a b)
    (one_answered (made_design blocks) g h cells x bits others (Ended log (Routed y connections)) (Ended logs (Routed z n)) a b u v)
one_run blocks _ _ (hardens {g} {cells} {bits} {log} {y} {connections} a u) (finds_no_route {g = h} {cells = x} {bits = others} {log = logs} {end} {net} {pin} {cut} b v) =
    absurd (hardened_unrouted log logs y connections end net pin cut
    (one_answered (made_design blocks) g h cells x bits others (Ended log (Routed y connections)) (Ended logs (NoRoute end net pin cut)) a b u v))
one_run blocks _ _ (hardens {g} {cells} {bits} {log} {y} {connections} a u) (stands {g = h} {cells = x} {bits = others} b v) =
    absurd (hardened_stands log y connections (one_answered (made_design blocks) g h cells x bits others (Ended log (Routed y connections)) Standing a b u v))
one_run blocks _ _ (finds_no_route {g = h} {cells = x} {bits = others} {log = logs} {end} {net} {pin} {cut} b v) (hardens {g} {cells} {bits} {log} {y} {connections} a u) =
    absurd (hardened_unrouted log logs y connections end net pin cut
    (one_answered (made_design blocks) g h cells x bits others (Ended log (Routed y connections)) (Ended logs (NoRoute end net pin cut)) a b u v))
one_run blocks _ _ (finds_no_route {g} {cells} {bits} {log} {end} {net} {pin} {cut} a u) (finds_no_route {g = h} {cells = x} {bits = others} {log = logs} {end = f} {net = other} {pin = pins} {cut = cuts} b v) =
    one_unrouted blocks (made_design blocks) bits others log logs end f net other pin pins cut cuts (one_bits (made_design blocks) g h cells x bits others a b)
    (one_answered (made_design blocks) g h cells x bits others (Ended log (NoRoute end net pin cut)) (Ended logs (NoRoute f other pins cuts)) a b u v)
one_run blocks _ _ (finds_no_route {g} {cells} {bits} {log} {end} {net} {pin} {cut} a u) (stands {g = h} {cells = x} {bits = others} b v) =
    absurd (unrouted_stands log end net pin cut (one_answered (made_design blocks) g h cells x bits others (Ended log (NoRoute end net pin cut)) Standing a b u v))
one_run blocks _ _ (stands {g = h} {cells = x} {bits = others} b v) (hardens {g} {cells} {bits} {log} {y} {connections} a u) =
    absurd (hardened_stands log y connections (one_answered (made_design blocks) g h cells x bits others (Ended log (Routed y connections)) Standing a b u v))
one_run blocks _ _ (stands {g = h} {cells = x} {bits = others} b v) (finds_no_route {g} {cells} {bits} {log} {end} {net} {pin} {cut} a u) =
    absurd (unrouted_stands log end net pin cut (one_answered (made_design blocks) g h cells x bits others (Ended log (NoRoute end net pin cut)) Standing a b u v))
one_run blocks _ _ (stands {g} {cells} {bits} a u) (stands {g = h} {cells = x} {bits = others} b v) =
    one_standing blocks (made_design blocks) bits others (one_bits (made_design blocks) g h cells x bits others a b)

pub one_of_command : (files : Files) (command : Command) (o p : Outcome) → IsCommandOutcome files command o → IsCommandOutcome files command p → o ≡ p
one_of_command files (Drivers name bits) o p h k = h ∙ sym k
one_of_command files (Check inputs) o p h k = one_of files (Check inputs) o p h k
one_of_command files (Analyse inputs) o p h k = one_of files (Analyse inputs) o p h k
one_of_command files (Harden inputs w) o p h k = one_of files (Harden inputs w) o p h k
one_of_command files (Run blocks) o p h k = one_run blocks o p h k
