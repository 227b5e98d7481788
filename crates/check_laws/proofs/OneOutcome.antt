-- A command over files has one outcome at most.
use Rattle.std.proofs.Common.{◌≡◌, ℕ, List, length, Some, sym, ap, subst, ◌∙◌}
use Rattle.std.specs.Prelude.{Ok}
use Rattle.patterns.specs.Bits.{DeviceBit}
use Rattle.fabric.specs.Graph.{Graph}
use Rattle.fabric.specs.GraphOf.{IsGraph}
use Rattle.fabric.specs.Image.{image_of}
use Rattle.circuit.specs.Cells.{Cells}
use Rattle.cells.specs.CellsOf.{cells_of}
use Rattle.upset.specs.Configured.{Configured}
use Rattle.upset.specs.Safe.{IsSafe}
use Rattle.repair.specs.Layouts.{Layout, configured}
use Rattle.attempts.specs.Turns.{Cut}
use Rattle.attempts.specs.Jobs.{Job, State}
use Rattle.attempts.specs.Starts.{IsFirstState}
use Rattle.attempts.specs.Attempts.{Event, End, Ending, Routed, NoRoute, Answer, Standing, Ended, IsAnswer}
use Rattle.answers.specs.Answers as status
use Rattle.answers.specs.Refusals.{Refusal}
use Rattle.commands.specs.Commands.{Inputs, Hardening, Command, Drivers, Check, Analyse, Harden, Run}
use Rattle.reports.specs.Reports as report
use Rattle.design_files.specs.Parsed.{Files}
use Rattle.design_files.specs.Designs.{Design, design_of}
use Rattle.design_checks.specs.DesignChecks.{configured_as, IsFirstRefusal, IsAccepted}
use Rattle.design_answers.specs.BadBits.{AreBadPlaces, AreMuxBits}
use Rattle.design_answers.specs.Reported.{counts_of}
use Rattle.design_answers.specs.Outcomes.{Outcome, printed, refused, job_of, hardened, not_routed, IsOutcome, refuses, checks, is_safe, is_unsafe, stands, hardens, finds_no_route}
use Rattle.attempt_laws.proofs.Runs.{one_answer}
use Rattle.attempt_laws.proofs.Starts.{one_start}
use Rattle.fabric_laws.proofs.Graphs.{one_graph, some_same}
use Rattle.formed_laws.proofs.Results.{same_value}
use Rattle.check_laws.proofs.NeverBoth.{same_design, never_both}
use Rattle.check_laws.proofs.OneRefusal.{one_first}
use Rattle.check_laws.proofs.BadPlaces.{one_list_of_bad, not_safe, one_list_of_bits}

-- a design with its graph and its cells
record Found : Type 0 where
  design : Design
  graph : Graph
  cells : Cells

abbrev found : Design → Graph → Cells → Found
found design g cells = record { design = design; graph = g; cells = cells }

abbrev as_configured : Found → Configured
as_configured f = configured_as f.design f.graph f.cells

abbrev job : Hardening → Found → Job
job h f = job_of f.design f.graph f.cells h

module _ (files : Files) where
  -- inputs give one design with one graph and one list of cells
  one_found : (inputs : Inputs) (d e : Design) (g h : Graph) (c x : Cells) → IsAccepted files inputs d g c → IsAccepted files inputs e h x → found d g c ≡ found e h x
  one_found inputs d e g h c x a b = at (same_design d e (design_of files inputs) a.read b.read)
    where
      at_graph : g ≡ h → cells_of g e.device.profile (image_of g e.config) e.side ≡ Ok c → c ≡ x
      at_graph same there = same_value c x (cells_of h e.device.profile (image_of h e.config) e.side) (subst (λ z. cells_of z e.device.profile (image_of z e.config) e.side ≡ Ok c) same there) b.cells_there

      at : d ≡ e → found d g c ≡ found e h x
      at same =
          let graphs : g ≡ h = one_graph e.device g h (subst (λ (z : Design). IsGraph z.device g) same a.graph) b.graph in
          let cells : c ≡ x = at_graph graphs (subst (λ (z : Design). cells_of g z.device.profile (image_of g z.config) z.side ≡ Ok c) same a.cells_there) in
          λ i. record { design = same i; graph = graphs i; cells = cells i }

  -- a refusal of inputs that are accepted
  clash : (inputs other : Inputs) (r : Refusal) (d : Design) (g : Graph) (c : Cells) → Some inputs ≡ Some other → IsFirstRefusal files other r → IsAccepted files inputs d g c → ⊥
  clash inputs other r d g c e h a = never_both files inputs d g c r a (subst (λ z. IsFirstRefusal files z r) (sym (some_same e)) h)

  -- two refusals
  agree : (inputs other : Inputs) (r s : Refusal) → inputs ≡ other → IsFirstRefusal files inputs r → IsFirstRefusal files other s → refused r ≡ refused s
  agree inputs other r s e h k = ap refused (one_first files other r s (subst (λ z. IsFirstRefusal files z r) e h) k)

  one_check : (inputs : Inputs) (o p : Outcome) → IsOutcome files (Check inputs) o → IsOutcome files (Check inputs) p → o ≡ p
  one_check inputs _ _ (refuses {inputs = a} {r} e h) (refuses {inputs = b} {r = s} f k) = agree a b r s (some_same (sym e ∙ f)) h k
  one_check inputs _ _ (refuses {inputs = a} {r} e h) (checks {design} {g} {cells} b) = absurd (clash inputs a r design g cells e h b)
  one_check inputs _ _ (checks {design} {g} {cells} b) (refuses {inputs = a} {r} e h) = absurd (clash inputs a r design g cells e h b)
  one_check inputs _ _ (checks {design} {g} {cells} a) (checks {design = e} {g = h} {cells = x} b) =
      ap (λ (z : Found). printed status.Done (report.Checked (counts_of z.design.side))) (one_found inputs design e g h cells x a b)

  one_analyse : (inputs : Inputs) (o p : Outcome) → IsOutcome files (Analyse inputs) o → IsOutcome files (Analyse inputs) p → o ≡ p
  one_analyse inputs _ _ (refuses {inputs = a} {r} e h) (refuses {inputs = b} {r = s} f k) = agree a b r s (some_same (sym e ∙ f)) h k
  one_analyse inputs _ _ (refuses {inputs = a} {r} e h) (is_safe {design} {g} {cells} b safe are) = absurd (clash inputs a r design g cells e h b)
  one_analyse inputs _ _ (refuses {inputs = a} {r} e h) (is_unsafe {design} {g} {cells} b are n) = absurd (clash inputs a r design g cells e h b)
  one_analyse inputs _ _ (is_safe {design} {g} {cells} b safe are) (refuses {inputs = a} {r} e h) = absurd (clash inputs a r design g cells e h b)
  one_analyse inputs _ _ (is_unsafe {design} {g} {cells} b are n) (refuses {inputs = a} {r} e h) = absurd (clash inputs a r design g cells e h b)
  one_analyse inputs _ _ (is_safe {design} {g} {cells} {bits} a safe are) (is_safe {design = e} {g = h} {cells = x} {bits = others} b sound be) =
      ap (λ (bs : List DeviceBit). printed status.Done (report.Safe (length bs)))
      (one_list_of_bits h bits others (subst (λ (z : Found). AreMuxBits z.graph bits) (one_found inputs design e g h cells x a b) are) be)
  one_analyse inputs _ _ (is_safe {design} {g} {cells} {bits} a safe are) (is_unsafe {design = e} {g = h} {cells = x} {bad} b be n) =
      absurd (not_safe (configured_as e h x) bad be n (subst (λ (z : Found). IsSafe (as_configured z)) (one_found inputs design e g h cells x a b) safe))
  one_analyse inputs _ _ (is_unsafe {design = e} {g = h} {cells = x} {bad} b be n) (is_safe {design} {g} {cells} {bits} a safe are) =
      absurd (not_safe (configured_as e h x) bad be n (subst (λ (z : Found). IsSafe (as_configured z)) (one_found inputs design e g h cells x a b) safe))
  one_analyse inputs _ _ (is_unsafe {design} {g} {cells} {bad} a are m) (is_unsafe {design = e} {g = h} {cells = x} {bad = others} b be n) =
      ap (λ (bs : List report.BadPlace). printed status.Unsafe (report.Unsafe bs))
      (one_list_of_bad (configured_as e h x) bad others (subst (λ (z : Found). AreBadPlaces (as_configured z) bad) (one_found inputs design e g h cells x a b) are) be)

  module _ (inputs : Inputs) (w : Hardening) where
    -- two answers for the inputs are one
    one_of_answers : (d e : Design) (g h : Graph) (c x : Cells) → IsAccepted files inputs d g c → IsAccepted files inputs e h x → (p q : Answer) → IsAnswer (job_of d g c w) p → IsAnswer (job_of e h x w) q → p ≡ q
    one_of_answers d e g h c x a b p q u v = one_answer (job_of e h x w) b.graph p q (subst (λ (z : Found). IsAnswer (job w z) p) (one_found inputs d e g h c x a b) u) v

    stands_ends : (log : List Event) (e : Ending) → Standing ≡ Ended log e → ⊥
    stands_ends log e h = (let wrong : ⊥ = cc in wrong)

    ends_differ : (log others : List Event) (y : Layout) (n : ℕ) (e : End) (net pin : ℕ) (cut : Cut) → Ended log (Routed y n) ≡ Ended others (NoRoute e net pin cut) → ⊥
    ends_differ log others y n e net pin cut h = (let wrong : ⊥ = cc in wrong)

    one_standing : (d e : Design) (g h : Graph) (c x : Cells) (s t : State) (bad others : List report.BadPlace) → IsAccepted files inputs d g c → IsAccepted files inputs e h x
        → IsFirstState (job_of d g c w) s → IsFirstState (job_of e h x w) t → AreBadPlaces (configured s.layout) bad → AreBadPlaces (configured t.layout) others → bad ≡ others
    one_standing d e g h c x s t bad others a b p q are be = one_list_of_bad (configured t.layout) bad others
        (subst (λ (z : State). AreBadPlaces (configured z.layout) bad) (one_start (job_of e h x w) s t (subst (λ (z : Found). IsFirstState (job w z) s) (one_found inputs d e g h c x a b) p) q) are) be

    one_hardened : (g h : Graph) (log others : List Event) (y z : Layout) (m n : ℕ) → g ≡ h → Ended log (Routed y m) ≡ Ended others (Routed z n) → hardened g w log y m ≡ hardened h w others z n
    one_hardened g h log others y z m n graphs same =
        let logs : log ≡ others = cc in
        let layouts : y ≡ z = cc in
        let counts : m ≡ n = cc in
        λ i. hardened (graphs i) w (logs i) (layouts i) (counts i)

    one_unrouted : (g h : Graph) (log others : List Event) (e f : End) (net other pin pins : ℕ) (cut cuts : Cut) → g ≡ h → Ended log (NoRoute e net pin cut) ≡ Ended others (NoRoute f other pins cuts)
        → not_routed g w log e net pin cut ≡ not_routed h w others f other pins cuts
    one_unrouted g h log others e f net other pin pins cut cuts graphs same =
        let logs : log ≡ others = cc in
        let ends : e ≡ f = cc in
        let nets : net ≡ other = cc in
        let at : pin ≡ pins = cc in
        let all : cut ≡ cuts = cc in
        λ i. not_routed (graphs i) w (logs i) (ends i) (nets i) (at i) (all i)

    graphs_of : (d e : Design) (g h : Graph) (c x : Cells) → IsAccepted files inputs d g c → IsAccepted files inputs e h x → g ≡ h
    graphs_of d e g h c x a b = ap (λ (z : Found). z.graph) (one_found inputs d e g h c x a b)

    one_harden : (o p : Outcome) → IsOutcome files (Harden inputs w) o → IsOutcome files (Harden inputs w) p → o ≡ p
    one_harden _ _ (refuses {inputs = a} {r} e h) (refuses {inputs = b} {r = s} f k) = agree a b r s (some_same (sym e ∙ f)) h k
    one_harden _ _ (refuses {inputs = a} {r} e h) (stands {design} {g} {cells} b u v are) = absurd (clash inputs a r design g cells e h b)
    one_harden _ _ (refuses {inputs = a} {r} e h) (hardens {design} {g} {cells} b u) = absurd (clash inputs a r design g cells e h b)
    one_harden _ _ (refuses {inputs = a} {r} e h) (finds_no_route {design} {g} {cells} b u) = absurd (clash inputs a r design g cells e h b)
    one_harden _ _ (stands {design} {g} {cells} b u v are) (refuses {inputs = a} {r} e h) = absurd (clash inputs a r design g cells e h b)
    one_harden _ _ (hardens {design} {g} {cells} b u) (refuses {inputs = a} {r} e h) = absurd (clash inputs a r design g cells e h b)
    one_harden _ _ (finds_no_route {design} {g} {cells} b u) (refuses {inputs = a} {r} e h) = absurd (clash inputs a r design g cells e h b)
    one_harden _ _ (stands {design} {g} {cells} {state} {bad} a u p are) (stands {design = e} {g = h} {cells = x} {state = t} {bad = others} b v q be) =
        ap (λ (bs : List report.BadPlace). printed status.Unsafe (report.Standing bs)) (one_standing design e g h cells x state t bad others a b p q are be)
    one_harden _ _ (stands {design} {g} {cells} a u p are) (hardens {design = e} {g = h} {cells = x} {log} {y} {connections} b v) =
        absurd (stands_ends log (Routed y connections) (one_of_answers design e g h cells x a b Standing (Ended log (Routed y connections)) u v))
    one_harden _ _ (stands {design} {g} {cells} a u p are) (finds_no_route {design = e} {g = h} {cells = x} {log} {end} {net} {pin} {cut} b v) =
        absurd (stands_ends log (NoRoute end net pin cut) (one_of_answers design e g h cells x a b Standing (Ended log (NoRoute end net pin cut)) u v))
    one_harden _ _ (hardens {design = e} {g = h} {cells = x} {log} {y} {connections} b v) (stands {design} {g} {cells} a u p are) =
        absurd (stands_ends log (Routed y connections) (one_of_answers design e g h cells x a b Standing (Ended log (Routed y connections)) u v))
    one_harden _ _ (finds_no_route {design = e} {g = h} {cells = x} {log} {end} {net} {pin} {cut} b v) (stands {design} {g} {cells} a u p are) =
        absurd (stands_ends log (NoRoute end net pin cut) (one_of_answers design e g h cells x a b Standing (Ended log (NoRoute end net pin cut)) u v))
    one_harden _ _ (hardens {design} {g} {cells} {log} {y} {connections} a u) (hardens {design = e} {g = h} {cells = x} {log = others} {y = z} {connections = n} b v) =
        one_hardened g h log others y z connections n (graphs_of design e g h cells x a b) (one_of_answers design e g h cells x a b (Ended log (Routed y connections)) (Ended others (Routed z n)) u v)
    one_harden _ _ (hardens {design} {g} {cells} {log} {y} {connections} a u) (finds_no_route {design = e} {g = h} {cells = x} {log = others} {end} {net} {pin} {cut} b v) =
        absurd (ends_differ log others y connections end net pin cut (one_of_answers design e g h cells x a b (Ended log (Routed y connections)) (Ended others (NoRoute end net pin cut)) u v))
    one_harden _ _ (finds_no_route {design = e} {g = h} {cells = x} {log = others} {end} {net} {pin} {cut} b v) (hardens {design} {g} {cells} {log} {y} {connections} a u) =
        absurd (ends_differ log others y connections end net pin cut (one_of_answers design e g h cells x a b (Ended log (Routed y connections)) (Ended others (NoRoute end net pin cut)) u v))
    one_harden _ _ (finds_no_route {design} {g} {cells} {log} {end} {net} {pin} {cut} a u) (finds_no_route {design = e} {g = h} {cells = x} {log = others} {end = f} {net = other} {pin = pins} {cut = cuts} b v) =
        one_unrouted g h log others end f net other pin pins cut cuts (graphs_of design e g h cells x a b)
        (one_of_answers design e g h cells x a b (Ended log (NoRoute end net pin cut)) (Ended others (NoRoute f other pins cuts)) u v)

  one_run : (n : ℕ) (o p : Outcome) → IsOutcome files (Run n) o → o ≡ p
  one_run n _ p (refuses e h) = absurd (let wrong : ⊥ = cc in wrong)

  one_drivers : (name : List ℕ) (bits : List DeviceBit) (o p : Outcome) → IsOutcome files (Drivers name bits) o → o ≡ p
  one_drivers name bits _ p (refuses e h) = absurd (let wrong : ⊥ = cc in wrong)

  pub one_of : (command : Command) (o p : Outcome) → IsOutcome files command o → IsOutcome files command p → o ≡ p
  one_of (Drivers name bits) o p h k = one_drivers name bits o p h
  one_of (Check inputs) o p h k = one_check inputs o p h k
  one_of (Analyse inputs) o p h k = one_analyse inputs o p h k
  one_of (Harden inputs w) o p h k = one_harden inputs w o p h k
  one_of (Run n) o p h k = one_run n o p h
