-- What is written where the corridor gets one attempt alone, of which the eighth connection is blocked. (Our own.)
use Rattle.std.specs.Prelude.{ℕ, List, [], ◌∷◌, codes}
use Rattle.records.specs.Ripping.{RipAll}
use Rattle.fabric.specs.Graph.{Graph}
use Rattle.attempts.specs.Wires.{net_wire, pin_wire}
use Rattle.attempts.specs.Attempts.{EndRounds, blocked_event}
use Rattle.commands.specs.Commands.{Hardening}
use Rattle.design_answers.specs.Outcomes.{Outcome, not_routed}
use Rattle.route_examples.specs.Corridors.{cut, eighth}
use Rattle.route_examples.specs.Starting.{corridor_start}

abbrev pub one_attempt : Hardening
one_attempt = record { rounds = 1; rip = RipAll; out = codes "o"; side_out = codes "n"; cut_out = codes "cut" }

-- by the log and the cut with which its one attempt ends
abbrev pub corridor_outcome : Graph → Outcome
corridor_outcome g =
    not_routed g one_attempt (blocked_event (corridor_start g) eighth ∷ []) EndRounds
    (net_wire (corridor_start g).layout.cells eighth) (pin_wire (corridor_start g).layout.cells eighth) (cut g)

-- the file of the cut
abbrev pub cut_text : List ℕ
cut_text = codes
    "net R1C2/F\npin R0C4/PO\ninside R0C2/PO\ninside R1C1/V\ninside R1C2/F\ninside R1C2/V\ninside R1C3/V\ninside R1C4/D\ninside R1C4/V\ninside R1C5/D\ninside R1C5/V\nrim R1C1/D\nrim R1C2/D\nrim R1C2/U\nrim R1C3/D\nrim R1C6/V\n"
