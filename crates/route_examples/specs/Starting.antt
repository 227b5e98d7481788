-- Where repair of the corridor starts.
use Rattle.std.specs.Prelude.{ℕ, List, [], ◌∷◌, ◌++◌, codes}
use Rattle.records.specs.Ripping.{RipAll}
use Rattle.fabric.specs.Graph.{Graph}
use Rattle.circuit.specs.Cells.{Cells}
use Rattle.circuit.specs.Circuits.{Connection}
use Rattle.attempts.specs.Jobs.{Job, State}
use Rattle.attempts.specs.Wires.{net_wire, pin_wire}
use Rattle.mini.specs.Spoken.{text_of}
use Rattle.mini_b.specs.MiniB.{mini_b}
use Rattle.mini_b.specs.Corridor.{corridor, corridor_side}
use Rattle.route_examples.specs.Corridors.{with_corridor, bare, fifteen}

-- the corridor, to be ripped whole, with so many attempts at most
abbrev pub corridor_job : Graph → ℕ → Job
corridor_job g rounds = record { device = mini_b; design = with_corridor g corridor; rounds = rounds; rip = RipAll }

-- the text without arc lines, and the fifteen connections
abbrev pub corridor_start : Graph → State
corridor_start g = record { layout = bare g; order = fifteen; rims = []; moved = []; sides = corridor_side ∷ [] }

-- a connection as a text: the wire of its net, then that of its pin
abbrev pub connection_text : Graph → Cells → Connection → List ℕ
connection_text g cells x = text_of g (net_wire cells x) ++ codes " " ++ text_of g (pin_wire cells x)

abbrev pub fifteen_texts : List (List ℕ)
fifteen_texts =
    codes "R0C1/PI R1C1/D"
    ∷ codes "R0C2/PI R1C2/D"
    ∷ codes "R0C6/PI R1C6/D"
    ∷ codes "R0C7/PI R1C7/D"
    ∷ codes "R0C11/PI R1C11/D"
    ∷ codes "R0C12/PI R1C12/D"
    ∷ codes "R1C1/F R1C3/D"
    ∷ codes "R1C2/F R0C4/PO"
    ∷ codes "R1C3/F R0C3/PO"
    ∷ codes "R1C6/F R0C9/PO"
    ∷ codes "R1C7/F R1C8/D"
    ∷ codes "R1C8/F R0C8/PO"
    ∷ codes "R1C11/F R0C14/PO"
    ∷ codes "R1C12/F R1C13/D"
    ∷ codes "R1C13/F R0C13/PO"
    ∷ []
