-- The toggle, given to a router as a design of which only what bad bits reach is ripped.
use Rattle.records.specs.Ripping.{RipUnsafe}
use Rattle.fabric.specs.Graph.{Graph}
use Rattle.repair.specs.Layouts.{Layout}
use Rattle.fabric_laws.specs.PlainGraph.{graph_of}
use Rattle.attempts.specs.Jobs.{Job}
use Rattle.mini.specs.MiniA.{mini_a}
use Rattle.mini.specs.Toggle.{toggle, toggle_side}
use Rattle.mini.specs.ToggleCells.{toggle_cells}

abbrev pub toggle_layout : Graph → Layout
toggle_layout g = record { graph = g; config = toggle; cells = toggle_cells g; side = toggle_side }

abbrev pub toggle_job : Job
toggle_job = record { device = mini_a; design = toggle_layout (graph_of mini_a); rounds = 32; rip = RipUnsafe }
