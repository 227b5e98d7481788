-- Three designs on this device, all of whose nets are ripped, and where their attempts go. The device's wires are, by number:
-- A and F of the first tile, A and F of the second, IN of both pads, OUT, and the wide G_I and G_J. (Our own.)
use Rattle.std.specs.Prelude.{ℕ, List, [], ◌∷◌, codes}
use Rattle.records.specs.Config.{Config}
use Rattle.records.specs.Profile.{SliceKind}
use Rattle.records.specs.Side.{D0, Side}
use Rattle.fabric.specs.Graph.{GraphArc}
use Rattle.circuit.specs.Parts.{Table, Pad, PartRef, OfInput, Source}
use Rattle.circuit.specs.Circuits.{Connection}
use Rattle.cells.specs.Sites.{Site}
use Rattle.repair.specs.Layouts.{Layout}
use Rattle.records.specs.Ripping.{RipAll}
use Rattle.attempts.specs.Jobs.{Job, State}
use Rattle.attempts.specs.Candidates.{Step}
use Rattle.attempts.specs.Turns.{Cut}
use Rattle.end_examples.specs.Joined.{device, from, line, text, word, config_with, placed, side_with, layout_at, first_tile, second_tile, first_kind, second_kind, o_tile}

abbrev pub job_of : Layout → Job
job_of design = record { device = device; design = design; rounds = 32; rip = RipAll }

abbrev pub starts_with : Layout → Connection → State
starts_with layout x = record { layout = layout; order = x ∷ []; rims = []; moved = []; sides = layout.side ∷ [] }

abbrev pub pad : List ℕ → PartRef
pad name = record { cell = name; part = Pad }

abbrev pub net : Source
net = record { part = pad (codes "i"); domain = D0; kind = OfInput; out = 4 }

abbrev pub to_slice : Connection
to_slice = record { source = pad (codes "i"); pin = record { part = record { cell = codes "a"; part = Table 0 }; pin = 0 } }

-- ---- the way to the pad is joined

abbrev pub pad_design : Layout
pad_design = layout_at (config_with (text o_tile.name (line (codes "OUT") (codes "G_I") ∷ []) [] ∷ [])) (side_with [])

abbrev pub pad_rest : Layout
pad_rest = layout_at (config_with (text o_tile.name [] [] ∷ [])) (side_with [])

abbrev pub to_pad : Connection
to_pad = record { source = pad (codes "i"); pin = record { part = pad (codes "o"); pin = 0 } }

-- inside are the pad's own wires and the pin of the second tile, and in the rim the two ways that one flip joins
abbrev pub pad_cut : Cut
pad_cut = record { inside = 2 ∷ 4 ∷ 7 ∷ []; rim = 0 ∷ 6 ∷ [] }

-- ---- the way to the slice is joined, and a slice stands at the other site

abbrev pub slice_config : Config
slice_config = config_with (text first_tile.name (line (codes "A") (codes "G_I") ∷ []) (word ∷ []) ∷ [])

abbrev pub rest_config : Config
rest_config = config_with (text first_tile.name [] (word ∷ []) ∷ [])

abbrev pub both_sites : Side
both_sites = side_with (placed (codes "a") first_tile.name ∷ placed (codes "b") second_tile.name ∷ [])

abbrev pub full_design : Layout
full_design = layout_at slice_config both_sites

abbrev pub full_rest : Layout
full_rest = layout_at rest_config both_sites

abbrev pub full_cut : Cut
full_cut = record { inside = 4 ∷ 7 ∷ []; rim = 0 ∷ 2 ∷ 6 ∷ [] }

-- ---- the other site is empty

abbrev pub one_site : Side
one_site = side_with (placed (codes "a") first_tile.name ∷ [])

abbrev pub slice_design : Layout
slice_design = layout_at slice_config one_site

abbrev pub slice_rest : Layout
slice_rest = layout_at rest_config one_site

abbrev pub old_site : Site SliceKind
old_site = record { number = 0; tile = first_tile; kind = first_kind }

abbrev pub new_site : Site SliceKind
new_site = record { number = 1; tile = second_tile; kind = second_kind }

-- the slice at the second site, and its way there
abbrev pub moved : Layout
moved = layout_at (config_with (text first_tile.name [] [] ∷ text second_tile.name [] (word ∷ []) ∷ [])) (side_with (placed (codes "a") second_tile.name ∷ []))

abbrev pub step : Step
step = record { move = record { slice = codes "a"; tile = second_tile.name; kind = codes "S" }; layout = moved; ripped = [] }

abbrev pub routed : Layout
routed = layout_at (config_with (text first_tile.name [] [] ∷ text second_tile.name (line (codes "A") (codes "G_I") ∷ []) (word ∷ []) ∷ [])) (side_with (placed (codes "a") second_tile.name ∷ []))

abbrev pub way : List GraphArc
way = record { mux = 1; place = 0; source = 7; sink = 2; origin = record { frame = 1; bit = 0 }; arc = from (codes "G_I") 0 } ∷ []
