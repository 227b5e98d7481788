-- Where repair of the crossed toggle starts, and its first two paths.
use Rattle.std.proofs.Common.{◌≡◌, true, [], ◌∷◌, codes, refl, sym, subst, inl, inr}
use Rattle.words.specs.Members.{In}
use Rattle.fabric.specs.Graph.{Graph}
use Rattle.fabric_laws.specs.PlainGraph.{graph_of}
use Rattle.fabric_laws.proofs.Graphs.{has_graph}
use Rattle.fabric_examples.proofs.Tests.{drives_once, clean_once}
use Rattle.records.specs.Config.{Config}
use Rattle.repair.specs.Layouts.{configured, turn_over}
use Rattle.repair.specs.Routes.{IsTheRoute, IsRoute}
use Rattle.repair.specs.Turns.{Turn, routing}
use Rattle.attempts.specs.Starts.{IsFirstState}
use Rattle.upset_laws.specs.PlainUpset.{OutputsListed}
use Rattle.mini.specs.MiniA.{mini_a}
use Rattle.mini.specs.Toggle.{crossed}
use Rattle.mini.specs.ToggleCells.{wire_at, toggle_cells}
use Rattle.route_laws.specs.PlainPaths.{first_paths, paths_within, weight_by}
use Rattle.route_laws.specs.PlainStarts.{rest_of, ripped_connections, is_order}
use Rattle.route_laws.proofs.Rules.{IsToldBy}
use Rattle.route_laws.proofs.Paths.{paths_law}
use Rattle.route_laws.proofs.Starts.{start_law}
use Rattle.route_examples.specs.Crossed.{with_cells, crossed_read, rest_of_crossed, eight, crossed_job, crossed_start, net_of_a0, up, over, after_up}
use Rattle.route_examples.proofs.Conditions.{outputs_listed, the_way}

abbrev pub g : Graph
g = graph_of mini_a

toggle_outputs : (config : Config) → OutputsListed (configured (with_cells g config))
toggle_outputs config = outputs_listed (configured (with_cells g config)) refl

pub told_by : (config : Config) → drives_once (routing (configured (with_cells g config))) ≡ true → IsToldBy mini_a (configured (with_cells g config))
told_by config h = record { graph = has_graph mini_a; clean = clean_once (routing (configured (with_cells g config))) h; outputs = toggle_outputs config }

told : IsToldBy mini_a (configured (crossed_job g).design)
told = told_by crossed refl

rest : rest_of (crossed_job g).rip mini_a crossed (configured (crossed_job g).design) ≡ rest_of_crossed
rest = refl

ordered : is_order (toggle_cells g) (ripped_connections (crossed_job g)) eight ≡ true
ordered = refl

pub started : IsFirstState (crossed_job g) (crossed_start g)
started = start_law (crossed_job g) told (crossed_start g) refl rest refl refl ordered refl refl refl

-- the first connection
abbrev turn : Turn
turn = turn_over (crossed_read g) (with_cells g rest_of_crossed) (net_of_a0 g)

told_bare : IsToldBy mini_a (configured (with_cells g rest_of_crossed))
told_bare = told_by rest_of_crossed refl

one_path : first_paths [] turn 1 (wire_at g 0 1 (codes "PO")) ≡ up g ∷ []
one_path = refl

light : weight_by [] turn (up g) ≡ 1
light = refl

pub first : IsTheRoute [] turn (up g) (wire_at g 0 1 (codes "PO"))
first = the_way mini_a turn told_bare [] 1 (wire_at g 0 1 (codes "PO")) (up g) light one_path

-- the second, over the first of two tracks
abbrev turn_up : Turn
turn_up = turn_over (crossed_read g) (after_up g) (net_of_a0 g)

told_up : IsToldBy mini_a (configured (after_up g))
told_up = told_by (after_up g).config refl

two_paths : paths_within turn_up 2 (wire_at g 1 1 (codes "B")) ≡ over g (codes "H1") ∷ over g (codes "H4") ∷ []
two_paths = refl

first_of_two : first_paths [] turn_up 2 (wire_at g 1 1 (codes "B")) ≡ over g (codes "H1") ∷ []
first_of_two = refl

pub light_up : weight_by [] turn_up (over g (codes "H1")) ≡ 2
light_up = refl

pub second : IsTheRoute [] turn_up (over g (codes "H1")) (wire_at g 1 1 (codes "B"))
second = the_way mini_a turn_up told_up [] 2 (wire_at g 1 1 (codes "B")) (over g (codes "H1")) light_up first_of_two

-- the other path as light as it, over the second track
pub other_track : IsRoute turn_up (over g (codes "H4")) (wire_at g 1 1 (codes "B"))
other_track = ((paths_law mini_a turn_up told_up 2 (wire_at g 1 1 (codes "B")) (over g (codes "H4"))).0
    (subst (λ ps. In ps (over g (codes "H4"))) (sym two_paths) (inr (inl refl)))).0

pub as_light : weight_by [] turn_up (over g (codes "H4")) ≡ 2
as_light = refl
