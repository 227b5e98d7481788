use Rattle.std.proofs.Common.{ℕ, cond, codes, refl}
use Rattle.std.specs.Prelude.{nat_eq}
use Rattle.std.specs.List.{starts_with}
use Rattle.fabric.specs.Graph.{Graph}
use Rattle.fabric.specs.Image.{image_of}
use Rattle.fabric_laws.specs.PlainGraph.{graph_of}
use Rattle.fabric_laws.proofs.Graphs.{has_graph}
use Rattle.fabric_laws.proofs.Agreeing.{agreeing}
use Rattle.circuit.specs.Parts.{Kind, OfTable, PartRef, Table, Source}
use Rattle.circuit.specs.Triplicated.{NoTableLoop}
use Rattle.circuit_examples.proofs.Ranks.{loopless}
use Rattle.circuit_examples.proofs.Rules.{open_pins, clocks, own, masks}
use Rattle.mini_b.specs.MiniB.{mini_b}
use Rattle.mini_b.specs.Corridor.{corridor_side}
use Rattle.answers.specs.Refusals.{CopiesDiffer}
use Rattle.design_checks.specs.CopyChecks.{part_in, CopiesUnlike, unlike}
use Rattle.check_examples.specs.CorridorRefused.{on_corridor, turned, turned_cells}
use Rattle.check_examples.proofs.Copies.{c, ok, differ_in_w, least_w}
use Rattle.check_examples.proofs.Whole.{TextPasses, refused_in_circuit, refused_at_copies, named_pass, no_loop_passes}
use Rattle.check_examples.proofs.Devices.{corridor_graph}
use Rattle.check_examples.proofs.ReadCorridors.{turned_read}
use Rattle.check_examples.proofs.turned_copy_is_refused.Goals as goal

abbrev g : Graph
g = graph_of mini_b

-- pads come first, then tables that read pads, then the slices w, which read tables
abbrev rank_of : PartRef → Kind → ℕ
rank_of part (OfTable t) = cond (starts_with nat_eq part.cell (codes "w")) 2 1
rank_of part _ = 0

abbrev rank : Source → ℕ
rank s = rank_of s.part s.kind

free : NoTableLoop c
free = loopless c rank refl

abbrev w0 : PartRef
w0 = part_in (codes "w0") (Table 0)

copies_unlike : CopiesUnlike c (CopiesDiffer w0 (codes "0 010"))
copies_unlike = unlike w0 (codes "0 010") least_w differ_in_w

text_passes : TextPasses (on_corridor turned corridor_side) g
text_passes = record { lines = refl; agree = (agreeing mini_b g (has_graph mini_b) (image_of g turned) turned).0 refl; clean = ok.clean; no_cell = refl }

pub returns : goal.returns
returns x = record {
  refused = copies_unlike;
  first = refused_in_circuit (on_corridor turned corridor_side) g (corridor_graph turned corridor_side) (turned_cells g) text_passes turned_read (CopiesDiffer w0 (codes "0 010"))
      (refused_at_copies c g (named_pass c g refl) (no_loop_passes c free) (open_pins c (record { parts = refl; pads = refl })) (clocks c ok (record { parts = refl; pads = refl; clocked = refl }))
      (own c ok (record { parts = refl; pads = refl })) (masks c ok (record { zero = refl; one = refl; two = refl })) (CopiesDiffer w0 (codes "0 010")) copies_unlike);
}
