use Rattle.std.proofs.Common.{◌≡◌, ◌↔◌, ℕ, List, ap, subst, sym, ◌∙◌}
use Rattle.words.specs.Members.{In}
use Rattle.patterns.specs.Bits.{Bits, bits_of_list}
use Rattle.links.specs.Links.{IsClean}
use Rattle.fabric.specs.Graph.{Graph}
use Rattle.fabric.specs.Links.{routing_of}
use Rattle.circuit.specs.Cells.{Cells, PadCell, SliceCell}
use Rattle.upset.specs.Roots.{IsRoot}
use Rattle.flip_domains.specs.Sets.{Gains}
use Rattle.flip_domains.proofs.Flipping.{PadHas, SliceHas, domains_are}
use Rattle.flip_domains.proofs.Gaining.{OneOf}
use Rattle.flip_domains.proofs.flips.domains_of_flips.Goals as goal

pub returns : goal.returns
returns g c = λ k of_graph of_image of_cells labels apart.
    let flips = bits_of_list c.args.flips.now in
    let wires = c.deref.result.now in
    let clean : IsClean (routing_of k.graph k.image) =
    subst (λ (gr : Graph). IsClean (routing_of gr k.image)) (sym of_graph) (subst (λ (i : Bits). IsClean (routing_of c.args.live.now.graph i)) (sym of_image) c.feeds.ensures.clean) in
    let roots : (w : ℕ) → In wires w ↔ IsRoot k flips w =
    subst (λ (xs : List ℕ). (w : ℕ) → In xs w ↔ IsRoot k flips w) (sym c.deref.ensures.value) (c.in_ok-wires.ensures k of_graph of_image).members in
    let cells : c.args.cells.now ≡ k.cells = sym of_cells in
    let slices : c.as_slice.result.now ≡ k.cells.slices = c.as_slice.ensures ∙ ap (λ (cs : Cells). cs.slices) (c.cells.view_is ∙ cells) in
    let pads : c.as_slice-2.result.now ≡ k.cells.pads = c.as_slice-2.ensures ∙ ap (λ (cs : Cells). cs.pads) (c.cells.view_is ∙ cells) in
    domains_are k flips c.args.labels.now wires c.none-domains.result c.add_wires.new.domains c.add_slices.new.domains c.add_pads.new.domains clean labels apart roots c.none-domains.ensures c.add_wires.ensures
    (subst (λ (xs : List SliceCell). Gains c.add_wires.new.domains c.add_slices.new.domains (OneOf (SliceHas flips) xs)) slices c.add_slices.ensures)
    (subst (λ (xs : List PadCell). Gains c.add_slices.new.domains c.add_pads.new.domains (OneOf (PadHas flips) xs)) pads c.add_pads.ensures)
