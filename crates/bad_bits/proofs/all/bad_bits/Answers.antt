use Rattle.std.proofs.Common.{◌≡◌, ◌+◌, take, sym, ap, subst, ◌∙◌, arith}
use Rattle.fabric.specs.Graph.{Graph}
use Rattle.fabric.specs.GraphOf.{IsGraph}
use Rattle.graph_lists.specs.BitLists.{AreMuxBits}
use Rattle.bad_bits.specs.Found.{BadOrNone}
use Rattle.bad_bits.specs.Listed.{AreFound}
use Rattle.bad_bits.proofs.Listing.{add_more, all_found, skip_more}
use Rattle.bad_bits.proofs.Laws.{places_are}
use Rattle.bad_bits.proofs.all.bad_bits.Goals as goal
use Rattle.bad_bits.proofs.all.bad_bits.Goals.{in-Some+in_ok-push, in_default}

-- one bit more
pub loop-bit-preserved : goal.loop-bit-preserved
loop-bit-preserved g c = λ k of_graph of_image of_cells labels apart.
    let bits = c.bits-bit-items.result.now in
    let i = c.loop-bit.bit-index in
    let bit = c.bit-item.result in
    let old = c.loop-bit.bad.items in
    let so_far = c.loop-bit.invariant k of_graph of_image of_cells labels apart in
    let found = c.in_ok-found.ensures k of_graph of_image of_cells labels apart in
    elim c.match-branch-2.branch [
      | in-Some+in_ok-push w ↦ add_more k bits i bit old c.match-branch-2.bad.items w.in-Some.found c.loop-bit-test.true c.bit-item.is c.bits-bit-items.ensures.rising
          (ap (λ v. v.items) w.bad-is ∙ w.in_ok-push.ensures.items) (subst (BadOrNone k bit) w.in-Some.is found) so_far
      | in_default w ↦ subst (λ xs. AreFound k (take (i + 1) bits) xs) (sym (ap (λ v. v.items) w.bad-is))
          (skip_more k bits i bit old c.loop-bit-test.true c.bit-item.is (subst (BadOrNone k bit) w.in_default.is found) so_far)
    ]

pub returns : goal.returns
returns g c = λ k of_graph of_image of_cells labels apart.
    let bits = c.bits-bit-items.result.now in
    let device = g.G.RoutingGraph.device c.graph-graph.result.now in
    let same : g.G.NamedGraph.graph c.graph-graph.result.now ≡ k.graph = c.graph-graph.ensures ∙ sym of_graph in
    let is : IsGraph device k.graph = subst (IsGraph device) same c.is_of_device.ensures in
    let mux : AreMuxBits k.graph bits = subst (λ (gr : Graph). AreMuxBits gr bits) same c.bits-bit-items.ensures in
    places_are device k is bits c.loop-bit.bad.items mux
    (all_found k bits c.loop-bit.bit-index c.loop-bit.bad.items (omega arith) (c.loop-bit.invariant k of_graph of_image of_cells labels apart))
