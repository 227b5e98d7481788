use Rattle.std.proofs.Common.{subst, arith}
use Rattle.words.specs.Members.{In}
use Rattle.paths.specs.Wiring.{roads_of}
use Rattle.path_laws.proofs.Leading.{path_taken}
use Rattle.net_links.specs.Nets.{rules_of as rules_over}
use Rattle.net_search.specs.declared.search.PathAnswer.{PathAnswer}
use Rattle.net_search.specs.Answers.{Answers}
use Rattle.search_bench.specs.Nets.{network_of, rules_of}
use Rattle.search_bench.proofs.Connected.{connected}
use Rattle.search_bench.proofs.runs.path_to.Goals as goal

pub least_path-requires-clause-connection : goal.least_path-requires-clause-connection
least_path-requires-clause-connection c =
    let net = c.args.net.now in
    connected net.arcs.wires net.arcs.distances net.arcs.outs.items net.arcs.ins.items net.arcs.is_grid net.tree.places.items net.tree.wires.items c.from_u32.result net.tree.is_tree net.same
    (let e = c.from_u32.ensures in let h = c.requires.pin in omega arith)

pub returns-in-Found-clause-arcs : goal.returns-in-Found-clause-arcs
returns-in-Found-clause-arcs c = λ a i.
    let net = c.args.net.now in
    let found = subst (λ (x : PathAnswer). Answers (network_of net) (rules_of net) c.from_u32.result x) c.in-Found.is c.in_ok-arcs.ensures.answer in
    (path_taken (roads_of (network_of net).wiring (rules_over (network_of net) (rules_of net))) (In net.tree.wires.items) c.in-Found.arcs.items c.from_u32.result found.0.is_path a i).0
