use Rattle.std.proofs.Common.{List, subst}
use Rattle.std.specs.Prelude.{◌≡◌, IfOk}
use Rattle.links.specs.Links.{Link}
use Rattle.fabric.specs.GraphOf.{link_cmp}
use Rattle.fabric.specs.InOrder.{InOrderOnce}
use Rattle.route_graph.proofs.Built.{counted, links_within_rows}
use Rattle.route_graph.proofs.made.links_in_rows.Goals as goal

pub new-requires : goal.new-requires
new-requires c = record { within = links_within_rows c.args.numbers.now.device c.args.numbers.now.wires c.len.result c.args.links.now (counted c.args.numbers.now.wires c.wires.result.now c.len.result c.wires.ensures.wires c.len.ensures.len) c.requires }

pub returns-clause-links : goal.returns-clause-links
returns-clause-links c = subst (λ (ls : List Link). IfOk c.new.result (λ rows. InOrderOnce link_cmp ls rows.links)) c.requires c.new.ensures.links

pub returns-clause-wires : goal.returns-clause-wires
returns-clause-wires c = subst (λ n. IfOk c.new.result (λ rows. rows.wires ≡ n)) (counted c.args.numbers.now.wires c.wires.result.now c.len.result c.wires.ensures.wires c.len.ensures.len) c.new.ensures.wires
