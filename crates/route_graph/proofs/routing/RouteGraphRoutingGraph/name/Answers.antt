use Rattle.std.proofs.Common.{◌≡◌, ◌∙◌, List, Option, option_map, subst, sym, ap}
use Rattle.std.specs.Prelude.{slice_get}
use Rattle.fabric.specs.WireNames.{Named}
use Rattle.fabric.specs.Wires.{Wire}
use Rattle.device_numbers.specs.Numbered.{Numbered}
use Rattle.wire_names.specs.LentNames.{wire_name}
use Rattle.wire_names.specs.declared.wire.WireName.{WireName}
use Rattle.route_graph.proofs.Asked.{wires_are}
use Rattle.route_graph.proofs.Named.{is_there}
use Rattle.route_graph.proofs.routing.RouteGraphRoutingGraph.name.Goals as goal

pub unwrap-requires : goal.unwrap-requires
unwrap-requires c =
    let same = c.wires-wires.ensures.wires ∙ (ap (λ (n : Numbered). n.wires) c.numbers.ensures ∙ wires_are c.self.inside c.self.invariant c.args.self.now c.self.view_is) in
    let h = subst (λ (ws : List Wire). option_map wire_name c.name.result ≡ option_map Named (slice_get ws c.args.w)) same c.name.ensures in
    is_there c.args.self.now.numbers.wires c.args.w c.requires c.name.result h

pub returns : goal.returns
returns c =
    let same = c.wires-wires.ensures.wires ∙ (ap (λ (n : Numbered). n.wires) c.numbers.ensures ∙ wires_are c.self.inside c.self.invariant c.args.self.now c.self.view_is) in
    let h = subst (λ (ws : List Wire). option_map wire_name c.name.result ≡ option_map Named (slice_get ws c.args.w)) same c.name.ensures in
    sym h ∙ ap (λ (o : Option WireName). option_map wire_name o) c.unwrap.ensures
