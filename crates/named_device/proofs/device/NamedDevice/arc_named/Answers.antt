use Rattle.std.proofs.Common.{subst}
use Rattle.fabric.specs.InOrder.{InOrderOnce}
use Rattle.fabric.specs.Wires.{wire_cmp}
use Rattle.device_wires.specs.Named.{named_wires}
use Rattle.device_numbers.specs.Numbered.{Numbered}
use Rattle.named_device.proofs.ArcNames.{arc_found, no_arc}
use Rattle.named_device.proofs.device.NamedDevice.arc_named.Goals as goal

pub returns-in-Some : goal.returns-in-Some
returns-in-Some c = λ g standing.
    let named = subst (λ (n : Numbered). InOrderOnce wire_cmp (named_wires n.device) n.wires) c.self.view_is c.wires.ensures.named in
    arc_found c.args.self.now named g c.args.muxes.now c.args.arcs.now standing c.args.m c.args.source.now c.in-Some.key c.number_of.result c.in-Some.ensures c.number_of.ensures

pub returns-in-None : goal.returns-in-None
returns-in-None c = λ g standing.
    let named = subst (λ (n : Numbered). InOrderOnce wire_cmp (named_wires n.device) n.wires) c.self.view_is c.wires.ensures.named in
    no_arc c.args.self.now named g c.args.muxes.now c.args.arcs.now standing c.args.m c.args.source.now c.in-None.ensures
