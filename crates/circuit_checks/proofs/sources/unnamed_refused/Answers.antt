use Rattle.std.proofs.Common.{sym}
use Rattle.std.specs.Prelude.{slice_get}
use Rattle.circuit.specs.Pins.{Pin, pins}
use Rattle.report_text.specs.Names.{pin_view, wire_view}
use Rattle.circuit_checks.proofs.Named.{named}
use Rattle.circuit_checks.proofs.Feeding.{feed_refuses}
use Rattle.circuit_checks.proofs.sources.unnamed_refused.Goals as goal

pub returns-in-Some-wire_name : goal.returns-in-Some-wire_name
returns-in-Some-wire_name g c = λ circuit same within is.
    feed_refuses (g.G.NamedGraph.graph c.args.graph.now) circuit c.args.feed c.args.parts.now same is (pin_view c.in-Some.pin)
    (λ p at. named pin_view (λ (x : Pin). x.ref) c.in-Some.pin (slice_get (pins c.args.parts.now) c.args.feed.pin) c.in-Some.ensures p at)
    (wire_view c.in-Some-wire_name.wire) (sym c.in-Some-wire_name.ensures) c.refuse.result c.refuse.ensures
