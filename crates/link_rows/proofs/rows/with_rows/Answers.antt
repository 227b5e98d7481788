use Rattle.link_rows.proofs.Ends.{ends_of}
use Rattle.link_rows.proofs.rows.with_rows.Goals as goal

pub invariant_of-result : goal.invariant_of-result
invariant_of-result c =
    (ends_of c.args.wires c.args.links.items c.deref.result.now c.deref-2.result.now c.in_ok-sources.sources c.in_ok-sinks.sinks c.deref.ensures.value c.deref-2.ensures.value c.in_ok-sources.ensures c.in_ok-sinks.ensures).1

pub returns : goal.returns
returns c =
    let count = (ends_of c.args.wires c.args.links.items c.deref.result.now c.deref-2.result.now c.in_ok-sources.sources c.in_ok-sinks.sinks c.deref.ensures.value c.deref-2.ensures.value c.in_ok-sources.ensures c.in_ok-sinks.ensures).0 in
    λ i. record { wires = count i; links = c.args.links.items }
