use Rattle.std.proofs.Common.{length, map, ap, ◌∙◌}
use Rattle.circuit.specs.Parts.{sources}
use Rattle.net_order.specs.declared.feeding.TableLink.{TableLink}
use Rattle.net_order.proofs.Few.{sources_within, tables_within}
use Rattle.net_order.proofs.Ordered.{answer_linked, ok_linked}
use Rattle.net_order.proofs.in_order.nodes_in_order.Goals as goal

pub order-requires-clause-sources : goal.order-requires-clause-sources
order-requires-clause-sources c =
    sources_within c.args.parts.now c.args.feeds.now c.in_ok-links.links.items c.deref-3.result.now (length c.sources.result.now) c.requires.known c.in_ok-links.ensures.links
    (c.deref-3.ensures.value ∙ (c.in_ok-sources.ensures ∙ ap (map (λ (l : TableLink). l.source)) c.deref.ensures.value)) (ap (λ xs. length xs) c.sources.ensures.all)

pub order-requires-clause-sinks : goal.order-requires-clause-sinks
order-requires-clause-sinks c =
    tables_within c.args.parts.now c.args.feeds.now c.in_ok-links.links.items c.deref-4.result.now (length c.sources.result.now) c.in_ok-links.ensures.links
    (c.deref-4.ensures.value ∙ (c.in_ok-tables.ensures ∙ ap (map (λ (l : TableLink). l.table)) c.deref-2.ensures.value)) (ap (λ xs. length xs) c.sources.ensures.all)

pub returns-clause-order : goal.returns-clause-order
returns-clause-order c =
    ok_linked c.args.parts.now c.args.feeds.now c.in_ok-links.links.items c.in_ok-links.ensures.links c.deref-3.result.now c.deref-4.result.now
    (c.deref-3.ensures.value ∙ (c.in_ok-sources.ensures ∙ ap (map (λ (l : TableLink). l.source)) c.deref.ensures.value))
    (c.deref-4.ensures.value ∙ (c.in_ok-tables.ensures ∙ ap (map (λ (l : TableLink). l.table)) c.deref-2.ensures.value))
    c.order.result (λ v. v.items) (length c.sources.result.now) (length (sources c.args.parts.now)) (ap (λ xs. length xs) c.sources.ensures.all) c.order.ensures.order

pub returns-clause-answer : goal.returns-clause-answer
returns-clause-answer c =
    answer_linked c.args.parts.now c.args.feeds.now c.in_ok-links.links.items c.in_ok-links.ensures.links c.deref-3.result.now c.deref-4.result.now
    (c.deref-3.ensures.value ∙ (c.in_ok-sources.ensures ∙ ap (map (λ (l : TableLink). l.source)) c.deref.ensures.value))
    (c.deref-4.ensures.value ∙ (c.in_ok-tables.ensures ∙ ap (map (λ (l : TableLink). l.table)) c.deref-2.ensures.value))
    c.order.result c.order.ensures.answer
