use Rattle.std.proofs.Common.{ℕ, ◌<◌, List, sym, subst, ap₂, ◌∙◌}
use Rattle.std.specs.List.{All}
use Rattle.grouped.specs.Rows.{grouped}
use Rattle.link_order.proofs.Stable.{all_keys}
use Rattle.wire_links.proofs.Linked.{rows_are}
use Rattle.wire_links.proofs.rows.LinkRows.new.Goals as goal

pub new-requires-clause-known : goal.new-requires-clause-known
new-requires-clause-known c =
    subst (λ (keys : List ℕ). All (λ (key : ℕ). key < c.args.wires) keys) (sym (c.deref.ensures.value ∙ c.in_ok-sinks.ensures))
    (all_keys (λ l. l.sink) c.args.links.now c.args.wires (λ l i. (c.requires.within l i).1))

pub new-requires-2-clause-known : goal.new-requires-2-clause-known
new-requires-2-clause-known c =
    subst (λ (keys : List ℕ). All (λ (key : ℕ). key < c.args.wires) keys) (sym (c.deref-3.ensures.value ∙ c.in_ok-sources.ensures))
    (all_keys (λ l. l.source) c.args.links.now c.args.wires (λ l i. (c.requires.within l i).0))

pub returns : goal.returns
returns c =
    rows_are c.args.wires c.args.links.now c.in_ok-sources.sources.items c.in_ok-sinks.sinks.items c.in_ok-drivers.drivers c.in_ok-next.next c.requires.within c.requires.rising
    c.in_ok-sources.ensures c.in_ok-sinks.ensures
    (c.in_ok-drivers.ensures ∙ ap₂ (λ (a b : List ℕ). grouped (λ (n : ℕ). n) c.args.wires a b) c.deref.ensures.value c.deref-2.ensures.value)
    (c.in_ok-next.ensures ∙ ap₂ (λ (a b : List ℕ). grouped (λ (n : ℕ). n) c.args.wires a b) c.deref-3.ensures.value c.deref-4.ensures.value)
