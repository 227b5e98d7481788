use Rattle.std.proofs.Common.{◌≡◌, ℕ, ◌<◌, List, Err, length, sym, subst, ◌∙◌, rules}
use Rattle.std.specs.Prelude.{MatchOption, MatchResult}
use Rattle.words.specs.Members.{In}
use Rattle.links.specs.Links.{IsClean, Link}
use Rattle.fabric.specs.Agree.{ArcsAgree}
use Rattle.fabric.specs.Links.{is_chosen, links_of, routing_of}
use Rattle.cram_image.specs.Image.{bits}
use Rattle.link_order.specs.Order.{AreWithin}
use Rattle.wire_links.specs.Refused.{as_routing}
use Rattle.arc_lines.specs.Differing.{IsRefusedMux}
use Rattle.live_routing.specs.Refused.{Contests, Refuses}
use Rattle.live_routing.proofs.Refusing.{refuses}
use Rattle.live_routing.proofs.Standing.{links_within, outputs_within}
use Rattle.live_routing.proofs.live.Live.new.Goals as goal

pub join-requires-clause-within : goal.join-requires-clause-within
join-requires-clause-within g c =
    subst (λ (n : ℕ). AreWithin n c.deref-3.result.now) (sym c.wires.ensures)
    (subst (λ (ls : List Link). AreWithin (length (g.G.NamedGraph.graph c.args.graph.now).wires) ls) (sym (c.deref-3.ensures.value ∙ c.in_ok-links.ensures (is_chosen (g.G.NamedGraph.graph c.args.graph.now) (bits c.args.image)) (c.deref-2.ensures.value ∙ c.in_ok-chosen.ensures)))
    (links_within (g.G.RoutingGraph.device c.args.graph.now) (g.G.NamedGraph.graph c.args.graph.now) c.is_of_device.ensures (bits c.args.image)))

pub join-requires-clause-outputs : goal.join-requires-clause-outputs
join-requires-clause-outputs g c = λ x i.
    subst (λ (n : ℕ). x < n) (sym c.wires.ensures) (outputs_within (g.G.RoutingGraph.device c.args.graph.now) (g.G.NamedGraph.graph c.args.graph.now) c.is_of_device.ensures x (subst (λ (os : List ℕ). In os x) c.outputs.ensures i))

pub returns-in_err-links-2-clause-answer : goal.returns-in_err-links-2-clause-answer
returns-in_err-links-2-clause-answer g c =
    let is : c.from_residual-in_err-links-2.result ≡ Err c.in_err-links-2.field-0.0 = search rules in
    subst (λ r. MatchResult r (λ _. ArcsAgree (g.G.NamedGraph.graph c.args.graph.now) (bits c.args.image) c.args.config.now × IsClean (routing_of (g.G.NamedGraph.graph c.args.graph.now) (bits c.args.image))) (Refuses (g.G.NamedGraph.graph c.args.graph.now) (bits c.args.image) c.args.config.now)) (sym is)
    (refuses (g.G.RoutingGraph.device c.args.graph.now) (g.G.NamedGraph.graph c.args.graph.now) c.is_of_device.ensures (bits c.args.image) c.args.config.now c.in_err-links-2.field-0.0
    (subst (λ o. MatchOption o (ArcsAgree (g.G.NamedGraph.graph c.args.graph.now) (bits c.args.image) c.args.config.now) (IsRefusedMux (g.G.NamedGraph.graph c.args.graph.now) (bits c.args.image) c.args.config.now)) c.in_default.is
    (c.in_ok-m.ensures (bits c.args.image) (c.deref.ensures.value ∙ c.in_ok-chosen.ensures)))
    (subst (λ (os : List ℕ). Contests (as_routing (links_of (g.G.NamedGraph.graph c.args.graph.now) (bits c.args.image)) os) c.in_err-links-2.field-0.0) c.outputs.ensures
    (subst (λ (ls : List Link). Contests (as_routing ls c.outputs.result.now) c.in_err-links-2.field-0.0) (c.deref-3.ensures.value ∙ c.in_ok-links.ensures (is_chosen (g.G.NamedGraph.graph c.args.graph.now) (bits c.args.image)) (c.deref-2.ensures.value ∙ c.in_ok-chosen.ensures)) c.in_err-links-2.ensures.answer)))
