use Rattle.std.proofs.Common.{◌<◌, Some, length, sym, ap, ◌∙◌, arith}
use Rattle.chosen_links.specs.Fitting.{fits_in}
use Rattle.chosen_links.proofs.Gathering.{image_at}
use Rattle.chosen_links.proofs.Longest.{told_else, told_then}
use Rattle.chosen_links.proofs.Standing.{mux_below}
use Rattle.chosen_links.proofs.chosen.is_chosen.Goals as goal

pub bounds-most-to_u32 : goal.bounds-most-to_u32
bounds-most-to_u32 g c =
    let below = mux_below (g.G.RoutingGraph.device c.args.graph.now) (g.G.NamedGraph.graph c.args.graph.now) c.is_of_device.ensures c.args.a _ (c.arc.ensures ∙ ap (λ n. Some n) (sym c.to_u32.view_is)) in
    let at = c.to_u32-2.ensures in
    let long = c.requires.most in omega arith

pub returns-then-longest-pattern : goal.returns-then-longest-pattern
returns-then-longest-pattern g c = λ image fitting are.
    told_then (g.G.RoutingGraph.device c.args.graph.now) (g.G.NamedGraph.graph c.args.graph.now) c.is_of_device.ensures image c.args.most.now are c.args.fitting.now c.args.a c.to_u32-2.result c.to_u32-then-longest-pattern.result _ c.pattern.result.now
    c.requires.there (image_at (fits_in image) (g.G.NamedGraph.graph c.args.graph.now).arcs c.args.fitting.now c.args.a fitting c.requires.there)
    (c.arc.ensures ∙ ap (λ n. Some n) (sym c.to_u32.view_is)) c.pattern.ensures c.to_u32-2.ensures c.to_u32-then-longest-pattern.ensures c.if-longest-pattern.true

pub returns-else-longest-pattern : goal.returns-else-longest-pattern
returns-else-longest-pattern g c = λ image fitting are.
    told_else (g.G.RoutingGraph.device c.args.graph.now) (g.G.NamedGraph.graph c.args.graph.now) c.is_of_device.ensures image c.args.most.now are c.args.fitting.now c.args.a c.to_u32-2.result _ c.pattern.result.now
    c.requires.there (image_at (fits_in image) (g.G.NamedGraph.graph c.args.graph.now).arcs c.args.fitting.now c.args.a fitting c.requires.there)
    (c.arc.ensures ∙ ap (λ n. Some n) (sym c.to_u32.view_is)) c.pattern.ensures c.to_u32-2.ensures c.if-longest-pattern.false
