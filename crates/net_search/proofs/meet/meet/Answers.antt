use Rattle.std.proofs.Common.{◌≡◌, List, sym, subst, ap, ◌∙◌, arith}
use Rattle.net_search.specs.declared.reach.Mark.{Mark}
use Rattle.net_search.specs.Marks.{mark_of}
use Rattle.net_search.specs.Gathering.{Grows}
use Rattle.net_search.proofs.Growing.{grows_more, grows_self}
use Rattle.net_search.proofs.Gathered.{asked_is_met, met}
use Rattle.net_search.proofs.meet.meet.Goals as goal

pub returns-clause-gathers : goal.returns-clause-gathers
returns-clause-gathers g c =
    let net = g.R.Links.network c.args.rules.now in
    let reach = c.args.reach.now in
    let new = c.set_mark.new.reach in
    let e : c.mark_at-mark.result ≡ mark_of reach.marks.items c.arc-w.result.sink = c.mark_at-mark.ensures ∙ ap (λ (ms : List Mark). mark_of ms c.arc-w.result.sink) c.deref.ensures.value in
    met net (g.R.PathRules.rules c.args.rules.now) reach.marks.items new.marks.items reach.inside.items new.inside.items reach.edge.items new.edge.items c.args.a c.arc-w.result.sink c.asked-mark.result c.requires.gathers
    c.arc-w.ensures.sink (c.requires.net.wiring.sinks c.args.a c.requires.arc) c.requires.arc c.requires.from (sym e ∙ c.in-Far.is) c.asked-mark.ensures c.set_mark.ensures.marks c.set_mark.ensures.inside (c.set_mark.ensures.edge ∙ c.in_ok-push.ensures.items)

pub returns-clause-inside : goal.returns-clause-inside
returns-clause-inside g c = subst (Grows c.args.reach.now.inside.items) (sym c.set_mark.ensures.inside) (grows_self c.args.reach.now.inside.items)

pub returns-clause-edge : goal.returns-clause-edge
returns-clause-edge g c = grows_more c.args.reach.now.edge.items c.set_mark.new.reach.edge.items c.arc-w.result.sink (c.set_mark.ensures.edge ∙ c.in_ok-push.ensures.items)

pub returns-clause-met : goal.returns-clause-met
returns-clause-met g c =
    let net = g.R.Links.network c.args.rules.now in
    let rs = g.R.PathRules.rules c.args.rules.now in
    asked_is_met net rs c.args.reach.now.marks.items c.set_mark.new.reach.marks.items c.arc-w.result.sink (net.wiring.sink c.args.a) c.asked-mark.result (rs.enterable c.arc-w.result.sink) c.arc-w.ensures.sink
    (let s = c.requires.net.wiring.sinks c.args.a c.requires.arc in let l = c.requires.gathers.len in let e = c.arc-w.ensures.sink in omega arith) c.asked-mark.ensures c.set_mark.ensures.marks
