use Rattle.std.proofs.Common.{◌≡◌, ℕ, List, sym, subst, ap, ◌∙◌}
use Rattle.words.specs.Members.{In}
use Rattle.net_search.specs.declared.reach.Mark.{Mark}
use Rattle.net_search.specs.Marks.{mark_of}
use Rattle.net_search.specs.Gathering.{Grows}
use Rattle.net_search.proofs.Growing.{grows_more, grows_self, in_last}
use Rattle.net_search.proofs.Gathered.{taken_in}
use Rattle.net_search.proofs.meet.enter.Goals as goal

pub returns-clause-gathers : goal.returns-clause-gathers
returns-clause-gathers g c =
    let reach = c.args.reach.now in
    let new = c.set_mark.new.reach in
    let e : c.mark_at.result ≡ mark_of reach.marks.items c.args.w = c.mark_at.ensures ∙ ap (λ (ms : List Mark). mark_of ms c.args.w) c.deref.ensures.value in
    taken_in (g.R.Links.network c.args.rules.now) (g.R.PathRules.rules c.args.rules.now) reach.marks.items new.marks.items reach.inside.items new.inside.items reach.edge.items new.edge.items c.args.w c.requires.gathers c.requires.wire c.requires.path
    (λ f. c.in_default.not-Inside (e ∙ f)) c.set_mark.ensures.marks (c.set_mark.ensures.inside ∙ c.in_ok-push.ensures.items) c.set_mark.ensures.edge

pub returns-clause-inside : goal.returns-clause-inside
returns-clause-inside g c = grows_more c.args.reach.now.inside.items c.set_mark.new.reach.inside.items c.args.w (c.set_mark.ensures.inside ∙ c.in_ok-push.ensures.items)

pub returns-clause-edge : goal.returns-clause-edge
returns-clause-edge g c = subst (Grows c.args.reach.now.edge.items) (sym c.set_mark.ensures.edge) (grows_self c.args.reach.now.edge.items)

pub returns-clause-entered : goal.returns-clause-entered
returns-clause-entered g c = subst (λ (xs : List ℕ). In xs c.args.w) (sym (c.set_mark.ensures.inside ∙ c.in_ok-push.ensures.items)) (in_last c.args.reach.now.inside.items c.args.w)
