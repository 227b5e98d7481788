use Rattle.std.proofs.Common.{◌≡◌, ◌∷◌, ◌++◌, ap, sym, ◌∙◌}
use Rattle.std.specs.Ordering.{nat_cmp, ordering_then}
use Rattle.std.specs.Cmp.Lexicographic.{slice_cmp}
use Rattle.records.specs.Config.{ArcLine}
use Rattle.config_grammar.specs.ConfigText.{arc_key}
use Rattle.config_text.proofs.Keys.{arc_order}
use Rattle.config_text.proofs.order.line_order.Goals as goal

pub returns : goal.returns
returns c =
    let first = c.first.inside in
    let second = c.second.inside in
    c.then.ensures ∙ ap (λ o. ordering_then o c.cmp.result) c.cmp-sinks.ensures
    ∙ ap (ordering_then (slice_cmp nat_cmp first.sink second.sink)) c.cmp.ensures
    ∙ sym (arc_order first.sink second.sink first.source second.source c.bytes.ensures.name c.bytes-2.ensures.name)
    ∙ ap (λ (a : ArcLine). slice_cmp nat_cmp (arc_key a) (second.sink ++ 32 ∷ second.source)) c.first.view_is
    ∙ ap (λ (a : ArcLine). slice_cmp nat_cmp (arc_key c.args.first.now) (arc_key a)) c.second.view_is
