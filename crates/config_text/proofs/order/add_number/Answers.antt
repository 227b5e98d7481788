use Rattle.std.proofs.Common.{◌∙◌, ap}
use Rattle.words.specs.Ordered.{put_once}
use Rattle.records.specs.Config.{ArcLine}
use Rattle.config_grammar.specs.ConfigText.{arc_key}
use Rattle.config_text.specs.Entries.{arcs_at}
use Rattle.config_text.proofs.Arcs.{one_more, sinks_stay}
use Rattle.config_text.proofs.order.add_number.Goals as goal

pub returns-clause-arcs : goal.returns-clause-arcs
returns-clause-arcs c =
    let arc = c.arc.inside in
    let old = c.args.numbers.now.entries in
    ap arcs_at c.in_ok-insert.ensures.entries ∙ one_more arc.sink arc.source arc.line c.bytes.ensures.name old c.requires
    ∙ ap (λ (a : ArcLine). put_once arc_key a (arcs_at old)) c.arc.view_is

pub returns-clause-sinks : goal.returns-clause-sinks
returns-clause-sinks c =
    let arc = c.arc.inside in
    rw c.in_ok-insert.ensures.entries (sinks_stay arc.sink arc.source arc.line c.bytes.ensures.name c.args.numbers.now.entries c.requires)
