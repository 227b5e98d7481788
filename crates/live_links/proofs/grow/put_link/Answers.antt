use Rattle.std.proofs.Common.{◌∙◌, ap}
use Rattle.links.specs.Links.{Link}
use Rattle.open_rows.specs.Rows.{pushed}
use Rattle.live_links.specs.Joined.{grown_rows}
use Rattle.live_links.proofs.Growing.{rows_same}
use Rattle.live_links.proofs.grow.put_link.Goals as goal

pub returns-clause-drivers : goal.returns-clause-drivers
returns-clause-drivers c =
    rows_same c.push.new.self (grown_rows c.args.drivers.now c.args.link.sink c.args.link.source) (c.push.ensures.rows ∙ ap (λ (l : Link). pushed c.args.drivers.now.rows l.sink l.source) c.link.view_is) c.push.ensures.room

pub returns-clause-next : goal.returns-clause-next
returns-clause-next c =
    rows_same c.push-2.new.self (grown_rows c.args.next.now c.args.link.source c.args.link.sink) (c.push-2.ensures.rows ∙ ap (λ (l : Link). pushed c.args.next.now.rows l.source l.sink) c.link.view_is) c.push-2.ensures.room
