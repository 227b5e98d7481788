use Rattle.std.proofs.Common.{◌∙◌, ap}
use Rattle.links.specs.Links.{Link}
use Rattle.open_rows.specs.Rows.{popped}
use Rattle.live_links.specs.Joined.{shrunk_rows}
use Rattle.live_links.proofs.Growing.{rows_same}
use Rattle.live_links.proofs.grow.take_back.Goals as goal

pub returns-clause-drivers : goal.returns-clause-drivers
returns-clause-drivers c =
    rows_same c.pop.new.self (shrunk_rows c.args.drivers.now c.args.added.link.sink) (c.pop.ensures.rows ∙ ap (λ (l : Link). popped c.args.drivers.now.rows l.sink) c.link.view_is) c.pop.ensures.room

pub returns-clause-next : goal.returns-clause-next
returns-clause-next c =
    rows_same c.pop-2.new.self (shrunk_rows c.args.next.now c.args.added.link.source) (c.pop-2.ensures.rows ∙ ap (λ (l : Link). popped c.args.next.now.rows l.source) c.link.view_is) c.pop-2.ensures.room
