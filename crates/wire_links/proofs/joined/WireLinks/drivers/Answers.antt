use Rattle.std.proofs.Common.{◌↔◌, ℕ, List, [], get_or, sym, subst}
use Rattle.words.specs.Members.{In}
use Rattle.links.specs.Links.{Routing, Drives}
use Rattle.wire_links.proofs.Routed.{rows_drive}
use Rattle.wire_links.proofs.joined.WireLinks.drivers.Goals as goal

pub returns-clause-all : goal.returns-clause-all
returns-clause-all c = λ x.
    subst (λ (row : List ℕ). In row x ↔ Drives c.args.self.now x c.args.w) (sym c.row_of.ensures)
    (subst (λ (r : Routing). In (get_or c.self.inside.drivers c.args.w []) x ↔ Drives r x c.args.w) c.self.view_is
    (let h = rows_drive c.self.inside.drivers c.self.inside.outputs.items c.args.w x in (h.1, h.0)))
