use Rattle.std.proofs.Common.{◌∙◌, ◌++◌, ◌∷◌, [], ap}
use Rattle.cell_sites.specs.Rows.{row_items}
use Rattle.cell_sites.proofs.Adding.{added}
use Rattle.cell_sites.proofs.rows.add.Goals as goal

pub returns : goal.returns
returns g c = λ items held. added g.T.Paired.first c.bytes-key.result c.args.item c.in_ok-row.row c.args.rows.now c.remove.new.self c.insert.new.self items
    (c.bytes-key.ensures.same ∙ c.first.ensures) (c.in_ok-row.ensures ∙ ap (λ o. row_items o ++ c.args.item.now ∷ []) c.remove.ensures.value) c.remove.ensures.updates.0 c.in_ok-insert.ensures.updates.0 held
