use Rattle.std.proofs.Common.{◌∙◌, ap, bytes_eq}
use Rattle.std.specs.Prelude.{filter}
use Rattle.cell_sites.specs.Rows.{row_items}
use Rattle.cell_sites.proofs.rows.row.Goals as goal

pub returns : goal.returns
returns g c = λ items held. ap row_items c.get.ensures.value ∙ (held.found c.bytes.result ∙ ap (λ n. filter (λ x. bytes_eq (g.T.Paired.first x) n) items) c.bytes.ensures.same)
