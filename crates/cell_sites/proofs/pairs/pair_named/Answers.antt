use Rattle.std.proofs.Common.{ap, ap₂, ◌∙◌, bytes_eq}
use Rattle.std.specs.Prelude.{find, ◌&&◌}
use Rattle.std.specs.Option.{option_copied}
use Rattle.cell_sites.proofs.pairs.pair_named.Goals as goal

pub returns : goal.returns
returns g c = λ items held.
    ap option_copied (c.copied.ensures ∙ c.get.ensures.value)
    ∙ (held.found (c.bytes.result, c.bytes-2.result)
    ∙ ap₂ (λ a b. find (λ x. bytes_eq (g.T.Paired.first x) a && bytes_eq (g.T.Paired.second x) b) items) c.bytes.ensures.same c.bytes-2.ensures.same)
