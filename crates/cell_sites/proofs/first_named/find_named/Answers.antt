use Rattle.std.proofs.Common.{ap, ◌∙◌, bytes_eq}
use Rattle.std.specs.Prelude.{find}
use Rattle.std.specs.Option.{option_copied}
use Rattle.cell_sites.proofs.first_named.find_named.Goals as goal

pub returns : goal.returns
returns g c = λ items held.
    ap option_copied (c.copied.ensures ∙ c.get.ensures.value) ∙ (held.found c.bytes.result ∙ ap (λ a. find (λ x. bytes_eq (g.T.Named.named x) a) items) c.bytes.ensures.same)
