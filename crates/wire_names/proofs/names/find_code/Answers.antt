use Rattle.std.proofs.Common.{◌∙◌, nat_eq, refl}
use Rattle.std.specs.Cmp.Lexicographic.{pointwise}
use Rattle.wire_names.proofs.Places.{same_place}
use Rattle.wire_names.proofs.names.find_code.Goals as goal

pub returns : goal.returns
returns c =
    c.get_index_of.ensures.index
    ∙ same_place (λ key. pointwise nat_eq c.args.code.now key.items) (pointwise nat_eq c.args.code.now) (λ key. key.items) c.args.codes.now.keys (λ key i. refl)
