use Rattle.std.proofs.Common.{◌≡◌, ℕ, List, map, IfOk, refl, subst, ◌∙◌, Bor}
use Rattle.name_numbers.specs.Numbers.{number_of}
use Rattle.fixed_links.proofs.OfTypes.{outputs_made}
use Rattle.fixed_links.proofs.shapes.outputs_of.Goals as goal

pub returns : goal.returns
returns c =
    let names = c.as_slice.result.now in
    let slots = map (λ (name : Bor (List ℕ)). number_of c.args.kind.now.names name.now) names in
    subst (λ made. IfOk c.slots_of_names.result (λ slots. slots.items ≡ made))
    (outputs_made c.args.device.now c.args.tile.now c.args.kind.now names slots c.requires (c.as_slice.ensures ∙ c.in_ok-names.ensures) refl) c.slots_of_names.ensures
