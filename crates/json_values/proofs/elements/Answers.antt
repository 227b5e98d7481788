use Rattle.std.proofs.Common.{Some, ap, sym, ◌∙◌, option_map}
use Rattle.json_values.proofs.Seen.{elements-items_view}
use Rattle.json_forms.specs.Values.{elements}
use Rattle.json_values.proofs.elements.Goals as goal

pub returns : goal.returns
returns c =
    rw c.as_slice.ensures.value (sym (ap Some (elements-items_view c.in_ok-values.values.now.items)) ∙ ap (option_map elements) c.in_ok-values.ensures)
