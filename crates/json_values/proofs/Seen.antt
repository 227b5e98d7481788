-- The elements of a list, seen as data.
use Rattle.std.proofs.Common.{◌≡◌, List, [], ◌∷◌, map, refl, ap}
use Rattle.serde_json.specs.View.{view, items_view}
use Rattle.serde_json.specs.declared.value.Value.{Value}
use Rattle.json_forms.specs.Values.{elements}

pub elements-items_view : (values : List Value) → elements (items_view values) ≡ map view values
elements-items_view [] = refl
elements-items_view (v ∷ vs) = ap (λ ds. view v ∷ ds) (elements-items_view vs)
