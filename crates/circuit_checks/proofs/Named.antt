-- Wires, parts and pins by number.
use Rattle.std.proofs.Common.{◌≡◌, ◌≤◌, ℕ, List, length, Option, None, Some, option_map, sym, ap, ◌∙◌, arith}
use Rattle.std.specs.Prelude.{slice_get}
use Rattle.std.proofs.lemmas.Option.{slice_get_past}

pub wire_beyond : {X Y : Type 0} (view : X → Y) (ws : List Y) (w count : ℕ) → count ≡ length ws → count ≤ w → option_map view None ≡ slice_get ws w
wire_beyond view ws w count e h = sym (slice_get_past ws w (omega (arith, e)))

-- the name of what stands under a number
pub named : {X Y Z : Type 0} (view : X → Z) (part : Y → Z) (name : X) (o : Option Y) → option_map view (Some name) ≡ option_map part o → (y : Y) → o ≡ Some y → view name ≡ part y
named view part name o e y is = (let s : Some (view name) ≡ Some (part y) = e ∙ ap (option_map part) is in let t : view name ≡ part y = cc in t)

-- something that stands under a number has a name
pub unnamed : {X Y Z : Type 0} (view : X → Z) (part : Y → Z) (o : Option Y) → option_map view None ≡ option_map part o → (y : Y) → o ≡ Some y → ⊥
unnamed view part o e y is = (let s : None ≡ Some (part y) = e ∙ ap (option_map part) is in let no : ⊥ = cc in no)
