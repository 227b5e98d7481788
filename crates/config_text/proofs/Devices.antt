-- The device of a reading.
use Rattle.std.proofs.Common.{◌≡◌, ℕ, List, [], ◌∷◌, Option, Some, None, Ok, false, not, sym, ap}
use Rattle.std.specs.Option.{is_some, option_to_list}
use Rattle.records.specs.Config.{Head, TileText}
use Rattle.config_grammar.specs.ConfigLines.{DeviceLine}
use Rattle.config_grammar.specs.ConfigText.{bad_if, is_none_yet}
use Rattle.config_text.specs.LineByLine.{Reading, with_says, or_fault}

-- the first device that is named
pub first_device : (n : ℕ) (device : Option (List ℕ)) (heads : List Head) (sections : List TileText) (name held : List ℕ) → is_some device ≡ false → held ≡ name
    → or_fault (bad_if (not (is_none_yet (option_to_list device))) n) (with_says n (Some (DeviceLine name)) (record { devices = option_to_list device; heads = heads; sections = sections }))
    ≡ Ok (record { devices = held ∷ []; heads = heads; sections = sections })
first_device n None heads sections name held none same =
    ap (λ (x : List ℕ). Ok (let r : Reading = record { devices = x ∷ []; heads = heads; sections = sections } in r)) (sym same)
first_device n (Some device) heads sections name held none same = absurd (let no : ⊥ = cc in no)
