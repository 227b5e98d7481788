-- What an error of loading a design says. (Our own.)
use Rattle.std.specs.Prelude.{◌≡◌}
use Rattle.answers.specs.Refusals.{Refusal}
use Rattle.answers.specs.Texts.{refused_text}
use Rattle.load_routing.specs.declared.error.LoadError.{LoadError}
use Rattle.load_routing.specs.declared.error.LoadError.TheVariants.{Refused, Memory}

-- an error has the line of this refusal; want of memory says nothing
abbrev pub IsRefusal : Refusal → LoadError → Type 0
IsRefusal r (Refused text) = text.items ≡ refused_text r
IsRefusal r Memory = Unit {0}

-- an error has the line of what a check refuses; want of memory says nothing
abbrev pub IsRefusedBy : (Refusal → Type 0) → LoadError → Type 0
IsRefusedBy check (Refused text) = (r : Refusal) × (check r × (text.items ≡ refused_text r))
IsRefusedBy check Memory = Unit {0}
