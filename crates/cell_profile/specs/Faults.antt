-- The fault that an error names.
use Rattle.std.specs.Prelude.{Option, Some, None}
use Rattle.rr_ids.specs.Limits.{limit_of}
use Rattle.json_forms.specs.Faults as form
use Rattle.json_values.specs.declared.members.ListError.{ListError}
use Rattle.json_values.specs.declared.members.ListError.TheVariants as list
use Rattle.cell_profile.specs.declared.errors.ProfileError.{ProfileError}
use Rattle.cell_profile.specs.declared.errors.ProfileError.TheVariants.{NotJson, BadShape, TooLarge, Memory}

-- none where memory was wanted
abbrev pub fault_of : ProfileError → Option form.FormFault
fault_of NotJson = Some form.NotJson
fault_of (BadShape key) = Some (form.BadShape key)
fault_of (TooLarge limit) = Some (form.TooLarge (limit_of limit))
fault_of Memory = None

-- an error of a list as one of the whole
abbrev pub of_list : ListError → ProfileError
of_list (list.BadShape key) = BadShape key
of_list (list.TooLarge limit) = TooLarge limit
of_list list.Memory = Memory
