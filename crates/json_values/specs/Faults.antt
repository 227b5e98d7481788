-- The fault that an error of a list names.
use Rattle.std.specs.Prelude.{Option, Some, None}
use Rattle.rr_ids.specs.Limits.{limit_of}
use Rattle.json_forms.specs.Faults as form
use Rattle.json_values.specs.declared.members.ListError.{ListError}
use Rattle.json_values.specs.declared.members.ListError.TheVariants.{BadShape, TooLarge, Memory}

-- none where memory was wanted
abbrev pub list_fault : ListError → Option form.FormFault
list_fault (BadShape key) = Some (form.BadShape key)
list_fault (TooLarge limit) = Some (form.TooLarge (limit_of limit))
list_fault Memory = None
