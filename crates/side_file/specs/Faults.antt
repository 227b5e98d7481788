-- The fault that an error names.
use Rattle.std.specs.Prelude.{Option, Some, None}
use Rattle.rr_ids.specs.Limits.{limit_of}
use Rattle.json_forms.specs.Faults as form
use Rattle.json_values.specs.declared.members.ListError.{ListError}
use Rattle.json_values.specs.declared.members.ListError.TheVariants as list
use Rattle.side_form.specs.Side as side
use Rattle.side_file.specs.declared.errors.SideError.{SideError}
use Rattle.side_file.specs.declared.errors.SideError.TheVariants.{NotJson, BadShape, TooLarge, DuplicateName, UnknownName, Unpaired, WrongDomain, Memory}

-- none where memory was wanted
abbrev pub fault_of : SideError → Option side.SideFault
fault_of NotJson = Some (side.OfForm form.NotJson)
fault_of (BadShape key) = Some (side.OfForm (form.BadShape key))
fault_of (TooLarge limit) = Some (side.OfForm (form.TooLarge (limit_of limit)))
fault_of (DuplicateName name) = Some (side.DuplicateName name)
fault_of (UnknownName name) = Some (side.UnknownName name)
fault_of (Unpaired name) = Some (side.Unpaired name)
fault_of (WrongDomain name) = Some (side.WrongDomain name)
fault_of Memory = None

-- an error of a list as one of the whole
abbrev pub of_list : ListError → SideError
of_list (list.BadShape key) = BadShape key
of_list (list.TooLarge limit) = TooLarge limit
of_list list.Memory = Memory
