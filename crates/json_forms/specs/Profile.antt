-- What the bytes of a profile are read as. (Our own.)
use Rattle.std.specs.Prelude.{ℕ, List, [], ◌++◌, map, Result, Ok, Err, codes, if◌then◌else◌}
use Rattle.std.specs.Option.{ok_or, is_some}
use Rattle.json_forms.specs.Results.{◌>>=◌}
use Rattle.serde_json.specs.Data.{Data}
use Rattle.records.specs.Limits.{Parts}
use Rattle.records.specs.Profile.{Join, SliceKind, PadKind, Profile}
use Rattle.json_forms.specs.Values.{reading_of, object_in, member_in, name_in}
use Rattle.json_forms.specs.Parts.{name_or_empty_in}
use Rattle.json_forms.specs.Faults.{FormFault, NotJson, BadShape, top_key}
use Rattle.json_forms.specs.Kinds.{join_in, slice_in, pad_in}
use Rattle.json_forms.specs.KindRules.{slice_keeps_rules, pad_keeps_rules, parts_fit, slice_name, pad_name}
use Rattle.json_forms.specs.Lists.{list_read, any_form, Verdict, Fits, Misfits, Exceeds}

-- slice kinds keep their rules, and have few parts
abbrev pub slice_verdict : List (List ℕ) → List SliceKind → SliceKind → Verdict
slice_verdict other_chips earlier kind =
    if slice_keeps_rules other_chips earlier kind then (if parts_fit kind then Fits else Exceeds Parts) else Misfits

-- pad kinds behind the slice kinds keep their rules
abbrev pub pad_verdict : List (List ℕ) → List SliceKind → List PadKind → PadKind → Verdict
pad_verdict other_chips slices earlier kind =
    if pad_keeps_rules other_chips (map slice_name slices ++ map pad_name earlier) kind then Fits else Misfits

-- The profile that an object is: the first faulty member or element decides, in this order of the members.
unfoldable pub profile_of_value : Data → Result Profile FormFault
profile_of_value d = do
  chip_prefix ← ok_or (member_in (codes "chip_prefix") name_or_empty_in d) (BadShape (codes "chip_prefix"))
  other_chips ← list_read (codes "other_chips") name_in any_form d
  wide ← list_read (codes "wide") name_in any_form d
  joins ← list_read (codes "joins") join_in any_form d
  slices ← list_read (codes "slices") slice_in (slice_verdict other_chips) d
  pads ← list_read (codes "pads") pad_in (pad_verdict other_chips slices) d
  Ok (record { rules = record { chip_prefix = chip_prefix; other_chips = other_chips; wide = wide }; joins = joins; slices = slices; pads = pads })

-- What the bytes of a profile are read as, or their first fault.
abbrev pub profile_of : List ℕ → Result Profile FormFault
profile_of bytes = do
  d ← ok_or (reading_of bytes) NotJson
  _ ← ok_or (object_in d) (BadShape top_key)
  profile_of_value d
