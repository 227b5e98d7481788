-- Lists in a JSON file: each element has a form, and is judged with those before it; the first faulty one decides.
-- (Our own.)
use Rattle.std.specs.Prelude.{ℕ, List, ◌∷◌, ◌++◌, length, Option, Some, None, Result}
use Rattle.std.specs.Option.{ok_or}
use Rattle.std.specs.List.{filter_map}
use Rattle.std.specs.Fmt.{decimal}
use Rattle.serde_json.specs.Data.{Data}
use Rattle.words.specs.Firsts.{first_fault, unless_fault}
use Rattle.records.specs.Limits.{Limit}
use Rattle.json_forms.specs.Results.{◌>>=◌}
use Rattle.json_forms.specs.Values.{list_in, member_in}
use Rattle.json_forms.specs.Faults.{FormFault, BadShape, TooLarge}

-- the key of an element of a list in a member, counted from 0: `slices.0`
abbrev pub element_key : List ℕ → ℕ → List ℕ
element_key name number = name ++ 46 ∷ decimal number

-- how an element stands behind those before it
pub data Verdict : Type 0 where
  Fits : Verdict
  Misfits : Verdict
  Exceeds : Limit → Verdict

abbrev pub verdict_fault : List ℕ → Verdict → Option FormFault
verdict_fault key Fits = None
verdict_fault key Misfits = Some (BadShape key)
verdict_fault key (Exceeds limit) = Some (TooLarge limit)

-- the verdict on an element by its form, and then by a judge
abbrev pub element_verdict : {Y : Type 0} → (List Y → Y → Verdict) → List Y → Option Y → Verdict
element_verdict judge earlier None = Misfits
element_verdict judge earlier (Some y) = judge earlier y

-- the fault of an element behind others
abbrev pub element_fault : {Y : Type 0} → List ℕ → (Data → Option Y) → (List Y → Y → Verdict) → List Data → Data → Option FormFault
element_fault name form judge before d = verdict_fault (element_key name (length before)) (element_verdict judge (filter_map form before) (form d))

-- what the elements of a list are read as: each has a form, and is judged with those before it
unfoldable pub elements_read : {Y : Type 0} → List ℕ → (Data → Option Y) → (List Y → Y → Verdict) → List Data → Result (List Y) FormFault
elements_read name form judge ds = unless_fault (first_fault (element_fault name form judge) ds) (filter_map form ds)

-- what a member is read as that is a list
abbrev pub list_read : {Y : Type 0} → List ℕ → (Data → Option Y) → (List Y → Y → Verdict) → Data → Result (List Y) FormFault
list_read name form judge d = ok_or (member_in name list_in d) (BadShape name) >>= elements_read name form judge

-- any element of the form will do
abbrev pub any_form : {Y : Type 0} → List Y → Y → Verdict
any_form earlier y = Fits
