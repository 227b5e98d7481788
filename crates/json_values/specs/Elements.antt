-- Elements of a list, each read behind those before it.
use Rattle.std.specs.Prelude.{ℕ, List, length, Option, Result}
use Rattle.std.specs.Option.{ok_or}
use Rattle.serde_json.specs.Data.{Data}
use Rattle.words.specs.Firsts.{unless_fault}
use Rattle.rr_ids.specs.Limits.{limit_of}
use Rattle.json_forms.specs.Results.{◌>>=◌}
use Rattle.json_forms.specs.Faults.{FormFault, BadShape}
use Rattle.json_forms.specs.Lists as lists
use Rattle.json_values.specs.declared.judges.Verdict.{Verdict}
use Rattle.json_values.specs.declared.judges.Verdict.TheVariants.{Fits, Misfits, Exceeds}

abbrev pub verdict_of : Verdict → lists.Verdict
verdict_of Fits = lists.Fits
verdict_of Misfits = lists.Misfits
verdict_of (Exceeds limit) = lists.Exceeds (limit_of limit)

-- what an element is read as, behind those before it: its form, and then its verdict
abbrev pub element_read : {Y : Type 0} → List ℕ → (Data → Option Y) → (List Y → Y → lists.Verdict) → List Y → Data → Result Y FormFault
element_read name form judge earlier d =
    let key = lists.element_key name (length earlier) in
    ok_or (form d) (BadShape key) >>= λ y. unless_fault (lists.verdict_fault key (judge earlier y)) y
