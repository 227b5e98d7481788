-- What a named pad takes is the take of one of its mode's cases, and its wire is there.
use Rattle.std.proofs.Common.{◌≡◌, ℕ, true, false, List, Option, Some, None, refl}
use Rattle.std.specs.Prelude.{slice_get}
use Rattle.std.specs.Option.{option_map_or, option_and_then}
use Rattle.std.specs.Str.{bytes_eq}
use Rattle.std.proofs.lemmas.Bool.{false≢true}
use Rattle.words.specs.Members.{In}
use Rattle.patterns.specs.Bits.{Bits}
use Rattle.records.specs.Profile.{Take, TakeWire, TakeNotWire, TakeZero, TakeOne, TakeOff, TakeIn, TakeOut, Case, Choice}
use Rattle.fabric.specs.Graph.{Graph}
use Rattle.fabric.specs.Values.{value_at}
use Rattle.circuit.specs.Cells.{InputPad, ClockPad}
use Rattle.cells.specs.Takes.{case_with, case_of, take_at, suits}
use Rattle.fabric_laws.proofs.Members.{find_from}
use Rattle.fabric_laws.proofs.Numbered.{get_in}
use Rattle.cells_laws.proofs.Options.{mapped_from, then_from}

case_listed : (g : Graph) (image : Bits) (tile : ℕ) (choice : Choice) (c : Case) → case_of g image tile choice ≡ Some c → In choice.cases c
case_listed g image tile choice c h = go choice.setting h
  where
    go : (o : Option (List ℕ)) → option_map_or (λ setting. option_and_then (case_with choice.cases) (value_at g image tile setting)) o (slice_get choice.cases 0) ≡ Some c → In choice.cases c
    go None k = get_in choice.cases 0 c k
    go (Some setting) k =
        let v = then_from (case_with choice.cases) (value_at g image tile setting) c k in
        (find_from (λ (d : Case). option_map_or (bytes_eq v.0) d.value false) choice.cases c v.1.1).0

-- what a choice takes is what one of its cases does
pub taken_by : (g : Graph) (image : Bits) (tile : ℕ) (choice : Choice) (t : Take) → take_at g image tile choice ≡ Some t → (c : Case) × (In choice.cases c × (c.take ≡ t))
taken_by g image tile choice t h =
    let c = mapped_from (λ (d : Case). d.take) (case_of g image tile choice) t h in
    (c.0, (case_listed g image tile choice c.0 c.1.0, c.1.1))

-- an input, and a clock, drives into the fabric
pub input_takes_in : (t : Take) → suits InputPad t ≡ true → t ≡ TakeIn
input_takes_in (TakeWire n) h = absurd (false≢true h)
input_takes_in (TakeNotWire n) h = absurd (false≢true h)
input_takes_in TakeZero h = absurd (false≢true h)
input_takes_in TakeOne h = absurd (false≢true h)
input_takes_in TakeOff h = absurd (false≢true h)
input_takes_in TakeIn h = refl
input_takes_in TakeOut h = absurd (false≢true h)

pub clock_takes_in : (t : Take) → suits ClockPad t ≡ true → t ≡ TakeIn
clock_takes_in (TakeWire n) h = absurd (false≢true h)
clock_takes_in (TakeNotWire n) h = absurd (false≢true h)
clock_takes_in TakeZero h = absurd (false≢true h)
clock_takes_in TakeOne h = absurd (false≢true h)
clock_takes_in TakeOff h = absurd (false≢true h)
clock_takes_in TakeIn h = refl
clock_takes_in TakeOut h = absurd (false≢true h)
