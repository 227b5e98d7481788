-- The kinds of slices of a profile that is read have names.
use Rattle.std.proofs.Common.{◌≡◌, ℕ, true, List, Option, subst, refl}
use Rattle.std.specs.Prelude.{Result, Ok, codes}
use Rattle.std.specs.Option.{ok_or}
use Rattle.serde_json.specs.Data.{Data}
use Rattle.words.specs.Members.{In}
use Rattle.texts.specs.Names.{is_name}
use Rattle.records.specs.Profile.{Join, SliceKind, PadKind, Profile}
use Rattle.json_forms.specs.Results.{◌>>=◌}
use Rattle.json_forms.specs.Values.{member_in, name_in, reading_of, object_in}
use Rattle.json_forms.specs.Parts.{name_or_empty_in}
use Rattle.json_forms.specs.Faults.{FormFault, NotJson, BadShape, top_key}
use Rattle.json_forms.specs.Kinds.{join_in, slice_in, pad_in}
use Rattle.json_forms.specs.Profile.{slice_verdict, pad_verdict, profile_of_value}
use Rattle.json_forms.specs.Lists.{any_form, list_read}
use Rattle.formed_laws.specs.Readers.{IsReadProfile}
use Rattle.formed_laws.proofs.Elements.{list_judged}
use Rattle.formed_laws.proofs.Results.{both, same_value}
use Rattle.written_laws.proofs.GridNames.{slice_named}

abbrev KindsNamed : Profile → Type 0
KindsNamed profile = (k : SliceKind) → In profile.slices k → is_name k.name ≡ true

-- what a profile is read as, member by member
module _ (d : Data) where
  abbrev made : Option (List ℕ) → List (List ℕ) → List (List ℕ) → List Join → List SliceKind → List PadKind → Profile
  made chip others wide joins slices pads = record { rules = record { chip_prefix = chip; other_chips = others; wide = wide }; joins = joins; slices = slices; pads = pads }

  abbrev after_slices : Option (List ℕ) → List (List ℕ) → List (List ℕ) → List Join → List SliceKind → Result Profile FormFault
  after_slices chip others wide joins slices = list_read (codes "pads") pad_in (pad_verdict others slices) d >>= λ pads. Ok (made chip others wide joins slices pads)

  abbrev after_joins : Option (List ℕ) → List (List ℕ) → List (List ℕ) → List Join → Result Profile FormFault
  after_joins chip others wide joins = list_read (codes "slices") slice_in (slice_verdict others) d >>= after_slices chip others wide joins

  abbrev after_wide : Option (List ℕ) → List (List ℕ) → List (List ℕ) → Result Profile FormFault
  after_wide chip others wide = list_read (codes "joins") join_in any_form d >>= after_joins chip others wide

  abbrev after_others : Option (List ℕ) → List (List ℕ) → Result Profile FormFault
  after_others chip others = list_read (codes "wide") name_in any_form d >>= after_wide chip others

  abbrev after_chip : Option (List ℕ) → Result Profile FormFault
  after_chip chip = list_read (codes "other_chips") name_in any_form d >>= after_others chip

  kinds_made : (chip : Option (List ℕ)) (others wide : List (List ℕ)) (joins : List Join) (slices : List SliceKind) (pads : List PadKind) (profile : Profile)
      → list_read (codes "slices") slice_in (slice_verdict others) d ≡ Ok slices
      → (let r : Result Profile FormFault = Ok (made chip others wide joins slices pads) in r ≡ Ok profile) → KindsNamed profile
  kinds_made chip others wide joins slices pads profile h e =
      let s = list_judged (codes "slices") slice_in (slice_verdict others) d slices h in
      subst KindsNamed (same_value (made chip others wide joins slices pads) profile (Ok (made chip others wide joins slices pads)) refl e)
      (λ k i. (let r = s.1 k i in slice_named r.0 k r.1))

  value_kinds : (profile : Profile) → profile_of_value d ≡ Ok profile → KindsNamed profile
  unfolding profile_of_value
  value_kinds profile h =
      let a = both (ok_or (member_in (codes "chip_prefix") name_or_empty_in d) (BadShape (codes "chip_prefix"))) after_chip profile h in
      let b = both (list_read (codes "other_chips") name_in any_form d) (after_others a.0) profile a.1.1 in
      let c = both (list_read (codes "wide") name_in any_form d) (after_wide a.0 b.0) profile b.1.1 in
      let j = both (list_read (codes "joins") join_in any_form d) (after_joins a.0 b.0 c.0) profile c.1.1 in
      let s = both (list_read (codes "slices") slice_in (slice_verdict b.0) d) (after_slices a.0 b.0 c.0 j.0) profile j.1.1 in
      let p = both (list_read (codes "pads") pad_in (pad_verdict b.0 s.0) d) (λ ps. Ok (made a.0 b.0 c.0 j.0 s.0 ps)) profile s.1.1 in
      kinds_made a.0 b.0 c.0 j.0 s.0 p.0 profile s.1.0 p.1.1

pub kinds_named : (profile : Profile) → IsReadProfile profile → (k : SliceKind) → In profile.slices k → is_name k.name ≡ true
kinds_named profile read =
    let d = both (ok_or (reading_of read.0) NotJson) (λ d. ok_or (object_in d) (BadShape top_key) >>= λ _. profile_of_value d) profile read.1 in
    let o = both (ok_or (object_in d.0) (BadShape top_key)) (λ _. profile_of_value d.0) profile d.1.1 in
    value_kinds d.0 profile o.1.1
