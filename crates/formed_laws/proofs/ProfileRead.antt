-- What a profile says that a reader takes.
use Rattle.std.proofs.Common.{◌≡◌, ℕ, Bool, true, false, not, List, [], ◌++◌, length, map, find, Option, Some, None, refl, sym, ap, ap₂, subst, ◌∙◌}
use Rattle.std.specs.Prelude.{Result, Ok, ◌==◌, ◌&&◌, ◌||◌, nat_eq, codes, if◌then◌else◌}
use Rattle.std.specs.List.{list_any}
use Rattle.std.specs.Option.{ok_or, is_some, option_map_or}
use Rattle.std.specs.Set.{is_member}
use Rattle.std.specs.Str.{bytes_eq}
use Rattle.std.specs.Cmp.Lexicographic.{pointwise}
use Rattle.std.proofs.lemmas.Bool.{false≢true, and_parts, and_from}
use Rattle.std.proofs.lemmas.Bool.Decides.{Decides-eqb}
use Rattle.std.proofs.lemmas.Slice.Eq.{slice_eq-Decides, bytes_eq-Decides}
use Rattle.serde_json.specs.Data.{Data}
use Rattle.words.specs.Members.{In}
use Rattle.words.specs.Firsts.{first_fault}
use Rattle.words.specs.Twice.{HasNoneTwice}
use Rattle.records.specs.Profile.{TakeIn, TakeOut, Case, Join, SliceKind, PadKind, Profile}
use Rattle.cells.specs.Standing.{KindsApart}
use Rattle.json_forms.specs.Faults.{FormFault, NotJson, BadShape, top_key}
use Rattle.json_forms.specs.Results.{◌>>=◌}
use Rattle.json_forms.specs.Values.{reading_of, object_in, member_in, name_in}
use Rattle.json_forms.specs.Parts.{name_or_empty_in}
use Rattle.json_forms.specs.Kinds.{join_in, slice_in, pad_in}
use Rattle.json_forms.specs.KindRules.{KindName, same_kind, slice_name, pad_name, same_counts, has_counts_of_shape, slice_settings_pass, slice_wires_pass, is_own_wire, slice_keeps_rules, takes_in, takes_out, choice_setting_passes, pad_wires_pass, has_wires_of_modes, pad_keeps_rules, parts_fit}
use Rattle.json_forms.specs.Profile.{slice_verdict, pad_verdict, profile_of_value}
use Rattle.records.specs.Limits.{Parts}
use Rattle.links.proofs.Members.{in_left, in_right, in_map, of_map}
use Rattle.json_forms.specs.Lists.{Fits, Misfits, Exceeds, verdict_fault, any_form, list_read}
use Rattle.fabric_laws.proofs.Members.{any_to, find_from, imp_from}
use Rattle.formed_laws.specs.Readers.{IsReadProfile}
use Rattle.formed_laws.specs.ProfileRead.{HaveEqualCounts, IsFit}
use Rattle.formed_laws.proofs.Results.{both, same_value}
use Rattle.formed_laws.proofs.Twice.{left_part, right_part, joined_twice, one_of_key}
use Rattle.formed_laws.proofs.Found.{found_none}
use Rattle.formed_laws.proofs.Judged.{keys_once, each_faultless, all_alike}
use Rattle.formed_laws.proofs.Elements.{judged, list_judged}
use Rattle.formed_laws.proofs.KindForms.{slice_pins}
use Rattle.formed_laws.proofs.OwnWires.{slice_own, pad_own}

-- ---- kinds by their names

same_kind_to : (a b : KindName) → a ≡ b → same_kind a b ≡ true
same_kind_to a b e = and_from (bytes_eq a.0 b.0) (bytes_eq a.1 b.1) ((bytes_eq-Decides a.0 b.0).1 (ap (λ (k : KindName). k.0) e)) ((bytes_eq-Decides a.1 b.1).1 (ap (λ (k : KindName). k.1) e))

-- a name that is new isn't among the others
new_is_out : (names : List KindName) (name : KindName) → not (is_member same_kind names name) ≡ true → In names name → ⊥
new_is_out names name h i = not_both (is_member same_kind names name) h (any_to (same_kind name) names name i (same_kind_to name name refl))
  where
    not_both : (b : Bool) → not b ≡ true → b ≡ true → ⊥
    not_both true h e = false≢true h
    not_both false h e = false≢true e

-- ---- the rules of one kind

slice_rules : (others : List (List ℕ)) (earlier : List SliceKind) (k : SliceKind) → judged (slice_verdict others) earlier k ≡ None → slice_keeps_rules others earlier k ≡ true
slice_rules others earlier k h = go (slice_keeps_rules others earlier k) h
  where
    go : (b : Bool) → verdict_fault [] (if b then (if parts_fit k then Fits else Exceeds Parts) else Misfits) ≡ None → b ≡ true
    go true h = refl
    go false h = absurd (let no : ⊥ = cc in no)

pad_rules : (others : List (List ℕ)) (slices : List SliceKind) (earlier : List PadKind) (k : PadKind) → judged (pad_verdict others slices) earlier k ≡ None
    → pad_keeps_rules others (map slice_name slices ++ map pad_name earlier) k ≡ true
pad_rules others slices earlier k h = go (pad_keeps_rules others (map slice_name slices ++ map pad_name earlier) k) h
  where
    go : (b : Bool) → verdict_fault [] (if b then Fits else Misfits) ≡ None → b ≡ true
    go true h = refl
    go false h = absurd (let no : ⊥ = cc in no)

record SliceRules (others : List (List ℕ)) (earlier : List SliceKind) (k : SliceKind) : Type 0 where
  wires : slice_wires_pass (is_own_wire others) k ≡ true
  new_name : In (map slice_name earlier) (slice_name k) → ⊥
  counts : has_counts_of_shape earlier k ≡ true

slice_kept : (others : List (List ℕ)) (earlier : List SliceKind) (k : SliceKind) → judged (slice_verdict others) earlier k ≡ None → SliceRules others earlier k
slice_kept others earlier k h =
    let settings = slice_settings_pass (is_member bytes_eq k.settings) k in
    let wires = slice_wires_pass (is_own_wire others) k in
    let fresh = not (is_member same_kind (map slice_name earlier) (slice_name k)) in
    let a = and_parts (settings && wires && fresh) (has_counts_of_shape earlier k) (slice_rules others earlier k h) in
    let b = and_parts (settings && wires) fresh a.0 in
    let c = and_parts settings wires b.0 in
    record { wires = c.1; new_name = new_is_out (map slice_name earlier) (slice_name k) b.1; counts = a.1 }

record PadRules (others : List (List ℕ)) (slices : List SliceKind) (earlier : List PadKind) (k : PadKind) : Type 0 where
  wires : pad_wires_pass (is_own_wire others) k ≡ true
  modes : has_wires_of_modes k ≡ true
  new_name : In (map slice_name slices ++ map pad_name earlier) (pad_name k) → ⊥

pad_kept : (others : List (List ℕ)) (slices : List SliceKind) (earlier : List PadKind) (k : PadKind) → judged (pad_verdict others slices) earlier k ≡ None → PadRules others slices earlier k
pad_kept others slices earlier k h =
    let settings = choice_setting_passes (is_member bytes_eq k.settings) k.mode in
    let wires = pad_wires_pass (is_own_wire others) k in
    let names = map slice_name slices ++ map pad_name earlier in
    let fresh = not (is_member same_kind names (pad_name k)) in
    let a = and_parts (settings && wires && has_wires_of_modes k) fresh (pad_rules others slices earlier k h) in
    let b = and_parts (settings && wires) (has_wires_of_modes k) a.0 in
    let c = and_parts settings wires b.0 in
    record { wires = c.1; modes = b.1; new_name = new_is_out names (pad_name k) a.1 }

-- ---- equal counts

counts_from : (k l : SliceKind) → same_counts k l ≡ true → HaveEqualCounts k l
counts_from k l h =
    let pins : SliceKind → List ℕ = λ s. map (λ t. length t.pins) s.tables in
    let a = and_parts ((length k.settings == length l.settings) && pointwise nat_eq (pins k) (pins l)) (length k.registers == length l.registers) h in
    let b = and_parts (length k.settings == length l.settings) (pointwise nat_eq (pins k) (pins l)) a.0 in
    record {
      settings = (Decides-eqb (length k.settings) (length l.settings)).0 b.0;
      pins = (slice_eq-Decides Decides-eqb (pins k) (pins l) (pointwise nat_eq (pins k) (pins l)) refl).0 b.1;
      registers = (Decides-eqb (length k.registers) (length l.registers)).0 a.1;
    }

abbrev Alike : SliceKind → SliceKind → Type 0
Alike k l = k.shape ≡ l.shape → HaveEqualCounts k l

counts_turned : (k l : SliceKind) → Alike k l → Alike l k
counts_turned k l h e = let c = h (sym e) in record { settings = sym c.settings; pins = sym c.pins; registers = sym c.registers }

-- the first kind of a shape, where there is one
first_of_shape : (earlier : List SliceKind) (k l : SliceKind) → In earlier l → l.shape ≡ k.shape → has_counts_of_shape earlier k ≡ true
    → (f : SliceKind) × (In earlier f × ((k.shape ≡ f.shape) × HaveEqualCounts f k))
first_of_shape earlier k l i e h = go (find (λ s. bytes_eq k.shape s.shape) earlier) refl h
  where
    there : find (λ s. bytes_eq k.shape s.shape) earlier ≡ None → ⊥
    there n = found_none (λ s. bytes_eq k.shape s.shape) earlier n l i ((bytes_eq-Decides k.shape l.shape).1 (sym e))

    go : (o : Option SliceKind) → find (λ s. bytes_eq k.shape s.shape) earlier ≡ o → option_map_or (λ first. same_counts first k) o true ≡ true
        → (f : SliceKind) × (In earlier f × ((k.shape ≡ f.shape) × HaveEqualCounts f k))
    go None n t = absurd (there n)
    go (Some f) n t = let r = find_from (λ s. bytes_eq k.shape s.shape) earlier f n in (f, (r.0, ((bytes_eq-Decides k.shape f.shape).0 r.1, counts_from f k t)))

counts_join : (others : List (List ℕ)) (before : List SliceKind) (k : SliceKind) → judged (slice_verdict others) before k ≡ None
    → ((a b : SliceKind) → In before a → In before b → Alike a b) → (l : SliceKind) → In before l → Alike l k
counts_join others before k h all l i e =
    let r = first_of_shape before k l i e (slice_kept others before k h).counts in
    let a = all l r.0 i r.1.0 (e ∙ r.1.1.0) in
    let b = r.1.1.1 in
    record { settings = a.settings ∙ b.settings; pins = a.pins ∙ b.pins; registers = a.registers ∙ b.registers }

-- ---- pads

some_wire : (o : Option (List ℕ)) → is_some o ≡ true → (wire : List ℕ) × (o ≡ Some wire)
some_wire None h = absurd (false≢true h)
some_wire (Some w) h = (w, refl)

has_in : (k : PadKind) (c : Case) → has_wires_of_modes k ≡ true → In k.mode.cases c → c.take ≡ TakeIn → (wire : List ℕ) × (k.in_wire ≡ Some wire)
has_in k c h i e =
    let parts = and_parts (not (list_any takes_in k.mode.cases) || is_some k.in_wire) (not (list_any takes_out k.mode.cases) || is_some k.out_wire) h in
    some_wire k.in_wire (imp_from (list_any takes_in k.mode.cases) (is_some k.in_wire) parts.0 (any_to takes_in k.mode.cases c i
    (subst (λ t. (elim t [ TakeIn ↦ true | _ ↦ false ]) ≡ true) (sym e) refl)))

has_out : (k : PadKind) (c : Case) → has_wires_of_modes k ≡ true → In k.mode.cases c → c.take ≡ TakeOut → (wire : List ℕ) × (k.out_wire ≡ Some wire)
has_out k c h i e =
    let parts = and_parts (not (list_any takes_in k.mode.cases) || is_some k.in_wire) (not (list_any takes_out k.mode.cases) || is_some k.out_wire) h in
    some_wire k.out_wire (imp_from (list_any takes_out k.mode.cases) (is_some k.out_wire) parts.1 (any_to takes_out k.mode.cases c i
    (subst (λ t. (elim t [ TakeOut ↦ true | _ ↦ false ]) ≡ true) (sym e) refl)))

-- ---- the whole

record Judgement (profile : Profile) : Type 0 where
  slices : first_fault (judged (slice_verdict profile.rules.other_chips)) profile.slices ≡ None
  slice_forms : (k : SliceKind) → In profile.slices k → (d : Data) × (slice_in d ≡ Some k)
  pads : first_fault (judged (pad_verdict profile.rules.other_chips profile.slices)) profile.pads ≡ None

module _ (profile : Profile) (j : Judgement profile) where
  abbrev others : List (List ℕ)
  others = profile.rules.other_chips

  each_slice : (k : SliceKind) → In profile.slices k → (earlier : List SliceKind) × SliceRules others earlier k
  each_slice k i = let r = each_faultless (judged (slice_verdict others)) [] profile.slices j.slices k i in (r.0, slice_kept others r.0 k r.1)

  each_pad : (k : PadKind) → In profile.pads k → (earlier : List PadKind) × PadRules others profile.slices earlier k
  each_pad k i = let r = each_faultless (judged (pad_verdict others profile.slices)) [] profile.pads j.pads k i in (r.0, pad_kept others profile.slices r.0 k r.1)

  slices_once : HasNoneTwice (map slice_name profile.slices)
  slices_once = keys_once (judged (slice_verdict others)) slice_name
      (λ before y x h i e. (slice_kept others before x h).new_name (subst (In (map slice_name before)) e (in_map slice_name before y i))) profile.slices j.slices

  pads_once : HasNoneTwice (map pad_name profile.pads)
  pads_once = keys_once (judged (pad_verdict others profile.slices)) pad_name
      (λ before y x h i e. (pad_kept others profile.slices before x h).new_name
      (in_right (map slice_name profile.slices) (map pad_name before) (pad_name x) (subst (In (map pad_name before)) e (in_map pad_name before y i)))) profile.pads j.pads

  -- no slice and no pad have one name
  sorts_apart : (name : KindName) → In (map slice_name profile.slices) name → In (map pad_name profile.pads) name → ⊥
  sorts_apart name a b =
      let r = of_map pad_name profile.pads name b in
      let k = each_pad r.0 r.1.0 in
      k.1.new_name (in_left (map slice_name profile.slices) (map pad_name k.0) (pad_name r.0) (subst (In (map slice_name profile.slices)) (sym r.1.1) a))

  judged_fit : IsFit profile
  judged_fit = record {
    kinds = joined_twice (map slice_name profile.slices) (map pad_name profile.pads) slices_once pads_once sorts_apart;
    counts = all_alike (judged (slice_verdict others)) Alike (λ k e. record { settings = refl; pins = refl; registers = refl }) counts_turned (counts_join others) profile.slices j.slices;
    some_pins = λ k t i l. (let f = j.slice_forms k i in (slice_pins f.0 k f.1 t l).0);
    few_pins = λ k t i l. (let f = j.slice_forms k i in (slice_pins f.0 k f.1 t l).1);
    slice_wires_own = λ k name i l. slice_own others k name (each_slice k i).1.wires l;
    pad_wires_own = λ k name i l. pad_own others k name (each_pad k i).1.wires l;
    in_wires = λ k c i l e. has_in k c (each_pad k i).1.modes l e;
    out_wires = λ k c i l e. has_out k c (each_pad k i).1.modes l e;
  }

-- what a profile is read as, member by member
module _ (d : Data) where
  abbrev made : Option (List ℕ) → List (List ℕ) → List (List ℕ) → List Join → List SliceKind → List PadKind → Profile
  made chip others wide joins slices pads = record { rules = record { chip_prefix = chip; other_chips = others; wide = wide }; joins = joins; slices = slices; pads = pads }

  abbrev after_slices : Option (List ℕ) → List (List ℕ) → List (List ℕ) → List Join → List SliceKind → Result Profile FormFault
  after_slices chip others wide joins slices = list_read (codes "pads") pad_in (pad_verdict others slices) d >>= λ pads. Ok (made chip others wide joins slices pads)

  abbrev after_joins : Option (List ℕ) → List (List ℕ) → List (List ℕ) → List Join → Result Profile FormFault
  after_joins chip others wide joins = list_read (codes "slices") slice_in (slice_verdict others) d >>= after_slices chip others wide joins

  abbrev after_wide : Option (List ℕ) → List (List ℕ) → List (List ℕ) → Result Profile FormFault
  after_wide chip others wide = list_read (codes "joins") join_in any_form d >>= after_joins chip others wide

  abbrev after_others : Option (List ℕ) → List (List ℕ) → Result Profile FormFault
  after_others chip others = list_read (codes "wide") name_in any_form d >>= after_wide chip others

  abbrev after_chip : Option (List ℕ) → Result Profile FormFault
  after_chip chip = list_read (codes "other_chips") name_in any_form d >>= after_others chip

  judged_made : (chip : Option (List ℕ)) (others wide : List (List ℕ)) (joins : List Join) (slices : List SliceKind) (pads : List PadKind) (profile : Profile)
      → list_read (codes "slices") slice_in (slice_verdict others) d ≡ Ok slices → list_read (codes "pads") pad_in (pad_verdict others slices) d ≡ Ok pads
      → (let r : Result Profile FormFault = Ok (made chip others wide joins slices pads) in r ≡ Ok profile) → Judgement profile
  judged_made chip others wide joins slices pads profile h k e =
      let s = list_judged (codes "slices") slice_in (slice_verdict others) d slices h in
      let p = list_judged (codes "pads") pad_in (pad_verdict others slices) d pads k in
      subst Judgement (same_value (made chip others wide joins slices pads) profile (Ok (made chip others wide joins slices pads)) refl e)
      (record { slices = s.0; slice_forms = s.1; pads = p.0 })

  -- the lists of a profile that is read pass their judges
  value_judged : (profile : Profile) → profile_of_value d ≡ Ok profile → Judgement profile
  unfolding profile_of_value
  value_judged profile h =
      let a = both (ok_or (member_in (codes "chip_prefix") name_or_empty_in d) (BadShape (codes "chip_prefix"))) after_chip profile h in
      let b = both (list_read (codes "other_chips") name_in any_form d) (after_others a.0) profile a.1.1 in
      let c = both (list_read (codes "wide") name_in any_form d) (after_wide a.0 b.0) profile b.1.1 in
      let j = both (list_read (codes "joins") join_in any_form d) (after_joins a.0 b.0 c.0) profile c.1.1 in
      let s = both (list_read (codes "slices") slice_in (slice_verdict b.0) d) (after_slices a.0 b.0 c.0 j.0) profile j.1.1 in
      let p = both (list_read (codes "pads") pad_in (pad_verdict b.0 s.0) d) (λ ps. Ok (made a.0 b.0 c.0 j.0 s.0 ps)) profile s.1.1 in
      judged_made a.0 b.0 c.0 j.0 s.0 p.0 profile s.1.0 p.1.0 p.1.1

-- a profile that is read fits
pub read_fit : (profile : Profile) → IsReadProfile profile → IsFit profile
read_fit profile read =
    let d = both (ok_or (reading_of read.0) NotJson) (λ d. ok_or (object_in d) (BadShape top_key) >>= λ _. profile_of_value d) profile read.1 in
    let o = both (ok_or (object_in d.0) (BadShape top_key)) (λ _. profile_of_value d.0) profile d.1.1 in
    judged_fit profile (value_judged d.0 profile o.1.1)

-- no two slice kinds of one type of tile have one name
pub read_slices_apart : (profile : Profile) → IsReadProfile profile → KindsApart (λ k. k.tile) (λ k. k.name) profile.slices
read_slices_apart profile read k l i j e f =
    let once = left_part (map slice_name profile.slices) (map pad_name profile.pads) (read_fit profile read).kinds in
    one_of_key slice_name profile.slices once k l i j (ap₂ (λ (a : List ℕ) (b : List ℕ). (a, b)) e f)

pub read_pads_apart : (profile : Profile) → IsReadProfile profile → KindsApart (λ k. k.tile) (λ k. k.name) profile.pads
read_pads_apart profile read k l i j e f =
    let once = right_part (map slice_name profile.slices) (map pad_name profile.pads) (read_fit profile read).kinds in
    one_of_key pad_name profile.pads once k l i j (ap₂ (λ (a : List ℕ) (b : List ℕ). (a, b)) e f)
