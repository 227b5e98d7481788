-- A side file of the form that is read is printed so that it is read back.
use Rattle.std.proofs.Common.{◌≡◌, ◌≤◌, ℕ, suc, Bool, true, false, inl, inr, List, [], ◌∷◌, ◌++◌, length, map, filter_map, Option, Some, None, cond, refl, ap, subst, ◌∙◌, arith}
use Rattle.std.specs.Prelude.{Result, Ok, Err, codes, nat_lt}
use Rattle.std.specs.List.{cons_option}
use Rattle.std.specs.Option.{ok_or}
use Rattle.std.proofs.lemmas.Bool.{ltb-false, le-ltb}
use Rattle.std.proofs.lemmas.List.{length-map}
use Rattle.json.proofs.Printed.Utf8.{IsUtf8-are_ascii}
use Rattle.serde_json.specs.Data.{Data, Members, no_members, member}
use Rattle.serde_json.specs.View.{items_of}
use Rattle.words.specs.Members.{In}
use Rattle.words.specs.Firsts.{first_fault_after, first_fault, unless_fault}
use Rattle.records.specs.Side.{Placed, Triple, Voter, Side}
use Rattle.json_forms.specs.Faults.{FormFault, NotJson, BadShape, top_key}
use Rattle.json_forms.specs.Results.{◌>>=◌}
use Rattle.json_forms.specs.Values.{elements, list_in, member_in, reading_of, object_in}
use Rattle.json_forms.specs.Lists.{element_key, verdict_fault, element_verdict, element_fault, elements_read, list_read, any_form}
use Rattle.side_form.specs.Placings.{placed_in, names_in, voter_in}
use Rattle.side_form.specs.Side.{SideFault, OfForm, clocks_read, side_in, side_fault, in_form, side_of}
use Rattle.side_form.specs.SidePrint.{list_value, placed_value, triple_value, voter_value, side_value, side_text}
use Rattle.cells_laws.proofs.Options.{none_or}
use Rattle.formed_laws.specs.Readers.{IsReadSide}
use Rattle.formed_laws.proofs.Elements.{list_judged}
use Rattle.formed_laws.proofs.Results.{both, no_fault}
use Rattle.text_laws.specs.Formed.{IsFormedCell, IsFormedTriple, IsFormedVoter, IsFormedSide}
use Rattle.text_laws.proofs.ReadBack.{IsPlain, line_read, values_plain, PlainMembers, object_plain, plain_within}
use Rattle.text_laws.proofs.SideForms.{placed_form, placed_back, placed_plain, triple_form, triple_back, triple_plain, voter_form, voter_back, voter_plain}

-- ---- what is read has the forms

-- elements of a member that is read
of_list : {Y : Type 0} (P : Y → Type 0) (name : List ℕ) (form : Data → Option Y) → ((d : Data) (y : Y) → form d ≡ Some y → P y)
    → (d : Data) (ys : List Y) → list_read name form any_form d ≡ Ok ys → (y : Y) → In ys y → P y
of_list P name form has d ys h y i = let r = (list_judged name form any_form d ys h).1 y i in has r.0 y r.1

filtered_few : {X Y : Type 0} (f : X → Option Y) (xs : List X) → length (filter_map f xs) ≤ length xs
filtered_few f [] = omega arith
filtered_few {X} {Y} f (x ∷ xs) = go (f x) (filtered_few f xs)
  where
    go : (o : Option Y) → length (filter_map f xs) ≤ length xs → length (cons_option o (filter_map f xs)) ≤ suc (length xs)
    go None h = omega arith
    go (Some y) h = omega arith

-- the triples of clocks, of which there is at most one
abbrev clocks_of : List Data → Result (List Triple) FormFault
clocks_of ds = cond (nat_lt 1 (length ds)) (Err (BadShape (codes "clocks"))) (elements_read (codes "clocks") names_in any_form ds)

clocks_from : (ds : List Data) (ts : List Triple) (b : Bool) → nat_lt 1 (length ds) ≡ b
    → (let r : Result (List Triple) FormFault = cond b (Err (BadShape (codes "clocks"))) (elements_read (codes "clocks") names_in any_form ds) in r ≡ Ok ts)
    → (elements_read (codes "clocks") names_in any_form ds ≡ Ok ts) × (length ts ≤ 1)
unfolding elements_read
clocks_from ds ts true e h = absurd (let no : ⊥ = cc in no)
clocks_from ds ts false e h =
    let n = no_fault (first_fault (element_fault (codes "clocks") names_in any_form) ds) (filter_map names_in ds) ts h in
    let few : length ds ≤ 1 = ltb-false 1 (length ds) e in
    (h, subst (λ us. length us ≤ 1) n.1 (omega (arith, filtered_few names_in ds)))

clocks_form : (d : Data) (ts : List Triple) → clocks_read d ≡ Ok ts → (list_read (codes "clocks") names_in any_form d ≡ Ok ts) × (length ts ≤ 1)
clocks_form d ts h =
    let r = both (ok_or (member_in (codes "clocks") list_in d) (BadShape (codes "clocks"))) clocks_of ts h in
    let c = clocks_from r.0 ts (nat_lt 1 (length r.0)) refl r.1.1 in
    (ap (λ o. o >>= elements_read (codes "clocks") names_in any_form) r.1.0 ∙ c.0, c.1)

-- a side file of seven lists
abbrev side_with : (slices pads : Result (List Placed) FormFault) (triples inputs outputs clocks : Result (List Triple) FormFault) (voters : Result (List Voter) FormFault) → Result Side FormFault
side_with slices pads triples inputs outputs clocks voters =
    slices >>= λ s. pads >>= λ p. triples >>= λ t. inputs >>= λ i. outputs >>= λ o. clocks >>= λ c. voters >>= λ v.
    Ok (record { slices = s; pads = p; triples = t; inputs = i; outputs = o; clocks = c; voters = v })

record AreLists (side : Side) (slices pads : Result (List Placed) FormFault) (triples inputs outputs clocks : Result (List Triple) FormFault) (voters : Result (List Voter) FormFault) : Type 0 where
  slices_are : slices ≡ Ok side.slices
  pads_are : pads ≡ Ok side.pads
  triples_are : triples ≡ Ok side.triples
  inputs_are : inputs ≡ Ok side.inputs
  outputs_are : outputs ≡ Ok side.outputs
  clocks_are : clocks ≡ Ok side.clocks
  voters_are : voters ≡ Ok side.voters

side_parts : (s p : Result (List Placed) FormFault) (t i o c : Result (List Triple) FormFault) (v : Result (List Voter) FormFault) (side : Side)
    → side_with s p t i o c v ≡ Ok side → AreLists side s p t i o c v
side_parts (Err e) p t i o c v side h = absurd (let no : ⊥ = cc in no)
side_parts (Ok s) (Err e) t i o c v side h = absurd (let no : ⊥ = cc in no)
side_parts (Ok s) (Ok p) (Err e) i o c v side h = absurd (let no : ⊥ = cc in no)
side_parts (Ok s) (Ok p) (Ok t) (Err e) o c v side h = absurd (let no : ⊥ = cc in no)
side_parts (Ok s) (Ok p) (Ok t) (Ok i) (Err e) c v side h = absurd (let no : ⊥ = cc in no)
side_parts (Ok s) (Ok p) (Ok t) (Ok i) (Ok o) (Err e) v side h = absurd (let no : ⊥ = cc in no)
side_parts (Ok s) (Ok p) (Ok t) (Ok i) (Ok o) (Ok c) (Err e) side h = absurd (let no : ⊥ = cc in no)
side_parts (Ok s) (Ok p) (Ok t) (Ok i) (Ok o) (Ok c) (Ok v) side h =
    let same : record { slices = s; pads = p; triples = t; inputs = i; outputs = o; clocks = c; voters = v } ≡ side = cc in
    record {
      slices_are = ap (λ (x : Side). Ok x.slices) same;
      pads_are = ap (λ (x : Side). Ok x.pads) same;
      triples_are = ap (λ (x : Side). Ok x.triples) same;
      inputs_are = ap (λ (x : Side). Ok x.inputs) same;
      outputs_are = ap (λ (x : Side). Ok x.outputs) same;
      clocks_are = ap (λ (x : Side). Ok x.clocks) same;
      voters_are = ap (λ (x : Side). Ok x.voters) same;
    }

side_forms : (d : Data) (side : Side) → side_in d ≡ Ok side → side_fault side ≡ None → IsFormedSide side
unfolding side_in
side_forms d side h right =
    let l = side_parts (list_read (codes "slices") placed_in any_form d) (list_read (codes "pads") placed_in any_form d) (list_read (codes "triples") names_in any_form d)
    (list_read (codes "inputs") names_in any_form d) (list_read (codes "outputs") names_in any_form d) (clocks_read d) (list_read (codes "voters") voter_in any_form d) side h in
    let c = clocks_form d side.clocks l.clocks_are in
    record {
      slices = of_list IsFormedCell (codes "slices") placed_in placed_form d side.slices l.slices_are;
      pads = of_list IsFormedCell (codes "pads") placed_in placed_form d side.pads l.pads_are;
      triples = of_list IsFormedTriple (codes "triples") names_in triple_form d side.triples l.triples_are;
      inputs = of_list IsFormedTriple (codes "inputs") names_in triple_form d side.inputs l.inputs_are;
      outputs = of_list IsFormedTriple (codes "outputs") names_in triple_form d side.outputs l.outputs_are;
      clocks = of_list IsFormedTriple (codes "clocks") names_in triple_form d side.clocks c.0;
      one_clock = c.1;
      voters = of_list IsFormedVoter (codes "voters") voter_in voter_form d side.voters l.voters_are;
      no_fault = right;
    }

-- ---- what has the forms is read back

elements_same : (ds : List Data) → elements (items_of ds) ≡ ds
elements_same [] = refl
elements_same (d ∷ ds) = ap (λ es. d ∷ es) (elements_same ds)

module _ {Y : Type 0} (name : List ℕ) (form : Data → Option Y) (value : Y → Data) where
  faultless : (before : List Data) (ys : List Y) → ((y : Y) → In ys y → form (value y) ≡ Some y) → first_fault_after (element_fault name form any_form) before (map value ys) ≡ None
  faultless before [] h = refl
  faultless before (y ∷ ys) h =
      none_or (element_fault name form any_form before (value y)) (first_fault_after (element_fault name form any_form) (before ++ value y ∷ []) (map value ys))
      (ap (λ o. verdict_fault (element_key name (length before)) (element_verdict any_form (filter_map form before) o)) (h y (inl refl)))
      (faultless (before ++ value y ∷ []) ys (λ z i. h z (inr i)))

  all_back : (ys : List Y) → ((y : Y) → In ys y → form (value y) ≡ Some y) → filter_map form (map value ys) ≡ ys
  all_back [] h = refl
  all_back (y ∷ ys) h = ap (λ o. cons_option o (filter_map form (map value ys))) (h y (inl refl)) ∙ ap (λ zs. y ∷ zs) (all_back ys (λ z i. h z (inr i)))

  elements_back : (ys : List Y) → ((y : Y) → In ys y → form (value y) ≡ Some y) → elements_read name form any_form (map value ys) ≡ Ok ys
  unfolding elements_read
  elements_back ys h = ap (λ f. unless_fault f (filter_map form (map value ys))) (faultless [] ys h) ∙ ap (λ zs. Ok zs) (all_back ys h)

  list_back : (d : Data) (ys : List Y) → member_in name list_in d ≡ Some (map value ys) → ((y : Y) → In ys y → form (value y) ≡ Some y) → list_read name form any_form d ≡ Ok ys
  list_back d ys e h = ap (λ o. ok_or o (BadShape name) >>= elements_read name form any_form) e ∙ elements_back ys h

clocks_back : (d : Data) (ts : List Triple) → member_in (codes "clocks") list_in d ≡ Some (map triple_value ts) → ((t : Triple) → In ts t → names_in (triple_value t) ≡ Some t) → length ts ≤ 1
    → clocks_read d ≡ Ok ts
clocks_back d ts e h few =
    let short : length (map triple_value ts) ≤ 1 = omega (arith, length-map ts triple_value) in
    ap (λ o. ok_or o (BadShape (codes "clocks")) >>= clocks_of) e
    ∙ ap (λ b. cond b (Err (BadShape (codes "clocks"))) (elements_read (codes "clocks") names_in any_form (map triple_value ts))) (le-ltb 1 (length (map triple_value ts)) short)
    ∙ elements_back (codes "clocks") names_in triple_value ts h

side_made : (s p : Result (List Placed) FormFault) (t i o c : Result (List Triple) FormFault) (v : Result (List Voter) FormFault) (side : Side)
    → AreLists side s p t i o c v → side_with s p t i o c v ≡ Ok side
side_made s p t i o c v side l = rw (l.slices_are, l.pads_are, l.triples_are, l.inputs_are, l.outputs_are, l.clocks_are, l.voters_are)

-- the lists that an object has
there : {Y : Type 0} (value : Y → Data) (ys : List Y) → Some (elements (items_of (map value ys))) ≡ Some (map value ys)
there value ys = ap (λ ds. Some ds) (elements_same (map value ys))

side_back : (side : Side) → IsFormedSide side → side_in (side_value side) ≡ Ok side
unfolding side_in
side_back side h =
    let d = side_value side in
    side_made (list_read (codes "slices") placed_in any_form d) (list_read (codes "pads") placed_in any_form d) (list_read (codes "triples") names_in any_form d)
    (list_read (codes "inputs") names_in any_form d) (list_read (codes "outputs") names_in any_form d) (clocks_read d) (list_read (codes "voters") voter_in any_form d) side
    (record {
      slices_are = list_back (codes "slices") placed_in placed_value d side.slices (there placed_value side.slices) (λ p i. placed_back p (h.slices p i));
      pads_are = list_back (codes "pads") placed_in placed_value d side.pads (there placed_value side.pads) (λ p i. placed_back p (h.pads p i));
      triples_are = list_back (codes "triples") names_in triple_value d side.triples (there triple_value side.triples) (λ t i. triple_back t (h.triples t i));
      inputs_are = list_back (codes "inputs") names_in triple_value d side.inputs (there triple_value side.inputs) (λ t i. triple_back t (h.inputs t i));
      outputs_are = list_back (codes "outputs") names_in triple_value d side.outputs (there triple_value side.outputs) (λ t i. triple_back t (h.outputs t i));
      clocks_are = clocks_back d side.clocks (there triple_value side.clocks) (λ t i. triple_back t (h.clocks t i)) h.one_clock;
      voters_are = list_back (codes "voters") voter_in voter_value d side.voters (there voter_value side.voters) (λ v i. voter_back v (h.voters v i));
    })

-- ---- what has the forms is printed so that JSON reads it back

abbrev side_members : Side → Members
side_members side =
    member (codes "clocks") (list_value (map triple_value side.clocks))
    (member (codes "inputs") (list_value (map triple_value side.inputs))
    (member (codes "outputs") (list_value (map triple_value side.outputs))
    (member (codes "pads") (list_value (map placed_value side.pads))
    (member (codes "slices") (list_value (map placed_value side.slices))
    (member (codes "triples") (list_value (map triple_value side.triples))
    (member (codes "voters") (list_value (map voter_value side.voters)) no_members))))))

members_plain : (side : Side) → IsFormedSide side → PlainMembers 2 (side_members side)
members_plain side h = (
  IsUtf8-are_ascii (codes "clocks") refl,
  values_plain 1 triple_value side.clocks (λ t i. triple_plain t (h.clocks t i)),
  (
    IsUtf8-are_ascii (codes "inputs") refl,
    values_plain 1 triple_value side.inputs (λ t i. triple_plain t (h.inputs t i)),
    (
      IsUtf8-are_ascii (codes "outputs") refl,
      values_plain 1 triple_value side.outputs (λ t i. triple_plain t (h.outputs t i)),
      (
        IsUtf8-are_ascii (codes "pads") refl,
        values_plain 1 placed_value side.pads (λ p i. placed_plain p (h.pads p i)),
        (
          IsUtf8-are_ascii (codes "slices") refl,
          values_plain 1 placed_value side.slices (λ p i. placed_plain p (h.slices p i)),
          (
            IsUtf8-are_ascii (codes "triples") refl,
            values_plain 1 triple_value side.triples (λ t i. triple_plain t (h.triples t i)),
            (
              IsUtf8-are_ascii (codes "voters") refl,
              values_plain 1 voter_value side.voters (λ v i. voter_plain v (h.voters v i)),
              tt,
            ),
          ),
        ),
      ),
    ),
  ),
)

side_plain : (side : Side) → IsFormedSide side → IsPlain 3 (side_value side)
side_plain side h = object_plain 2 (side_members side) (members_plain side h) refl

-- ---- the whole

-- what stands behind the reading of JSON
abbrev of_value : Data → Result Side SideFault
of_value d = ok_or (object_in d) (OfForm (BadShape top_key)) >>= λ _. in_form (side_in d) >>= λ side. unless_fault (side_fault side) side

pub side_read_back : (side : Side) → IsFormedSide side → side_of (side_text side) ≡ Ok side
side_read_back side h =
    ap (λ o. ok_or o (OfForm NotJson) >>= of_value) (line_read (side_value side) (plain_within 3 127 (side_value side) (omega arith) (side_plain side h)))
    ∙ ap (λ r. in_form r >>= λ s. unless_fault (side_fault s) s) (side_back side h) ∙ ap (λ f. unless_fault f side) h.no_fault

-- a side file that is read has the form
pub side_formed : (side : Side) → IsReadSide side → IsFormedSide side
side_formed side read =
    let d = both (ok_or (reading_of read.0) (OfForm NotJson)) of_value side read.1 in
    let o = both (ok_or (object_in d.0) (OfForm (BadShape top_key))) (λ _. in_form (side_in d.0) >>= λ side. unless_fault (side_fault side) side) side d.1.1 in
    let s = both (in_form (side_in d.0)) (λ side. unless_fault (side_fault side) side) side o.1.1 in
    let n = no_fault (side_fault s.0) s.0 side s.1.1 in
    side_forms d.0 side (was_in_form (side_in d.0) side (s.1.0 ∙ ap (λ x. Ok x) n.1)) (subst (λ x. side_fault x ≡ None) n.1 n.0)
  where
    was_in_form : (r : Result Side FormFault) (side : Side) → in_form r ≡ Ok side → r ≡ Ok side
    was_in_form (Ok x) side e = let same : x ≡ side = cc in ap (λ y. Ok y) same
    was_in_form (Err f) side e = absurd (let no : ⊥ = cc in no)
