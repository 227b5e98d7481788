-- What a side file says that a reader takes.
use Rattle.std.proofs.Common.{◌≡◌, ℕ, Bool, true, false, not, inl, inr, List, [], ◌∷◌, ◌++◌, map, flat_map, find, Option, Some, None, option_map, refl, sym, ap, subst, append_assoc}
use Rattle.std.specs.Prelude.{◌&&◌, ◌||◌, if◌then◌else◌}
use Rattle.std.specs.List.{list_any}
use Rattle.std.specs.Option.{ok_or}
use Rattle.std.specs.Set.{is_member}
use Rattle.std.specs.Str.{bytes_eq}
use Rattle.std.proofs.lemmas.Bool.{false≢true, and_parts, and_from}
use Rattle.std.proofs.lemmas.Slice.Eq.{bytes_eq-Decides}
use Rattle.words.specs.Members.{In}
use Rattle.words.specs.Firsts.{or_else, first_fault, unless_fault}
use Rattle.words.specs.Twice.{HasNoneTwice}
use Rattle.records.specs.Side.{Domain, D0, D1, D2, Placed, Triple, Side}
use Rattle.json_forms.specs.Faults.{NotJson, BadShape, top_key}
use Rattle.json_forms.specs.Results.{◌>>=◌}
use Rattle.json_forms.specs.Values.{reading_of, object_in}
use Rattle.side_form.specs.Side.{OfForm, DuplicateName, Unpaired, WrongDomain, side_in, size_fault, same_site, cell_fault, names_of_triples, entry_fault, voter_fault, pad_triples, second_use, cell_names, first_outside, unknown_name, unpaired, same_domain, entries_of_triple, is_in_domain, first_elsewhere, wrong_domain, side_fault, in_form}
use Rattle.circuit.specs.Triples.{names_of, all_triples}
use Rattle.links.proofs.Members.{in_map, of_flat_map, in_flat_map}
use Rattle.fabric_laws.proofs.Members.{any_from, any_to}
use Rattle.cells_laws.proofs.Options.{or_none}
use Rattle.formed_laws.specs.Readers.{IsReadSide}
use Rattle.formed_laws.specs.SideRead.{site_of, Lists, EntriesAre, IsPaired, IsApart}
use Rattle.formed_laws.proofs.Found.{all_pass}
use Rattle.formed_laws.proofs.Judged.{keys_once}
use Rattle.formed_laws.proofs.Results.{both, no_fault}

-- a fault that is named where a test passes
not_passed : {E : Type 0} (b : Bool) (e : E) → (if b then Some e else None) ≡ None → b ≡ true → ⊥
not_passed true e h t = let no : ⊥ = cc in no
not_passed false e h t = false≢true t

none_mapped : {X Y : Type 0} (f : X → Y) (o : Option X) → option_map f o ≡ None → o ≡ None
none_mapped f None h = refl
none_mapped f (Some x) h = absurd (let no : ⊥ = cc in no)

-- a name is one of some others
is_listed : (names : List (List ℕ)) (name : List ℕ) → is_member bytes_eq names name ≡ true → In names name
is_listed names name h = let r = any_from (bytes_eq name) names h in subst (In names) (sym ((bytes_eq-Decides name r.0).0 r.2)) r.1

listed_is : (names : List (List ℕ)) (name : List ℕ) → In names name → is_member bytes_eq names name ≡ true
listed_is names name i = any_to (bytes_eq name) names name i ((bytes_eq-Decides name name).1 refl)

all_listed : (names listed : List (List ℕ)) → first_outside names listed ≡ None → (name : List ℕ) → In names name → In listed name
all_listed names listed h name i = is_listed listed name (all_pass (is_member bytes_eq listed) names h name i)

same_domain_is : (d e : Domain) → same_domain d e ≡ true → d ≡ e
same_domain_is D0 D0 h = refl
same_domain_is D0 D1 h = absurd (false≢true h)
same_domain_is D0 D2 h = absurd (false≢true h)
same_domain_is D1 D0 h = absurd (false≢true h)
same_domain_is D1 D1 h = refl
same_domain_is D1 D2 h = absurd (false≢true h)
same_domain_is D2 D0 h = absurd (false≢true h)
same_domain_is D2 D1 h = absurd (false≢true h)
same_domain_is D2 D2 h = refl

in_domain : (cells : List Placed) (name : List ℕ) (d : Domain) → is_in_domain cells (name, d) ≡ true → Lists cells name d
in_domain cells name d h =
    let r = any_from (λ cell. bytes_eq cell.name name && same_domain cell.domain d) cells h in
    let parts = and_parts (bytes_eq r.0.name name) (same_domain r.0.domain d) r.2 in
    (r.0, (r.1, (bytes_eq-Decides r.0.name name).0 parts.0, same_domain_is r.0.domain d parts.1))

-- each entry of some triples is in the domain of its place, where none is elsewhere
entries_are : (cells : List Placed) (triples : List Triple) → first_elsewhere cells triples ≡ None → (t : Triple) → In triples t → EntriesAre cells t
entries_are cells triples h t i = record {
  first = at t.first D0 (inl refl);
  second = at t.second D1 (inr (inl refl));
  third = at t.third D2 (inr (inr (inl refl)));
}
  where
    at : (name : List ℕ) (d : Domain) → In (entries_of_triple t) (name, d) → Lists cells name d
    at name d j = in_domain cells name d (all_pass (is_in_domain cells) (flat_map entries_of_triple triples)
        (none_mapped (λ (entry : List ℕ × Domain). entry.0) (find (λ entry. not (is_in_domain cells entry)) (flat_map entries_of_triple triples)) h)
        (name, d) (in_flat_map entries_of_triple triples t (name, d) i j))

-- a cell behind others has a name and a site of its own
abbrev used_by : Placed → Placed → Bool
used_by cell other = bytes_eq other.name cell.name || same_site other cell

or_left : (a b : Bool) → a ≡ true → a || b ≡ true
or_left true b h = refl
or_left false b h = absurd (false≢true h)

or_right : (a b : Bool) → b ≡ true → a || b ≡ true
or_right true b h = refl
or_right false b h = h

sees_name : (before : List Placed) (y x : Placed) → cell_fault before x ≡ None → In before y → y.name ≡ x.name → ⊥
sees_name before y x h i e =
    not_passed (list_any (used_by x) before) (DuplicateName x.name) h
    (any_to (used_by x) before y i (or_left (bytes_eq y.name x.name) (same_site y x) ((bytes_eq-Decides y.name x.name).1 e)))

sees_site : (before : List Placed) (y x : Placed) → cell_fault before x ≡ None → In before y → site_of y ≡ site_of x → ⊥
sees_site before y x h i e =
    not_passed (list_any (used_by x) before) (DuplicateName x.name) h
    (any_to (used_by x) before y i (or_right (bytes_eq y.name x.name) (same_site y x)
    (and_from (bytes_eq y.tile x.tile) (bytes_eq y.kind x.kind) ((bytes_eq-Decides y.tile x.tile).1 (ap (λ k. k.0) e)) ((bytes_eq-Decides y.kind x.kind).1 (ap (λ k. k.1) e)))))

sees_entry : (before : List (List ℕ)) (y x : List ℕ) → entry_fault before x ≡ None → In before y → y ≡ x → ⊥
sees_entry before y x h i e = not_passed (is_member bytes_eq before x) (DuplicateName x) h (listed_is before x (subst (In before) e i))

-- each of some cells is in a triple, where none is outside
all_paired : (cells : List Placed) (triples : List Triple) → first_outside (cell_names cells) (names_of_triples triples) ≡ None
    → (p : Placed) → In cells p → IsPaired triples p.name
all_paired cells triples h p i =
    let r = of_flat_map names_of triples p.name (all_listed (cell_names cells) (names_of_triples triples) h p.name (in_map (λ (cell : Placed). cell.name) cells p i)) in
    (r.0, (r.1.0, r.1.1))

map_itself : {X : Type 0} (xs : List X) → map (λ x. x) xs ≡ xs
map_itself [] = refl
map_itself (x ∷ xs) = ap (λ ys. x ∷ ys) (map_itself xs)

all_in_one : (side : Side) → side.triples ++ pad_triples side ≡ all_triples side
all_in_one side = simp append_assoc

entries_once : (side : Side) → first_fault entry_fault (names_of_triples (side.triples ++ pad_triples side)) ≡ None → HasNoneTwice (flat_map names_of (all_triples side))
entries_once side h =
    subst (λ triples. HasNoneTwice (flat_map names_of triples)) (all_in_one side)
    (subst HasNoneTwice (map_itself (names_of_triples (side.triples ++ pad_triples side)))
    (keys_once entry_fault (λ name. name) sees_entry (names_of_triples (side.triples ++ pad_triples side)) h))

-- what has no fault is as a circuit needs it
apart_of_parts : (side : Side) → second_use side ≡ None → unpaired side ≡ None → wrong_domain side ≡ None → IsApart side
apart_of_parts side used missing elsewhere =
    let uses = or_none (first_fault cell_fault (side.slices ++ side.pads)) (or_else (first_fault entry_fault (names_of_triples (side.triples ++ pad_triples side))) (first_fault voter_fault side.voters)) used in
    let entries = or_none (first_fault entry_fault (names_of_triples (side.triples ++ pad_triples side))) (first_fault voter_fault side.voters) uses.1 in
    let slices_missing = first_outside (cell_names side.slices) (names_of_triples side.triples) in
    let pads_missing = first_outside (cell_names side.pads) (names_of_triples (pad_triples side)) in
    let pairs = or_none slices_missing pads_missing (none_mapped Unpaired (or_else slices_missing pads_missing) missing) in
    let slices_elsewhere = first_elsewhere side.slices side.triples in
    let pads_elsewhere = first_elsewhere side.pads (pad_triples side) in
    let places = or_none slices_elsewhere pads_elsewhere (none_mapped WrongDomain (or_else slices_elsewhere pads_elsewhere) elsewhere) in
    record {
      names = keys_once cell_fault (λ p. p.name) sees_name (side.slices ++ side.pads) uses.0;
      sites = keys_once cell_fault site_of sees_site (side.slices ++ side.pads) uses.0;
      slice_entries = entries_are side.slices side.triples places.0;
      pad_entries = entries_are side.pads (pad_triples side) places.1;
      slices_paired = all_paired side.slices side.triples pairs.0;
      pads_paired = all_paired side.pads (pad_triples side) pairs.1;
      entries = entries_once side entries.0;
    }

no_fault_apart : (side : Side) → side_fault side ≡ None → IsApart side
no_fault_apart side h =
    let a = or_none (size_fault side) (or_else (second_use side) (or_else (unknown_name side) (or_else (unpaired side) (wrong_domain side)))) h in
    let b = or_none (second_use side) (or_else (unknown_name side) (or_else (unpaired side) (wrong_domain side))) a.1 in
    let c = or_none (unknown_name side) (or_else (unpaired side) (wrong_domain side)) b.1 in
    let d = or_none (unpaired side) (wrong_domain side) c.1 in
    apart_of_parts side b.0 d.0 d.1

-- a side file that is read has no fault
pub read_apart : (side : Side) → IsReadSide side → IsApart side
read_apart side read =
    let d = both (ok_or (reading_of read.0) (OfForm NotJson)) (λ d. ok_or (object_in d) (OfForm (BadShape top_key)) >>= λ _. in_form (side_in d) >>= λ side. unless_fault (side_fault side) side) side read.1 in
    let o = both (ok_or (object_in d.0) (OfForm (BadShape top_key))) (λ _. in_form (side_in d.0) >>= λ side. unless_fault (side_fault side) side) side d.1.1 in
    let s = both (in_form (side_in d.0)) (λ side. unless_fault (side_fault side) side) side o.1.1 in
    let n = no_fault (side_fault s.0) s.0 side s.1.1 in
    subst IsApart n.1 (no_fault_apart s.0 n.0)
