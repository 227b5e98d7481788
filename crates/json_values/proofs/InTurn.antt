-- A list is read one element after another, each behind those before it: the first element, then the rest.
use Rattle.std.proofs.Common.{◌≡◌, ℕ, ◌+◌, ◌<◌, ◌≤◌, List, [], ◌∷◌, ◌++◌, length, map, take, drop, get_or, Option, Some, None, Result, Ok, Err, refl, ap, sym, ◌∙◌, append_assoc, arith}
use Rattle.std.proofs.lemmas.List.{take_more, drop_more, map-append, length-map, length-take-le, length_push}
use Rattle.std.specs.Option.{ok_or}
use Rattle.std.specs.List.{filter_map, cons_option}
use Rattle.std.proofs.lemmas.List.Elements.{filter_map-append}
use Rattle.serde_json.specs.Data.{Data}
use Rattle.words.specs.Firsts.{first_fault_after, or_else, unless_fault}
use Rattle.json_forms.specs.Results.{◌>>=◌}
use Rattle.json_forms.specs.Faults.{FormFault, BadShape}
use Rattle.json_forms.proofs.OneByOne.{behind}
use Rattle.json_forms.specs.Lists.{Verdict, verdict_fault, element_key, element_verdict, element_fault, elements_read}
use Rattle.json_values.specs.Elements.{element_read}

-- what the elements of a list are read as, where some elements stand before the list
abbrev pub rest_read : {Y : Type 0} → List ℕ → (Data → Option Y) → (List Y → Y → Verdict) → List Data → List Data → Result (List Y) FormFault
rest_read name form judge before ds = unless_fault (first_fault_after (element_fault name form judge) before ds) (filter_map form ds)

fault_then_rest : {Y : Type 0} (fault rest : Option FormFault) (y : Y) (values : List Y)
    → unless_fault (or_else fault rest) (y ∷ values) ≡ (unless_fault fault y >>= λ z. unless_fault rest values >>= λ zs. Ok (z ∷ zs))
fault_then_rest None None y values = refl
fault_then_rest None (Some e) y values = refl
fault_then_rest (Some e) rest y values = refl

first_then_rest : {Y : Type 0} (key : List ℕ) (judge : List Y → Y → Verdict) (earlier : List Y) (found : Option Y) (rest : Option FormFault) (values : List Y)
    → unless_fault (or_else (verdict_fault key (element_verdict judge earlier found)) rest) (cons_option found values)
    ≡ ((ok_or found (BadShape key) >>= λ y. unless_fault (verdict_fault key (judge earlier y)) y) >>= λ z. unless_fault rest values >>= λ zs. Ok (z ∷ zs))
first_then_rest key judge earlier None rest values = refl
first_then_rest key judge earlier (Some y) rest values = fault_then_rest (verdict_fault key (judge earlier y)) rest y values

-- an element is read, and then the rest
rest_read-cons : {Y : Type 0} (name : List ℕ) (form : Data → Option Y) (judge : List Y → Y → Verdict) (before : List Data) (d : Data) (ds : List Data) (values : List Y)
    → filter_map form before ≡ values → length before ≡ length values
    → rest_read name form judge before (d ∷ ds)
    ≡ (element_read name form judge values d >>= λ y. rest_read name form judge (before ++ d ∷ []) ds >>= λ ys. Ok (y ∷ ys))
rest_read-cons name form judge before d ds values found number =
    rw (found, number) (first_then_rest (element_key name (length values)) judge values (form d) (first_fault_after (element_fault name form judge) (before ++ d ∷ []) ds) (filter_map form ds))

behind_nothing : {Y : Type 0} (rest : Result (List Y) FormFault) → behind [] rest ≡ rest
behind_nothing (Ok ys) = refl
behind_nothing (Err e) = refl

behind_value : {Y : Type 0} (values : List Y) (y : Y) (rest : Result (List Y) FormFault)
    → behind values (rest >>= λ ys. Ok (y ∷ ys)) ≡ behind (values ++ y ∷ []) rest
behind_value values y (Ok ys) = ap Ok (sym (append_assoc values (y ∷ []) ys))
behind_value values y (Err e) = refl

-- before the first element
pub none_yet : {Y : Type 0} (name : List ℕ) (form : Data → Option Y) (judge : List Y → Y → Verdict) (ds : List Data)
    → behind [] (rest_read name form judge [] ds) ≡ elements_read name form judge ds
unfolding elements_read
none_yet name form judge ds = behind_nothing (rest_read name form judge [] ds)

-- an element with a value
pub one_more_read : {Y : Type 0} (name : List ℕ) (form : Data → Option Y) (judge : List Y → Y → Verdict) (before : List Data) (d : Data) (ds : List Data) (values : List Y) (y : Y)
    → filter_map form before ≡ values → length before ≡ length values → element_read name form judge values d ≡ Ok y
    → behind values (rest_read name form judge before (d ∷ ds)) ≡ behind (values ++ y ∷ []) (rest_read name form judge (before ++ d ∷ []) ds)
one_more_read name form judge before d ds values y found number e =
    rw (rest_read-cons name form judge before d ds values found number, e) (behind_value values y (rest_read name form judge (before ++ d ∷ []) ds))

-- an element with a fault
pub one_faulty_read : {Y : Type 0} (name : List ℕ) (form : Data → Option Y) (judge : List Y → Y → Verdict) (before : List Data) (d : Data) (ds : List Data) (values : List Y) (e : FormFault)
    → filter_map form before ≡ values → length before ≡ length values → element_read name form judge values d ≡ Err e
    → behind values (rest_read name form judge before (d ∷ ds)) ≡ Err e
one_faulty_read name form judge before d ds values e found number is =
    rw (rest_read-cons name form judge before d ds values found number, is) refl

judged : {Y : Type 0} (fault : Option FormFault) (x y : Y) → unless_fault fault x ≡ Ok y → x ≡ y
judged None x y e = cc
judged (Some f) x y e = cc

found_of_read : {Y : Type 0} (key : List ℕ) (judge : List Y → Y → Verdict) (earlier : List Y) (found : Option Y) (y : Y)
    → (ok_or found (BadShape key) >>= λ z. unless_fault (verdict_fault key (judge earlier z)) z) ≡ Ok y → found ≡ Some y
found_of_read key judge earlier None y e = cc
found_of_read key judge earlier (Some x) y e = ap Some (judged (verdict_fault key (judge earlier x)) x y e)

-- an element that is read has a form
pub read_has_form : {Y : Type 0} (name : List ℕ) (form : Data → Option Y) (judge : List Y → Y → Verdict) (earlier : List Y) (d : Data) (y : Y)
    → element_read name form judge earlier d ≡ Ok y → form d ≡ Some y
read_has_form name form judge earlier d y e = found_of_read (element_key name (length earlier)) judge earlier (form d) y e

-- the elements that were read, with one more
pub found_more : {Y : Type 0} (form : Data → Option Y) (before : List Data) (d : Data) (values : List Y) (y : Y)
    → filter_map form before ≡ values → form d ≡ Some y → filter_map form (before ++ d ∷ []) ≡ values ++ y ∷ []
found_more form before d values y found e = rw (filter_map-append form before (d ∷ []), found, e) refl

-- the elements that stand for the first values of a list, with one more
seen_more : {V : Type 0} (view : V → Data) (all : List V) (i : ℕ) (v : V) → i < length all → v ≡ get_or all i v
    → map view (take (i + 1) all) ≡ map view (take i all) ++ view v ∷ []
seen_more view all i v within is = rw (take_more all i v within, ← is) (map-append view (take i all) (v ∷ []))

left_less : {V : Type 0} (view : V → Data) (all : List V) (i : ℕ) (v : V) → i < length all → v ≡ get_or all i v
    → map view (drop i all) ≡ view v ∷ map view (drop (i + 1) all)
left_less view all i v within is = rw (drop_more all i v within, ← is) refl

seen_count : {V : Type 0} (view : V → Data) (all : List V) (i : ℕ) → i ≤ length all → length (map view (take i all)) ≡ i
seen_count view all i within = simp length-map (length-take-le i all within)

-- The elements read up to a place of a list of values, and what is left.
pub record IsReadUpTo {V Y : Type 0} (view : V → Data) (name : List ℕ) (form : Data → Option Y) (judge : List Y → Y → Verdict) (all : List V) (i : ℕ) (values : List Y) : Type 0 where
  pub found : filter_map form (map view (take i all)) ≡ values
  pub count : i ≡ length values
  pub rest : behind values (rest_read name form judge (map view (take i all)) (map view (drop i all))) ≡ elements_read name form judge (map view all)

-- one element further
pub one_further : {V Y : Type 0} (view : V → Data) (name : List ℕ) (form : Data → Option Y) (judge : List Y → Y → Verdict) (all : List V) (i : ℕ) (v : V) (values : List Y) (y : Y)
    → i < length all → v ≡ get_or all i v → IsReadUpTo view name form judge all i values → element_read name form judge values (view v) ≡ Ok y
    → IsReadUpTo view name form judge all (i + 1) (values ++ y ∷ [])
one_further view name form judge all i v values y within is so_far read =
    let seen : map view (take (i + 1) all) ≡ map view (take i all) ++ view v ∷ [] = seen_more view all i v within is in
    let left : map view (drop i all) ≡ view v ∷ map view (drop (i + 1) all) = left_less view all i v within is in
    let number : length (map view (take i all)) ≡ length values = seen_count view all i (omega arith) ∙ so_far.count in
    let step = one_more_read name form judge (map view (take i all)) (view v) (map view (drop (i + 1) all)) values y so_far.found number read in
    record {
      found = rw seen (found_more form (map view (take i all)) (view v) values y so_far.found (read_has_form name form judge values (view v) y read));
      count = rw so_far.count (sym (length_push values y));
      rest = rw seen (sym step ∙ rw left at so_far.rest);
    }
