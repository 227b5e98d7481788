-- The places of names, as one more name comes, and what stands there.
use Rattle.std.proofs.Common.{◌≡◌, ℕ, zero, suc, Bool, true, false, cond, List, [], ◌∷◌, ◌++◌, length, map, Option, None, Some, option_map, refl, sym, ap, ◌∙◌, bytes_eq, nat_cmp, Bor}
use Rattle.std.specs.Prelude.{is_some, slice_get, option_and_then, if◌then◌else◌}
use Rattle.std.specs.Ordering.{is_eq}
use Rattle.std.specs.Option.{option_or}
use Rattle.std.specs.BTreeMap.{BTreeMap, get}
use Rattle.std.specs.Cmp.Lexicographic.{slice_cmp}
use Rattle.std.proofs.lemmas.Map.Text.{is_eq-slice_cmp}
use Rattle.std.proofs.lemmas.Slice.Eq.{bytes_eq-Decides}
use Rattle.database_names.specs.Places.{place_in, named_in, HoldsPlaces}

-- the place among one more name: where it was, or else the new one where it is the name
abbrev pub last_place : Bool → ℕ → Option ℕ
last_place true n = Some n
last_place false n = None

one_more_of : (same : Bool) (o : Option ℕ) (b : Bool) (n : ℕ) → (if same then Some zero else option_map suc (option_or o (last_place b n))) ≡ option_or (if same then Some zero else option_map suc o) (last_place b (suc n))
one_more_of true o b n = refl
one_more_of false None true n = refl
one_more_of false None false n = refl
one_more_of false (Some i) b n = refl

pub one_more : (names : List (List ℕ)) (last name : List ℕ) → place_in (names ++ last ∷ []) name ≡ option_or (place_in names name) (last_place (bytes_eq last name) (length names))
one_more [] last name = of_bit (bytes_eq last name)
  where
    of_bit : (b : Bool) → (if b then Some zero else None) ≡ last_place b zero
    of_bit true = refl
    of_bit false = refl
one_more (other ∷ names) last name =
    ap (λ o. if bytes_eq other name then Some zero else option_map suc o) (one_more names last name)
    ∙ one_more_of (bytes_eq other name) (place_in names name) (bytes_eq last name) (length names)

-- a map that gets a name that it hasn't
pub with_new : (names : List (List ℕ)) (name : Bor (List ℕ)) (place : ℕ) (old new : BTreeMap (Bor (List ℕ)) ℕ) → length names ≡ place → HoldsPlaces names old
    → is_some (get (λ a b. slice_cmp nat_cmp a.now b.now) old name) ≡ false
    → ((q : Bor (List ℕ)) → get (λ a b. slice_cmp nat_cmp a.now b.now) new q ≡ cond (is_eq (slice_cmp nat_cmp name.now q.now)) (Some place) (get (λ a b. slice_cmp nat_cmp a.now b.now) old q))
    → HoldsPlaces (names ++ name.now ∷ []) new
with_new names name place old new long held absent updated q =
    updated q ∙ (rw (is_eq-slice_cmp name.now q.now, held q) (of_bit (bytes_eq name.now q.now) refl) ∙ sym (one_more names name.now q.now))
  where
    none_of : (o : Option ℕ) → is_some o ≡ false → o ≡ None
    none_of None e = refl
    none_of (Some x) e = absurd (let no : ⊥ = cc in no)

    of_bit : (b : Bool) → bytes_eq name.now q.now ≡ b → cond b (Some place) (place_in names q.now) ≡ option_or (place_in names q.now) (last_place b (length names))
    of_bit true e =
        let same : name.now ≡ q.now = (bytes_eq-Decides name.now q.now).0 e in
        let missing : place_in names q.now ≡ None = ap (place_in names) (sym same) ∙ (sym (held name) ∙ none_of _ absent) in
        rw (missing, long) refl
    of_bit false e = of_none (place_in names q.now)
      where
        of_none : (o : Option ℕ) → o ≡ option_or o None
        of_none None = refl
        of_none (Some x) = refl

-- a map that has the name already
pub with_known : (names : List (List ℕ)) (name : Bor (List ℕ)) (old : BTreeMap (Bor (List ℕ)) ℕ) → HoldsPlaces names old
    → is_some (get (λ a b. slice_cmp nat_cmp a.now b.now) old name) ≡ true → HoldsPlaces (names ++ name.now ∷ []) old
with_known names name old held known q = held q ∙ (of_bit (bytes_eq name.now q.now) refl ∙ sym (one_more names name.now q.now))
  where
    some_of : (o : Option ℕ) (p : Option ℕ) → is_some o ≡ true → o ≡ option_or o p
    some_of None p e = absurd (let no : ⊥ = cc in no)
    some_of (Some x) p e = refl

    of_none : (o : Option ℕ) → o ≡ option_or o None
    of_none None = refl
    of_none (Some x) = refl

    of_bit : (b : Bool) → bytes_eq name.now q.now ≡ b → place_in names q.now ≡ option_or (place_in names q.now) (last_place b (length names))
    of_bit true e =
        let same : name.now ≡ q.now = (bytes_eq-Decides name.now q.now).0 e in
        some_of (place_in names q.now) (Some (length names)) (ap (λ n. is_some (place_in names n)) (sym same) ∙ (ap is_some (sym (held name)) ∙ known))
    of_bit false e = of_none (place_in names q.now)

-- what stands at the place of a name is the first record of it
pub stands_there : {X : Type 0} (named : X → List ℕ) (items : List X) (name : List ℕ) → option_and_then (slice_get items) (place_in (map named items) name) ≡ named_in named items name
stands_there named [] name = refl
stands_there named (x ∷ xs) name = of_bit (bytes_eq (named x) name) ∙ ap (λ o. if bytes_eq (named x) name then Some x else o) (stands_there named xs name)
  where
    later : (o : Option ℕ) → option_and_then (slice_get (x ∷ xs)) (option_map suc o) ≡ option_and_then (slice_get xs) o
    later None = refl
    later (Some i) = refl

    of_bit : (b : Bool) → option_and_then (slice_get (x ∷ xs)) (if b then Some zero else option_map suc (place_in (map named xs) name)) ≡ (if b then Some x else option_and_then (slice_get xs) (place_in (map named xs) name))
    of_bit true = refl
    of_bit false = later (place_in (map named xs) name)

pub found : {X : Type 0} (named : X → List ℕ) (items : List X) (name : List ℕ) (place : ℕ) → Some place ≡ place_in (map named items) name → slice_get items place ≡ named_in named items name
found named items name place e = ap (option_and_then (slice_get items)) e ∙ stands_there named items name

pub not_found : {X : Type 0} (named : X → List ℕ) (items : List X) (name : List ℕ) → None ≡ place_in (map named items) name → None ≡ named_in named items name
not_found named items name e = ap (option_and_then (slice_get items)) e ∙ stands_there named items name
