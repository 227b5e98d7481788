-- What the numbers of triples tell.
use Rattle.std.proofs.Common.{◌≡◌, ◌↔◌, ◌+◌, ◌<◌, ◌≤◌, ℕ, Bool, true, false, cond, List, [], ◌∷◌, length, map, get_or, position, nat_lt, bytes_eq, find, unwrap_or, Option, Some, None, refl, sym, ap, subst, ◌∙◌, Bor, ◌⊎◌, inl, inr, arith}
use Rattle.std.specs.Prelude.{IsTrue, slice_get}
use Rattle.std.specs.List.{position_or_len}
use Rattle.std.specs.BTreeMap.{BTreeMap}
use Rattle.std.proofs.lemmas.Bool.{false≢true}
use Rattle.std.proofs.lemmas.List.Folds.{find_at}
use Rattle.std.proofs.lemmas.List.Quantifiers.{position-Some}
use Rattle.std.specs.Option.{option_map}
use Rattle.std.proofs.lemmas.Option.{get_or_from_slice_get, slice_get-map}
use Rattle.std.proofs.lemmas.Slice.Eq.{bytes_eq-Decides}
use Rattle.words.specs.Members.{In}
use Rattle.records.specs.Side.{Triple, Side}
use Rattle.circuit.specs.Parts.{Source}
use Rattle.circuit.specs.Triples.{all_triples, is_entry, triple_of, triple_with}
use Rattle.fabric_laws.proofs.Members.{find_from, any_to}
use Rattle.fabric_laws.proofs.Numbered.{at_position, position_there, get_in}
use Rattle.links.proofs.Members.{same_number}
use Rattle.part_triples.specs.Places.{HoldsPlaces, place_in}
use Rattle.part_triples.specs.Numbers.{number_of, numbers_of, SameCells, AreCopies}

map_same : {X Y : Type 0} (f g : X → Y) → ((x : X) → f x ≡ g x) → (xs : List X) → map f xs ≡ map g xs
map_same f g h [] = refl
map_same f g h (x ∷ xs) = ap (λ y. y ∷ map f xs) (h x) ∙ ap (λ ys. g x ∷ ys) (map_same f g h xs)

-- what the map has for the parts' cells are the numbers of their triples
pub numbers_told : (ss : List Source) (ts : List Triple) (side : Side) (places : BTreeMap (Bor (List ℕ)) ℕ) (v : List (Option ℕ)) → ts ≡ all_triples side → HoldsPlaces ts places
    → v ≡ map (λ s. place_in places s.part.cell) ss → v ≡ numbers_of side ss
numbers_told ss ts side places v all held is =
    is ∙ map_same (λ (s : Source). place_in places s.part.cell) (λ (s : Source). number_of side s.part.cell) (λ s. held s.part.cell ∙ ap (position (is_entry s.part.cell)) all) ss

-- ---- the first triple in which a name stands

place_is : (b : Bool) (m i : ℕ) → cond b (Some m) None ≡ Some i → m ≡ i
place_is true m i h = (let same : m ≡ i = cc in same)
place_is false m i h = absurd (let no : ⊥ = cc in no)

record First (p : Triple → Bool) (xs : List Triple) (i : ℕ) : Type 0 where
  triple : Triple
  stands : slice_get xs i ≡ Some triple
  passes : p triple ≡ true
  found : find p xs ≡ Some triple
  none_before : (k : ℕ) (u : Triple) → k < i → slice_get xs k ≡ Some u → p u ≡ true → ⊥

first_there : (p : Triple → Bool) (xs : List Triple) (i : ℕ) → position p xs ≡ Some i → First p xs i
first_there p xs i h =
    let at = at_position p xs i h in
    let same : position_or_len p xs ≡ i = place_is (nat_lt (position_or_len p xs) (length xs)) (position_or_len p xs) i h in
    record {
      triple = at.0;
      stands = at.1.0;
      passes = at.1.1;
      found = find_at p xs ∙ (ap (slice_get xs) same ∙ at.1.0);
      none_before = λ k u below there passes.
          let before : p (get_or xs k at.0) ≡ false = (position-Some p xs i at.0 h).2 k below in
          let is : get_or xs k at.0 ≡ u = get_or_from_slice_get xs k u at.0 there in
          false≢true (sym before ∙ (ap p is ∙ passes));
    }

none_some : {X : Type 0} (x : X) → None ≡ Some x → ⊥
none_some x h = (let no : ⊥ = cc in no)

-- none passes
none_passes : (p : Triple → Bool) (xs : List Triple) → position p xs ≡ None → (t : Triple) → In xs t → p t ≡ true → ⊥
none_passes p xs h t i passes = (let at = position_there p xs t i passes in none_some at.0 (sym h ∙ at.1))

none_found_by : (p : Triple → Bool) (xs : List Triple) (o : Option Triple) → position p xs ≡ None → find p xs ≡ o → find p xs ≡ None
none_found_by p xs None h e = e
none_found_by p xs (Some t) h e = absurd (let f = find_from p xs t e in none_passes p xs h t f.0 f.1)

none_found : (p : Triple → Bool) (xs : List Triple) → position p xs ≡ None → find p xs ≡ None
none_found p xs h = none_found_by p xs (find p xs) h refl

-- ---- two names

pub names_same : (x y : List ℕ) (r : Bool) → r ≡ bytes_eq x y → IsTrue r ↔ (x ≡ y)
names_same x y r is = ((λ h. (bytes_eq-Decides x y).0 (sym is ∙ h)), (λ e. is ∙ (bytes_eq-Decides x y).1 e))

some_triple : (a b : Triple) → Some a ≡ Some b → a ≡ b
some_triple a b h = cc

module _ (side : Side) (a b : List ℕ) where
  abbrev all : List Triple
  all = all_triples side

  with_first : (name : List ℕ) (i : ℕ) (f : First (is_entry name) all i) → triple_with side name ≡ f.triple
  with_first name i f = ap (λ o. unwrap_or o (record { first = name; second = name; third = name })) f.found

  with_none : (name : List ℕ) → number_of side name ≡ None → triple_with side name ≡ record { first = name; second = name; third = name }
  with_none name h = ap (λ o. unwrap_or o (record { first = name; second = name; third = name })) (none_found (is_entry name) all h)

  not_before : (x y : List ℕ) (i j : ℕ) (f : First (is_entry x) all i) (g : First (is_entry y) all j) → f.triple ≡ g.triple → i < j → ⊥
  not_before x y i j f g same below = g.none_before i f.triple below f.stands (ap (is_entry y) same ∙ g.passes)

  both : (i j : ℕ) → number_of side a ≡ Some i → number_of side b ≡ Some j → (i ≡ j) ↔ (triple_with side a ≡ triple_with side b)
  both i j h k =
      let f = first_there (is_entry a) all i h in
      let g = first_there (is_entry b) all j k in (
        (λ e. with_first a i f ∙ (some_triple f.triple g.triple (sym f.stands ∙ (ap (slice_get all) e ∙ g.stands)) ∙ sym (with_first b j g))),
        (λ e.
            let same : f.triple ≡ g.triple = sym (with_first a i f) ∙ (e ∙ with_first b j g) in
            elim (same_number i j) [
              | inl s ↦ s
              | inr other ↦ absurd (apart i j other (not_before a b i j f g same) (not_before b a j i g f (sym same)))
            ]),
      )
    where
      apart : (i j : ℕ) → (i ≡ j → ⊥) → (i < j → ⊥) → (j < i → ⊥) → ⊥
      apart i j other less more = omega arith

  itself : (x : List ℕ) → is_entry x (record { first = x; second = x; third = x }) ≡ true
  itself x = any_to (bytes_eq x) (x ∷ x ∷ x ∷ []) x (inl refl) ((bytes_eq-Decides x x).1 refl)

  -- a name in none isn't that of a triple that is there
  never : (x y : List ℕ) (i : ℕ) → number_of side x ≡ Some i → number_of side y ≡ None → triple_with side x ≡ triple_with side y → ⊥
  never x y i h k e =
      let f = first_there (is_entry x) all i h in
      let is : f.triple ≡ record { first = y; second = y; third = y } = sym (with_first x i f) ∙ (e ∙ with_none y k) in
      none_passes (is_entry y) all k f.triple (get_in all i f.triple f.stands) (ap (is_entry y) is ∙ itself y)

  neither : number_of side a ≡ None → number_of side b ≡ None → (a ≡ b) ↔ (triple_with side a ≡ triple_with side b)
  neither h k = (
    (λ e. ap (triple_with side) e),
    (λ e. ap (λ (t : Triple). t.first) (sym (with_none a h) ∙ (e ∙ with_none b k))),
  )

  by : (m n : Option ℕ) → number_of side a ≡ m → number_of side b ≡ n → SameCells m n a b ↔ (triple_with side a ≡ triple_with side b)
  by (Some i) (Some j) h k = both i j h k
  by (Some i) None h k = ((λ no. absurd no), (λ e. never a b i h k e))
  by None (Some j) h k = ((λ no. absurd no), (λ e. never b a j k h (sym e)))
  by None None h k = neither h k

  pub same_told : SameCells (number_of side a) (number_of side b) a b ↔ (triple_with side a ≡ triple_with side b)
  same_told = by (number_of side a) (number_of side b) refl refl

-- parts of one kind and number in cells of one triple
pub parts_told : (side : Side) (s u : Source) → ((s.part.part ≡ u.part.part) × SameCells (number_of side s.part.cell) (number_of side u.part.cell) s.part.cell u.part.cell) ↔ (triple_of side s.part ≡ triple_of side u.part)
parts_told side s u = (
  (λ h i. record { cells = (same_told side s.part.cell u.part.cell).0 h.1 i; part = h.0 i }),
  (λ e. (ap (λ t. t.part) e, (same_told side s.part.cell u.part.cell).1 (ap (λ t. t.cells) e))),
)

number_at : (side : Side) (ss : List Source) (k : ℕ) (s : Source) → slice_get ss k ≡ Some s → get_or (numbers_of side ss) k None ≡ number_of side s.part.cell
number_at side ss k s there = get_or_from_slice_get (numbers_of side ss) k (number_of side s.part.cell) None (slice_get-map (λ (x : Source). number_of side x.part.cell) ss k ∙ ap (option_map (λ (x : Source). number_of side x.part.cell)) there)

some_source : (a b : Source) → Some a ≡ Some b → a ≡ b
some_source a b h = cc

pub no_first : (side : Side) (ss : List Source) (i j : ℕ) → None ≡ slice_get ss i → IsTrue false ↔ AreCopies side ss i j
no_first side ss i j none = ((λ h. absurd (false≢true h)), (λ x. absurd (none_some x.first (none ∙ x.first_at))))

pub no_second : (side : Side) (ss : List Source) (i j : ℕ) → None ≡ slice_get ss j → IsTrue false ↔ AreCopies side ss i j
no_second side ss i j none = ((λ h. absurd (false≢true h)), (λ x. absurd (none_some x.second (none ∙ x.second_at))))

module _ (side : Side) (ss : List Source) (numbers : List (Option ℕ)) (i j : ℕ) (s u : Source) (m n : Option ℕ) (r : Bool) (are : numbers ≡ numbers_of side ss) (at_i : Some s ≡ slice_get ss i) (at_j : Some u ≡ slice_get ss j)
    (m_is : m ≡ get_or numbers i None) (n_is : n ≡ get_or numbers j None) (told : IsTrue r ↔ ((s.part.part ≡ u.part.part) × SameCells m n s.part.cell u.part.cell)) where
  m_told : m ≡ number_of side s.part.cell
  m_told = m_is ∙ (ap (λ ns. get_or ns i None) are ∙ number_at side ss i s (sym at_i))

  n_told : n ≡ number_of side u.part.cell
  n_told = n_is ∙ (ap (λ ns. get_or ns j None) are ∙ number_at side ss j u (sym at_j))

  abbrev Cells : Option ℕ → Option ℕ → Type 0
  Cells a b = SameCells a b s.part.cell u.part.cell

  -- two parts that are there
  pub copies_told : IsTrue r ↔ AreCopies side ss i j
  copies_told = (
    (λ h. record {
      first = s;
      second = u;
      first_at = sym at_i;
      second_at = sym at_j;
      same = (let x = told.0 h in (parts_told side s u).0 (x.0, subst (λ b. Cells (number_of side s.part.cell) b) n_told (subst (λ a. Cells a n) m_told x.1)));
    }),
    (λ x.
        let first : x.first ≡ s = some_source x.first s (sym x.first_at ∙ sym at_i) in
        let second : x.second ≡ u = some_source x.second u (sym x.second_at ∙ sym at_j) in
        let same : triple_of side s.part ≡ triple_of side u.part = sym (ap (λ (z : Source). triple_of side z.part) first) ∙ (x.same ∙ ap (λ (z : Source). triple_of side z.part) second) in
        let y = (parts_told side s u).1 same in
        told.1 (y.0, subst (λ b. Cells m b) (sym n_told) (subst (λ a. Cells a (number_of side u.part.cell)) (sym m_told) y.1))),
  )
