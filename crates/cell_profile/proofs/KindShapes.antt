-- The counts of shapes that are known, as a kind is added.
use Rattle.std.proofs.Common.{◌≡◌, ℕ, List, [], ◌∷◌, ◌++◌, Bool, true, false, cond, ◌&&◌, ◌==◌, Option, Some, None, bytes_eq, nat_eq, nat_cmp, refl, ap, sym, ◌∙◌}
use Rattle.std.specs.Option.{option_map, option_map_or, option_or}
use Rattle.std.specs.Cmp.Lexicographic.{slice_cmp, pointwise}
use Rattle.std.specs.BTreeMap.{BTreeMap, get, is_at}
use Rattle.std.proofs.lemmas.List.Folds.{find-append}
use Rattle.std.proofs.lemmas.Slice.Eq.{bytes_eq-Decides}
use Rattle.records.specs.Profile.{SliceKind}
use Rattle.json_forms.specs.KindRules.{same_counts, has_counts_of_shape}
use Rattle.cell_profile.specs.declared.known.Counts.{Counts}
use Rattle.cell_profile.specs.Known.{counts_of, first_of_shape, KnowsShapes}
use Rattle.cell_profile.proofs.KindNames.{text_ties}

-- counts are the same, each in turn
abbrev pub same : Counts → Counts → Bool
same a b = (a.settings == b.settings) && pointwise nat_eq a.pins b.pins && (a.registers == b.registers)

-- the rule on counts, by the counts of the first kind
by_counts : (kind : SliceKind) (first : Option SliceKind)
    → option_map_or (λ f. same_counts f kind) first true ≡ option_map_or (λ c. same c (counts_of kind)) (option_map counts_of first) true
by_counts kind None = refl
by_counts kind (Some f) = refl

-- what the map says of the counts of a kind
pub fits_known : (shapes : BTreeMap (List ℕ) Counts) (earlier : List SliceKind) (kind : SliceKind) (found : Option Counts) → KnowsShapes shapes earlier
    → get (slice_cmp nat_cmp) shapes kind.shape ≡ found
    → has_counts_of_shape earlier kind ≡ option_map_or (λ c. same c (counts_of kind)) found true
fits_known shapes earlier kind found known is =
    by_counts kind (first_of_shape earlier kind.shape) ∙ ap (λ o. option_map_or (λ c. same c (counts_of kind)) o true) (sym (known kind.shape) ∙ is)

-- where the first kind of a shape is there, it stays the first
stays_first : (first : Option SliceKind) (b : Bool) (kind : SliceKind) (c : Counts) → (b ≡ true → option_map counts_of first ≡ Some c)
    → option_map counts_of first ≡ option_map counts_of (option_or first (cond b (Some kind) None))
stays_first (Some f) b kind c there = refl
stays_first None true kind c there = absurd (let no : ⊥ = let is : ◌≡◌ {A = Option Counts} None (Some c) = there refl in cc in no)
stays_first None false kind c there = refl

-- where no kind of the shape is there, this one is the first
comes_first : (first : Option SliceKind) (b : Bool) (kind : SliceKind) → (b ≡ true → option_map counts_of first ≡ None)
    → cond b (Some (counts_of kind)) (option_map counts_of first) ≡ option_map counts_of (option_or first (cond b (Some kind) None))
comes_first None true kind absent = refl
comes_first None false kind absent = refl
comes_first (Some f) true kind absent = absurd (let no : ⊥ = let is : ◌≡◌ {A = Option Counts} (Some (counts_of f)) None = absent refl in cc in no)
comes_first (Some f) false kind absent = refl

-- the first kind of a shape, where a kind is added
first_more : (earlier : List SliceKind) (kind : SliceKind) (q : List ℕ)
    → first_of_shape (earlier ++ kind ∷ []) q ≡ option_or (first_of_shape earlier q) (cond (bytes_eq q kind.shape) (Some kind) None)
first_more earlier kind q = find-append (λ k. bytes_eq q k.shape) earlier (kind ∷ [])

-- texts that the test takes for equal
same_text : (a b : List ℕ) → bytes_eq a b ≡ true → a ≡ b
same_text a b e = (bytes_eq-Decides a b).0 e

-- a kind of a shape that is known
pub known_shape : (shapes : BTreeMap (List ℕ) Counts) (earlier : List SliceKind) (kind : SliceKind) (c : Counts) → KnowsShapes shapes earlier
    → get (slice_cmp nat_cmp) shapes kind.shape ≡ Some c → KnowsShapes shapes (earlier ++ kind ∷ [])
known_shape shapes earlier kind c known is q =
    known q
    ∙ stays_first (first_of_shape earlier q) (bytes_eq q kind.shape) kind c (λ e. rw (same_text q kind.shape e) (sym (known kind.shape) ∙ is))
    ∙ ap (option_map counts_of) (sym (first_more earlier kind q))

-- a kind of a new shape
pub new_shape : (old new : BTreeMap (List ℕ) Counts) (earlier : List SliceKind) (kind : SliceKind) → KnowsShapes old earlier
    → get (slice_cmp nat_cmp) old kind.shape ≡ None
    → ((q : List ℕ) → get (slice_cmp nat_cmp) new q ≡ cond (is_at (slice_cmp nat_cmp kind.shape) q) (Some (counts_of kind)) (get (slice_cmp nat_cmp) old q))
    → KnowsShapes new (earlier ++ kind ∷ [])
new_shape old new earlier kind known is updated q =
    updated q
    ∙ rw (text_ties kind.shape q, known q) (comes_first (first_of_shape earlier q) (bytes_eq q kind.shape) kind (λ e. rw (same_text q kind.shape e) (sym (known kind.shape) ∙ is)))
    ∙ ap (option_map counts_of) (sym (first_more earlier kind q))
