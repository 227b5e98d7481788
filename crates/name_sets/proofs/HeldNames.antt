-- The names of a list that a set holds, as one is added.
use Rattle.std.proofs.Common.{◌≡◌, ℕ, Bool, List, [], ◌∷◌, ◌++◌, true, false, cond, ◌||◌, bytes_eq, nat_cmp, refl, ◌∙◌, Bor}
use Rattle.std.specs.Ordering.{is_eq}
use Rattle.std.specs.Cmp.Lexicographic.{slice_cmp}
use Rattle.std.specs.Set.{is_member}
use Rattle.std.specs.BTreeSet.{BTreeSet, contains}
use Rattle.std.proofs.lemmas.Cmp.{nat_list_eq_equiv}
use Rattle.std.proofs.lemmas.List.Folds.{list_any-append}
use Rattle.std.proofs.lemmas.Map.Text.{is_eq-slice_cmp}
use Rattle.name_sets.specs.Held.{HoldsNames}

-- texts that tie in byte order are equal
text_ties : (a b : List ℕ) → is_eq (slice_cmp nat_cmp a b) ≡ bytes_eq b a
text_ties a b = is_eq-slice_cmp a b ∙ nat_list_eq_equiv.symm a b

-- there, or else there before
or_there : (b c : Bool) → cond b true c ≡ (c || (b || false))
or_there true true = refl
or_there true false = refl
or_there false true = refl
or_there false false = refl

-- a set that gets one more name
pub holds_one_more : (names : List (List ℕ)) (name : Bor (List ℕ)) (old new : BTreeSet (Bor (List ℕ))) → HoldsNames names old
    → ((q : Bor (List ℕ)) → contains (λ a b. slice_cmp nat_cmp a.now b.now) new q ≡ cond (is_eq (slice_cmp nat_cmp name.now q.now)) true (contains (λ a b. slice_cmp nat_cmp a.now b.now) old q))
    → HoldsNames (names ++ name.now ∷ []) new
holds_one_more names name old new held updated q =
    updated q ∙ rw (text_ties name.now q.now, held q, list_any-append (bytes_eq q.now) names (name.now ∷ [])) (or_there (bytes_eq q.now name.now) (is_member bytes_eq names q.now))
