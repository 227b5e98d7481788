-- The names of kinds that are known, as one is added.
use Rattle.std.proofs.Common.{◌≡◌, ℕ, List, [], ◌∷◌, ◌++◌, map, Bool, true, false, cond, ◌&&◌, ◌||◌, bytes_eq, nat_cmp, refl, ap, sym, ◌∙◌, append_assoc, Ordering, Less, Equal, Greater}
use Rattle.std.specs.Ordering.{is_eq, ordering_then}
use Rattle.std.specs.Cmp.Lexicographic.{slice_cmp}
use Rattle.std.specs.Set.{is_member}
use Rattle.std.specs.BTreeMap.{is_at}
use Rattle.std.specs.BTreeSet.{BTreeSet, contains}
use Rattle.std.proofs.lemmas.Cmp.{nat_list_eq_equiv}
use Rattle.std.proofs.lemmas.List.{map-append}
use Rattle.std.proofs.lemmas.List.Folds.{list_any-append}
use Rattle.std.proofs.lemmas.Map.Text.{is_eq-slice_cmp}
use Rattle.records.specs.Profile.{PadKind}
use Rattle.json_forms.specs.KindRules.{KindName, same_kind, pad_name}
use Rattle.cell_profile.specs.Known.{name_order, KnowsNames}

-- an order by two in turn ties where both do
ties_then : (a b : Ordering) → is_eq (ordering_then a b) ≡ (is_eq a && is_eq b)
ties_then Less b = refl
ties_then Equal b = refl
ties_then Greater b = refl

-- texts that tie in byte order are equal
pub text_ties : (a b : List ℕ) → is_eq (slice_cmp nat_cmp a b) ≡ bytes_eq b a
text_ties a b = is_eq-slice_cmp a b ∙ nat_list_eq_equiv.symm a b

-- names that tie in their order are equal
name_ties : (a b : KindName) → is_at (name_order a) b ≡ same_kind b a
name_ties a b =
    ties_then (slice_cmp nat_cmp a.0 b.0) (slice_cmp nat_cmp a.1 b.1) ∙ rw (text_ties a.0 b.0, text_ties a.1 b.1) refl

-- there, or else there before
pub or_there : (b c : Bool) → cond b true c ≡ (c || (b || false))
or_there true true = refl
or_there true false = refl
or_there false true = refl
or_there false false = refl

-- a set that gets one more name
pub knows_one_more : (names : List KindName) (name : KindName) (old new : BTreeSet KindName) → KnowsNames old names
    → ((q : KindName) → contains name_order new q ≡ cond (is_at (name_order name) q) true (contains name_order old q))
    → KnowsNames new (names ++ name ∷ [])
knows_one_more names name old new known updated q =
    updated q ∙ rw (name_ties name q, known q, list_any-append (same_kind q) names (name ∷ [])) (or_there (same_kind q name) (is_member same_kind names q))

-- the names of one pad kind more
pub pads_more : (names : List KindName) (kinds : List PadKind) (kind : PadKind)
    → (names ++ map pad_name kinds) ++ pad_name kind ∷ [] ≡ names ++ map pad_name (kinds ++ kind ∷ [])
pads_more names kinds kind = append_assoc names (map pad_name kinds) (pad_name kind ∷ []) ∙ ap (λ more. names ++ more) (sym (map-append pad_name kinds (kind ∷ [])))
