-- Records and names that are found by names, from the last to the first.
use Rattle.std.proofs.Common.{◌≡◌, ℕ, Bool, true, false, cond, List, [], ◌∷◌, ◌++◌, flat_map, Option, None, Some, refl, sym, ap, ap₂, ◌∙◌, bytes_eq}
use Rattle.std.specs.Prelude.{find, ◌||◌}
use Rattle.std.specs.List.{list_any}
use Rattle.std.specs.Option.{option_copied}
use Rattle.std.specs.Ordering.{nat_cmp, is_eq}
use Rattle.std.specs.BTreeMap.{BTreeMap, get}
use Rattle.std.specs.BTreeSet.{BTreeSet, contains}
use Rattle.std.specs.Cmp.Lexicographic.{slice_cmp, nat_list_eq_equiv}
use Rattle.std.proofs.lemmas.Map.Text.{is_eq-slice_cmp}
use Rattle.records.specs.Side.{Triple}
use Rattle.circuit.specs.Triples.{is_entry, names_of}
use Rattle.cell_sites.specs.Names.{HoldsFirst, HoldsNames}
use denote.Ref.{Bor}

module _ {X : Type 0} (name : X → List ℕ) where
  put_at : (key : Bor (List ℕ)) (x : Bor X) (old new : BTreeMap (Bor (List ℕ)) (Bor X)) (items : List X) → key.now ≡ name x.now
      → ((q : Bor (List ℕ)) → get (λ a b. slice_cmp nat_cmp a.now b.now) new q ≡ cond (is_eq (slice_cmp nat_cmp key.now q.now)) (Some x) (get (λ a b. slice_cmp nat_cmp a.now b.now) old q))
      → HoldsFirst name items old → (q : Bor (List ℕ)) → option_copied (get (λ a b. slice_cmp nat_cmp a.now b.now) new q) ≡ find (λ y. bytes_eq (name y) q.now) (x.now ∷ items)
  put_at key x old new items n updated held q =
      ap option_copied (updated q)
      ∙ (ap (λ b. option_copied (cond b (Some x) (get (λ a b. slice_cmp nat_cmp a.now b.now) old q))) (is_eq-slice_cmp key.now q.now ∙ ap (λ a. bytes_eq a q.now) n)
      ∙ go (bytes_eq (name x.now) q.now) (held.found q))
    where
      go : (b : Bool) → option_copied (get (λ a b. slice_cmp nat_cmp a.now b.now) old q) ≡ find (λ y. bytes_eq (name y) q.now) items
          → option_copied (cond b (Some x) (get (λ a b. slice_cmp nat_cmp a.now b.now) old q)) ≡ cond b (Some x.now) (find (λ y. bytes_eq (name y) q.now) items)
      go true h = refl
      go false h = h

  pub put_first : (key : Bor (List ℕ)) (x : Bor X) (old new : BTreeMap (Bor (List ℕ)) (Bor X)) (items : List X) → key.now ≡ name x.now
      → ((q : Bor (List ℕ)) → get (λ a b. slice_cmp nat_cmp a.now b.now) new q ≡ cond (is_eq (slice_cmp nat_cmp key.now q.now)) (Some x) (get (λ a b. slice_cmp nat_cmp a.now b.now) old q))
      → HoldsFirst name items old → HoldsFirst name (x.now ∷ items) new
  put_first key x old new items n updated held = record { found = put_at key x old new items n updated held }

name_at : (key : Bor (List ℕ)) (name : List ℕ) (old new : BTreeSet (Bor (List ℕ))) (names : List (List ℕ)) → key.now ≡ name
    → ((q : Bor (List ℕ)) → contains (λ a b. slice_cmp nat_cmp a.now b.now) new q ≡ cond (is_eq (slice_cmp nat_cmp key.now q.now)) true (contains (λ a b. slice_cmp nat_cmp a.now b.now) old q))
    → HoldsNames names old → (q : Bor (List ℕ)) → contains (λ a b. slice_cmp nat_cmp a.now b.now) new q ≡ list_any (bytes_eq q.now) (name ∷ names)
name_at key name old new names n updated held q =
    updated q
    ∙ (ap (λ b. cond b true (contains (λ a b. slice_cmp nat_cmp a.now b.now) old q)) (is_eq-slice_cmp key.now q.now ∙ (ap (λ a. bytes_eq a q.now) n ∙ nat_list_eq_equiv.symm name q.now))
    ∙ go (bytes_eq q.now name) (held.found q))
  where
    go : (b : Bool) → contains (λ a b. slice_cmp nat_cmp a.now b.now) old q ≡ list_any (bytes_eq q.now) names
        → cond b true (contains (λ a b. slice_cmp nat_cmp a.now b.now) old q) ≡ (b || list_any (bytes_eq q.now) names)
    go true h = refl
    go false h = h

pub put_name : (key : Bor (List ℕ)) (name : List ℕ) (old new : BTreeSet (Bor (List ℕ))) (names : List (List ℕ)) → key.now ≡ name
    → ((q : Bor (List ℕ)) → contains (λ a b. slice_cmp nat_cmp a.now b.now) new q ≡ cond (is_eq (slice_cmp nat_cmp key.now q.now)) true (contains (λ a b. slice_cmp nat_cmp a.now b.now) old q))
    → HoldsNames names old → HoldsNames (name ∷ names) new
put_name key name old new names n updated held = record { found = name_at key name old new names n updated held }

any_both : (p : List ℕ → Bool) (xs ys : List (List ℕ)) → list_any p (xs ++ ys) ≡ (list_any p xs || list_any p ys)
any_both p [] ys = refl
any_both p (x ∷ xs) ys = go (p x) (any_both p xs ys)
  where
    go : (b : Bool) → list_any p (xs ++ ys) ≡ (list_any p xs || list_any p ys) → (b || list_any p (xs ++ ys)) ≡ ((b || list_any p xs) || list_any p ys)
    go true h = refl
    go false h = h

-- a name is in one of some triples where it is among their names
pub among_entries : (name : List ℕ) (ts : List Triple) → list_any (bytes_eq name) (flat_map names_of ts) ≡ list_any (is_entry name) ts
among_entries name [] = refl
among_entries name (t ∷ ts) = any_both (bytes_eq name) (names_of t) (flat_map names_of ts) ∙ ap (λ b. is_entry name t || b) (among_entries name ts)
