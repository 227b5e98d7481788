-- Records that a map finds by two names, from the last to the first.
use Rattle.std.proofs.Common.{◌≡◌, ℕ, Bool, true, false, cond, List, [], ◌∷◌, Option, None, Some, refl, sym, ap, ap₂, ◌∙◌, bytes_eq}
use Rattle.std.specs.Prelude.{find, ◌&&◌, ◌||◌}
use Rattle.std.specs.List.{list_any}
use Rattle.std.specs.Option.{option_copied, is_some}
use Rattle.std.specs.declared.cmp.Ordering.{Ordering}
use Rattle.std.specs.declared.cmp.Ordering.TheVariants.{Less, Equal, Greater}
use Rattle.std.specs.Ordering.{nat_cmp, ordering_then, is_eq}
use Rattle.std.specs.BTreeMap.{BTreeMap, get}
use Rattle.std.specs.Cmp.Lexicographic.{slice_cmp}
use Rattle.std.proofs.lemmas.Map.Text.{is_eq-slice_cmp}
use Rattle.cell_sites.specs.Pairs.{Pair, pair_cmp, HoldsPairs}
use denote.Ref.{Bor}

both_equal : (o p : Ordering) → is_eq (ordering_then o p) ≡ (is_eq o && is_eq p)
both_equal Less p = refl
both_equal Equal p = refl
both_equal Greater p = refl

pub same_pair : (p q : Pair) → is_eq (pair_cmp p q) ≡ (bytes_eq p.0.now q.0.now && bytes_eq p.1.now q.1.now)
same_pair p q =
    both_equal (slice_cmp nat_cmp p.0.now q.0.now) (slice_cmp nat_cmp p.1.now q.1.now)
    ∙ ap₂ (λ a b. a && b) (is_eq-slice_cmp p.0.now q.0.now) (is_eq-slice_cmp p.1.now q.1.now)

module _ {X : Type 0} (first second : X → List ℕ) where
  put_at : (key : Pair) (x : Bor X) (old new : BTreeMap Pair (Bor X)) (items : List X) → key.0.now ≡ first x.now → key.1.now ≡ second x.now
      → ((q : Pair) → get pair_cmp new q ≡ cond (is_eq (pair_cmp key q)) (Some x) (get pair_cmp old q)) → HoldsPairs first second items old
      → (q : Pair) → option_copied (get pair_cmp new q) ≡ find (λ y. bytes_eq (first y) q.0.now && bytes_eq (second y) q.1.now) (x.now ∷ items)
  put_at key x old new items f s updated held q =
      ap option_copied (updated q)
      ∙ (ap (λ b. option_copied (cond b (Some x) (get pair_cmp old q))) (same_pair key q ∙ ap₂ (λ a b. bytes_eq a q.0.now && bytes_eq b q.1.now) f s)
      ∙ go (bytes_eq (first x.now) q.0.now && bytes_eq (second x.now) q.1.now) (held.found q))
    where
      go : (b : Bool) → option_copied (get pair_cmp old q) ≡ find (λ y. bytes_eq (first y) q.0.now && bytes_eq (second y) q.1.now) items
          → option_copied (cond b (Some x) (get pair_cmp old q)) ≡ cond b (Some x.now) (find (λ y. bytes_eq (first y) q.0.now && bytes_eq (second y) q.1.now) items)
      go true h = refl
      go false h = h

  pub put_holds : (key : Pair) (x : Bor X) (old new : BTreeMap Pair (Bor X)) (items : List X) → key.0.now ≡ first x.now → key.1.now ≡ second x.now
      → ((q : Pair) → get pair_cmp new q ≡ cond (is_eq (pair_cmp key q)) (Some x) (get pair_cmp old q))
      → HoldsPairs first second items old → HoldsPairs first second (x.now ∷ items) new
  put_holds key x old new items f s updated held = record { found = put_at key x old new items f s updated held }

any_found : {X : Type 0} (t : X → Bool) (xs : List X) → is_some (find t xs) ≡ list_any t xs
any_found t [] = refl
any_found {X} t (x ∷ xs) = go (t x) (any_found t xs)
  where
    go : (b : Bool) → is_some (find t xs) ≡ list_any t xs → is_some (cond b (Some x) (find t xs)) ≡ (b || list_any t xs)
    go true e = refl
    go false e = e

there_copied : {X : Type 0} (o : Option (Bor X)) → is_some o ≡ is_some (option_copied o)
there_copied None = refl
there_copied (Some x) = refl

-- a record that is found is there
pub is_there : {X : Type 0} (t : X → Bool) (items : List X) (found : Option (Bor X)) (b : Bool) → option_copied found ≡ find t items → b ≡ is_some found → b ≡ list_any t items
is_there t items found b e h = h ∙ (there_copied found ∙ (ap is_some e ∙ any_found t items))
