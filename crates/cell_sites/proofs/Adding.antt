-- A record that is added at the end of the row of its first name.
use Rattle.std.proofs.Common.{◌≡◌, ℕ, Bool, true, false, cond, List, [], ◌∷◌, ◌++◌, map, Option, None, Some, refl, sym, ap, ◌∙◌, bytes_eq}
use Rattle.std.specs.Prelude.{filter}
use Rattle.std.specs.Ordering.{nat_cmp, is_eq}
use Rattle.std.specs.BTreeMap.{BTreeMap, get}
use Rattle.std.specs.Cmp.Lexicographic.{slice_cmp}
use Rattle.std.proofs.lemmas.List.{append-nil}
use Rattle.std.proofs.lemmas.Map.Text.{is_eq-slice_cmp}
use Rattle.std.proofs.lemmas.Slice.Eq.{bytes_eq-Decides}
use Rattle.cell_sites.specs.Rows.{row_items, HoldsRows}
use denote.Ref.{Bor}

both_filtered : {X : Type 0} (t : X → Bool) (xs ys : List X) → filter t (xs ++ ys) ≡ filter t xs ++ filter t ys
both_filtered t [] ys = refl
both_filtered {X} t (x ∷ xs) ys = go (t x) (both_filtered t xs ys)
  where
    go : (b : Bool) → filter t (xs ++ ys) ≡ filter t xs ++ filter t ys → cond b (x ∷ filter t (xs ++ ys)) (filter t (xs ++ ys)) ≡ cond b (x ∷ filter t xs) (filter t xs) ++ filter t ys
    go true h = ap (λ zs. x ∷ zs) h
    go false h = h

both_mapped : {X : Type 0} (row : List (Bor X)) (item : Bor X) → map (λ i. i.now) (row ++ item ∷ []) ≡ map (λ i. i.now) row ++ item.now ∷ []
both_mapped [] item = refl
both_mapped (x ∷ xs) item = ap (λ zs. x.now ∷ zs) (both_mapped xs item)

module _ {X : Type 0} (first : X → List ℕ) where
  added_at : (key : Bor (List ℕ)) (item : Bor X) (row : List (Bor X)) (old mid new : BTreeMap (Bor (List ℕ)) (List (Bor X))) (items : List X) → key.now ≡ first item.now
      → map (λ i. i.now) row ≡ row_items (get (λ a b. slice_cmp nat_cmp a.now b.now) old key) ++ item.now ∷ []
      → ((q : Bor (List ℕ)) → get (λ a b. slice_cmp nat_cmp a.now b.now) mid q ≡ cond (is_eq (slice_cmp nat_cmp key.now q.now)) None (get (λ a b. slice_cmp nat_cmp a.now b.now) old q))
      → ((q : Bor (List ℕ)) → get (λ a b. slice_cmp nat_cmp a.now b.now) new q ≡ cond (is_eq (slice_cmp nat_cmp key.now q.now)) (Some row) (get (λ a b. slice_cmp nat_cmp a.now b.now) mid q))
      → HoldsRows first items old → (q : Bor (List ℕ)) → row_items (get (λ a b. slice_cmp nat_cmp a.now b.now) new q) ≡ filter (λ x. bytes_eq (first x) q.now) (items ++ item.now ∷ [])
  added_at key item row old mid new items k made removed put held q =
      go (bytes_eq key.now q.now) refl (is_eq-slice_cmp key.now q.now) ∙ sym (both_filtered (λ x. bytes_eq (first x) q.now) items (item.now ∷ []))
    where
      go : (b : Bool) → bytes_eq key.now q.now ≡ b → is_eq (slice_cmp nat_cmp key.now q.now) ≡ bytes_eq key.now q.now
          → row_items (get (λ a b. slice_cmp nat_cmp a.now b.now) new q) ≡ filter (λ x. bytes_eq (first x) q.now) items ++ filter (λ x. bytes_eq (first x) q.now) (item.now ∷ [])
      go true e s =
          let same : key.now ≡ q.now = (bytes_eq-Decides key.now q.now).0 e in
          ap row_items (put q ∙ ap (λ b. cond b (Some row) (get (λ a b. slice_cmp nat_cmp a.now b.now) mid q)) (s ∙ e))
          ∙ (made ∙ (ap (λ ys. ys ++ item.now ∷ []) (held.found key ∙ ap (λ n. filter (λ x. bytes_eq (first x) n) items) same)
          ∙ ap (λ b. filter (λ x. bytes_eq (first x) q.now) items ++ cond b (item.now ∷ []) []) (sym (ap (λ n. bytes_eq n q.now) (sym k) ∙ e))))
      go false e s =
          ap row_items (put q ∙ (ap (λ b. cond b (Some row) (get (λ a b. slice_cmp nat_cmp a.now b.now) mid q)) (s ∙ e)
          ∙ (removed q ∙ ap (λ b. cond b None (get (λ a b. slice_cmp nat_cmp a.now b.now) old q)) (s ∙ e))))
          ∙ (held.found q ∙ (sym (append-nil (filter (λ x. bytes_eq (first x) q.now) items))
          ∙ ap (λ b. filter (λ x. bytes_eq (first x) q.now) items ++ cond b (item.now ∷ []) []) (sym (ap (λ n. bytes_eq n q.now) (sym k) ∙ e))))

  pub added : (key : Bor (List ℕ)) (item : Bor X) (row : List (Bor X)) (old mid new : BTreeMap (Bor (List ℕ)) (List (Bor X))) (items : List X) → key.now ≡ first item.now
      → map (λ i. i.now) row ≡ row_items (get (λ a b. slice_cmp nat_cmp a.now b.now) old key) ++ item.now ∷ []
      → ((q : Bor (List ℕ)) → get (λ a b. slice_cmp nat_cmp a.now b.now) mid q ≡ cond (is_eq (slice_cmp nat_cmp key.now q.now)) None (get (λ a b. slice_cmp nat_cmp a.now b.now) old q))
      → ((q : Bor (List ℕ)) → get (λ a b. slice_cmp nat_cmp a.now b.now) new q ≡ cond (is_eq (slice_cmp nat_cmp key.now q.now)) (Some row) (get (λ a b. slice_cmp nat_cmp a.now b.now) mid q))
      → HoldsRows first items old → HoldsRows first (items ++ item.now ∷ []) new
  added key item row old mid new items k made removed put held = record { found = added_at key item row old mid new items k made removed put held }

  -- a row that was there, or none, with one more record
  pub with_last : (old : Option (List (Bor X))) (row : List (Bor X)) (item : Bor X) → old ≡ Some row → map (λ i. i.now) (row ++ item ∷ []) ≡ row_items old ++ item.now ∷ []
  with_last old row item e = both_mapped row item ∙ ap (λ o. row_items o ++ item.now ∷ []) (sym e)
