-- The wires of a row that have a feed are the counting drivers, in order.
use Rattle.std.proofs.Common.{◌≡◌, ℕ, suc, ◌<◌, Bool, true, false, cond, List, [], ◌∷◌, ◌++◌, Option, Some, None, length, get_or, filter, take, drop, refl, sym, ap, ◌∙◌}
use Rattle.std.specs.Ordering.{nat_cmp}
use Rattle.std.specs.Prelude.{is_some}
use Rattle.std.proofs.lemmas.Bool.{false≢true}
use Rattle.std.proofs.lemmas.List.{take-append-drop}
use Rattle.std.proofs.lemmas.List.Elements.{filter-append}
use Rattle.std.proofs.Math.Seq.{drop-cons}
use Rattle.words.specs.Members.{In}
use Rattle.links.specs.Links.{Routing, Counting, Fed}
use Rattle.fabric.specs.InOrder.{IsRising}
use Rattle.fabric_laws.proofs.Members.{in_filter_from, in_filter_to}
use Rattle.grouped_laws.proofs.Stable.{rising_filter}
use Rattle.wire_feeds.specs.Rows.{AreFeeds}
use Rattle.wire_contests.specs.Contests.{IsRowOf, is_fed, is_there}

-- a wire has a feed where a feed is there
there : (o : Option ℕ) → is_there o ≡ true → (c : ℕ) × (o ≡ Some c)
there (Some c) e = (c, refl)
there None e = absurd (false≢true e)

gone : (o : Option ℕ) → is_there o ≡ false → o ≡ None
gone (Some c) e = absurd (false≢true (sym e))
gone None e = refl

pub fed_where : (r : Routing) (feeds : List (Option ℕ)) → AreFeeds r feeds → (x : ℕ) → is_fed feeds x ≡ true → Fed r x
fed_where r feeds are x e = let t = there (get_or feeds x None) e in (t.0, are.fed x t.0 t.1)

pub where_fed : (r : Routing) (feeds : List (Option ℕ)) → AreFeeds r feeds → (x : ℕ) → Fed r x → is_fed feeds x ≡ true
where_fed r feeds are x f = go (is_fed feeds x) refl
  where
    go : (b : Bool) → is_fed feeds x ≡ b → b ≡ true
    go true e = refl
    go false e = absurd (are.unfed x (gone (get_or feeds x None) e) f)

-- the counting drivers of a wire, in order
pub record AreCounting (r : Routing) (w : ℕ) (xs : List ℕ) : Type 0 where
  pub rising : IsRising nat_cmp xs
  pub counts : (x : ℕ) → In xs x → Counting r x w
  pub all : (x : ℕ) → Counting r x w → In xs x

pub counting_of_row : (r : Routing) (w : ℕ) (row : List ℕ) (feeds : List (Option ℕ)) → IsRowOf r w row → AreFeeds r feeds → IsRising nat_cmp row
    → AreCounting r w (filter (is_fed feeds) row)
counting_of_row r w row feeds of are rising = record {
  rising = rising_filter nat_cmp (is_fed feeds) row rising;
  counts = λ x i. let f = in_filter_from (is_fed feeds) row x i in ((of x).1 f.0, fed_where r feeds are x f.1);
  all = λ x c. in_filter_to (is_fed feeds) row x ((of x).0 c.0) (where_fed r feeds are x c.1);
}

-- where the first places pass one wire, and the next place passes, these two are the first that pass
pub two_found : (p : ℕ → Bool) (row : List ℕ) (i x f : ℕ) → i < length row → x ≡ get_or row i x → p x ≡ true → filter p (take i row) ≡ f ∷ []
    → filter p row ≡ f ∷ x ∷ filter p (drop (suc i) row)
two_found p row i x f within is passes first =
    ap (filter p) (sym (take-append-drop i row) ∙ ap (λ (ys : List ℕ). take i row ++ ys) (drop-cons row i x within ∙ ap (λ z. z ∷ drop (suc i) row) (sym is)))
    ∙ filter-append p (take i row) (x ∷ drop (suc i) row)
    ∙ ap (λ (ys : List ℕ). ys ++ filter p (x ∷ drop (suc i) row)) first
    ∙ ap (λ b. f ∷ cond b (x ∷ filter p (drop (suc i) row)) (filter p (drop (suc i) row))) passes

-- what is there
pub one_of : (o : Option ℕ) → is_some o ≡ true → (f : ℕ) × (o ≡ Some f)
one_of (Some f) e = (f, refl)
one_of None e = absurd (false≢true e)
