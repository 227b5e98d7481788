-- Nodes that are listed along links.
use Rattle.std.proofs.Common.{◌≡◌, ℕ, zero, suc, ◌+◌, ◌<◌, ◌≤◌, ◌⊎◌, ◌↔◌, List, [], ◌∷◌, ◌++◌, length, get_or, refl, sym, ap, subst, ◌∙◌, inl, inr, arith}
use Rattle.std.specs.Prelude.{slice_get, None}
use Rattle.std.proofs.lemmas.Bool.{cases_eq}
use Rattle.std.proofs.lemmas.List.{append-nil, append_assoc, get_or_append_left}
use Rattle.words.specs.Members.{In}
use Rattle.links.specs.Links.{Reaches, here, onto}
use Rattle.links.proofs.Members.{in_left, in_right, in_either}
use Rattle.net_links.proofs.Listed.{in_at, met, met_at, place_of}
use Rattle.cycle_order.specs.Trials.{AreWithin, IsNext, ListsOne, ListsRow}

-- what stands at no place is past the end
pub at_past : (xs : List ℕ) (i : ℕ) → slice_get xs i ≡ None → length xs ≤ i
at_past [] i e = omega arith
at_past (y ∷ xs) zero e = absurd (let gone : ⊥ = cc in gone)
at_past (y ∷ xs) (suc i) e = let l = at_past xs i e in omega arith

pub lists_known : (old : List ℕ) (v : ℕ) → In old v → ListsOne old v old
lists_known old v i = record { added = []; is = sym (append-nil old); has = i; only = λ w j. inl j }

pub lists_new : (old : List ℕ) (v : ℕ) → ListsOne old v (old ++ v ∷ [])
lists_new old v = record {
  added = v ∷ [];
  is = refl;
  has = in_right old (v ∷ []) v (inl refl);
  only = λ w j. elim (in_either old (v ∷ []) w j) [ inl i ↦ inl i | inr i ↦ elim i [ inl e ↦ inr e | inr gone ↦ absurd gone ] ];
}

-- the first nodes of a row were listed
pub record ListsSome (old row : List ℕ) (i : ℕ) (new : List ℕ) : Type 0 where
  pub added : List ℕ
  pub is : new ≡ old ++ added
  pub all : (k : ℕ) → k < i → In new (get_or row k 0)
  pub only : (v : ℕ) → In new v → In old v ⊎ In row v

pub lists_none : (old row : List ℕ) → ListsSome old row 0 old
lists_none old row = record { added = []; is = sym (append-nil old); all = λ k h. absurd (omega arith); only = λ v j. inl j }

pub lists_more : (old row : List ℕ) (i : ℕ) (mid : List ℕ) (v : ℕ) (new : List ℕ) → ListsSome old row i mid → i < length row → v ≡ get_or row i v → ListsOne mid v new
    → ListsSome old row (i + 1) new
lists_more old row i mid v new some below is one = record {
  added = some.added ++ one.added;
  is = one.is ∙ (ap (λ zs. zs ++ one.added) some.is ∙ append_assoc old some.added one.added);
  all = λ k h. elim (cases_eq k i) as (λ _. In new (get_or row k 0)) [
    | inl e ↦ subst (In new) (sym (ap (λ z. get_or row z 0) e ∙ met_at row i v below is)) one.has
    | inr d ↦ subst (λ zs. In zs (get_or row k 0)) (sym one.is) (in_left mid one.added (get_or row k 0) (some.all k (omega arith)))
  ];
  only = λ w j. elim (one.only w j) as (λ _. In old w ⊎ In row w) [
    | inl h ↦ some.only w h
    | inr e ↦ inr (subst (In row) e (met row i v below is))
  ];
}

pub lists_all : (old row : List ℕ) (i : ℕ) (new : List ℕ) → length row ≤ i → ListsSome old row i new → ListsRow old row new
lists_all old row i new le some = record {
  added = some.added;
  is = some.is;
  all = λ v j. (let p = place_of row v j in let b = p.below in subst (In new) p.is (some.all p.place (omega arith)));
  only = some.only;
}

module _ (next : List (List ℕ)) (start : ℕ) where
  -- Each node that is listed is reached from the first one in one step or more. So are those next to it, and those next to each
  -- of the first that are listed, so many.
  pub record Reached (nodes : List ℕ) (at : ℕ) : Type 0 where
    pub begun : (v : ℕ) → IsNext next start v → In nodes v
    pub reached : (v : ℕ) → In nodes v → (u : ℕ) × (IsNext next start u × Reaches (IsNext next) u v)
    pub spread : (k : ℕ) → k < at → (v : ℕ) → IsNext next (get_or nodes k 0) v → In nodes v

  pub begun_reached : (row nodes : List ℕ) → get_or next start [] ≡ row → ListsRow [] row nodes → Reached nodes 0
  begun_reached row nodes is lists = record {
    begun = λ v n. lists.all v (subst (λ zs. In zs v) is n);
    reached = λ v i. elim (lists.only v i) [ inl gone ↦ absurd gone | inr j ↦ (v, (subst (λ zs. In zs v) (sym is) j, here)) ];
    spread = λ k h. absurd (omega arith);
  }

  pub more_reached : (nodes : List ℕ) (at x : ℕ) (row new : List ℕ) → Reached nodes at → at < length nodes → get_or nodes at 0 ≡ x → get_or next x [] ≡ row → ListsRow nodes row new
      → Reached new (at + 1)
  more_reached nodes at x row new r below is row_is lists =
      let same : (k : ℕ) → k < length nodes → get_or new k 0 ≡ get_or nodes k 0 = λ k l. ap (λ zs. get_or zs k 0) lists.is ∙ get_or_append_left nodes lists.added 0 k l in
      let old : (v : ℕ) → In nodes v → In new v = λ v i. subst (λ zs. In zs v) (sym lists.is) (in_left nodes lists.added v i) in
      record {
        begun = λ v n. old v (r.begun v n);
        reached = λ v i. elim (lists.only v i) as (λ _. (u : ℕ) × (IsNext next start u × Reaches (IsNext next) u v)) [
          | inl j ↦ r.reached v j
          | inr j ↦ (let p = r.reached x (subst (In nodes) is (in_at nodes at below)) in (p.0, (p.1.0, onto p.1.1 (subst (λ zs. In zs v) (sym row_is) j))))
        ];
        spread = λ k l v n. elim (cases_eq k at) as (λ _. In new v) [
          | inl e ↦ lists.all v (subst (λ zs. In zs v) row_is (subst (λ z. IsNext next z v) (ap (λ z. get_or new z 0) e ∙ same at below ∙ is) n))
          | inr d ↦ old v (r.spread k (omega arith) v (subst (λ z. IsNext next z v) (same k (omega arith)) n))
        ];
      }

  pub all_reached : (nodes : List ℕ) (at : ℕ) → length nodes ≤ at → Reached nodes at → (v : ℕ) → In nodes v ↔ ((u : ℕ) × (IsNext next start u × Reaches (IsNext next) u v))
  all_reached nodes at le r v = (r.reached v, λ p. go (r.begun p.0 p.1.0) p.1.1)
    where
      go : {u w : ℕ} → In nodes u → Reaches (IsNext next) u w → In nodes w
      go i here = i
      go {u} {w} i (onto {b} reach step) =
          let p = place_of nodes b (go i reach) in
          let l = p.below in
          r.spread p.place (omega arith) w (subst (λ z. IsNext next z w) (sym p.is) step)

  -- all nodes that are listed have rows
  pub within_reached : (nodes : List ℕ) (at : ℕ) → AreWithin next → Reached nodes at → (v : ℕ) → In nodes v → v < length next
  within_reached nodes at within r v i = let p = r.reached v i in go p.0 p.1.0 p.1.1
    where
      go : (u : ℕ) → IsNext next start u → {w : ℕ} → Reaches (IsNext next) u w → w < length next
      go u n here = within start u n
      go u n {w} (onto {b} reach step) = within b w step
