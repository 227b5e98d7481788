-- The walk over the wires that are found.
use Rattle.std.proofs.Common.{◌≡◌, ℕ, zero, suc, ◌+◌, ◌<◌, ◌≤◌, ◌⊎◌, ◌↔◌, Bool, true, false, cond, List, [], ◌∷◌, ◌++◌, length, get_or, max, refl, sym, ap, subst, ◌∙◌, inl, inr, arith}
use Rattle.std.specs.Prelude.{nat_eq, slice_get, Some, None}
use Rattle.std.specs.List.{AllByRecursion, IsDistinct, list_any}
use Rattle.std.proofs.lemmas.Bool.{cases_eq, eqb-true, eq-eqb, false≢true}
use Rattle.std.proofs.lemmas.List.{append-nil, append_assoc, get_or_append_left, length-append}
use Rattle.std.proofs.lemmas.List.Elements.{All-from_recursion}
use Rattle.std.proofs.lemmas.Map.Keys.{IsDistinct-head, IsDistinct-tail}
use Rattle.std.proofs.lemmas.Map.Steps.{length-le_from_distinct_below}
use Rattle.words.specs.Members.{In}
use Rattle.words.specs.Twice.{HasNoneTwice}
use Rattle.links.specs.Links.{Reaches, here, onto}
use Rattle.links.proofs.Members.{in_either, in_left, in_right}
use Rattle.fabric_laws.proofs.Members.{any_from}
use Rattle.net_links.proofs.Listed.{in_at, place_of}
use Rattle.indexmap.specs.IndexSet.{insert_all, insert_key}
use Rattle.wire_feeds.specs.Rows.{AreRowsWithin, Leads}
use Rattle.wire_links.specs.Found.{Finds}

-- a number that is put in is there, and so are the others
insert_has : (ks : List ℕ) (k : ℕ) (b : Bool) → list_any (nat_eq k) ks ≡ b → In (cond b ks (ks ++ k ∷ [])) k
insert_has ks k true e = let f = any_from (nat_eq k) ks e in subst (In ks) (sym (eqb-true k f.0 f.2)) f.1
insert_has ks k false e = in_right ks (k ∷ []) k (inl refl)

insert_from : (ks : List ℕ) (k : ℕ) (b : Bool) (x : ℕ) → In (cond b ks (ks ++ k ∷ [])) x → In ks x ⊎ (k ≡ x)
insert_from ks k true x i = inl i
insert_from ks k false x i = elim (in_either ks (k ∷ []) x i) [ inl j ↦ inl j | inr j ↦ elim j [ inl e ↦ inr e | inr n ↦ absurd n ] ]

insert_added : (ks : List ℕ) (k : ℕ) (b : Bool) → (added : List ℕ) × (cond b ks (ks ++ k ∷ []) ≡ ks ++ added)
insert_added ks k true = ([], sym (append-nil ks))
insert_added ks k false = (k ∷ [], refl)

-- what more stands at the end of those that were found, once a row is put in
pub all_added : (ks row : List ℕ) → (added : List ℕ) × (insert_all nat_eq ks row ≡ ks ++ added)
all_added ks [] = ([], sym (append-nil ks))
all_added ks (k ∷ row) =
    let one = insert_added ks k (list_any (nat_eq k) ks) in
    let more = all_added (insert_key nat_eq ks k) row in
    (one.0 ++ more.0, more.1 ∙ (ap (λ (zs : List ℕ). zs ++ more.0) one.1 ∙ append_assoc ks one.0 more.0))

pub all_from : (ks row : List ℕ) (x : ℕ) → In (insert_all nat_eq ks row) x → In ks x ⊎ In row x
all_from ks [] x i = inl i
all_from ks (k ∷ row) x i = elim (all_from (insert_key nat_eq ks k) row x i) [
  | inl j ↦ elim (insert_from ks k (list_any (nat_eq k) ks) x j) [ inl a ↦ inl a | inr e ↦ inr (inl e) ]
  | inr j ↦ inr (inr j)
]

pub all_keep : (ks row : List ℕ) (x : ℕ) → In ks x → In (insert_all nat_eq ks row) x
all_keep ks row x i = let a = all_added ks row in subst (λ (zs : List ℕ). In zs x) (sym a.1) (in_left ks a.0 x i)

pub all_have : (ks row : List ℕ) (x : ℕ) → In row x → In (insert_all nat_eq ks row) x
all_have ks [] x i = absurd i
all_have ks (k ∷ row) x i = elim i [
  | inl e ↦ all_keep (insert_key nat_eq ks k) row x (subst (In (insert_key nat_eq ks k)) e (insert_has ks k (list_any (nat_eq k) ks) refl))
  | inr j ↦ all_have (insert_key nat_eq ks k) row x j
]

-- one more wire is spread from
pub finds_more : (next : List (List ℕ)) (w : ℕ) (found : List ℕ) (at x : ℕ) (row new : List ℕ) → Finds next w found at → at < length found → x ≡ get_or found at 0
    → row ≡ get_or next x [] → new ≡ insert_all nat_eq found row → Finds next w new (at + 1)
finds_more next w found at x row new f below is row_is new_is =
    let added = all_added found row in
    let same : (k : ℕ) → k < length found → get_or new k 0 ≡ get_or found k 0 = λ k l. ap (λ (zs : List ℕ). get_or zs k 0) (new_is ∙ added.1) ∙ get_or_append_left found added.0 0 k l in
    let into : (v : ℕ) → In (insert_all nat_eq found row) v → In new v = λ v i. subst (λ (zs : List ℕ). In zs v) (sym new_is) i in
    let reached_x : Reaches (Leads next) w x = f.reached x (subst (In found) (sym is) (in_at found at below)) in
    record {
      first = into w (all_keep found row w f.first);
      reached = λ v i. elim (all_from found row v (subst (λ (zs : List ℕ). In zs v) new_is i)) [
        | inl old ↦ f.reached v old
        | inr fresh ↦ onto reached_x (subst (λ (zs : List ℕ). In zs v) row_is fresh)
      ];
      spread = λ k l v leads. elim (cases_eq k at) [
        | inl e ↦ into v (all_have found row v (subst (λ (zs : List ℕ). In zs v) (sym row_is)
            (subst (λ z. Leads next z v) (ap (λ z. get_or new z 0) e ∙ same at below ∙ sym is) leads)))
        | inr d ↦ into v (all_keep found row v (f.spread k (omega arith) v (subst (λ z. Leads next z v) (same k (omega arith)) leads)))
      ];
    }

-- when all are spread from, all wires that are reached are found
pub found_all : (next : List (List ℕ)) (w : ℕ) (found : List ℕ) → Finds next w found (length found) → (x : ℕ) → In found x ↔ Reaches (Leads next) w x
found_all next w found f x = ((λ i. f.reached x i), (λ r. go r))
  where
    go : {v : ℕ} → Reaches (Leads next) w v → In found v
    go here = f.first
    go {v} (onto {b} reach leads) = let p = place_of found b (go reach) in f.spread p.place p.below v (subst (λ z. Leads next z v) (sym p.is) leads)

-- no more wires are found than there are
pub found_few : (next : List (List ℕ)) (w : ℕ) (found : List ℕ) (at : ℕ) → AreRowsWithin next → Finds next w found at → IsDistinct nat_eq found → length found ≤ max (length next) (w + 1)
found_few next w found at within f apart =
    length-le_from_distinct_below found (max (length next) (w + 1)) apart
    (λ q e. let m = any_from (nat_eq q) found e in let same = eqb-true q m.0 m.2 in let b = bound (f.reached m.0 m.1) in omega arith)
  where
    bound : {v : ℕ} → Reaches (Leads next) w v → v < max (length next) (w + 1)
    bound here = omega arith
    bound {v} (onto {b} reach leads) = let l = within b v leads in omega arith

-- found wires stand once
pub found_once : (found : List ℕ) → IsDistinct nat_eq found → HasNoneTwice found
found_once [] apart = tt
found_once (x ∷ xs) apart =
    ((λ i. apart_from x xs (IsDistinct-head nat_eq x xs apart) i), found_once xs (IsDistinct-tail nat_eq x xs apart))
  where
    apart_from : (y : ℕ) (ys : List ℕ) → AllByRecursion (λ z. nat_eq y z ≡ false) ys → In ys y → ⊥
    apart_from y ys all i =
        let p = place_of ys y i in
        let other : nat_eq y (get_or ys p.place 0) ≡ false = All-from_recursion (λ z. nat_eq y z ≡ false) ys all p.place 0 p.below in
        false≢true (sym other ∙ eq-eqb y (get_or ys p.place 0) (sym p.is))

pub finds_first : (next : List (List ℕ)) (w : ℕ) (found : List ℕ) → found ≡ w ∷ [] → Finds next w found 0
finds_first next w found is =
    subst (λ (zs : List ℕ). Finds next w zs 0) (sym is)
    (record { first = inl refl; reached = λ x i. elim i [ inl e ↦ subst (λ z. Reaches (Leads next) w z) e here | inr n ↦ absurd n ]; spread = λ k l. absurd (omega arith) })

-- no fewer wires are found once a row is put in
pub no_fewer : (ks row new : List ℕ) → new ≡ insert_all nat_eq ks row → length ks ≤ length new
no_fewer ks row new is =
    let added = all_added ks row in
    let long = ap (λ (zs : List ℕ). length zs) (is ∙ added.1) ∙ length-append ks added.0 in
    omega (arith, long)

-- what stands at a place stands within the list
pub place_below : (xs : List ℕ) (i x : ℕ) → slice_get xs i ≡ Some x → i < length xs
place_below [] i x e = absurd (let no : ⊥ = cc in no)
place_below (y ∷ xs) zero x e = omega arith
place_below (y ∷ xs) (suc i) x e = let l = place_below xs i x e in omega arith

pub place_past : (xs : List ℕ) (i : ℕ) → slice_get xs i ≡ None → length xs ≤ i
place_past [] i e = omega arith
place_past (y ∷ xs) zero e = absurd (let no : ⊥ = cc in no)
place_past (y ∷ xs) (suc i) e = let l = place_past xs i e in omega arith
