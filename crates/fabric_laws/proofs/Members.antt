-- Membership in lists that are joined, mapped, filtered and searched, and tests over lists.
use Rattle.std.proofs.Common.{◌≡◌, Bool, true, false, not, ◌||◌, cond, ◌⊎◌, inl, inr, List, [], ◌∷◌, filter, filter_map, find, Option, Some, None, refl, sym, ap, subst, ◌∙◌}
use Rattle.std.specs.Prelude.{if◌then◌else◌}
use Rattle.std.specs.List.{list_any, list_all, cons_option}
use Rattle.std.proofs.lemmas.Bool.{false≢true, and_parts, and_from, or_cases}
use Rattle.words.specs.Members.{In}

module _ {X : Type 0} where
  pub in_filter_from : (t : X → Bool) (xs : List X) (x : X) → In (filter t xs) x → In xs x × (t x ≡ true)
  in_filter_from t [] x i = absurd i
  in_filter_from t (y ∷ ys) x i = go (t y) refl i (in_filter_from t ys x)
    where
      go : (b : Bool) → t y ≡ b → In (cond b (y ∷ filter t ys) (filter t ys)) x → (In (filter t ys) x → In ys x × (t x ≡ true)) → In (y ∷ ys) x × (t x ≡ true)
      go true e k ih = elim k [ inl s ↦ (inl s, subst (λ z. t z ≡ true) s e) | inr j ↦ (inr (ih j).0, (ih j).1) ]
      go false e k ih = (inr (ih k).0, (ih k).1)

  pub in_filter_to : (t : X → Bool) (xs : List X) (x : X) → In xs x → t x ≡ true → In (filter t xs) x
  in_filter_to t [] x i e = absurd i
  in_filter_to t (y ∷ ys) x i e = go (t y) refl i (λ j. in_filter_to t ys x j e)
    where
      go : (b : Bool) → t y ≡ b → In (y ∷ ys) x → (In ys x → In (filter t ys) x) → In (cond b (y ∷ filter t ys) (filter t ys)) x
      go true k i ih = elim i [ inl s ↦ inl s | inr j ↦ inr (ih j) ]
      go false k i ih = elim i [ inl s ↦ absurd (false≢true (sym k ∙ subst (λ z. t z ≡ true) (sym s) e)) | inr j ↦ ih j ]

  pub all_from : (t : X → Bool) (xs : List X) → list_all t xs ≡ true → (x : X) → In xs x → t x ≡ true
  all_from t [] h x i = absurd i
  all_from t (y ∷ ys) h x i = elim i [
    | inl s ↦ subst (λ z. t z ≡ true) s (and_parts (t y) (list_all t ys) h).0
    | inr j ↦ all_from t ys (and_parts (t y) (list_all t ys) h).1 x j
  ]

  pub all_to : (t : X → Bool) (xs : List X) → ((x : X) → In xs x → t x ≡ true) → list_all t xs ≡ true
  all_to t [] h = refl
  all_to t (y ∷ ys) h = and_from (t y) (list_all t ys) (h y (inl refl)) (all_to t ys (λ x i. h x (inr i)))

  pub any_from : (t : X → Bool) (xs : List X) → list_any t xs ≡ true → (x : X) × In xs x × (t x ≡ true)
  any_from t [] h = absurd (false≢true h)
  any_from t (y ∷ ys) h = elim (or_cases (t y) (list_any t ys) h) [
    | inl e ↦ (y, inl refl, e)
    | inr e ↦ (let r = any_from t ys e in (r.0, inr r.1, r.2))
  ]

  pub any_to : (t : X → Bool) (xs : List X) (x : X) → In xs x → t x ≡ true → list_any t xs ≡ true
  any_to t [] x i e = absurd i
  any_to t (y ∷ ys) x i e = go (t y) refl i (λ j. any_to t ys x j e)
    where
      go : (b : Bool) → t y ≡ b → In (y ∷ ys) x → (In ys x → list_any t ys ≡ true) → b || list_any t ys ≡ true
      go true k i ih = refl
      go false k i ih = elim i [ inl s ↦ absurd (false≢true (sym k ∙ subst (λ z. t z ≡ true) (sym s) e)) | inr j ↦ ih j ]

  pub find_from : (t : X → Bool) (xs : List X) (x : X) → find t xs ≡ Some x → In xs x × (t x ≡ true)
  find_from t [] x h = absurd (let no : ⊥ = cc in no)
  find_from t (y ∷ ys) x h = go (t y) refl h (find_from t ys x)
    where
      go : (b : Bool) → t y ≡ b → cond b (Some y) (find t ys) ≡ Some x → (find t ys ≡ Some x → In ys x × (t x ≡ true)) → In (y ∷ ys) x × (t x ≡ true)
      go true e k ih = let s : y ≡ x = cc in (inl s, subst (λ z. t z ≡ true) s e)
      go false e k ih = (inr (ih k).0, (ih k).1)

  -- what is found of an element that passes, where all that pass are that element
  pub find_to : (t : X → Bool) (xs : List X) (x : X) → In xs x → t x ≡ true → ((y : X) → In xs y → t y ≡ true → y ≡ x) → find t xs ≡ Some x
  find_to t [] x i e only = absurd i
  find_to t (y ∷ ys) x i e only = go (t y) refl i (λ j. find_to t ys x j e (λ z k. only z (inr k)))
    where
      go : (b : Bool) → t y ≡ b → In (y ∷ ys) x → (In ys x → find t ys ≡ Some x) → cond b (Some y) (find t ys) ≡ Some x
      go true k i ih = ap (λ z. Some z) (only y (inl refl) k)
      go false k i ih = elim i [ inl s ↦ absurd (false≢true (sym k ∙ subst (λ z. t z ≡ true) (sym s) e)) | inr j ↦ ih j ]

in_cons_option : {Y : Type 0} (o : Option Y) (ys : List Y) (y : Y) → In (cons_option o ys) y → (o ≡ Some y) ⊎ In ys y
in_cons_option None ys y i = inr i
in_cons_option (Some z) ys y i = elim i [ inl s ↦ inl (ap (λ w. Some w) s) | inr j ↦ inr j ]

in_cons_option_front : {Y : Type 0} (o : Option Y) (ys : List Y) (y : Y) → o ≡ Some y → In (cons_option o ys) y
in_cons_option_front None ys y e = absurd (let no : ⊥ = cc in no)
in_cons_option_front (Some z) ys y e = inl (let s : z ≡ y = cc in s)

in_cons_option_back : {Y : Type 0} (o : Option Y) (ys : List Y) (y : Y) → In ys y → In (cons_option o ys) y
in_cons_option_back None ys y i = i
in_cons_option_back (Some z) ys y i = inr i

module _ {X Y : Type 0} where
  pub in_filter_map_to : (f : X → Option Y) (xs : List X) (x : X) (y : Y) → In xs x → f x ≡ Some y → In (filter_map f xs) y
  in_filter_map_to f [] x y i e = absurd i
  in_filter_map_to f (z ∷ zs) x y i e = elim i [
    | inl s ↦ in_cons_option_front (f z) (filter_map f zs) y (ap f s ∙ e)
    | inr k ↦ in_cons_option_back (f z) (filter_map f zs) y (in_filter_map_to f zs x y k e)
  ]

  pub in_filter_map_from : (f : X → Option Y) (xs : List X) (y : Y) → In (filter_map f xs) y → (x : X) × In xs x × (f x ≡ Some y)
  in_filter_map_from f [] y i = absurd i
  in_filter_map_from f (x ∷ xs) y i = elim (in_cons_option (f x) (filter_map f xs) y i) [
    | inl e ↦ (x, inl refl, e)
    | inr j ↦ (let r = in_filter_map_from f xs y j in (r.0, inr r.1, r.2))
  ]

pub if_true : {X : Type 0} (b : Bool) (x y : X) → b ≡ true → (if b then x else y) ≡ x
if_true true x y e = refl
if_true false x y e = absurd (false≢true e)

pub if_false : {X : Type 0} (b : Bool) (x y : X) → b ≡ false → (if b then x else y) ≡ y
if_false true x y e = absurd (false≢true (sym e))
if_false false x y e = refl

pub is_false : (b : Bool) → (b ≡ true → ⊥) → b ≡ false
is_false true n = absurd (n refl)
is_false false n = refl

-- a test that says "if p then q"
pub imp_from : (p q : Bool) → (not p || q) ≡ true → p ≡ true → q ≡ true
imp_from true q h e = h
imp_from false q h e = absurd (false≢true e)

pub imp_to : (p q : Bool) → (p ≡ true → q ≡ true) → (not p || q) ≡ true
imp_to true q h = h refl
imp_to false q h = refl
