-- Lists in which nothing stands twice: their parts, and what stands in two of them.
use Rattle.std.proofs.Common.{◌≡◌, ℕ, zero, suc, inl, inr, List, [], ◌∷◌, ◌++◌, map, flat_map, Some, refl, sym, ap, subst, ◌∙◌}
use Rattle.std.specs.Prelude.{slice_get}
use Rattle.std.proofs.lemmas.List.{map-append}
use Rattle.std.proofs.lemmas.List.Concat.{flat_map-append}
use Rattle.words.specs.Members.{In}
use Rattle.words.specs.Twice.{HasNoneTwice}
use Rattle.links.proofs.Members.{in_left, in_right, in_either, in_map, in_flat_map}
use Rattle.fabric_laws.proofs.Numbered.{get_in}

-- no element stands in both parts
pub not_both : {X : Type 0} (xs ys : List X) → HasNoneTwice (xs ++ ys) → (z : X) → In xs z → In ys z → ⊥
not_both [] ys h z i j = i
not_both (x ∷ xs) ys h z i j = elim i [
  | inl e ↦ h.0 (in_right xs ys x (subst (In ys) (sym e) j))
  | inr k ↦ not_both xs ys h.1 z k j
]

pub left_part : {X : Type 0} (xs ys : List X) → HasNoneTwice (xs ++ ys) → HasNoneTwice xs
left_part [] ys h = tt
left_part (x ∷ xs) ys h = ((λ i. h.0 (in_left xs ys x i)), left_part xs ys h.1)

pub right_part : {X : Type 0} (xs ys : List X) → HasNoneTwice (xs ++ ys) → HasNoneTwice ys
right_part [] ys h = h
right_part (x ∷ xs) ys h = right_part xs ys h.1

-- two lists that share nothing, one behind the other
pub joined_twice : {X : Type 0} (xs ys : List X) → HasNoneTwice xs → HasNoneTwice ys → ((z : X) → In xs z → In ys z → ⊥) → HasNoneTwice (xs ++ ys)
joined_twice [] ys h k apart = k
joined_twice (x ∷ xs) ys h k apart = (
  (λ i. elim (in_either xs ys x i) [ inl j ↦ h.0 j | inr j ↦ apart x (inl refl) j ]),
  joined_twice xs ys h.1 k (λ z i j. apart z (inr i) j),
)

module _ {X Y : Type 0} (f : X → Y) where
  -- elements with one key are one
  pub one_of_key : (xs : List X) → HasNoneTwice (map f xs) → (x y : X) → In xs x → In xs y → f x ≡ f y → x ≡ y
  one_of_key [] h x y i j e = absurd i
  one_of_key (z ∷ zs) h x y i j e = elim i [
    | inl a ↦ elim j [ inl b ↦ sym a ∙ b | inr b ↦ absurd (h.0 (subst (In (map f zs)) (sym (ap f a ∙ e)) (in_map f zs y b))) ]
    | inr a ↦ elim j [ inl b ↦ absurd (h.0 (subst (In (map f zs)) (e ∙ sym (ap f b)) (in_map f zs x a))) | inr b ↦ one_of_key zs h.1 x y a b e ]
  ]

  -- elements with one key stand at one place
  pub one_place_of_key : (xs : List X) → HasNoneTwice (map f xs) → (m n : ℕ) (x y : X) → slice_get xs m ≡ Some x → slice_get xs n ≡ Some y → f x ≡ f y → m ≡ n
  one_place_of_key [] h m n x y i j e = absurd (let no : ⊥ = cc in no)
  one_place_of_key (z ∷ zs) h zero zero x y i j e = refl
  one_place_of_key (z ∷ zs) h zero (suc n) x y i j e =
      let a : z ≡ x = cc in absurd (h.0 (subst (In (map f zs)) (sym (ap f a ∙ e)) (in_map f zs y (get_in zs n y j))))
  one_place_of_key (z ∷ zs) h (suc m) zero x y i j e =
      let b : z ≡ y = cc in absurd (h.0 (subst (In (map f zs)) (e ∙ sym (ap f b)) (in_map f zs x (get_in zs m x i))))
  one_place_of_key (z ∷ zs) h (suc m) (suc n) x y i j e = ap suc (one_place_of_key zs h.1 m n x y i j e)

module _ {X Y : Type 0} (f : X → List Y) where
  -- what one element of a list gives has nothing twice
  pub part_of_all : (xs : List X) → HasNoneTwice (flat_map f xs) → (x : X) → In xs x → HasNoneTwice (f x)
  part_of_all [] h x i = absurd i
  part_of_all (z ∷ zs) h x i = elim i [
    | inl e ↦ subst (λ w. HasNoneTwice (f w)) e (left_part (f z) (flat_map f zs) h)
    | inr j ↦ part_of_all zs (right_part (f z) (flat_map f zs) h) x j
  ]

  -- what two elements give is given by one
  pub one_giver : (xs : List X) → HasNoneTwice (flat_map f xs) → (x y : X) (z : Y) → In xs x → In xs y → In (f x) z → In (f y) z → x ≡ y
  one_giver [] h x y z i j k l = absurd i
  one_giver (w ∷ ws) h x y z i j k l = elim i [
    | inl a ↦ elim j [
      | inl b ↦ sym a ∙ b
      | inr b ↦ absurd (not_both (f w) (flat_map f ws) h z (subst (λ v. In (f v) z) (sym a) k) (in_flat_map f ws y z b l))
    ]
    | inr a ↦ elim j [
      | inl b ↦ absurd (not_both (f w) (flat_map f ws) h z (subst (λ v. In (f v) z) (sym b) l) (in_flat_map f ws x z a k))
      | inr b ↦ one_giver ws (right_part (f w) (flat_map f ws) h) x y z a b k l
    ]
  ]

  -- and stands at one place
  pub one_giving_place : (xs : List X) → HasNoneTwice (flat_map f xs) → (m n : ℕ) (x y : X) (z : Y) → slice_get xs m ≡ Some x → slice_get xs n ≡ Some y
      → In (f x) z → In (f y) z → m ≡ n
  one_giving_place [] h m n x y z i j k l = absurd (let no : ⊥ = cc in no)
  one_giving_place (w ∷ ws) h zero zero x y z i j k l = refl
  one_giving_place (w ∷ ws) h zero (suc n) x y z i j k l =
      let a : w ≡ x = cc in absurd (not_both (f w) (flat_map f ws) h z (subst (λ v. In (f v) z) (sym a) k) (in_flat_map f ws y z (get_in ws n y j) l))
  one_giving_place (w ∷ ws) h (suc m) zero x y z i j k l =
      let b : w ≡ y = cc in absurd (not_both (f w) (flat_map f ws) h z (subst (λ v. In (f v) z) (sym b) l) (in_flat_map f ws x z (get_in ws m x i) k))
  one_giving_place (w ∷ ws) h (suc m) (suc n) x y z i j k l = ap suc (one_giving_place ws (right_part (f w) (flat_map f ws) h) m n x y z i j k l)

-- two parts give nothing that is one
pub givers_apart : {X Y : Type 0} (f : X → List Y) (xs ys : List X) → HasNoneTwice (flat_map f (xs ++ ys)) → (x y : X) (z : Y) → In xs x → In ys y → In (f x) z → In (f y) z → ⊥
givers_apart f xs ys h x y z i j k l =
    not_both (flat_map f xs) (flat_map f ys) (subst HasNoneTwice (flat_map-append f xs ys) h) z (in_flat_map f xs x z i k) (in_flat_map f ys y z j l)

pub left_givers : {X Y : Type 0} (f : X → List Y) (xs ys : List X) → HasNoneTwice (flat_map f (xs ++ ys)) → HasNoneTwice (flat_map f xs)
left_givers f xs ys h = left_part (flat_map f xs) (flat_map f ys) (subst HasNoneTwice (flat_map-append f xs ys) h)

-- two parts have no key in common
pub keys_apart : {X Y : Type 0} (f : X → Y) (xs ys : List X) → HasNoneTwice (map f (xs ++ ys)) → (x y : X) → In xs x → In ys y → f x ≡ f y → ⊥
keys_apart f xs ys h x y i j e =
    not_both (map f xs) (map f ys) (subst HasNoneTwice (map-append f xs ys) h) (f y) (subst (In (map f xs)) e (in_map f xs x i)) (in_map f ys y j)
