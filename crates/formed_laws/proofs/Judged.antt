-- What holds of a list whose elements have no fault, each judged with those before it.
use Rattle.std.proofs.Common.{◌≡◌, inl, inr, List, [], ◌∷◌, ◌++◌, map, Option, None, refl, sym, subst, append_assoc, append-nil}
use Rattle.words.specs.Members.{In}
use Rattle.words.specs.Firsts.{first_fault_after, first_fault}
use Rattle.words.specs.Twice.{HasNoneTwice}
use Rattle.links.proofs.Members.{in_left, in_right, in_either, of_map}
use Rattle.cells_laws.proofs.Options.{or_none}

module _ {X Y E : Type 0} (fault : List X → X → Option E) (key : X → Y)
    (sees : (before : List X) (y x : X) → fault before x ≡ None → In before y → key y ≡ key x → ⊥) where
  -- no key stands twice, and none is that of an element before the list
  keys_after : (before xs : List X) → first_fault_after fault before xs ≡ None
      → HasNoneTwice (map key xs) × ((y x : X) → In before y → In xs x → key y ≡ key x → ⊥)
  keys_after before [] h = (tt, (λ y x i j e. j))
  keys_after before (z ∷ zs) h =
      let parts = or_none (fault before z) (first_fault_after fault (before ++ z ∷ []) zs) h in
      let later = keys_after (before ++ z ∷ []) zs parts.1 in (
        ((λ i. (let r = of_map key zs (key z) i in later.1 z r.0 (in_right before (z ∷ []) z (inl refl)) r.1.0 (sym r.1.1))), later.0),
        (λ y x i j e. elim j [
          | inl s ↦ sees before y z parts.0 i (subst (λ w. key y ≡ key w) (sym s) e)
          | inr k ↦ later.1 y x (in_left before (z ∷ []) y i) k e
        ]),
      )

  -- no two elements have one key, where a key that stands before an element is a fault of it
  pub keys_once : (xs : List X) → first_fault fault xs ≡ None → HasNoneTwice (map key xs)
  keys_once xs h = (keys_after [] xs h).0

-- an element is faultless behind some others
pub each_faultless : {X E : Type 0} (fault : List X → X → Option E) (before xs : List X) → first_fault_after fault before xs ≡ None
    → (x : X) → In xs x → (front : List X) × (fault front x ≡ None)
each_faultless fault before [] h x i = absurd i
each_faultless fault before (z ∷ zs) h x i = let parts = or_none (fault before z) (first_fault_after fault (before ++ z ∷ []) zs) h in elim i [
  | inl e ↦ (before, subst (λ w. fault before w ≡ None) e parts.0)
  | inr j ↦ each_faultless fault (before ++ z ∷ []) zs parts.1 x j
]

module _ {X E : Type 0} (fault : List X → X → Option E) (Alike : X → X → Type 0) where
  -- any two of some elements are alike
  abbrev AllAlike : List X → Type 0
  AllAlike xs = (x y : X) → In xs x → In xs y → Alike x y

  module _ (itself : (x : X) → Alike x x) (turned : (x y : X) → Alike x y → Alike y x)
      (joins : (before : List X) (x : X) → fault before x ≡ None → AllAlike before → (y : X) → In before y → Alike y x) where
    one_more : (before : List X) (z : X) → fault before z ≡ None → AllAlike before → AllAlike (before ++ z ∷ [])
    one_more before z h all x y i j = elim (in_either before (z ∷ []) x i) [
      | inl a ↦ elim (in_either before (z ∷ []) y j) [ inl b ↦ all x y a b | inr b ↦ elim b [ inl e ↦ subst (Alike x) e (joins before z h all x a) | inr n ↦ absurd n ] ]
      | inr a ↦ elim a [
        | inl d ↦ subst (λ w. Alike w y) d (elim (in_either before (z ∷ []) y j) [
          | inl b ↦ turned y z (joins before z h all y b)
          | inr b ↦ elim b [ inl e ↦ subst (Alike z) e (itself z) | inr n ↦ absurd n ]
        ])
        | inr n ↦ absurd n
      ]
    ]

    alike_after : (before xs : List X) → first_fault_after fault before xs ≡ None → AllAlike before → AllAlike (before ++ xs)
    alike_after before [] h all = subst AllAlike (sym (append-nil before)) all
    alike_after before (z ∷ zs) h all =
        let parts = or_none (fault before z) (first_fault_after fault (before ++ z ∷ []) zs) h in
        subst AllAlike (append_assoc before (z ∷ []) zs) (alike_after (before ++ z ∷ []) zs parts.1 (one_more before z parts.0 all))

    -- any two elements are alike, where one that isn't like those before it has a fault
    pub all_alike : (xs : List X) → first_fault fault xs ≡ None → (x y : X) → In xs x → In xs y → Alike x y
    all_alike xs h = alike_after [] xs h (λ x y i j. absurd i)
