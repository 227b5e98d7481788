-- The list of the wires below a wire has just these.
use Rattle.std.proofs.Common.{◌≡◌, ℕ, Bool, true, false, List, [], ◌∷◌, ◌++◌, ◌⊎◌, inl, inr, refl, sym, ap, subst, arith, eqb, ◌||◌}
use Rattle.std.proofs.lemmas.Bool.Decides.{nat_tests}
use Rattle.words.specs.Members.{In}
use Rattle.links.specs.Links.{Link, Routing, Reaches, here, onto, Below}
use Rattle.links.proofs.Members.{in_left, in_right, in_either, is_in, same_number}
use Rattle.links.proofs.Walks.{reaches_on, reaches_by}
use Rattle.links.specs.Below.{has, below}

-- a link of a list leads from a wire to another
abbrev Leads : List Link → ℕ → ℕ → Type 0
Leads ls x w = In ls (record { source = x; sink = w })

or_right : (a b : Bool) → b ≡ true → (a || b) ≡ true
or_right true b h = refl
or_right false b h = h

pub has_in : (xs : List ℕ) (x : ℕ) → In xs x → has xs x ≡ true
has_in [] x h = absurd h
has_in (y ∷ ys) x h = elim h [
  | inl e ↦ (let t : eqb y x ≡ true = grind (arith, nat_tests) in subst (λ b. (b || has ys x) ≡ true) (sym t) refl)
  | inr j ↦ or_right (eqb y x) (has ys x) (has_in ys x j)
]

number_is : (m n : ℕ) → eqb m n ≡ true → m ≡ n
number_is m n h = grind (arith, nat_tests)

or_cases : (a b : Bool) → (a || b) ≡ true → (a ≡ true) ⊎ (b ≡ true)
or_cases true b h = inl refl
or_cases false b h = inr h

pub in_has : (xs : List ℕ) (x : ℕ) → has xs x ≡ true → In xs x
in_has [] x h = absurd (let no : ⊥ = cc in no)
in_has (y ∷ ys) x h = elim (or_cases (eqb y x) (has ys x) h) [ inl e ↦ inl (number_is y x e) | inr e ↦ inr (in_has ys x e) ]

abbrev joined : Bool → List ℕ → List ℕ → List ℕ
joined b xs ys = elim b [ true ↦ xs ++ ys | false ↦ xs ]

joined_left : (b : Bool) (xs ys : List ℕ) (v : ℕ) → In xs v → In (joined b xs ys) v
joined_left true xs ys v i = in_left xs ys v i
joined_left false xs ys v i = i

pub starts : (ls : List Link) (w : ℕ) → In (below ls w) w
starts [] w = inl refl
starts (l ∷ ls) w = joined_left (has (below ls w) l.source) (below ls w) (below ls l.sink) w (starts ls w)

-- what the list holds is below
sound_joined : (l : Link) (ls : List Link) (w v : ℕ) (b : Bool) → has (below ls w) l.source ≡ b
    → ((u : ℕ) → In (below ls w) u → Reaches (Leads ls) w u) → (In (below ls l.sink) v → Reaches (Leads ls) l.sink v)
    → In (joined b (below ls w) (below ls l.sink)) v → Reaches (Leads (l ∷ ls)) w v
sound_joined l ls w v false e first second i = reaches_by (λ x y s. inr s) (first v i)
sound_joined l ls w v true e first second i = elim (in_either (below ls w) (below ls l.sink) v i) [
  | inl j ↦ reaches_by (λ x y s. inr s) (first v j)
  | inr j ↦ reaches_on (onto (reaches_by (λ x y s. inr s) (first l.source (in_has (below ls w) l.source e))) (inl refl)) (reaches_by (λ x y s. inr s) (second j))
]

pub below_sound : (ls : List Link) (w v : ℕ) → In (below ls w) v → Reaches (Leads ls) w v
below_sound [] w v i = elim i [ inl e ↦ subst (λ z. Reaches (Leads []) w z) e here | inr j ↦ absurd j ]
below_sound (l ∷ ls) w v i = sound_joined l ls w v (has (below ls w) l.source) refl (λ u j. below_sound ls w u j) (λ j. below_sound ls l.sink v j) i

-- the list is closed along links
closed_joined : (l : Link) (ls : List Link) (w x v : ℕ) (b : Bool) → has (below ls w) l.source ≡ b
    → ((u : ℕ) → In (below ls u) x → Leads ls x v → In (below ls u) v)
    → In (joined b (below ls w) (below ls l.sink)) x → (l ≡ record { source = x; sink = v }) ⊎ Leads ls x v → In (joined b (below ls w) (below ls l.sink)) v
closed_joined l ls w x v false e closed i s = elim s [
  | inl same ↦ (let source : l.source ≡ x = ap (λ z. z.source) same in
      let held : has (below ls w) l.source ≡ true = has_in (below ls w) l.source (subst (In (below ls w)) (sym source) i) in
      absurd (let no : ⊥ = cc in no))
  | inr j ↦ closed w i j
]
closed_joined l ls w x v true e closed i s = elim s [
  | inl same ↦ in_right (below ls w) (below ls l.sink) v (subst (In (below ls l.sink)) (ap (λ z. z.sink) same) (starts ls l.sink))
  | inr j ↦ elim (in_either (below ls w) (below ls l.sink) x i) [
    | inl k ↦ in_left (below ls w) (below ls l.sink) v (closed w k j)
    | inr k ↦ in_right (below ls w) (below ls l.sink) v (closed l.sink k j)
  ]
]

below_closed : (ls : List Link) (w x v : ℕ) → In (below ls w) x → Leads ls x v → In (below ls w) v
below_closed [] w x v i s = absurd s
below_closed (l ∷ ls) w x v i s = closed_joined l ls w x v (has (below ls w) l.source) refl (λ u j t. below_closed ls u x v j t) i s

-- what is below stands in the list
pub below_complete : (ls : List Link) {w v : ℕ} → Reaches (Leads ls) w v → In (below ls w) v
below_complete ls {w} here = starts ls w
below_complete ls {w} (onto {b} {c} q s) = below_closed ls w b c (below_complete ls q) s

pub is_below : (r : Routing) (w v : ℕ) → Below r w v ⊎ (Below r w v → ⊥)
is_below r w v = elim (is_in same_number (below r.links w) v) [
  | inl i ↦ inl (below_sound r.links w v i)
  | inr h ↦ inr (λ b. h (below_complete r.links b))
]
