-- Paths that grow, what they don't leave, and what makes one the only one.
use Rattle.std.proofs.Common.{◌≡◌, ◌≢◌, ℕ, ◌+◌, ◌≤◌, List, [], ◌∷◌, ◌++◌, inl, inr, refl, sym, ap₂, subst, arith}
use Rattle.std.specs.declared.cmp.Ordering.{Ordering}
use Rattle.std.specs.declared.cmp.Ordering.TheVariants.{Less, Equal, Greater}
use Rattle.std.specs.Ordering.{ordering_then, ordering_reverse}
use Rattle.std.specs.Cmp.{IsTotalOrder}
use Rattle.std.specs.Cmp.Lexicographic.{slice_cmp, lists_total}
use Rattle.words.specs.Members.{In}
use Rattle.links.specs.Links.{here, onto}
use Rattle.paths.specs.Roads.{Roads, IsBelow}
use Rattle.paths.specs.Paths.{LeadsOn, IsPath, weight_of, IsThePath, HasNoSinkTwice}
use Rattle.paths.specs.Cuts.{IsCut}

-- a set of wires that neither a link nor an arc that may be taken leads out of
pub record IsClosed {A : Type 0} (roads : Roads A) (Inside : ℕ → Type 0) : Type 0 where
  pub links : (w x : ℕ) → Inside w → roads.Linked w x → Inside x
  pub arcs : (a : A) → roads.MayTake a → Inside (roads.source a) → Inside (roads.sink a)

module _ {A : Type 0} (roads : Roads A) where
  module _ (Inside : ℕ → Type 0) (closed : IsClosed roads Inside) where
    pub below_stays : {w x : ℕ} → Inside w → IsBelow roads w x → Inside x
    below_stays h here = h
    below_stays h (onto {b} {c} q s) = closed.links b c (below_stays h q) s

    pub lead_stays : (w : ℕ) (path : List A) (pin : ℕ) → Inside w → LeadsOn roads w path pin → Inside pin
    lead_stays w [] pin h p = below_stays h p
    lead_stays w (a ∷ rest) pin h p = lead_stays (roads.sink a) rest pin (closed.arcs a p.1 (below_stays h p.0)) p.2

    -- what a path from inside leads to is inside
    pub path_stays : (InTree : ℕ → Type 0) → ((w : ℕ) → InTree w → Inside w) → (path : List A) (pin : ℕ) → IsPath roads InTree path pin → Inside pin
    path_stays InTree tree [] pin p = tree pin p
    path_stays InTree tree (a ∷ rest) pin p = lead_stays (roads.sink a) rest pin (closed.arcs a p.1 (tree (roads.source a) p.0)) p.2

  pub cut_closed : (InTree : ℕ → Type 0) (inside : List ℕ) (pin : ℕ) → IsCut roads InTree inside pin → IsClosed roads (In inside)
  cut_closed InTree inside pin cut = record { links = cut.links; arcs = cut.arcs }

  pub none_crosses : (InTree : ℕ → Type 0) (inside : List ℕ) (path : List A) (pin : ℕ) → IsCut roads InTree inside pin → IsPath roads InTree path pin → ⊥
  none_crosses InTree inside path pin cut p = cut.pin_out (path_stays (In inside) (cut_closed InTree inside pin cut) InTree cut.tree path pin p)

  -- one link further
  lead_link : (w : ℕ) (path : List A) (x y : ℕ) → LeadsOn roads w path x → roads.Linked x y → LeadsOn roads w path y
  lead_link w [] x y p l = onto p l
  lead_link w (a ∷ rest) x y p l = (p.0, p.1, lead_link (roads.sink a) rest x y p.2 l)

  pub path_link : (InTree : ℕ → Type 0) → ((w x : ℕ) → InTree w → roads.Linked w x → InTree x)
      → (path : List A) (x y : ℕ) → IsPath roads InTree path x → roads.Linked x y → IsPath roads InTree path y
  path_link InTree closed [] x y p l = closed x y p l
  path_link InTree closed (a ∷ rest) x y p l = (p.0, p.1, lead_link (roads.sink a) rest x y p.2 l)

  -- one arc further
  lead_arc : (w : ℕ) (path : List A) (a : A) → LeadsOn roads w path (roads.source a) → roads.MayTake a → LeadsOn roads w (path ++ a ∷ []) (roads.sink a)
  lead_arc w [] a p m = (p, m, here)
  lead_arc w (b ∷ rest) a p m = (p.0, p.1, lead_arc (roads.sink b) rest a p.2 m)

  pub path_arc : (InTree : ℕ → Type 0) (path : List A) (a : A) → IsPath roads InTree path (roads.source a) → roads.MayTake a → IsPath roads InTree (path ++ a ∷ []) (roads.sink a)
  path_arc InTree [] a p m = (p, m, here)
  path_arc InTree (b ∷ rest) a p m = (p.0, p.1, lead_arc (roads.sink b) rest a p.2 m)

  -- all arcs of a list may be taken
  abbrev pub AreTaken : List A → Type 0
  AreTaken path = (a : A) → In path a → roads.MayTake a

  taken_more : (a : A) (rest : List A) → roads.MayTake a → AreTaken rest → AreTaken (a ∷ rest)
  taken_more a rest m t b i = elim i [ inl e ↦ subst roads.MayTake e m | inr j ↦ t b j ]

  pub lead_taken : (w : ℕ) (path : List A) (pin : ℕ) → LeadsOn roads w path pin → AreTaken path
  lead_taken w [] pin p = λ a i. absurd i
  lead_taken w (a ∷ rest) pin p = taken_more a rest p.1 (lead_taken (roads.sink a) rest pin p.2)

  pub path_taken : (InTree : ℕ → Type 0) (path : List A) (pin : ℕ) → IsPath roads InTree path pin → AreTaken path
  path_taken InTree [] pin p = λ a i. absurd i
  path_taken InTree (a ∷ rest) pin p = taken_more a rest p.1 (lead_taken (roads.sink a) rest pin p.2)

  -- lists that tie are one where arcs that tie are
  module _ (same : (a b : A) → roads.MayTake a → roads.MayTake b → roads.cmp a b ≡ Equal → a ≡ b) where
    both_tie : (a b : Ordering) → ordering_then a b ≡ Equal → (a ≡ Equal) × (b ≡ Equal)
    both_tie Less b h = absurd (let no : ⊥ = cc in no)
    both_tie Equal b h = (refl, h)
    both_tie Greater b h = absurd (let no : ⊥ = cc in no)

    ties_are_same : (p q : List A) → AreTaken p → AreTaken q → slice_cmp roads.cmp p q ≡ Equal → p ≡ q
    ties_are_same [] [] s t e = refl
    ties_are_same [] (b ∷ q) s t e = absurd (let no : ⊥ = cc in no)
    ties_are_same (a ∷ p) [] s t e = absurd (let no : ⊥ = cc in no)
    ties_are_same (a ∷ p) (b ∷ q) s t e =
        let h = both_tie (roads.cmp a b) (slice_cmp roads.cmp p q) e in
        ap₂ (λ x xs. x ∷ xs) (same a b (s a (inl refl)) (t b (inl refl)) h.0) (ties_are_same p q (λ x i. s x (inr i)) (λ x i. t x (inr i)) h.1)

    neither_greater : (a b : Ordering) → a ≡ ordering_reverse b → a ≢ Greater → b ≢ Greater → a ≡ Equal
    neither_greater Less Less e p q = absurd (let no : ⊥ = cc in no)
    neither_greater Less Equal e p q = absurd (let no : ⊥ = cc in no)
    neither_greater Less Greater e p q = absurd (q refl)
    neither_greater Equal b e p q = refl
    neither_greater Greater b e p q = absurd (p refl)

    pub one_path : IsTotalOrder roads.cmp → (weight : ℕ → ℕ) (InTree : ℕ → Type 0) (p q : List A) (pin : ℕ)
        → IsThePath roads weight InTree p pin → IsThePath roads weight InTree q pin → p ≡ q
    one_path total weight InTree p q pin hp hq =
        let a = hp.least q hq.is_path in
        let b = hq.least p hp.is_path in
        let e : weight_of roads weight q ≡ weight_of roads weight p = omega arith in
        let tie : slice_cmp roads.cmp p q ≡ Equal =
        neither_greater (slice_cmp roads.cmp p q) (slice_cmp roads.cmp q p) ((lists_total total).antisymm p q) (hp.first q hq.is_path e) (hq.first p hp.is_path (sym e)) in
        ties_are_same p q (path_taken InTree p pin hp.is_path) (path_taken InTree q pin hq.is_path) tie

  -- a part of a path that comes back to a sink can be left out
  module _ (weight : ℕ → ℕ) where
    -- where b is taken, what leads on from its sink
    pub record Onward (b : A) (path : List A) (pin : ℕ) : Type 0 where
      pub rest : List A
      pub leads : LeadsOn roads (roads.sink b) rest pin
      pub lighter : weight (roads.sink b) + weight_of roads weight rest ≤ weight_of roads weight path

    onward : (w : ℕ) (path : List A) (pin : ℕ) (b : A) → LeadsOn roads w path pin → In path b → Onward b path pin
    onward w [] pin b p i = absurd i
    onward w (a ∷ rest) pin b p i = elim i [
      | inl e ↦ subst (λ x. Onward x (a ∷ rest) pin) e (record { rest = rest; leads = p.2; lighter = omega arith })
      | inr j ↦ (let o = onward (roads.sink a) rest pin b p.2 j in let l = o.lighter in record { rest = o.rest; leads = o.leads; lighter = omega arith })
    ]

    -- what leads on from a wire with no weight to spare
    abbrev IsLeastFrom : ℕ → List A → ℕ → Type 0
    IsLeastFrom w path pin = (other : List A) → LeadsOn roads w other pin → weight_of roads weight path ≤ weight_of roads weight other

    lead_once : ((a : A) → roads.MayTake a → 1 ≤ weight (roads.sink a)) → (w : ℕ) (path : List A) (pin : ℕ) → LeadsOn roads w path pin → IsLeastFrom w path pin
        → HasNoSinkTwice roads path
    lead_once heavy w [] pin p least = tt
    lead_once heavy w (a ∷ rest) pin p least = (
      (λ b i e.
          let o = onward (roads.sink a) rest pin b p.2 i in
          let m = lead_taken (roads.sink a) rest pin p.2 in
          let l = least (a ∷ o.rest) (p.0, p.1, subst (λ x. LeadsOn roads x o.rest pin) e o.leads) in
          let h = heavy b (m b i) in let k = o.lighter in
          let n : ⊥ = omega arith in n),
      lead_once heavy (roads.sink a) rest pin p.2 (λ other q. let l = least (a ∷ other) (p.0, p.1, q) in omega arith),
    )

    pub once : ((a : A) → roads.MayTake a → 1 ≤ weight (roads.sink a)) → (InTree : ℕ → Type 0) (path : List A) (pin : ℕ)
        → IsThePath roads weight InTree path pin → HasNoSinkTwice roads path
    once heavy InTree [] pin h = tt
    once heavy InTree (a ∷ rest) pin h = (
      (λ b i e.
          let o = onward (roads.sink a) rest pin b h.is_path.2 i in
          let m = lead_taken (roads.sink a) rest pin h.is_path.2 in
          let l = h.least (a ∷ o.rest) (h.is_path.0, h.is_path.1, subst (λ x. LeadsOn roads x o.rest pin) e o.leads) in
          let v = heavy b (m b i) in let k = o.lighter in
          let n : ⊥ = omega arith in n),
      lead_once heavy (roads.sink a) rest pin h.is_path.2 (λ other q. let l = h.least (a ∷ other) (h.is_path.0, h.is_path.1, q) in omega arith),
    )
