-- Pins that count alike where one triple feeds them have an assignment of bits to triples.
use Rattle.std.proofs.Common.{◌≡◌, Bool, false, List, [], ◌∷◌, ◌++◌, ◌⊎◌, inl, inr, refl, sym, ap, subst}
use Rattle.words.specs.Members.{In}
use Rattle.circuit.specs.Parts.{Source}
use Rattle.circuit.specs.Pins.{Pin}
use Rattle.circuit.specs.Triples.{PartTriple, triple_of}
use Rattle.circuit.specs.Circuits.{Circuit}
use Rattle.links.proofs.Members.{in_left, in_right, in_either}
use Rattle.circuit_laws.proofs.Same.{same_group}
use Rattle.circuit_laws.proofs.Sound.{Sound, FeedsFrom, source_same, feed_at}

-- the triple of a part
abbrev pub group : Circuit → Source → PartTriple
group c s = triple_of c.side s.part

-- pins of two lists that one triple feeds have one bit
abbrev pub SameBits : Circuit → List Pin → List Pin → (Pin → Bool) → (Pin → Bool) → Type 0
SameBits c ps qs x y = (p q : Pin) (a b : Source) → In ps p → In qs q → FeedsFrom c a p.wire → FeedsFrom c b q.wire → group c a ≡ group c b → x p ≡ y q

-- each pin of a list that a part feeds has the bit of that part's triple
abbrev pub Gives : Circuit → (PartTriple → Bool) → List Pin → (Pin → Bool) → Type 0
Gives c bits ps x = (p : Pin) (a : Source) → In ps p → FeedsFrom c a p.wire → x p ≡ bits (group c a)

both_same : (c : Circuit) (ps qs : List Pin) (x : Pin → Bool) → SameBits c ps ps x x → SameBits c qs qs x x → SameBits c ps qs x x
    → SameBits c (ps ++ qs) (ps ++ qs) x x
both_same c ps qs x pp qq pq = λ p q a b ip iq fa fb e. elim (in_either ps qs p ip) [
  | inl i ↦ elim (in_either ps qs q iq) [ inl j ↦ pp p q a b i j fa fb e | inr j ↦ pq p q a b i j fa fb e ]
  | inr i ↦ elim (in_either ps qs q iq) [ inl j ↦ sym (pq q p b a j i fb fa (sym e)) | inr j ↦ qq p q a b i j fa fb e ]
]

module _ (c : Circuit) (ok : Sound c) (x : Pin → Bool) where
  Feed : Pin → Type 0
  Feed p = ((a : Source) × FeedsFrom c a p.wire) ⊎ ((a : Source) → FeedsFrom c a p.wire → ⊥)

  bit_for : (t : PartTriple) (p : Pin) → Feed p → Bool → Bool
  unfolding Feed
  bit_for t p (inr h) rest = rest
  bit_for t p (inl a) rest = elim (same_group (group c a.0) t) [ inl e ↦ x p | inr h ↦ rest ]

  feed : (p : Pin) → Feed p
  unfolding Feed
  feed p = feed_at c ok p.wire

  -- the bit of the first pin that the triple feeds
  assignment : List Pin → PartTriple → Bool
  assignment [] t = false
  assignment (p ∷ ps) t = bit_for t p (feed p) (assignment ps t)

  found : (p q : Pin) (a : Source) (rest : Bool) → FeedsFrom c a p.wire → (g : Feed q)
      → ((b : Source) → FeedsFrom c b q.wire → group c a ≡ group c b → x p ≡ x q) → (q ≡ p) ⊎ (x p ≡ rest)
      → x p ≡ bit_for (group c a) q g rest
  unfolding Feed bit_for
  found p q a rest f (inr h) alike later = elim later [ inl e ↦ absurd (h a (subst (λ z. FeedsFrom c a z.wire) (sym e) f)) | inr e ↦ e ]
  found p q a rest f (inl b) alike later = elim (same_group (group c b.0) (group c a)) as (λ z. x p ≡ elim z [ inl e ↦ x q | inr h ↦ rest ]) [
    | inl e ↦ alike b.0 b.1 (sym e)
    | inr h ↦ elim later [
      | inl e ↦ absurd (h (ap (group c) (source_same c ok b.0 a p.wire (subst (λ z. FeedsFrom c b.0 z.wire) e b.1) f)))
      | inr e ↦ e
    ]
  ]

  gives_from : (all ps : List Pin) → ((p : Pin) → In ps p → In all p) → SameBits c all all x x → (p : Pin) (a : Source) → In all p
      → In ps p → FeedsFrom c a p.wire → x p ≡ assignment ps (group c a)
  unfolding assignment
  gives_from all [] sub same p a j i f = absurd i
  gives_from all (q ∷ qs) sub same p a j i f =
      found p q a (assignment qs (group c a)) f (feed q) (λ b g e. same p q a b j (sub q (inl refl)) f g e)
      (elim i [ inl e ↦ inl e | inr k ↦ inr (gives_from all qs (λ z iz. sub z (inr iz)) same p a j k f) ])

  pub assigned : (all : List Pin) → SameBits c all all x x → (bits : PartTriple → Bool) × Gives c bits all x
  assigned all same = (assignment all, λ p a i f. gives_from all all (λ z iz. iz) same p a i i f)

  -- one assignment for the pins of two tables
  pub assigned_both : (ps qs : List Pin) → SameBits c ps ps x x → SameBits c qs qs x x → SameBits c ps qs x x
      → (bits : PartTriple → Bool) × (Gives c bits ps x × Gives c bits qs x)
  assigned_both ps qs pp qq pq =
      let g = assigned (ps ++ qs) (both_same c ps qs x pp qq pq) in
      (g.0, (λ p a i f. g.1 p a (in_left ps qs p i) f, λ p a i f. g.1 p a (in_right ps qs p i) f))
