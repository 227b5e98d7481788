-- Where no table reaches itself, each part is finitely deep: within some number of connections back nothing more is
-- connected through tables.
use Rattle.std.proofs.Common.{◌≡◌, ℕ, zero, suc, List, [], ◌∷◌, length, ◌⊎◌, inl, inr, refl, sym, ap, subst, ◌∙◌, arith}
use Rattle.words.specs.Members.{In}
use Rattle.links.specs.Links.{Reaches, here}
use Rattle.circuit.specs.Cells.{TableCell}
use Rattle.circuit.specs.Parts.{Kind, OfTable, OfRegister, OfInput, OfClock, Source, sources}
use Rattle.circuit.specs.Pins.{Pin, table_pins}
use Rattle.circuit.specs.Circuits.{Circuit, IsReadBy}
use Rattle.circuit.specs.Triplicated.{NoTableLoop}
use Rattle.links.proofs.Walks.{reaches_from}
use Rattle.circuit_laws.proofs.Sound.{Sound, FeedsFrom, at_pin, to_pin, source_same, feed_at}
use Rattle.circuit_laws.proofs.Parts.{bit_pin_listed, table_bit, table_path}

-- within k connections back from s nothing more is connected
abbrev pub Deep : Circuit → ℕ → Source → Type 0
Deep c zero s = ⊥
Deep c (suc k) s = (u : Source) → IsReadBy c u s → Deep c k u

abbrev pub plus : ℕ → ℕ → ℕ
plus zero k = k
plus (suc n) k = suc (plus n k)

deep_up : (c : Circuit) (k : ℕ) (s : Source) → Deep c k s → Deep c (suc k) s
deep_up c zero s h = absurd h
deep_up c (suc k) s h = λ u rd. deep_up c k u (h u rd)

pub deep_left : (c : Circuit) (n k : ℕ) (s : Source) → Deep c k s → Deep c (plus n k) s
deep_left c zero k s h = h
deep_left c (suc n) k s h = deep_up c (plus n k) s (deep_left c n k s h)

pub deep_right : (c : Circuit) (n k : ℕ) (s : Source) → Deep c n s → Deep c (plus n k) s
deep_right c zero k s h = absurd h
deep_right c (suc n) k s h = λ u rd. deep_right c n k u (h u rd)

-- a list without one of its elements
record Without {X : Type 0} (xs : List X) (x : X) : Type 0 where
  rest : List X
  shorter : length xs ≡ suc (length rest)
  parts : (y : X) → In xs y → (x ≡ y) ⊎ In rest y

without : {X : Type 0} (xs : List X) (x : X) → In xs x → Without xs x
without [] x h = absurd h
without (z ∷ xs) x h = elim h [
  | inl e ↦ record { rest = xs; shorter = refl; parts = λ y j. elim j [ inl g ↦ inl (sym e ∙ g) | inr g ↦ inr g ] }
  | inr n ↦ (let w = without xs x n in record { rest = z ∷ w.rest; shorter = ap suc w.shorter; parts = λ y j. elim j [ inl g ↦ inr (inl g) | inr g ↦ elim (w.parts y g) [ inl q ↦ inl q | inr q ↦ inr (inr q) ] ] })
]

pred_same : (m n : ℕ) → suc m ≡ suc n → m ≡ n
pred_same m n e = omega arith

pub table_of : (k : Kind) → ((t : TableCell) × (k ≡ OfTable t)) ⊎ ((t : TableCell) → k ≡ OfTable t → ⊥)
table_of (OfTable t) = inl (t, refl)
table_of (OfRegister r) = inr (λ t e. (let no : ⊥ = cc in no))
table_of OfInput = inr (λ t e. (let no : ⊥ = cc in no))
table_of OfClock = inr (λ t e. (let no : ⊥ = cc in no))

module _ (c : Circuit) (ok : Sound c) (free : NoTableLoop c) where
  -- some number bounds the depth of what feeds the pins of a list
  Bounds : List Pin → ℕ → Type 0
  Bounds ps k = (u : Source) (p : Pin) → In ps p → FeedsFrom c u p.wire → Deep c k u

  bounded : (ps : List Pin) → ((u : Source) (p : Pin) → In ps p → FeedsFrom c u p.wire → (k : ℕ) × Deep c k u) → (k : ℕ) × Bounds ps k
  unfolding Bounds
  bounded [] deep = (0, λ u p i f. absurd i)
  bounded (p ∷ ps) deep =
      let rest = bounded ps (λ u q i f. deep u q (inr i) f) in
      elim (feed_at c ok p.wire) [
        | inl x ↦ (let d = deep x.0 p (inl refl) x.1 in (
          plus d.0 rest.0,
          λ u q i f. elim i [
            | inl e ↦ deep_right c d.0 rest.0 u (subst (Deep c d.0) (source_same c ok x.0 u p.wire x.1 (subst (λ z. FeedsFrom c u z.wire) (sym e) f)) d.1)
            | inr j ↦ deep_left c d.0 rest.0 u (rest.1 u q j f)
          ],
        ))
        | inr none ↦ (rest.0, λ u q i f. elim i [ inl e ↦ absurd (none u (subst (λ z. FeedsFrom c u z.wire) (sym e) f)) | inr j ↦ rest.1 u q j f ])
      ]

  -- a part is deep where each part that it reads is
  from_read : (s : Source) → In (sources c.cells) s → ((u : Source) → IsReadBy c u s → (k : ℕ) × Deep c k u) → (k : ℕ) × Deep c k s
  unfolding Bounds
  from_read s js deep = elim (table_of s.kind) [
    | inr h ↦ (1, λ u rd. absurd (h rd.table rd.is_table))
    | inl t ↦ (let b = bounded (table_pins s.part t.0) (λ u p i f. deep u (record {
      table = t.0;
      is_table = t.1;
      listed = js;
      pin = p;
      takes = i;
      connects = to_pin c u p (bit_pin_listed c.cells s p js (table_bit s t.0 t.1 p i)) f;
    })) in (suc b.0, λ u rd. b.1 u rd.pin (subst (λ z. In (table_pins s.part z) rd.pin) (table_path s.kind rd.table t.0 rd.is_table t.1) rd.takes) (at_pin c u rd.pin rd.connects)))
  ]

  from_nothing : (n : ℕ) (rest : List Source) → length rest ≡ n → (s : Source) → In (sources c.cells) s
      → ((u : Source) → In (sources c.cells) u → In rest u ⊎ Reaches (IsReadBy c) s u) → (k : ℕ) × Deep c k s
  from_nothing zero [] len s js all = from_read s js (λ u rd. elim (all u rd.connects.source) [ inl i ↦ absurd i | inr l ↦ absurd (free u s rd l) ])
  from_nothing zero (x ∷ xs) len s js all = absurd (let no : ⊥ = omega arith in no)
  from_nothing (suc n) rest len s js all = from_read s js (λ u rd. elim (all u rd.connects.source) [
    | inl i ↦ (let w = without rest u i in
        let shorter : length w.rest ≡ n = pred_same (length w.rest) n (sym w.shorter ∙ len) in
        from_nothing n w.rest shorter u rd.connects.source (λ x jx. elim (all x jx) [
          | inl g ↦ elim (w.parts x g) [ inl e ↦ inr (subst (Reaches (IsReadBy c) u) e here) | inr h ↦ inl h ]
          | inr l ↦ inr (reaches_from rd l)
        ]))
    | inr l ↦ absurd (free u s rd l)
  ])

  pub ordered : (s : Source) → In (sources c.cells) s → (k : ℕ) × Deep c k s
  ordered s js = from_nothing (length (sources c.cells)) (sources c.cells) refl s js (λ u i. inl i)
