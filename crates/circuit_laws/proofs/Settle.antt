-- Each wire is settled by finitely many wires.
use Rattle.std.proofs.Common.{◌≡◌, ℕ, zero, suc, List, [], ◌∷◌, ◌⊎◌, inl, inr, refl, sym, subst}
use Rattle.words.specs.Members.{In}
use Rattle.links.specs.Links.{here, onto, Below, Feeds, Counting}
use Rattle.circuit.specs.Cells.{TableCell}
use Rattle.circuit.specs.Parts.{OfTable, Source, sources}
use Rattle.circuit.specs.Pins.{Pin, table_pins}
use Rattle.circuit.specs.Circuits.{Circuit}
use Rattle.circuit.specs.Triplicated.{NoTableLoop}
use Rattle.links.proofs.Members.{any_of, same_number}
use Rattle.links.proofs.Feeds.{is_fed, feeds_on}
use Rattle.circuit_laws.proofs.Parts.{table_path}
use Rattle.circuit_laws.proofs.Sound.{Sound, FeedsFrom, feeds_own}
use Rattle.circuit_laws.proofs.Depth.{Deep, plus, table_of, ordered}
use Rattle.circuit_laws.proofs.Cycle.{reads_at}

-- A wire is settled k wires deep: so are its counting driver, and the pins of the table whose output it is, one less
-- deep.
abbrev pub Settles : Circuit → ℕ → ℕ → Type 0
Settles c zero a = ⊥
Settles c (suc k) a = ((b : ℕ) → Counting c.routing b a → Settles c k b)
    × ((s : Source) (t : TableCell) → In (sources c.cells) s → s.kind ≡ OfTable t → s.out ≡ a → (p : Pin) → In (table_pins s.part t) p → Settles c k p.wire)

settle_up : (c : Circuit) (k a : ℕ) → Settles c k a → Settles c (suc k) a
settle_up c zero a h = absurd h
settle_up c (suc k) a h = (λ b e. settle_up c k b (h.0 b e), λ s t j ks e p ip. settle_up c k p.wire (h.1 s t j ks e p ip))

settle_left : (c : Circuit) (n k a : ℕ) → Settles c k a → Settles c (plus n k) a
settle_left c zero k a h = h
settle_left c (suc n) k a h = settle_up c (plus n k) a (settle_left c n k a h)

settle_right : (c : Circuit) (n k a : ℕ) → Settles c n a → Settles c (plus n k) a
settle_right c zero k a h = absurd h
settle_right c (suc n) k a h = (λ b e. settle_right c n k b (h.0 b e), λ s t j ks e p ip. settle_right c n k p.wire (h.1 s t j ks e p ip))

-- the part whose output a wire is, or that there is none
pub named_at : (c : Circuit) (a : ℕ)
    → ((s : Source) × (In (sources c.cells) s × (s.out ≡ a))) ⊎ ((s : Source) → In (sources c.cells) s → s.out ≡ a → ⊥)
named_at c a = any_of (λ s. s.out ≡ a) (λ s. same_number s.out a) (sources c.cells)

module _ (c : Circuit) (ok : Sound c) where
  -- a cell output has no counting driver
  pub undriven : (s : Source) (b : ℕ) → In (sources c.cells) s → Counting c.routing b s.out → ⊥
  undriven s b js h = ok.clean.outputs_undriven s.out b (ok.formed.outputs.listed s js) h

  settle_along : (o : ℕ) → In c.routing.outputs o → (k : ℕ) × Settles c k o → {a : ℕ} → Below c.routing o a → (k : ℕ) × Settles c k a
  settle_along o out h here = h
  settle_along o out h {a} (onto {b} q s) =
      let g = settle_along o out h q in
      let drives : Counting c.routing b a = (s, (o, record { output = out; reach = q })) in (
        suc g.0,
        (
          λ x e. subst (Settles c g.0) (ok.clean.one_driver a b x drives e) g.1,
          λ u t j ks e p ip. absurd (undriven u b j (subst (Counting c.routing b) (sym e) drives)),
        ),
      )

  -- a wire is settled where the output of the part that feeds it is
  settle_wire : (a : ℕ) → ((u : Source) → FeedsFrom c u a → (k : ℕ) × Settles c k u.out) → (k : ℕ) × Settles c k a
  settle_wire a h = elim (is_fed c.routing a) [
    | inr none ↦ (1, (λ b e. absurd (none (e.1.0, feeds_on c.routing e.1.0 b a e.1.1 e.0)), λ s t j ks e p ip. absurd (none (s.out, subst (Feeds c.routing s.out) e (feeds_own c ok s j).feeds))))
    | inl x ↦ (let o = x.0 in settle_along o x.1.output (elim (named_at c o) [
      | inl y ↦ (let g = h y.0 (record { source = y.1.0; feeds = subst (λ z. Feeds c.routing z a) (sym y.1.1) x.1 }) in (g.0, subst (Settles c g.0) y.1.1 g.1))
      | inr no_part ↦ (1, (λ b e. absurd (ok.clean.outputs_undriven o b x.1.output e), λ s t j ks e p ip. absurd (no_part s j e)))
    ]) x.1.reach)
  ]

  settle_pins : (ps : List Pin) → ((p : Pin) → In ps p → (k : ℕ) × Settles c k p.wire) → (k : ℕ) × ((p : Pin) → In ps p → Settles c k p.wire)
  settle_pins [] h = (0, λ p ip. absurd ip)
  settle_pins (q ∷ qs) h =
      let first = h q (inl refl) in
      let rest = settle_pins qs (λ p ip. h p (inr ip)) in (
        plus first.0 rest.0,
        λ p ip. elim ip [
          | inl e ↦ settle_right c first.0 rest.0 p.wire (subst (λ z. Settles c first.0 z.wire) e first.1)
          | inr j ↦ settle_left c first.0 rest.0 p.wire (rest.1 p j)
        ],
      )

  -- the output of a part is settled where the pins of its table are
  settle_table : (s : Source) (t : TableCell) → In (sources c.cells) s → s.kind ≡ OfTable t
      → (k : ℕ) × ((p : Pin) → In (table_pins s.part t) p → Settles c k p.wire) → (j : ℕ) × Settles c j s.out
  settle_table s t js ks g = (
    suc g.0,
    (
      λ b e. absurd (undriven s b js e),
      λ u v ju ku e p ip. g.1 p (subst (λ z. In (table_pins s.part z) p) (table_path s.kind v t (subst (λ z. z.kind ≡ OfTable v) (ok.formed.outputs.alone u s ju js e) ku) ks)
          (subst (λ z. In (table_pins z.part v) p) (ok.formed.outputs.alone u s ju js e) ip)),
    ),
  )

  settle_other : (s : Source) → In (sources c.cells) s → ((t : TableCell) → s.kind ≡ OfTable t → ⊥) → (j : ℕ) × Settles c j s.out
  settle_other s js none = (1, (λ b e. absurd (undriven s b js e), λ u t ju ku e p ip. absurd (none t (subst (λ z. z.kind ≡ OfTable t) (ok.formed.outputs.alone u s ju js e) ku))))

  settle_out : (k : ℕ) (s : Source) → In (sources c.cells) s → Deep c k s → (j : ℕ) × Settles c j s.out
  settle_out zero s js deep = absurd deep
  settle_out (suc k) s js deep = elim (table_of s.kind) [
    | inr none ↦ settle_other s js none
    | inl t ↦ settle_table s t.0 js t.1 (settle_pins (table_pins s.part t.0) (λ p ip. settle_wire p.wire (λ u f. settle_out k u f.source (deep u (reads_at c s u t.0 p js t.1 ip f)))))
  ]

  pub settled : NoTableLoop c → (a : ℕ) → (k : ℕ) × Settles c k a
  settled free a = settle_wire a (λ u f. (let d = ordered c ok free u f.source in settle_out d.0 u f.source d.1))
