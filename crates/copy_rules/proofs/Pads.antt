-- Output pads that aren't fed by the same triple.
use Rattle.std.proofs.Common.{◌≡◌, ◌↔◌, ℕ, zero, suc, ◌<◌, Bool, true, false, not, List, [], ◌∷◌, length, Some, refl, sym, subst, ◌∙◌, arith}
use Rattle.std.specs.Prelude.{IsTrue, slice_get}
use Rattle.std.proofs.lemmas.Bool.{false≢true}
use Rattle.std.proofs.lemmas.Option.{slice_get_within}
use Rattle.records.specs.Side.{Triple}
use Rattle.circuit.specs.Cells.{Cells}
use Rattle.circuit.specs.Pins.{Pin, pad_pin, pins}
use Rattle.circuit.specs.Circuits.{Circuit}
use Rattle.circuit.specs.Registers.{FedAlike}
use Rattle.design_checks.specs.CopyChecks.{OutputsDiffer}
use Rattle.copy_rules.specs.Outputs.{FedUnlike, SomeUnlike, AreOutputPins}

some_pin : (a b : Pin) → Some a ≡ Some b → a ≡ b
some_pin a b h = cc

element : (xs : List Pin) (i : ℕ) → i < length xs → (x : Pin) × (slice_get xs i ≡ Some x)
element [] i h = absurd (omega arith)
element (x ∷ xs) zero h = (x, refl)
element (x ∷ xs) (suc i) h = element xs i (omega arith)

module _ (cells : Cells) (c : Circuit) (same : c.cells ≡ cells) (i j : ℕ) where
  to_cells : (k : ℕ) (x : Pin) → slice_get (pins c.cells) k ≡ Some x → slice_get (pins cells) k ≡ Some x
  to_cells k x = subst (λ v. slice_get (pins v) k ≡ Some x) same

  of_cells : (k : ℕ) (x : Pin) → slice_get (pins cells) k ≡ Some x → slice_get (pins c.cells) k ≡ Some x
  of_cells k x = subst (λ v. slice_get (pins v) k ≡ Some x) (sym same)

  pub no_first_pin : (i < length (pins cells) → ⊥) → IsTrue false ↔ FedUnlike c i j
  no_first_pin none = ((λ h. absurd (false≢true h)), (λ d. absurd (none (slice_get_within (pins cells) i d.first (to_cells i d.first d.first_at)))))

  pub no_second_pin : (j < length (pins cells) → ⊥) → IsTrue false ↔ FedUnlike c i j
  no_second_pin none = ((λ h. absurd (false≢true h)), (λ d. absurd (none (slice_get_within (pins cells) j d.second (to_cells j d.second d.second_at)))))

  pub unlike_told : (r : Bool) → i < length (pins cells) → j < length (pins cells)
      → ((x y : Pin) → slice_get (pins cells) i ≡ Some x → slice_get (pins cells) j ≡ Some y → IsTrue r ↔ FedAlike c x y) → IsTrue (not r) ↔ FedUnlike c i j
  unlike_told true here there told = (
    (λ h. absurd (false≢true h)),
    (λ d. absurd (d.differs ((told d.first d.second (to_cells i d.first d.first_at) (to_cells j d.second d.second_at)).0 refl))),
  )
  unlike_told false here there told =
      let x = element (pins cells) i here in
      let y = element (pins cells) j there in (
        (λ h. record {
          first = x.0;
          second = y.0;
          first_at = of_cells i x.0 x.1;
          second_at = of_cells j y.0 y.1;
          differs = λ a. false≢true ((told x.0 y.0 x.1 y.1).1 a);
        }),
        (λ d. refl),
      )

module _ (c : Circuit) (t : Triple) (listed : List ℕ) (are : AreOutputPins c t listed) where
  outputs_differ : SomeUnlike c listed → OutputsDiffer c t
  outputs_differ x =
      let d = x.1.1.1.1 in
      let p = are.each x.0 x.1.0 in
      let q = are.each x.1.1.0 x.1.1.1.0 in
      let first : d.first ≡ pad_pin p.0 = some_pin d.first (pad_pin p.0) (sym d.first_at ∙ p.1.2) in
      let second : d.second ≡ pad_pin q.0 = some_pin d.second (pad_pin q.0) (sym d.second_at ∙ q.1.2) in
      (p.0, (q.0, (p.1.0, (q.1.0, (p.1.1, (q.1.1, (λ a. d.differs (subst (λ z. FedAlike c z d.second) (sym first) (subst (λ z. FedAlike c (pad_pin p.0) z) (sym second) a)))))))))

  some_unlike : OutputsDiffer c t → SomeUnlike c listed
  some_unlike x =
      let i = are.all x.0 x.1.1.0 x.1.1.1.1.0 in
      let j = are.all x.1.0 x.1.1.1.0 x.1.1.1.1.1.0 in (
        i.0,
        (
          i.1.0,
          (
            j.0,
            (
              j.1.0,
              record {
                first = pad_pin x.0;
                second = pad_pin x.1.0;
                first_at = i.1.1;
                second_at = j.1.1;
                differs = x.1.1.1.1.1.1;
              },
            ),
          ),
        ),
      )

  pub outputs_told : (r : Bool) → IsTrue r ↔ SomeUnlike c listed → IsTrue r ↔ OutputsDiffer c t
  outputs_told r told = ((λ h. outputs_differ (told.0 h)), (λ d. told.1 (some_unlike d)))
