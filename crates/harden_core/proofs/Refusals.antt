-- The checks of a text and of the circuit of its cells, in a row.
use Rattle.std.proofs.Common.{◌≡◌, Ok, inl, inr, sym, subst, ◌∙◌}
use Rattle.std.specs.Prelude.{Result, MatchResult, Err}
use Rattle.fabric.specs.Graph.{Graph}
use Rattle.fabric.specs.Image.{image_of}
use Rattle.circuit.specs.Cells.{Cells}
use Rattle.cells.specs.CellsOf.{cells_of}
use Rattle.upset.specs.Configured.{circuit_of}
use Rattle.answers.specs.Refusals.{Refusal}
use Rattle.design_files.specs.Designs.{Design}
use Rattle.design_checks.specs.Checks.{Passes, ◌before◌}
use Rattle.design_checks.specs.DesignChecks.{CellsRefused, in_circuit, CircuitRefused, configured_as}
use Rattle.load_routing.specs.declared.error.LoadError.{LoadError}
use Rattle.load_routing.specs.declared.error.LoadError.TheVariants.{Refused, Memory}
use Rattle.load_routing.specs.Refused.{IsRefusedBy}
use Rattle.load_routing.proofs.Checked.{both_pass}

-- what a check refuses, another one refuses too
pub refused_more : (check more : Refusal → Type 0) (e : LoadError) → ((r : Refusal) → check r → more r) → IsRefusedBy check e → IsRefusedBy more e
refused_more check more (Refused text) f h = (h.0, (f h.0 h.1.0, h.1.1))
refused_more check more Memory f h = tt

-- ---- the circuit of cells that are there

same_cells : (a b : Cells) {E : Type 0} (r : Result Cells E) → r ≡ Ok a → r ≡ Ok b → a ≡ b
same_cells a b {E} r x y = (let s : Ok a ≡ Ok b = sym x ∙ y in let t : a ≡ b = cc in t)

module _ (design : Design) (g : Graph) (cells : Cells) (its : cells_of g design.device.profile (image_of g design.config) design.side ≡ Ok cells) where
  pub circuit_refuses : (e : LoadError) → IsRefusedBy (CircuitRefused g (circuit_of (configured_as design g cells))) e → IsRefusedBy (CellsRefused design g) e
  circuit_refuses e h = refused_more (CircuitRefused g (circuit_of (configured_as design g cells))) (CellsRefused design g) e (λ r c. in_circuit cells its c) h

  pub circuit_passes : Passes (CircuitRefused g (circuit_of (configured_as design g cells))) → Passes (CellsRefused design g)
  circuit_passes p r (in_circuit others there c) =
      p r (subst (λ (x : Cells). CircuitRefused g (circuit_of (configured_as design g x)) r) (same_cells others cells (cells_of g design.device.profile (image_of g design.config) design.side) there its) c)

-- ---- checks in a row

module _ (a b c d last : Refusal → Type 0) where
  abbrev Whole : Refusal → Type 0
  Whole = (a before b before c before d) before last

  pub front_refuses : (e : LoadError) → IsRefusedBy (a before b before c) e → IsRefusedBy Whole e
  front_refuses e h = refused_more (a before b before c) Whole e (λ r x. inl (elim x [
    | inl p ↦ inl p
    | inr q ↦ inr (
      q.0,
      (elim q.1 [
        | inl p ↦ inl p
        | inr s ↦ inr (s.0, inl s.1)
      ]),
    )
  ])) h

  four_pass : Passes a → Passes b → Passes c → Passes d → Passes (a before b before c before d)
  four_pass p q r s = both_pass a (b before c before d) p (both_pass b (c before d) q (both_pass c d r s))

  pub back_refuses : (e : LoadError) → Passes a → Passes b → Passes c → IsRefusedBy (d before last) e → IsRefusedBy Whole e
  back_refuses e p q s h = refused_more (d before last) Whole e (λ r x. elim x [
    | inl y ↦ inl (inr (p, inr (q, inr (s, y))))
    | inr z ↦ inr (four_pass p q s z.0, z.1)
  ]) h

  back_passes : Passes (d before last) → Passes d × Passes last
  back_passes h = (let first : Passes d = λ r x. h r (inl x) in (first, λ r x. h r (inr (first, x))))

  pub all_pass : Passes a → Passes b → Passes c → Passes (d before last) → Passes Whole
  all_pass p q s h = (let both = back_passes h in both_pass (a before b before c before d) last (four_pass p q s both.0) both.1)

  -- the first three passed: what the others answer is the answer of all
  pub whole_answer : {X : Type 0} (r : Result X LoadError) → Passes a → Passes b → Passes c → MatchResult r (λ _. Passes (d before last)) (IsRefusedBy (d before last))
      → MatchResult r (λ _. Passes Whole) (IsRefusedBy Whole)
  whole_answer (Ok x) p q s h = all_pass p q s h
  whole_answer (Err e) p q s h = back_refuses e p q s h
