-- What the least part so far says of the check, and in what copies differ.
use Rattle.std.proofs.Common.{◌≡◌, ℕ, List, length, Option, None, Some, sym, subst, ◌∙◌}
use Rattle.std.specs.Prelude.{codes}
use Rattle.std.specs.Global.{Vec}
use Rattle.std.proofs.lemmas.Option.{slice_get_within}
use Rattle.words.specs.Members.{In}
use Rattle.records.specs.Side.{Triple}
use Rattle.circuit.specs.Parts.{Table, Register, Pad, PartRef}
use Rattle.circuit.specs.Circuits.{Circuit}
use Rattle.answers.specs.Refusals.{Refusal}
use Rattle.design_checks.specs.CopyChecks.{part_in, DifferIn, in_tables, in_registers, in_outputs, CopiesUnlike, unlike, OutputsDiffer, Field, IsFirstField, field_text}
use Rattle.fabric_laws.proofs.Numbered.{number_there}
use Rattle.table_copies.specs.Told.{TellsTables}
use Rattle.copy_checks.specs.declared.unlike.Unlike.{Unlike}
use Rattle.copy_checks.specs.declared.numbered.Numbered.{Numbered}
use Rattle.copy_checks.specs.declared.numbered.Numbered.TheVariants.{Tables, Registers}
use Rattle.copy_checks.specs.Unlike.{named, kind_at, IsAnswer, IsTold, NotAfter, Covers, WithTriples, WithOutputs, TellsUnlike}

-- ---- in what copies differ

pub tables_none : (c : Circuit) (t : Triple) (n : ℕ) → TellsTables c t n None → IsAnswer c t (Table n) None
tables_none c t n none d = none d.0 d.1.0 d.1.1

pub tables_some : (c : Circuit) (t : Triple) (n : ℕ) (text : Vec ℕ) (u : Unlike) → In c.side.triples t → TellsTables c t n (Some text) → named u ≡ part_in t.first (Table n) → u.what.items ≡ text.items → IsAnswer c t (Table n) (Some u)
tables_some c t n text u i x is what =
    (is, subst (λ r. DifferIn c r u.what.items) (sym is) (subst (DifferIn c (part_in t.first (Table n))) (sym (what ∙ x.1.1.2)) (in_tables t n x.0 x.1.0 i x.1.1.0 x.1.1.1)))

pub field_told : (c : Circuit) (t : Triple) (n : ℕ) (f : Field) (u : Unlike) → In c.side.triples t → IsFirstField c t n f → named u ≡ part_in t.first (Register n) → u.what.items ≡ field_text f → IsAnswer c t (Register n) (Some u)
field_told c t n f u i x is what = (is, subst (λ r. DifferIn c r u.what.items) (sym is) (subst (DifferIn c (part_in t.first (Register n))) (sym what) (in_registers t n f i x)))

pub output_told : (c : Circuit) (t : Triple) (u : Unlike) → In c.side.outputs t → OutputsDiffer c t → named u ≡ part_in t.first Pad → u.what.items ≡ codes "out" → IsAnswer c t Pad (Some u)
output_told c t u i x is what = (is, subst (λ r. DifferIn c r u.what.items) (sym is) (subst (DifferIn c (part_in t.first Pad)) (sym what) (in_outputs t i x)))

-- ---- what is found

module _ (c : Circuit) (slices outputs : List Triple) (slices_are : c.side.triples ≡ slices) (outputs_are : c.side.outputs ≡ outputs) (found r : Option Unlike) (first : WithTriples c slices (length slices) None found)
    (rest : WithOutputs c outputs (length outputs) found r) where
  is_told : IsTold c r
  is_told = rest.0.told (first.0.told tt)

  of_slice : (t : Triple) → In c.side.triples t → (which : Numbered) (n : ℕ) → Covers c t (kind_at which n) r
  of_slice t i which n d =
      let k = number_there slices t (subst (λ ts. In ts t) slices_are i) in
      rest.0.keeps (part_in t.first (kind_at which n)) (first.1 k.0 t (slice_get_within slices k.0 t k.1) k.1 which n d)

  of_output : (t : Triple) → In c.side.outputs t → Covers c t Pad r
  of_output t i d = (let k = number_there outputs t (subst (λ ts. In ts t) outputs_are i) in rest.1 k.0 t (slice_get_within outputs k.0 t k.1) k.1 d)

  -- it comes after no part whose copies differ
  not_after : (p : PartRef) (text : List ℕ) → DifferIn c p text → NotAfter r p
  not_after _ _ (in_tables t n digits outs i d least) = of_slice t i Tables n (digits, (outs, d))
  not_after _ _ (in_registers t n field i d) = of_slice t i Registers n (field, d)
  not_after _ _ (in_outputs t i d) = of_output t i d

  passes : ((p : PartRef) (text : List ℕ) → DifferIn c p text → ⊥) → (e : Refusal) → CopiesUnlike c e → ⊥
  passes none _ (unlike part what least differ) = none part what differ

  by : (o : Option Unlike) → IsTold c o → ((p : PartRef) (text : List ℕ) → DifferIn c p text → NotAfter o p) → TellsUnlike c o
  by None told none = passes none
  by (Some u) told least = unlike (named u) u.what.items (record { has = (u.what.items, told); least = λ p h. least p h.0 h.1 }) told

  pub copies_told : TellsUnlike c r
  copies_told = by r is_told not_after
