-- From each of its cycles on an undisturbed run is a run of its own: its read registers hold one bit for each triple there,
-- which is a common start.
use Rattle.std.proofs.Common.{◌≡◌, ◌⊎◌, ℕ, suc, ◌+◌, ◌-◌, ◌<◌, Bool, true, false, inl, inr, refl, sym, ap, subst, ◌∙◌, arith}
use Rattle.words.specs.Members.{In}
use Rattle.records.specs.Side.{Triple}
use Rattle.links.specs.Links.{Below}
use Rattle.links.proofs.Members.{any_of}
use Rattle.links.proofs.Below.{is_below}
use Rattle.circuit.specs.Cells.{RegisterCell}
use Rattle.circuit.specs.Parts.{PartKind, Register, Kind, OfRegister, Source, sources}
use Rattle.circuit.specs.Pins.{Pin, pins}
use Rattle.circuit.specs.Triples.{PartTriple}
use Rattle.circuit.specs.Circuits.{Circuit}
use Rattle.circuit.specs.Worlds.{World}
use Rattle.circuit.specs.Faults.{no_fault}
use Rattle.circuit.specs.Runs.{IsStart, IsStep, IsRun}
use Rattle.circuit.specs.Triplicated.{ReadPart, IsTriplicated}
use Rattle.circuit_laws.proofs.Same.{same_group}
use Rattle.circuit_laws.proofs.Parts.{Fits, kind_fits}
use Rattle.circuit_laws.proofs.Sound.{Sound}
use Rattle.circuit_laws.proofs.Assign.{group}
use Rattle.circuit_laws.proofs.Copies.{HeldAlike}
use Rattle.circuit_laws.proofs.Steps.{copies_always}

-- what fits the kind of part that a register fits is a register
register_like : (p : PartKind) (r : RegisterCell) (k : Kind) → Fits p (OfRegister r) → Fits p k → (q : RegisterCell) × (k ≡ OfRegister q)
register_like (Register n) r (OfRegister q) fr fk = (q, refl)
register_like (Register n) r _ fr fk = absurd fk
register_like _ r k fr fk = absurd fr

is_one : (b : Bool) → (b ≡ true) ⊎ (b ≡ true → ⊥)
is_one true = inl refl
is_one false = inr (λ e. let no : ⊥ = cc in no)

not_one : (b : Bool) → (b ≡ true → ⊥) → b ≡ false
not_one true n = absurd (n refl)
not_one false n = refl

module _ (c : Circuit) (ok : Sound c) where
  -- the output of a part leads to a pin
  LeadsOn : Source → Type 0
  LeadsOn s = (p : Pin) × (In (pins c.cells) p × Below c.routing s.out p.wire)

  leads_on : (s : Source) → LeadsOn s ⊎ (LeadsOn s → ⊥)
  unfolding LeadsOn
  leads_on s = elim (any_of (λ p. Below c.routing s.out p.wire) (λ p. is_below c.routing s.out p.wire) (pins c.cells)) [ inl x ↦ inl x | inr n ↦ inr (λ h. n h.0 h.1.0 h.1.1) ]

  read_leads : (s : Source) → ReadPart c s → LeadsOn s
  unfolding LeadsOn
  read_leads s rs = (rs.read.0, (rs.read.1.pin, rs.read.1.feeds.reach))

  leads_read : (s : Source) → In (sources c.cells) s → LeadsOn s → ReadPart c s
  unfolding LeadsOn
  leads_read s i h = record { listed = i; read = (h.0, record { source = i; pin = h.1.0; feeds = record { output = ok.formed.outputs.listed s i; reach = h.1.1 } }) }

  module _ (v : World) where
    -- a part of the triple is read and has the bit 1
    HasOne : PartTriple → Source → Type 0
    HasOne t s = (group c s ≡ t) × (LeadsOn s × (v.part s.part ≡ true))

    has_one : (t : PartTriple) (s : Source) → HasOne t s ⊎ (HasOne t s → ⊥)
    unfolding HasOne
    has_one t s = elim (same_group (group c s) t) [
      | inr n ↦ inr (λ h. n h.0)
      | inl e ↦ elim (leads_on s) [
        | inr n ↦ inr (λ h. n h.1.0)
        | inl l ↦ elim (is_one (v.part s.part)) [ inr n ↦ inr (λ h. n h.1.1) | inl o ↦ inl (e, (l, o)) ]
      ]
    ]

    SomeOne : PartTriple → Type 0
    SomeOne t = ((s : Source) × (In (sources c.cells) s × HasOne t s)) ⊎ ((s : Source) → In (sources c.cells) s → HasOne t s → ⊥)

    some_one : (t : PartTriple) → SomeOne t
    unfolding SomeOne
    some_one t = any_of (HasOne t) (has_one t) (sources c.cells)

    bit_by : (t : PartTriple) → SomeOne t → Bool
    unfolding SomeOne
    bit_by t (inl x) = true
    bit_by t (inr n) = false

    -- the bit that the read parts of each triple have
    pub held : PartTriple → Bool
    held t = bit_by t (some_one t)

    module _ (alike : HeldAlike c v) where
      same_bit : (s : Source) (r : RegisterCell) → ReadPart c s → s.kind ≡ OfRegister r → (some : SomeOne (group c s)) → v.part s.part ≡ bit_by (group c s) some
      unfolding SomeOne HasOne bit_by
      same_bit s r rs ks (inl x) =
          let same : group c x.0 ≡ group c s = x.1.1.0 in
          let part : s.part.part ≡ x.0.part.part = sym (ap (λ z. z.part) same) in
          let fits : Fits x.0.part.part (OfRegister r) = subst (λ z. Fits z (OfRegister r)) part (subst (Fits s.part.part) ks (kind_fits c.cells s rs.listed)) in
          let q = register_like x.0.part.part r x.0.kind fits (kind_fits c.cells x.0 x.1.0) in
          sym (alike x.0 s q.0 r (leads_read x.0 x.1.0 x.1.1.1.0) rs same q.1 ks) ∙ x.1.1.1.1
      same_bit s r rs ks (inr n) = not_one (v.part s.part) (λ e. n s rs.listed (refl, (read_leads s rs, e)))

      is_start : IsStart c held v
      unfolding held
      is_start = λ s r js ks read. same_bit s r (record { listed = js; read = read }) ks (some_one (group c s))

module _ (c : Circuit) (ok : Sound c) (tri : IsTriplicated c) (start : PartTriple → Bool) (input : ℕ → Triple → Bool) (n : ℕ) (run : ℕ → World) (is : IsRun c no_fault start input n run) where
  pub anew : (t : ℕ) → t < n → IsRun c no_fault (held c ok (run t)) (λ i. input (t + i)) (n - t) (λ i. run (t + i))
  anew t lt = record {
    starts = λ later.
        (let here : t ≡ t + 0 = omega arith in subst (λ z. IsStart c (held c ok (run t)) (run z)) here (is_start c ok (run t) (copies_always c ok tri start input n run is t lt)));
    cycles = λ i li. (let within : t + i < n = omega arith in is.cycles (t + i) within);
    steps = λ i li.
        (let within : suc (t + i) < n = omega arith in
        let next : suc (t + i) ≡ t + suc i = omega arith in
        subst (λ z. IsStep c no_fault (run (t + i)) (run z)) next (is.steps (t + i) within));
  }
