-- Flips that aren't bad are masked.
use Rattle.std.proofs.Common.{◌≡◌, ◌≢◌, ◌⊎◌, ◌↔◌, inl, inr, refl}
use Rattle.patterns.specs.Bits.{Bits}
use Rattle.records.specs.Side.{Domain, D0, D1, D2}
use Rattle.links.specs.Links.{IsClean}
use Rattle.fabric.specs.Links.{routing_of}
use Rattle.circuit.specs.Faults.{Fault, FaultHas, WithinOneDomain}
use Rattle.circuit.specs.Right.{RightOutside, TwoAreRight}
use Rattle.circuit.specs.Triplicated.{IsTriplicated}
use Rattle.circuit.specs.WellFormed.{IsWellFormed}
use Rattle.circuit_laws.proofs.Sound.{Sound}
use Rattle.circuit_laws.proofs.OutputsRight.{masked, two_of_three}
use Rattle.upset.specs.Configured.{Configured, circuit_of}
use Rattle.upset.specs.Effect.{IsEffect}
use Rattle.upset.specs.Safe.{FlipsHave, IsBad, only, IsSafe, IsMuxFault}

same_domain : (d e : Domain) → (d ≡ e) ⊎ (d ≢ e)
same_domain D0 D0 = inl refl
same_domain D0 D1 = inr (λ e. let no : ⊥ = cc in no)
same_domain D0 D2 = inr (λ e. let no : ⊥ = cc in no)
same_domain D1 D0 = inr (λ e. let no : ⊥ = cc in no)
same_domain D1 D1 = inl refl
same_domain D1 D2 = inr (λ e. let no : ⊥ = cc in no)
same_domain D2 D0 = inr (λ e. let no : ⊥ = cc in no)
same_domain D2 D1 = inr (λ e. let no : ⊥ = cc in no)
same_domain D2 D2 = inl refl

module _ (k : Configured) (flips : Bits) (f : Fault) (effect : IsEffect k flips f) where
  -- the flips and the fault have the same domains
  flips_have : (d : Domain) → FaultHas (circuit_of k) f d → FlipsHave k flips d
  flips_have d h = elim h [
    | inl w ↦ inl (w.0, ((effect.disturbed w.0).0 w.1.0, w.1.1))
    | inr t ↦ inr (t.0, ((effect.touched t.0).0 t.1.0, t.1.1))
  ]

  fault_has : (d : Domain) → FlipsHave k flips d → FaultHas (circuit_of k) f d
  fault_has d h = elim h [
    | inl w ↦ inl (w.0, ((effect.disturbed w.0).1 w.1.0, w.1.1))
    | inr t ↦ inr (t.0, ((effect.touched t.0).1 t.1.0, t.1.1))
  ]

  pub one_domain : (IsBad k flips → ⊥) ↔ WithinOneDomain (circuit_of k) f
  one_domain = (
    (λ good d e p q. elim (same_domain d e) [ inl s ↦ s | inr n ↦ absurd (good (d, (e, (flips_have d p, flips_have e q, n)))) ]),
    (λ within bad. bad.1.1.2 (within bad.0 bad.1.0 (fault_has bad.0 bad.1.1.0) (fault_has bad.1.0 bad.1.1.1))),
  )

pub flips_masked : (k : Configured) → IsClean (routing_of k.graph k.image) → IsWellFormed (circuit_of k) → IsTriplicated (circuit_of k)
    → (flips : Bits) (f : Fault) → IsEffect k flips f → (IsBad k flips → ⊥) → ((d : Domain) × RightOutside (circuit_of k) f d) × TwoAreRight (circuit_of k) f
flips_masked k clean formed triplicated flips f effect good =
    let sound : Sound (circuit_of k) = record { clean = clean; formed = formed } in
    let within = (one_domain k flips f effect).0 good in
    (masked (circuit_of k) sound triplicated f within, two_of_three (circuit_of k) sound triplicated f within)

pub mux_bits_masked : (k : Configured) → IsClean (routing_of k.graph k.image) → IsWellFormed (circuit_of k) → IsTriplicated (circuit_of k) → IsSafe k
    → (f : Fault) → IsMuxFault k f → ((d : Domain) × RightOutside (circuit_of k) f d) × TwoAreRight (circuit_of k) f
mux_bits_masked k clean formed triplicated safe f m = flips_masked k clean formed triplicated (only m.bit) f m.effect (safe m.bit m.is_mux_bit)
