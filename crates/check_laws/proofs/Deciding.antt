-- In a circuit with a clean routing and well-formed cells it is decided which domain a wire has, whether a clock pad
-- feeds it, whether two pins are fed alike and whether a table is a voter.
use Rattle.std.proofs.Common.{◌≡◌, ℕ, inl, inr, refl, ap, subst, ◌∙◌}
use Rattle.words.specs.Members.{In}
use Rattle.words.proofs.Decided.{Decided, both}
use Rattle.records.specs.Side.{Domain}
use Rattle.circuit.specs.Parts.{Table, PartRef}
use Rattle.circuit.specs.Pins.{Pin, pins}
use Rattle.circuit.specs.Triples.{triple_of}
use Rattle.circuit.specs.Circuits.{Circuit}
use Rattle.circuit.specs.Domains.{HasDomain}
use Rattle.circuit.specs.Registers.{FedAlike}
use Rattle.circuit.specs.Triplicated.{FedByClock, IsVoter}
use Rattle.links.proofs.Members.{any_of}
use Rattle.circuit_laws.proofs.Same.{same_name, same_part, same_group}
use Rattle.circuit_laws.proofs.Sound.{Sound, at_pin, to_pin, source_same, feed_at, has_domain, domain_is}
use Rattle.check_laws.proofs.Passing.{same_domain, is_clock}

module _ (c : Circuit) (ok : Sound c) where
  pub domain_decided : (w : ℕ) (d : Domain) → Decided (HasDomain c w d)
  domain_decided w d = elim (feed_at c ok w) [
    | inl a ↦ elim (same_domain a.0.domain d) [
      | inl e ↦ inl (subst (HasDomain c w) e (has_domain c ok a.0 w a.1))
      | inr n ↦ inr (λ h. n (domain_is c ok a.0 w d a.1 h))
    ]
    | inr n ↦ inr (λ h. n h.source (record { source = h.listed; feeds = h.feeds }))
  ]

  pub some_domain : (w : ℕ) → Decided ((d : Domain) × HasDomain c w d)
  some_domain w = elim (feed_at c ok w) [
    | inl a ↦ inl (a.0.domain, has_domain c ok a.0 w a.1)
    | inr n ↦ inr (λ h. n h.1.source (record { source = h.1.listed; feeds = h.1.feeds }))
  ]

  pub clock_decided : (p : Pin) → In (pins c.cells) p → Decided (FedByClock c p)
  clock_decided p i = elim (feed_at c ok p.wire) [
    | inl a ↦ elim (is_clock a.0.kind) [
      | inl e ↦ inl (a.0, (to_pin c a.0 p i a.1, e))
      | inr n ↦ inr (λ h. n (ap (λ z. z.kind) (source_same c ok a.0 h.0 p.wire a.1 (at_pin c h.0 p h.1.0)) ∙ h.1.1))
    ]
    | inr n ↦ inr (λ h. n h.0 (at_pin c h.0 p h.1.0))
  ]

  pub alike_decided : (p q : Pin) → In (pins c.cells) p → In (pins c.cells) q → Decided (FedAlike c p q)
  alike_decided p q i j = elim (feed_at c ok p.wire) [
    | inl a ↦ elim (feed_at c ok q.wire) [
      | inl b ↦ elim (same_group (triple_of c.side a.0.part) (triple_of c.side b.0.part)) [
        | inl e ↦ inl (record { first = a.0; second = b.0; feeds_first = to_pin c a.0 p i a.1; feeds_second = to_pin c b.0 q j b.1; same = e })
        | inr n ↦ inr (λ h. n (ap (λ z. triple_of c.side z.part) (source_same c ok a.0 h.first p.wire a.1 (at_pin c h.first p h.feeds_first))
            ∙ h.same ∙ ap (λ z. triple_of c.side z.part) (source_same c ok h.second b.0 q.wire (at_pin c h.second q h.feeds_second) b.1)))
      ]
      | inr n ↦ inr (λ h. n h.second (at_pin c h.second q h.feeds_second))
    ]
    | inr n ↦ inr (λ h. n h.first (at_pin c h.first p h.feeds_first))
  ]

pub voter_decided : (c : Circuit) (part : PartRef) → Decided (IsVoter c part)
voter_decided c part = elim (any_of (λ v. (v.slice ≡ part.cell) × (part.part ≡ Table v.table)) (λ v. both (same_name v.slice part.cell) (same_part part.part (Table v.table))) c.side.voters) [
  | inl v ↦ inl (v.0.table, (v.1.1.1, subst (λ z. In c.side.voters (record { slice = z; table = v.0.table })) v.1.1.0 v.1.0))
  | inr n ↦ inr (λ h. n (record { slice = part.cell; table = h.0 }) h.1.1 (refl, h.1.0))
]
