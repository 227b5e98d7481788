-- What the check of masking leaves: each table masks any one domain other than its own. Pins without a feed may be
-- taken as 0, since open pins are ignored.
use Rattle.std.proofs.Common.{◌≡◌, ℕ, Bool, false, ◌⊎◌, inl, inr, map, refl, sym, ap, subst, ◌∙◌}
use Rattle.words.specs.Members.{In}
use Rattle.links.specs.Links.{Fed}
use Rattle.circuit.specs.Cells.{TableCell}
use Rattle.circuit.specs.Parts.{PartRef, OfTable, Source}
use Rattle.circuit.specs.Pins.{Pin, table_pins}
use Rattle.circuit.specs.Triples.{PartTriple}
use Rattle.circuit.specs.Circuits.{Circuit}
use Rattle.circuit.specs.Worlds.{address, table_output}
use Rattle.circuit.specs.Tables.{Ignores, Assigned}
use Rattle.circuit.specs.Triplicated.{ReadPart, OpenPinsIgnored, TablesMask}
use Rattle.answers.specs.Refusals.{NotMasking}
use Rattle.attempts.specs.PinOrder.{part_cmp}
use Rattle.design_checks.specs.Checks.{Passes}
use Rattle.design_checks.specs.MaskChecks.{OpenAreZero, FailsAt, TablesFail, fails}
use Rattle.links.proofs.Feeds.{is_fed}
use Rattle.circuit_laws.proofs.Parts.{table_bit}
use Rattle.circuit_laws.proofs.Words.{same_output}
use Rattle.check_laws.proofs.Least.{no_least, no_least_number}
use Rattle.check_laws.proofs.Orders.{part_total}
use Rattle.check_laws.proofs.Passing.{bits_agree}
use Rattle.check_laws.proofs.PinRules.{part_refs, part_ref_listed}

module _ (c : Circuit) where
  -- a bit where there is a feed, and 0 where there is none
  abbrev bit_if_fed : (w : ℕ) → Fed c.routing w ⊎ (Fed c.routing w → ⊥) → Bool → Bool
  bit_if_fed w d b = elim d [ inl f ↦ b | inr n ↦ false ]

  abbrev pub zeroed : (Pin → Bool) → Pin → Bool
  zeroed x p = bit_if_fed p.wire (is_fed c.routing p.wire) (x p)

  kept : (w : ℕ) (d : Fed c.routing w ⊎ (Fed c.routing w → ⊥)) (b : Bool) → Fed c.routing w → bit_if_fed w d b ≡ b
  kept w (inl f) b h = refl
  kept w (inr n) b h = absurd (n h)

  dropped : (w : ℕ) (d : Fed c.routing w ⊎ (Fed c.routing w → ⊥)) (b : Bool) → (Fed c.routing w → ⊥) → bit_if_fed w d b ≡ false
  dropped w (inl f) b h = absurd (h f)
  dropped w (inr n) b h = refl

  pub zeroed_fed : (x : Pin → Bool) (p : Pin) → Fed c.routing p.wire → zeroed x p ≡ x p
  zeroed_fed x p f = kept p.wire (is_fed c.routing p.wire) (x p) f

  pub zeroed_open : (s : Source) (t : TableCell) (x : Pin → Bool) → OpenAreZero c s t (zeroed x)
  zeroed_open s t x p i n = dropped p.wire (is_fed c.routing p.wire) (x p) n

  pub zeroed_assigned : (bits : PartTriple → Bool) (s : Source) (t : TableCell) (x : Pin → Bool) → Assigned c bits s t x → Assigned c bits s t (zeroed x)
  zeroed_assigned bits s t x asg p a i cn = zeroed_fed x p (a.out, cn.feeds) ∙ asg p a i cn

  -- bits that differ at open pins alone give one output
  pub same_where_fed : OpenPinsIgnored c → (s : Source) (t : TableCell) (x y : Pin → Bool) → ReadPart c s → s.kind ≡ OfTable t
      → ((p : Pin) → In (table_pins s.part t) p → Fed c.routing p.wire → x p ≡ y p) → table_output s.part t x ≡ table_output s.part t y
  same_where_fed opened s t x y rs ks same = same_output s.part t x y (λ p i. elim (is_fed c.routing p.wire) [
    | inl f ↦ inl (same p i f)
    | inr n ↦ inr (subst (λ k. Ignores k p.ref.pin) ks (opened.parts s p rs (table_bit s t ks p i) n))
  ])

  pub zeroed_output : OpenPinsIgnored c → (s : Source) (t : TableCell) (x : Pin → Bool) → ReadPart c s → s.kind ≡ OfTable t → table_output s.part t x ≡ table_output s.part t (zeroed x)
  zeroed_output opened s t x rs ks = same_where_fed opened s t x (zeroed x) rs ks (λ p i f. sym (zeroed_fed x p f))

  pub masks : OpenPinsIgnored c → Passes (TablesFail c) → TablesMask c
  masks opened pass s t rs ks e bits x y other asg same = bits_agree (table_output s.part t x) (table_output s.part t y) (λ differ. none s.part (address (map (zeroed y) (table_pins s.part t))) (record {
    source = s;
    table = t;
    is = refl;
    read = rs;
    is_table = ks;
    other = e;
    foreign = other;
    bits = bits;
    before = zeroed x;
    after = zeroed y;
    assigned = zeroed_assigned bits s t x asg;
    same = λ p i n. ap (bit_if_fed p.wire (is_fed c.routing p.wire)) (same p i n);
    open_pins = zeroed_open s t y;
    at = refl;
    differs = λ h. differ (zeroed_output opened s t x rs ks ∙ (h ∙ sym (zeroed_output opened s t y rs ks)));
  }))
    where
      none : (part : PartRef) (n : ℕ) → FailsAt c part n → ⊥
      none part n f = no_least part_cmp part_total (λ p. (m : ℕ) × FailsAt c p m) (part_refs c) (λ p h. part_ref_listed c h.1.source p h.1.read.listed h.1.is)
          (λ p l. no_least_number (FailsAt c p) (λ m k. pass (NotMasking p m) (fails p m l k)) l.has.0 l.has.1) part (n, f)
