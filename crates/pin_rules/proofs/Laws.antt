-- What the rules of pins say of a circuit.
use Rattle.std.proofs.Common.{◌≡◌, ℕ, Bool, true, false, List, length, get_or, Option, None, Some, refl, sym, ap, ap₂, subst, ◌∙◌, Bor}
use Rattle.std.specs.Prelude.{◌&&◌, not, slice_get}
use Rattle.records.specs.Side.{Domain, D0, D1, D2}
use Rattle.links.specs.Links.{Fed}
use Rattle.circuit.specs.Cells.{Cells}
use Rattle.circuit.specs.Parts.{Kind, OfTable, OfRegister, OfInput, OfClock, Source, sources}
use Rattle.circuit.specs.Pins.{Pin, pad_pin, pins, bit_pins, source_pins}
use Rattle.circuit.specs.Circuits.{Circuit}
use Rattle.circuit.specs.Domains.{HasDomain}
use Rattle.circuit.specs.Tables.{Ignores}
use Rattle.circuit.specs.Triplicated.{FedByClock, IsVoter}
use Rattle.fabric_laws.proofs.Numbered.{get_in}
use Rattle.answers.specs.Refusals.{Refusal, OpenPin, ClockAsData, ForeignRead}
use Rattle.design_checks.specs.PinChecks.{PinsOpen, open_pin, IsOpen, ClocksAsData, clock, TakesClock, PinsForeign, foreign, ReadsForeign}
use Rattle.pin_feeds.specs.PinFeeds.{feed_source}
use Rattle.pin_feeds.specs.Told.{Tells}
use Rattle.pin_feeds.proofs.Connected.{connects_told, domain_told, fed_told}
use Rattle.pin_rules.specs.declared.owners.PinOwner.{PinOwner}
use Rattle.pin_rules.specs.declared.rules.PinRule.{PinRule}
use Rattle.pin_rules.specs.declared.rules.PinRule.TheVariants.{Open, Clock, Foreign}
use Rattle.pin_rules.specs.Owners.{owners_of}
use Rattle.pin_rules.specs.ReadParts.{AreReadParts}
use Rattle.pin_rules.specs.Rules.{ignores_pin, is_clock, is_clock_feed, is_clock_pin, is_foreign_feed, is_unfed, same_domain}
use Rattle.pin_rules.specs.Flags.{flag_at}
use Rattle.pin_rules.specs.Voters.{AreVoters}
use Rattle.pin_rules.specs.Least.{FindsPin, LeastFlagged, pin_order}
use Rattle.pin_rules.proofs.Joined.{IsRuleOf, FoundOf, both, found}
use Rattle.pin_rules.proofs.PinKinds.{bit_pin, no_clock, bit_listed, ignores_is, is_ignored}

true_false : true ≡ false → ⊥
true_false h = (let no : ⊥ = cc in no)

some_same : {X : Type 0} (x y : X) → Some x ≡ Some y → x ≡ y
some_same x y h = cc

none_some : {X : Type 0} (x : X) → None ≡ Some x → ⊥
none_some x h = (let no : ⊥ = cc in no)

pub not_true : (b : Bool) → not b ≡ true → b ≡ false
not_true true h = absurd (true_false (sym h))
not_true false h = refl

-- a test that would be absurd fails
pub fails : (b : Bool) → (b ≡ true → ⊥) → not b ≡ true
fails true h = absurd (h refl)
fails false h = refl

clock_kind : (k : Kind) → is_clock k ≡ true → k ≡ OfClock
clock_kind (OfTable t) h = absurd (true_false (sym h))
clock_kind (OfRegister r) h = absurd (true_false (sym h))
clock_kind OfInput h = absurd (true_false (sym h))
clock_kind OfClock h = refl

domain_itself : (d : Domain) → same_domain d d ≡ true
domain_itself D0 = refl
domain_itself D1 = refl
domain_itself D2 = refl

domains_same : (d e : Domain) → same_domain d e ≡ true → d ≡ e
domains_same D0 D0 h = refl
domains_same D0 D1 h = absurd (true_false (sym h))
domains_same D0 D2 h = absurd (true_false (sym h))
domains_same D1 D0 h = absurd (true_false (sym h))
domains_same D1 D1 h = refl
domains_same D1 D2 h = absurd (true_false (sym h))
domains_same D2 D0 h = absurd (true_false (sym h))
domains_same D2 D1 h = absurd (true_false (sym h))
domains_same D2 D2 h = refl

module _ (c : Circuit) (feeds : List (Option ℕ)) (tells : Tells c feeds) where
  -- ---- what a feed says of a pin

  module _ (i : ℕ) (p : Pin) (at : slice_get (pins c.cells) i ≡ Some p) where
    unfed_by : (o : Option Source) → feed_source c.cells feeds i ≡ o → is_unfed o ≡ true → Fed c.routing p.wire → ⊥
    unfed_by None e h fed = (let s = (fed_told c feeds tells i p at).0 fed in none_some s.0 (sym e ∙ s.1))
    unfed_by (Some f) e h fed = true_false (sym h)

    by_unfed : (o : Option Source) → feed_source c.cells feeds i ≡ o → (Fed c.routing p.wire → ⊥) → is_unfed o ≡ true
    by_unfed None e none = refl
    by_unfed (Some f) e none = absurd (none ((fed_told c feeds tells i p at).1 (f, e)))

    unfed : is_unfed (feed_source c.cells feeds i) ≡ true → Fed c.routing p.wire → ⊥
    unfed h = unfed_by (feed_source c.cells feeds i) refl h

    is_unfed_at : (Fed c.routing p.wire → ⊥) → is_unfed (feed_source c.cells feeds i) ≡ true
    is_unfed_at none = by_unfed (feed_source c.cells feeds i) refl none

    clock_by : (o : Option Source) → feed_source c.cells feeds i ≡ o → is_clock_feed o ≡ true → FedByClock c p
    clock_by None e h = absurd (true_false (sym h))
    clock_by (Some f) e h = (f, ((connects_told c feeds tells i p f at).1 e, clock_kind f.kind h))

    pub clocked : is_clock_feed (feed_source c.cells feeds i) ≡ true → FedByClock c p
    clocked h = clock_by (feed_source c.cells feeds i) refl h

    pub is_clocked_at : FedByClock c p → is_clock_feed (feed_source c.cells feeds i) ≡ true
    is_clocked_at h = ap is_clock_feed ((connects_told c feeds tells i p h.0 at).0 h.1.0) ∙ ap is_clock h.1.1

    abbrev IsForeign : Domain → Type 0
    IsForeign d = Fed c.routing p.wire × (HasDomain c p.wire d → ⊥)

    foreign_by : (d : Domain) (o : Option Source) → feed_source c.cells feeds i ≡ o → is_foreign_feed d o ≡ true → IsForeign d
    foreign_by d None e h = absurd (true_false (sym h))
    foreign_by d (Some f) e h = (
      (fed_told c feeds tells i p at).1 (f, e),
      (λ has.
          let s = (domain_told c feeds tells i p d at).0 has in
          let same : f ≡ s.0 = some_same f s.0 (sym e ∙ s.1.0) in
          let is : d ≡ f.domain = sym (ap (λ (x : Source). x.domain) same ∙ s.1.1) in
          true_false (sym (subst (λ x. same_domain d x ≡ true) is (domain_itself d)) ∙ not_true (same_domain d f.domain) h)),
    )

    by_foreign : (d : Domain) (o : Option Source) → feed_source c.cells feeds i ≡ o → IsForeign d → is_foreign_feed d o ≡ true
    by_foreign d None e h = (let s = (fed_told c feeds tells i p at).0 h.0 in absurd (none_some s.0 (sym e ∙ s.1)))
    by_foreign d (Some f) e h = fails (same_domain d f.domain) (λ same. h.1 ((domain_told c feeds tells i p d at).1 (f, (e, sym (domains_same d f.domain same)))))

    foreign_is : (d : Domain) → is_foreign_feed d (feed_source c.cells feeds i) ≡ true → IsForeign d
    foreign_is d h = foreign_by d (feed_source c.cells feeds i) refl h

    is_foreign : (d : Domain) → IsForeign d → is_foreign_feed d (feed_source c.cells feeds i) ≡ true
    is_foreign d h = by_foreign d (feed_source c.cells feeds i) refl h

    -- a wire with a feed has a domain
    some_domain : Fed c.routing p.wire → (d : Domain) × HasDomain c p.wire d
    some_domain fed = (let s = (fed_told c feeds tells i p at).0 fed in (s.0.domain, (domain_told c feeds tells i p s.0.domain at).1 (s.0, (s.1, refl))))

  -- ---- the rules

  open_rule : IsRuleOf c feeds Open bit_pins (λ s p. (Fed c.routing p.wire → ⊥) × (Ignores s.kind p.ref.pin → ⊥)) (λ p. Fed c.routing p.wire → ⊥)
  open_rule = record {
    listed = bit_listed;
    part_is = λ i k s p at there mine h.
        let outer = both (is_unfed (feed_source c.cells feeds i) && not (is_clock_pin s.kind p.ref.pin)) (not (ignores_pin s.kind p.ref.pin)) h in
        let inner = both (is_unfed (feed_source c.cells feeds i)) (not (is_clock_pin s.kind p.ref.pin)) outer.0 in (
          bit_pin s p mine (not_true (is_clock_pin s.kind p.ref.pin) inner.1),
          (unfed i p at inner.0, λ ignored. true_false (sym (is_ignored c tells.formed s p (get_in (sources c.cells) k s there) mine ignored) ∙ not_true (ignores_pin s.kind p.ref.pin) outer.1)),
        );
    part_has = λ i k s p at there mine bit has.
        ap₂ (λ a b. a && b)
        (ap₂ (λ a b. a && b) (is_unfed_at i p at has.0) (ap not (no_clock s p bit)))
        (fails (ignores_pin s.kind p.ref.pin) (λ h. has.1 (ignores_is c tells.formed s p (get_in (sources c.cells) k s there) mine h)));
    pad_is = λ i pad at h. unfed i (pad_pin pad) at h;
    pad_has = λ i pad at none. is_unfed_at i (pad_pin pad) at none;
  }

  clock_rule : IsRuleOf c feeds Clock bit_pins (λ s p. FedByClock c p) (λ p. FedByClock c (pad_pin p))
  clock_rule = record {
    listed = bit_listed;
    part_is = λ i k s p at there mine h.
        let parts = both (is_clock_feed (feed_source c.cells feeds i)) (not (is_clock_pin s.kind p.ref.pin)) h in
        (bit_pin s p mine (not_true (is_clock_pin s.kind p.ref.pin) parts.1), clocked i p at parts.0);
    part_has = λ i k s p at there mine bit has. ap₂ (λ a b. a && b) (is_clocked_at i p at has) (ap not (no_clock s p bit));
    pad_is = λ i pad at h. clocked i (pad_pin pad) at h;
    pad_has = λ i pad at has. is_clocked_at i (pad_pin pad) at has;
  }

  module _ (voters : Bor (List Bool)) (voting : AreVoters c voters.now) where
    foreign_rule : IsRuleOf c feeds (Foreign voters) source_pins
        (λ s p. Fed c.routing p.wire × ((HasDomain c p.wire s.domain → ⊥) × (IsVoter c s.part × ((d : Domain) × HasDomain c p.wire d) → ⊥)))
        (λ p. Fed c.routing p.wire × (HasDomain c p.wire p.domain → ⊥))
    foreign_rule = record {
      listed = λ s p i. i;
      part_is = λ i k s p at there mine h.
          let parts = both (is_foreign_feed s.domain (feed_source c.cells feeds i)) (not (get_or voters.now k false)) h in
          let far = foreign_is i p at s.domain parts.0 in
          (mine, (far.0, (far.1, λ both. true_false (sym ((voting.flags k s there).1 both.0) ∙ not_true (get_or voters.now k false) parts.1))));
      part_has = λ i k s p at there mine own has.
          ap₂ (λ a b. a && b) (is_foreign i p at s.domain (has.0, has.1.0))
          (fails (get_or voters.now k false) (λ h. has.1.1 ((voting.flags k s there).0 h, some_domain i p at has.0)));
      pad_is = λ i pad at h. foreign_is i (pad_pin pad) at pad.domain h;
      pad_has = λ i pad at has. is_foreign i (pad_pin pad) at pad.domain has;
    }

-- ---- answers

open_found : (c : Circuit) (r : Option ℕ) → FoundOf c (IsOpen c) r → FindsPin c (PinsOpen c) OpenPin r
open_found c None none = passes
  where
    passes : (x : Refusal) → PinsOpen c x → ⊥
    passes _ (open_pin ref least) = none ref least.has
open_found c (Some n) f = (f.0, (f.1.0, open_pin f.0.ref f.1.1))

clock_found : (c : Circuit) (r : Option ℕ) → FoundOf c (TakesClock c) r → FindsPin c (ClocksAsData c) ClockAsData r
clock_found c None none = passes
  where
    passes : (x : Refusal) → ClocksAsData c x → ⊥
    passes _ (clock ref least) = none ref least.has
clock_found c (Some n) f = (f.0, (f.1.0, clock f.0.ref f.1.1))

foreign_found : (c : Circuit) (r : Option ℕ) → FoundOf c (ReadsForeign c) r → FindsPin c (PinsForeign c) ForeignRead r
foreign_found c None none = passes
  where
    passes : (x : Refusal) → PinsForeign c x → ⊥
    passes _ (foreign ref least) = none ref least.has
foreign_found c (Some n) f = (f.0, (f.1.0, foreign f.0.ref f.1.1))

module _ (cells : Cells) (feeds : List (Option ℕ)) (read : List Bool) (owners : List PinOwner) (are : AreReadParts cells feeds read) (own : owners ≡ owners_of cells) (r : Option ℕ) (c : Circuit) (same : c.cells ≡ cells) (tells : Tells c feeds) where
  its_read : AreReadParts c.cells feeds read
  its_read = subst (λ x. AreReadParts x feeds read) (sym same) are

  its_owners : owners ≡ owners_of c.cells
  its_owners = own ∙ ap owners_of (sym same)

  its_least : (rule : PinRule) → LeastFlagged pin_order (pins cells) (λ i. flag_at rule cells feeds read owners i ≡ true) (length (pins cells)) r
      → LeastFlagged pin_order (pins c.cells) (λ i. flag_at rule c.cells feeds read owners i ≡ true) (length (pins c.cells)) r
  its_least rule least = subst (λ x. LeastFlagged pin_order (pins x) (λ i. flag_at rule x feeds read owners i ≡ true) (length (pins x)) r) (sym same) least

  pub open_answer : LeastFlagged pin_order (pins cells) (λ i. flag_at Open cells feeds read owners i ≡ true) (length (pins cells)) r → FindsPin c (PinsOpen c) OpenPin r
  open_answer least =
      open_found c r (found c feeds read owners tells its_read its_owners Open bit_pins (λ s p. (Fed c.routing p.wire → ⊥) × (Ignores s.kind p.ref.pin → ⊥)) (λ p. Fed c.routing p.wire → ⊥)
      (open_rule c feeds tells) r (its_least Open least))

  pub clock_answer : LeastFlagged pin_order (pins cells) (λ i. flag_at Clock cells feeds read owners i ≡ true) (length (pins cells)) r → FindsPin c (ClocksAsData c) ClockAsData r
  clock_answer least =
      clock_found c r (found c feeds read owners tells its_read its_owners Clock bit_pins (λ s p. FedByClock c p) (λ p. FedByClock c (pad_pin p)) (clock_rule c feeds tells) r (its_least Clock least))

  pub foreign_answer : (voters : Bor (List Bool)) → AreVoters c voters.now → LeastFlagged pin_order (pins cells) (λ i. flag_at (Foreign voters) cells feeds read owners i ≡ true) (length (pins cells)) r
      → FindsPin c (PinsForeign c) ForeignRead r
  foreign_answer voters voting least =
      foreign_found c r (found c feeds read owners tells its_read its_owners (Foreign voters) source_pins
      (λ s p. Fed c.routing p.wire × ((HasDomain c p.wire s.domain → ⊥) × (IsVoter c s.part × ((d : Domain) × HasDomain c p.wire d) → ⊥)))
      (λ p. Fed c.routing p.wire × (HasDomain c p.wire p.domain → ⊥)) (foreign_rule c feeds tells voters voting) r (its_least (Foreign voters) least))
