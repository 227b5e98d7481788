-- Tests that tell what holds, and how tests are made of others.
use Rattle.std.proofs.Common.{◌≡◌, ℕ, ◌<◌, Bool, true, false, ◌⊎◌, ◌↔◌, inl, inr, List, filter, refl, sym, subst, eq-eqb}
use Rattle.std.specs.Prelude.{not, nat_lt, ◌&&◌, ◌||◌, ◌==◌, bytes_eq}
use Rattle.std.specs.List.{list_any, list_all}
use Rattle.std.proofs.lemmas.Bool.{false≢true, and_parts, and_from, or_cases, eqb-true, ltb-true, lt-ltb}
use Rattle.std.proofs.lemmas.Slice.Eq.{bytes_eq-Decides}
use Rattle.words.specs.Members.{In}
use Rattle.patterns.specs.Bits.{DeviceBit, same_bit, bits_of_list}
use Rattle.records.specs.Side.{Domain, D0, D1, D2}
use Rattle.links.specs.Links.{Link, Reaches}
use Rattle.links.proofs.Below.{below_sound, below_complete, has_in, in_has}
use Rattle.links.specs.Below.{below, has}
use Rattle.fabric_laws.proofs.Members.{in_filter_from, in_filter_to, all_from, all_to, any_from, any_to}
use Rattle.fabric_laws.proofs.SameBits.{same_is, same_refl}
use Rattle.upset_laws.specs.PlainUpset.{same_domain}

-- a test is passed just where something holds
pub record Tells (b : Bool) (P : Type 0) : Type 0 where
  pub from : b ≡ true → P
  pub to : P → b ≡ true

pub tells_as : {b : Bool} {P Q : Type 0} → (P → Q) → (Q → P) → Tells b P → Tells b Q
tells_as f g t = record { from = λ h. f (t.from h); to = λ q. t.to (g q) }

-- what a test tells holds or doesn't
pub told : (b : Bool) {P : Type 0} → Tells b P → P ⊎ (P → ⊥)
told true t = inl (t.from refl)
told false t = inr (λ p. false≢true (t.to p))

pub tells_it : (b : Bool) → Tells b (b ≡ true)
tells_it b = record { from = λ h. h; to = λ h. h }

pub tells_and : {a b : Bool} {P Q : Type 0} → Tells a P → Tells b Q → Tells (a && b) (P × Q)
tells_and {a} {b} s t = record {
  from = λ h. (let parts = and_parts a b h in (s.from parts.0, t.from parts.1));
  to = λ h. and_from a b (s.to h.0) (t.to h.1);
}

or_to : (a b : Bool) → (a ≡ true) ⊎ (b ≡ true) → (a || b) ≡ true
or_to true b h = refl
or_to false b h = elim h [ inl e ↦ absurd (false≢true e) | inr e ↦ e ]

pub tells_or : {a b : Bool} {P Q : Type 0} → Tells a P → Tells b Q → Tells (a || b) (P ⊎ Q)
tells_or {a} {b} s t = record {
  from = λ h. elim (or_cases a b h) [ inl e ↦ inl (s.from e) | inr e ↦ inr (t.from e) ];
  to = λ h. or_to a b (elim h [ inl p ↦ inl (s.to p) | inr q ↦ inr (t.to q) ]);
}

not_from : (b : Bool) → not b ≡ true → b ≡ true → ⊥
not_from true h e = false≢true h
not_from false h e = false≢true e

not_to : (b : Bool) → (b ≡ true → ⊥) → not b ≡ true
not_to true n = absurd (n refl)
not_to false n = refl

pub tells_not : {b : Bool} {P : Type 0} → Tells b P → Tells (not b) (P → ⊥)
tells_not {b} t = record { from = λ h p. not_from b h (t.to p); to = λ n. not_to b (λ e. n (t.from e)) }

if_from : (a b : Bool) → (not a || b) ≡ true → a ≡ true → b ≡ true
if_from true b h e = h
if_from false b h e = absurd (false≢true e)

if_to : (a b : Bool) → (a ≡ true → b ≡ true) → (not a || b) ≡ true
if_to true b h = h refl
if_to false b h = refl

pub tells_if : {a b : Bool} {P Q : Type 0} → Tells a P → Tells b Q → Tells (not a || b) (P → Q)
tells_if {a} {b} s t = record { from = λ h p. t.from (if_from a b h (s.to p)); to = λ f. if_to a b (λ e. t.to (f (s.from e))) }

unless_from : (a b : Bool) → (a || b) ≡ true → (a ≡ true → ⊥) → b ≡ true
unless_from true b h n = absurd (n refl)
unless_from false b h n = h

unless_to : (a b : Bool) → ((a ≡ true → ⊥) → b ≡ true) → (a || b) ≡ true
unless_to true b h = refl
unless_to false b h = h (λ e. false≢true e)

-- "or" read as "where not the one, the other"
pub tells_unless : {a b : Bool} {P Q : Type 0} → Tells a P → Tells b Q → Tells (a || b) ((P → ⊥) → Q)
tells_unless {a} {b} s t = record {
  from = λ h n. t.from (unless_from a b h (λ e. n (s.from e)));
  to = λ f. unless_to a b (λ n. t.to (f (λ p. n (s.to p))));
}

module _ {X : Type 0} where
  pub tells_all : (test : X → Bool) (P : X → Type 0) → ((x : X) → Tells (test x) (P x)) → (xs : List X) → Tells (list_all test xs) ((x : X) → In xs x → P x)
  tells_all test P t xs = record { from = λ h x i. (t x).from (all_from test xs h x i); to = λ h. all_to test xs (λ x i. (t x).to (h x i)) }

  -- the same, where the test tells of the elements of the list
  pub tells_all_in : (test : X → Bool) (P : X → Type 0) (xs : List X) → ((x : X) → In xs x → Tells (test x) (P x)) → Tells (list_all test xs) ((x : X) → In xs x → P x)
  tells_all_in test P xs t = record { from = λ h x i. (t x i).from (all_from test xs h x i); to = λ h. all_to test xs (λ x i. (t x i).to (h x i)) }

  pub tells_any : (test : X → Bool) (P : X → Type 0) → ((x : X) → Tells (test x) (P x)) → (xs : List X) → Tells (list_any test xs) ((x : X) × (In xs x × P x))
  tells_any test P t xs = record {
    from = λ h. (let r = any_from test xs h in (r.0, (r.1, (t r.0).from r.2)));
    to = λ h. any_to test xs h.0 h.1.0 ((t h.0).to h.1.1);
  }

  -- what a filter leaves
  pub filtered : (test : X → Bool) (P : X → Type 0) (xs : List X) → ((x : X) → In xs x → Tells (test x) (P x)) → (x : X) → In (filter test xs) x ↔ (In xs x × P x)
  filtered test P xs t x = (
    (λ i. let r = in_filter_from test xs x i in (r.0, (t x r.0).from r.1)),
    (λ h. in_filter_to test xs x h.0 ((t x h.0).to h.1)),
  )

pub tells_number : (m n : ℕ) → Tells (m == n) (m ≡ n)
tells_number m n = record { from = λ h. eqb-true m n h; to = λ e. eq-eqb m n e }

pub tells_less : (m n : ℕ) → Tells (nat_lt m n) (m < n)
tells_less m n = record { from = λ h. ltb-true m n h; to = λ l. lt-ltb m n l }

pub tells_name : (m n : List ℕ) → Tells (bytes_eq m n) (m ≡ n)
tells_name m n = record { from = (bytes_eq-Decides m n).0; to = (bytes_eq-Decides m n).1 }

pub tells_has : (xs : List ℕ) (x : ℕ) → Tells (has xs x) (In xs x)
tells_has xs x = record { from = λ h. in_has xs x h; to = λ i. has_in xs x i }

pub tells_below : (links : List Link) (w v : ℕ) → Tells (has (below links w) v) (Reaches (λ x y. In links (record { source = x; sink = y })) w v)
tells_below links w v = record {
  from = λ h. below_sound links w v (in_has (below links w) v h);
  to = λ b. has_in (below links w) v (below_complete links b);
}

pub tells_bit : (bits : List DeviceBit) (b : DeviceBit) → Tells (bits_of_list bits b) (In bits b)
tells_bit bits b = record {
  from = λ h. (let r = any_from (same_bit b) bits h in subst (In bits) (sym (same_is b r.0 r.2)) r.1);
  to = λ i. any_to (same_bit b) bits b i (same_refl b);
}

domain_from : (d e : Domain) → same_domain d e ≡ true → d ≡ e
domain_from D0 D0 h = refl
domain_from D1 D1 h = refl
domain_from D2 D2 h = refl
domain_from D0 D1 h = absurd (false≢true h)
domain_from D0 D2 h = absurd (false≢true h)
domain_from D1 D0 h = absurd (false≢true h)
domain_from D1 D2 h = absurd (false≢true h)
domain_from D2 D0 h = absurd (false≢true h)
domain_from D2 D1 h = absurd (false≢true h)

domain_same : (d : Domain) → same_domain d d ≡ true
domain_same D0 = refl
domain_same D1 = refl
domain_same D2 = refl

pub tells_domain : (d e : Domain) → Tells (same_domain d e) (d ≡ e)
tells_domain d e = record { from = domain_from d e; to = λ s. subst (λ x. same_domain d x ≡ true) s (domain_same d) }
