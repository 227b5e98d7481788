-- The two least domains of those that are there.
use Rattle.std.proofs.Common.{◌≡◌, ◌≢◌, ◌↔◌, Bool, true, false, Option, None, Some, refl, sym, subst, ◌∙◌}
use Rattle.std.proofs.lemmas.Bool.{false≢true}
use Rattle.std.specs.declared.cmp.Ordering.{Ordering}
use Rattle.std.specs.declared.cmp.Ordering.TheVariants.{Less, Equal, Greater}
use Rattle.patterns.specs.Bits.{DeviceBit}
use Rattle.records.specs.Side.{Domain, D0, D1, D2}
use Rattle.upset.specs.Configured.{Configured}
use Rattle.upset.specs.Safe.{FlipsHave, only}
use Rattle.fabric_laws.proofs.Graphs.{some_same}
use Rattle.design_checks.specs.Checks.{IsLeast}
use Rattle.design_answers.specs.BadBits.{domain_cmp}
use Rattle.bad_bits.specs.Numbered.{NumberedBad}
use Rattle.bad_bits.specs.Found.{BadOrNone, IsPlaceAt, PlacesOrNone, two_of}

less_stays : (o : Ordering) → o ≡ Less → o ≢ Greater
less_stays o e g = (let wrong : Less ≡ Greater = sym e ∙ g in let no : ⊥ = cc in no)

equal_stays : (o : Ordering) → o ≡ Equal → o ≢ Greater
equal_stays o e g = (let wrong : Equal ≡ Greater = sym e ∙ g in let no : ⊥ = cc in no)

zero_first : (d : Domain) → domain_cmp D0 d ≢ Greater
zero_first D0 = equal_stays (domain_cmp D0 D0) refl
zero_first D1 = less_stays (domain_cmp D0 D1) refl
zero_first D2 = less_stays (domain_cmp D0 D2) refl

one_first : (d : Domain) → d ≢ D0 → domain_cmp D1 d ≢ Greater
one_first D0 n = absurd (n refl)
one_first D1 n = equal_stays (domain_cmp D1 D1) refl
one_first D2 n = less_stays (domain_cmp D1 D2) refl

two_last : (d : Domain) → d ≢ D0 → d ≢ D1 → domain_cmp D2 d ≢ Greater
two_last D0 m n = absurd (m refl)
two_last D1 m n = absurd (n refl)
two_last D2 m n = equal_stays (domain_cmp D2 D2) refl

one_not_zero : D1 ≢ D0
one_not_zero e = (let no : ⊥ = cc in no)

two_not_zero : D2 ≢ D0
two_not_zero e = (let no : ⊥ = cc in no)

two_not_one : D2 ≢ D1
two_not_one e = (let no : ⊥ = cc in no)

-- the two least domains with a property
abbrev pub TwoLeast : (Domain → Type 0) → Domain × Domain → Type 0
TwoLeast Has p = IsLeast domain_cmp Has p.0 × IsLeast domain_cmp (λ d. Has d × (d ≢ p.0)) p.1

module _ (Has : Domain → Type 0) where
  -- no domain but one
  alone : (x : Domain) → ((d : Domain) → Has d → d ≡ x) → (d : Domain) × ((e : Domain) × (Has d × Has e × (d ≢ e))) → ⊥
  alone x only h = h.1.1.2 (only h.0 h.1.1.0 ∙ sym (only h.1.0 h.1.1.1))

  but_zero : (Has D1 → ⊥) → (Has D2 → ⊥) → (d : Domain) → Has d → d ≡ D0
  but_zero m n D0 h = refl
  but_zero m n D1 h = absurd (m h)
  but_zero m n D2 h = absurd (n h)

  but_one : (Has D0 → ⊥) → (Has D2 → ⊥) → (d : Domain) → Has d → d ≡ D1
  but_one m n D0 h = absurd (m h)
  but_one m n D1 h = refl
  but_one m n D2 h = absurd (n h)

  but_two : (Has D0 → ⊥) → (Has D1 → ⊥) → (d : Domain) → Has d → d ≡ D2
  but_two m n D0 h = absurd (m h)
  but_two m n D1 h = absurd (n h)
  but_two m n D2 h = refl

  not_it : (x : Domain) → (Has x → ⊥) → (d : Domain) → Has d → d ≢ x
  not_it D0 none D0 h e = none h
  not_it D0 none D1 h e = (let no : ⊥ = cc in no)
  not_it D0 none D2 h e = (let no : ⊥ = cc in no)
  not_it D1 none D0 h e = (let no : ⊥ = cc in no)
  not_it D1 none D1 h e = none h
  not_it D1 none D2 h e = (let no : ⊥ = cc in no)
  not_it D2 none D0 h e = (let no : ⊥ = cc in no)
  not_it D2 none D1 h e = (let no : ⊥ = cc in no)
  not_it D2 none D2 h e = none h

  not_there : (b : Bool) (d : Domain) → (b ≡ true) ↔ Has d → b ≡ false → Has d → ⊥
  not_there b d are e h = false≢true (sym e ∙ are.1 h)

  pub two_least : (b0 b1 b2 : Bool) → (b0 ≡ true) ↔ Has D0 → (b1 ≡ true) ↔ Has D1 → (b2 ≡ true) ↔ Has D2 → (p : Domain × Domain) → two_of b0 b1 b2 ≡ Some p → TwoLeast Has p
  two_least true true b2 x y z p e = subst (TwoLeast Has) (some_same e) (
    record { has = x.0 refl; least = λ d h. zero_first d },
    record { has = (y.0 refl, one_not_zero); least = λ d h. one_first d h.1 },
  )
  two_least true false true x y z p e = subst (TwoLeast Has) (some_same e) (
    record { has = x.0 refl; least = λ d h. zero_first d },
    record { has = (z.0 refl, two_not_zero); least = λ d h. two_last d h.1 (not_it D1 (not_there false D1 y refl) d h.0) },
  )
  two_least false true true x y z p e = subst (TwoLeast Has) (some_same e) (
    record { has = y.0 refl; least = λ d h. one_first d (not_it D0 (not_there false D0 x refl) d h) },
    record { has = (z.0 refl, two_not_one); least = λ d h. two_last d (not_it D0 (not_there false D0 x refl) d h.0) h.1 },
  )
  two_least true false false x y z p e = absurd (let no : ⊥ = cc in no)
  two_least false true false x y z p e = absurd (let no : ⊥ = cc in no)
  two_least false false b2 x y z p e = absurd (let no : ⊥ = cc in no)

  pub no_two : (b0 b1 b2 : Bool) → (b0 ≡ true) ↔ Has D0 → (b1 ≡ true) ↔ Has D1 → (b2 ≡ true) ↔ Has D2 → two_of b0 b1 b2 ≡ None → (d : Domain) × ((e : Domain) × (Has d × Has e × (d ≢ e))) → ⊥
  no_two true true b2 x y z e = absurd (let no : ⊥ = cc in no)
  no_two true false true x y z e = absurd (let no : ⊥ = cc in no)
  no_two false true true x y z e = absurd (let no : ⊥ = cc in no)
  no_two true false false x y z e = alone D0 (but_zero (not_there false D1 y refl) (not_there false D2 z refl))
  no_two false true false x y z e = alone D1 (but_one (not_there false D0 x refl) (not_there false D2 z refl))
  no_two false false b2 x y z e = alone D2 (but_two (not_there false D0 x refl) (not_there false D1 y refl))

module _ (k : Configured) (bit : DeviceBit) (first second : Domain) where
  -- the two least domains with the place of each
  pub found_bad : TwoLeast (FlipsHave k (only bit)) (first, second) → (o : Option NumberedBad) → PlacesOrNone k (only bit) bit first second o → BadOrNone k bit o
  found_bad two None none = absurd (none two.0.has two.1.has.0)
  found_bad two (Some b) are = record {
    bit_is = are.bit_is;
    first = subst (IsLeast domain_cmp (FlipsHave k (only bit))) (sym are.first_is) two.0;
    second = subst (λ d. IsLeast domain_cmp (λ e. FlipsHave k (only bit) e × (e ≢ d)) b.second) (sym are.first_is)
        (subst (IsLeast domain_cmp (λ e. FlipsHave k (only bit) e × (e ≢ first))) (sym are.second_is) two.1);
    first_at = subst (λ d. IsPlaceAt k (only bit) d b.first_at) (sym are.first_is) are.first_at;
    second_at = subst (λ d. IsPlaceAt k (only bit) d b.second_at) (sym are.second_is) are.second_at;
  }
