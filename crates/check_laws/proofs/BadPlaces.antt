-- The bad bits of a design are one list.
use Rattle.std.proofs.Common.{◌≡◌, ◌≢◌, List, [], ◌∷◌, inl, refl, sym, ap, subst, ◌∙◌}
use Rattle.std.specs.Prelude.{slice_get}
use Rattle.std.specs.declared.cmp.Ordering.TheVariants.{Equal}
use Rattle.std.specs.Cmp.{IsTotalOrder, nat_cmp_total, on_total, then_total}
use Rattle.std.specs.Cmp.Lexicographic.{nat_list_cmp_total}
use Rattle.words.specs.Members.{In}
use Rattle.patterns.specs.Bits.{DeviceBit, Bits}
use Rattle.records.specs.Side.{Domain, D0, D1, D2}
use Rattle.fabric.specs.Wires.{name_cmp}
use Rattle.fabric.specs.MuxBits.{bit_cmp, mux_bits}
use Rattle.fabric.specs.Graph.{Graph}
use Rattle.upset.specs.Configured.{Configured}
use Rattle.upset.specs.Safe.{FlipsHave, IsBad, IsSafe, only}
use Rattle.side_form.specs.SidePrint.{domain_number}
use Rattle.reports.specs.Reports.{Place, AtWire, InCell, BadPlace}
use Rattle.design_checks.specs.Checks.{IsLeast}
use Rattle.design_answers.specs.BadBits.{domain_cmp, DisturbedIn, TouchedIn, IsPlaceOf, at_wire, in_cell, IsBadPlace, AreBadPlaces, AreMuxBits}
use Rattle.fabric_laws.proofs.Orders.{name_same}
use Rattle.fabric_laws.proofs.Graphs.{some_same}
use Rattle.fabric_laws.proofs.Sorted.{determined, one_list}
use Rattle.check_laws.proofs.Orders.{number_same}
use Rattle.check_laws.proofs.Refused.{one_least, one_number}

bit_total : IsTotalOrder bit_cmp
bit_total = then_total (on_total (λ b. b.frame) nat_cmp_total) (on_total (λ b. b.bit) nat_cmp_total)

domain_total : IsTotalOrder domain_cmp
domain_total = on_total domain_number nat_cmp_total

numbered_same : (d e : Domain) → domain_number d ≡ domain_number e → d ≡ e
numbered_same D0 D0 h = refl
numbered_same D0 D1 h = absurd (let wrong : ⊥ = cc in wrong)
numbered_same D0 D2 h = absurd (let wrong : ⊥ = cc in wrong)
numbered_same D1 D0 h = absurd (let wrong : ⊥ = cc in wrong)
numbered_same D1 D1 h = refl
numbered_same D1 D2 h = absurd (let wrong : ⊥ = cc in wrong)
numbered_same D2 D0 h = absurd (let wrong : ⊥ = cc in wrong)
numbered_same D2 D1 h = absurd (let wrong : ⊥ = cc in wrong)
numbered_same D2 D2 h = refl

domain_same : (d e : Domain) → domain_cmp d e ≡ Equal → d ≡ e
domain_same d e h = numbered_same d e (number_same (domain_number d) (domain_number e) h)

one_domain : (Has : Domain → Type 0) (d e : Domain) → IsLeast domain_cmp Has d → IsLeast domain_cmp Has e → d ≡ e
one_domain = one_least domain_cmp domain_total domain_same

module _ (k : Configured) where
  one_place : (flips : Bits) (d : Domain) (p q : Place) → IsPlaceOf k flips d p → IsPlaceOf k flips d q → p ≡ q
  one_place flips d _ _ (at_wire w wire l e) (at_wire v other m f) =
      ap AtWire (some_same (sym e ∙ (ap (slice_get k.graph.wires) (one_number (DisturbedIn k flips d) w v l m) ∙ f)))
  one_place flips d _ _ (at_wire w wire l e) (in_cell name dry m) = absurd (dry w l.has)
  one_place flips d _ _ (in_cell name dry l) (at_wire v other m f) = absurd (dry v m.has)
  one_place flips d _ _ (in_cell name dry l) (in_cell other wet m) = ap InCell (one_least name_cmp nat_list_cmp_total name_same (TouchedIn k flips d) name other l m)

  -- a bit has one entry
  one_bad : (a b : BadPlace) → IsBadPlace k a → IsBadPlace k b → a.bit ≡ b.bit → a ≡ b
  one_bad a b p q e = λ i. record { bit = e i; first = firsts i; first_at = first_places i; second = seconds i; second_at = second_places i }
    where
      firsts : a.first ≡ b.first
      firsts = one_domain (FlipsHave k (only b.bit)) a.first b.first (subst (λ z. IsLeast domain_cmp (FlipsHave k (only z)) a.first) e p.first) q.first

      seconds : a.second ≡ b.second
      seconds = one_domain (λ d. FlipsHave k (only b.bit) d × (d ≢ b.first)) a.second b.second
          (subst (λ f. IsLeast domain_cmp (λ d. FlipsHave k (only b.bit) d × (d ≢ f)) a.second) firsts (subst (λ z. IsLeast domain_cmp (λ d. FlipsHave k (only z) d × (d ≢ a.first)) a.second) e p.second)) q.second

      first_places : a.first_at ≡ b.first_at
      first_places = one_place (only b.bit) b.first a.first_at b.first_at (subst (λ d. IsPlaceOf k (only b.bit) d a.first_at) firsts (subst (λ z. IsPlaceOf k (only z) a.first a.first_at) e p.first_at)) q.first_at

      second_places : a.second_at ≡ b.second_at
      second_places = one_place (only b.bit) b.second a.second_at b.second_at (subst (λ d. IsPlaceOf k (only b.bit) d a.second_at) seconds (subst (λ z. IsPlaceOf k (only z) a.second a.second_at) e p.second_at)) q.second_at

  -- an entry's bit is bad
  pub is_bad : (b : BadPlace) → IsBadPlace k b → IsBad k (only b.bit)
  is_bad b p = (b.first, (b.second, (p.first.has, p.second.has.0, (λ e. p.second.has.1 (sym e)))))

  listed_too : (list others : List BadPlace) → AreBadPlaces k list → AreBadPlaces k others → (b : BadPlace) → In list b → In others b
  listed_too list others p q b i =
      let is = p.each b i in
      let o = q.all b.bit is.mux_bit (is_bad b is) in
      subst (In others) (one_bad o.0 b (q.each o.0 o.1.0) is o.1.1) o.1.0

  pub one_list_of_bad : (list others : List BadPlace) → AreBadPlaces k list → AreBadPlaces k others → list ≡ others
  one_list_of_bad list others p q = determined (λ a b. bit_cmp a.bit b.bit) (on_total (λ b. b.bit) bit_total) list others p.rising q.rising (listed_too list others p q) (listed_too others list q p)

  -- a list that isn't empty has a bad bit
  pub not_safe : (list : List BadPlace) → AreBadPlaces k list → list ≢ [] → IsSafe k → ⊥
  not_safe [] p n safe = n refl
  not_safe (b ∷ bs) p n safe = (let is = p.each b (inl refl) in safe b.bit is.mux_bit (is_bad b is))

pub one_list_of_bits : (g : Graph) (bits others : List DeviceBit) → AreMuxBits g bits → AreMuxBits g others → bits ≡ others
one_list_of_bits g = one_list bit_cmp bit_total (mux_bits g)
