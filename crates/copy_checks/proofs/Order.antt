-- The least part so far, as copies of one part more are looked at.
use Rattle.std.proofs.Common.{◌≡◌, ◌≢◌, ℕ, ◌+◌, ◌<◌, List, Option, None, Some, ◌⊎◌, inl, inr, refl, sym, ap, subst, ◌∙◌, arith}
use Rattle.std.specs.Prelude.{slice_get}
use Rattle.std.specs.declared.cmp.Ordering.{Ordering}
use Rattle.std.specs.declared.cmp.Ordering.TheVariants.{Less, Equal, Greater}
use Rattle.std.specs.Ordering.{ordering_reverse}
use Rattle.std.specs.Cmp.{IsTotalOrder, nat_cmp_total, on_total, then_total}
use Rattle.std.specs.Cmp.Lexicographic.{nat_list_cmp_total}
use Rattle.links.proofs.Members.{same_number}
use Rattle.records.specs.Side.{Triple}
use Rattle.circuit.specs.Parts.{PartKind, Pad, PartRef}
use Rattle.circuit.specs.Circuits.{Circuit}
use Rattle.attempts.specs.PinOrder.{rank_of, number_of, part_cmp}
use Rattle.design_checks.specs.CopyChecks.{part_in, DifferIn}
use Rattle.copy_checks.specs.declared.unlike.Unlike.{Unlike}
use Rattle.copy_checks.specs.declared.numbered.Numbered.{Numbered}
use Rattle.copy_checks.specs.declared.numbered.Numbered.TheVariants.{Tables, Registers}
use Rattle.copy_checks.specs.Unlike.{named, kind_at, IsAnswer, NotAfter, Gains, Covers, IsLesser, WithPart, WithKind, WithTriple, WithTriples, WithOutputs}

part_total : IsTotalOrder part_cmp
part_total = then_total (on_total (λ p. p.cell) nat_list_cmp_total) (then_total (on_total (λ p. rank_of p.part) nat_cmp_total) (on_total (λ p. number_of p.part) nat_cmp_total))

itself : (r : PartRef) → part_cmp r r ≢ Greater
itself r h = (let back : part_cmp r r ≡ ordering_reverse (part_cmp r r) = part_total.antisymm r r in let less : Greater ≡ Less = sym h ∙ (back ∙ ap ordering_reverse h) in let no : ⊥ = cc in no)

which_less : (x y z : PartRef) (o : Ordering) → part_cmp x y ≡ Less → part_cmp y z ≡ o → part_cmp x z ≡ Greater → o ≡ Greater
which_less x y z Less h k g = (let less : part_cmp x z ≡ Less = part_total.trans x y z h k in let wrong : Less ≡ Greater = sym less ∙ g in let no : ⊥ = cc in absurd no)
which_less x y z Greater h k g = refl
which_less x y z Equal h k g =
    let same : part_cmp y x ≡ part_cmp z x = part_total.congr y z x k in
    let turned : part_cmp z x ≡ Less = part_total.antisymm z x ∙ ap ordering_reverse g in
    let back : part_cmp y x ≡ Greater = part_total.antisymm y x ∙ ap ordering_reverse h in
    let wrong : Less ≡ Greater = sym turned ∙ (sym same ∙ back) in
    let no : ⊥ = cc in absurd no

split : (i n : ℕ) → i < n + 1 → (i < n) ⊎ (i ≡ n)
split i n h = elim (same_number i n) [ inl e ↦ inr e | inr other ↦ inl (omega arith) ]

some_triple : (a b : Triple) → Some a ≡ Some b → a ≡ b
some_triple a b h = cc

-- ---- the lesser of two

module _ (c : Circuit) (next : Unlike) (told : DifferIn c (named next) next.what.items) where
  abbrev Told : Unlike → Type 0
  Told u = DifferIn c (named u) u.what.items

  -- the first stays
  stays : (first r : Unlike) → part_cmp (named first) (named next) ≢ Greater → (part_cmp (named first) (named next) ≢ Greater → r ≡ first) → Gains c (Some first) (Some r) × NotAfter (Some r) (named next)
  stays first r other keeps = (let is = keeps other in (
    record { told = λ h. subst Told (sym is) h; keeps = λ p h. subst (λ (u : Unlike). part_cmp (named u) p ≢ Greater) (sym is) h },
    subst (λ (u : Unlike). part_cmp (named u) (named next) ≢ Greater) (sym is) other,
  ))

  by_order : (first r : Unlike) (o : Ordering) → part_cmp (named first) (named next) ≡ o → (part_cmp (named first) (named next) ≡ Greater → r ≡ next) → (part_cmp (named first) (named next) ≢ Greater → r ≡ first)
      → Gains c (Some first) (Some r) × NotAfter (Some r) (named next)
  by_order first r Greater e takes keeps =
      let is = takes e in
      let lower : part_cmp (named next) (named first) ≡ Less = part_total.antisymm (named next) (named first) ∙ ap ordering_reverse e in (
        record {
          told = λ h. subst Told (sym is) told;
          keeps = λ p h. subst (λ (u : Unlike). part_cmp (named u) p ≢ Greater) (sym is) (λ g. h (which_less (named next) (named first) p (part_cmp (named first) p) lower refl g));
        },
        subst (λ (u : Unlike). part_cmp (named u) (named next) ≢ Greater) (sym is) (itself (named next)),
      )
  by_order first r Less e takes keeps = stays first r (λ h. (let wrong : Less ≡ Greater = sym e ∙ h in let no : ⊥ = cc in no)) keeps
  by_order first r Equal e takes keeps = stays first r (λ h. (let wrong : Equal ≡ Greater = sym e ∙ h in let no : ⊥ = cc in no)) keeps

  gained : (least : Option Unlike) (r : Unlike) → IsLesser least next r → Gains c least (Some r) × NotAfter (Some r) (named next)
  gained None r is = (
    record { told = λ h. subst Told (sym is) told; keeps = λ p h. absurd h },
    subst (λ (u : Unlike). part_cmp (named u) (named next) ≢ Greater) (sym is) (itself (named next)),
  )
  gained (Some first) r is = by_order first r (part_cmp (named first) (named next)) refl is.0 is.1

-- ---- one part more

pub gains_same : (c : Circuit) (o : Option Unlike) → Gains c o o
gains_same c o = record { told = λ h. h; keeps = λ p h. h }

pub gains_both : (c : Circuit) (x y z : Option Unlike) → Gains c x y → Gains c y z → Gains c x z
gains_both c x y z a b = record { told = λ h. b.told (a.told h); keeps = λ p h. b.keeps p (a.keeps p h) }

pub none_more : (c : Circuit) (t : Triple) (kind : PartKind) (least : Option Unlike) → IsAnswer c t kind None → WithPart c t kind least least
none_more c t kind least none = (gains_same c least, λ d. absurd (none d))

pub one_more : (c : Circuit) (t : Triple) (kind : PartKind) (least : Option Unlike) (next r : Unlike) → IsLesser least next r → IsAnswer c t kind (Some next) → WithPart c t kind least (Some r)
one_more c t kind least next r lesser told = (let g = gained c next told.1 least r lesser in (g.0, λ d. subst (NotAfter (Some r)) told.0 g.1))

-- ---- tables or registers so far

pub none_yet : (c : Circuit) (t : Triple) (which : Numbered) (o : Option Unlike) → Gains c o o × ((n : ℕ) → n < 0 → Covers c t (kind_at which n) o)
none_yet c t which o = (gains_same c o, λ n below. absurd (omega arith))

pub kind_more : (c : Circuit) (t : Triple) (which : Numbered) (n : ℕ) (old found new : Option Unlike) → Gains c old found × ((m : ℕ) → m < n → Covers c t (kind_at which m) found)
    → WithPart c t (kind_at which n) found new → Gains c old new × ((m : ℕ) → m < n + 1 → Covers c t (kind_at which m) new)
kind_more c t which n old found new so_far more = (
  gains_both c old found new so_far.0 more.0,
  λ m below d. elim (split m n below) [
    | inl l ↦ more.0.keeps (part_in t.first (kind_at which m)) (so_far.1 m l d)
    | inr e ↦ subst (λ k. Covers c t (kind_at which k) new) (sym e) more.1 d
  ],
)

-- ---- both kinds

pub both_kinds : (c : Circuit) (t : Triple) (old found new : Option Unlike) → WithKind c t Tables old found → WithKind c t Registers found new → WithTriple c t old new
both_kinds c t old found new tables registers = (gains_both c old found new tables.0 registers.0, by)
  where
    by : (which : Numbered) (n : ℕ) → Covers c t (kind_at which n) new
    by Tables n d = registers.0.keeps (part_in t.first (kind_at Tables n)) (tables.1 n d)
    by Registers n d = registers.1 n d

-- ---- triples so far

pub triple_more : (c : Circuit) (ts : List Triple) (t : Triple) (n : ℕ) (old found new : Option Unlike) → slice_get ts n ≡ Some t → WithTriples c ts n old found → WithTriple c t found new → WithTriples c ts (n + 1) old new
triple_more c ts t n old found new at so_far more = (
  gains_both c old found new so_far.0 more.0,
  λ i u below there which m d. elim (split i n below) [
    | inl l ↦ more.0.keeps (part_in u.first (kind_at which m)) (so_far.1 i u l there which m d)
    | inr e ↦ subst (λ (x : Triple). Covers c x (kind_at which m) new) (some_triple t u (sym at ∙ (ap (slice_get ts) (sym e) ∙ there))) (more.1 which m) d
  ],
)

pub output_more : (c : Circuit) (ts : List Triple) (t : Triple) (n : ℕ) (old found new : Option Unlike) → slice_get ts n ≡ Some t → WithOutputs c ts n old found → WithPart c t Pad found new → WithOutputs c ts (n + 1) old new
output_more c ts t n old found new at so_far more = (
  gains_both c old found new so_far.0 more.0,
  λ i u below there d. elim (split i n below) [
    | inl l ↦ more.0.keeps (part_in u.first Pad) (so_far.1 i u l there d)
    | inr e ↦ subst (λ (x : Triple). Covers c x Pad new) (some_triple t u (sym at ∙ (ap (slice_get ts) (sym e) ∙ there))) more.1 d
  ],
)
