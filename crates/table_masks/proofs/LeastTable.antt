-- The least read table that doesn't mask another domain.
use Rattle.std.proofs.Common.{◌≡◌, ◌≢◌, ◌↔◌, ℕ, zero, suc, ◌+◌, ◌<◌, ◌≤◌, Bool, true, false, List, [], ◌∷◌, length, get_or, Option, None, Some, option_and_then, ◌⊎◌, inl, inr, refl, sym, ap, subst, ◌∙◌, arith}
use Rattle.std.specs.Prelude.{slice_get}
use Rattle.std.specs.declared.cmp.Ordering.{Ordering}
use Rattle.std.specs.declared.cmp.Ordering.TheVariants.{Less, Equal, Greater}
use Rattle.std.specs.Ordering.{nat_cmp, ordering_reverse}
use Rattle.std.specs.Cmp.{IsTotalOrder, nat_cmp_is, nat_cmp_total, on_total, then_total}
use Rattle.std.specs.Cmp.Lexicographic.{nat_list_cmp_total}
use Rattle.std.proofs.lemmas.Bool.{false≢true}
use Rattle.std.proofs.lemmas.Option.{get_or_from_slice_get, slice_get_within, slice_get-get_or}
use Rattle.words.specs.Members.{In}
use Rattle.links.proofs.Members.{same_number}
use Rattle.circuit.specs.Cells.{Cells}
use Rattle.circuit.specs.Parts.{PartRef, Source, sources}
use Rattle.circuit.specs.Circuits.{Circuit, IsRead}
use Rattle.circuit_laws.proofs.Refs.{part_same}
use Rattle.attempts.specs.PinOrder.{rank_of, number_of, part_cmp}
use Rattle.answers.specs.Refusals.{Refusal, NotMasking}
use Rattle.design_checks.specs.Checks.{IsLeast, Passes}
use Rattle.design_checks.specs.MaskChecks.{FailsAt, TablesFail, fails}
use Rattle.fabric_laws.proofs.Numbered.{get_in, number_there}
use Rattle.pin_feeds.proofs.Connected.{read_told}
use Rattle.pin_feeds.proofs.Writing.{there_below}
use Rattle.table_masks.specs.declared.unmasked.Unmasked.{Unmasked}
use Rattle.table_masks.specs.Reaching.{TableReaches}
use Rattle.table_masks.specs.Least.{IsLeastOf, IsLesser, LeastSoFar, Reached, Shows, TellsMasks}

part_total : IsTotalOrder part_cmp
part_total = then_total (on_total (λ p. p.cell) nat_list_cmp_total) (then_total (on_total (λ p. rank_of p.part) nat_cmp_total) (on_total (λ p. number_of p.part) nat_cmp_total))

some_source : (a b : Source) → Some a ≡ Some b → a ≡ b
some_source a b h = cc

pub element : (all : List Source) (i : ℕ) → i < length all → (s : Source) × (slice_get all i ≡ Some s)
element [] i h = absurd (omega arith)
element (s ∷ ss) zero h = (s, refl)
element (s ∷ ss) (suc i) h = element ss i (omega arith)

split : (i n : ℕ) → i < n + 1 → (i < n) ⊎ (i ≡ n)
split i n h = elim (same_number i n) [ inl e ↦ inr e | inr other ↦ inl (omega arith) ]

itself : (r : PartRef) → part_cmp r r ≢ Greater
itself r h = (let back : part_cmp r r ≡ ordering_reverse (part_cmp r r) = part_total.antisymm r r in let less : Greater ≡ Less = sym h ∙ (back ∙ ap ordering_reverse h) in let no : ⊥ = cc in no)

which_less : (x y z : PartRef) (o : Ordering) → part_cmp x y ≡ Less → part_cmp y z ≡ o → part_cmp x z ≡ Greater → o ≡ Greater
which_less x y z Less h k g = (let less : part_cmp x z ≡ Less = part_total.trans x y z h k in let wrong : Less ≡ Greater = sym less ∙ g in let no : ⊥ = cc in absurd no)
which_less x y z Greater h k g = refl
which_less x y z Equal h k g =
    let same : part_cmp y x ≡ part_cmp z x = part_total.congr y z x k in
    let turned : part_cmp z x ≡ Less = part_total.antisymm z x ∙ ap ordering_reverse g in
    let back : part_cmp y x ≡ Greater = part_total.antisymm y x ∙ ap ordering_reverse h in
    let wrong : Less ≡ Greater = sym turned ∙ (sym same ∙ back) in
    let no : ⊥ = cc in absurd no

module _ (c : Circuit) (read : List Bool) (n : ℕ) (s : Source) (at : slice_get (sources c.cells) n ≡ Some s) where
  -- the part is no read table that fails
  pub passed_part : (least : Option Unmasked) → LeastSoFar c read n least → (get_or read n false ≡ true → (m : ℕ) → TableReaches c s m → ⊥) → LeastSoFar c read (n + 1) least
  passed_part None so_far none = λ i q below there r m h. elim (split i n below) [
    | inl l ↦ so_far i q l there r m h
    | inr e ↦ (let same : q ≡ s = some_source q s (sym there ∙ (ap (slice_get (sources c.cells)) e ∙ at)) in none (subst (λ k. get_or read k false ≡ true) e r) m (subst (λ (z : Source). TableReaches c z m) same h))
  ]
  passed_part (Some u) so_far none = record {
    source = so_far.source;
    numbered = so_far.numbered;
    is_read = so_far.is_read;
    reached = so_far.reached;
    least = λ i q below there r m h. elim (split i n below) [
      | inl l ↦ so_far.least i q l there r m h
      | inr e ↦ (let same : q ≡ s = some_source q s (sym there ∙ (ap (slice_get (sources c.cells)) e ∙ at)) in absurd (none (subst (λ k. get_or read k false ≡ true) e r) m (subst (λ (z : Source). TableReaches c z m) same h)))
    ];
  }

  module _ (next : Unmasked) (is : next.part ≡ n) (own_read : IsRead c s) (reached : Reached c s (Some next.reached)) where
    -- it is the first, or comes before the least one
    moves : ((i : ℕ) (q : Source) → i < n → slice_get (sources c.cells) i ≡ Some q → get_or read i false ≡ true → (m : ℕ) → TableReaches c q m → part_cmp s.part q.part ≢ Greater) → IsLeastOf c read (n + 1) next
    moves before = record {
      source = s;
      numbered = ap (slice_get (sources c.cells)) is ∙ at;
      is_read = own_read;
      reached = reached;
      least = λ i q below there r m h. elim (split i n below) [
        | inl l ↦ before i q l there r m h
        | inr e ↦ subst (λ (z : Source). part_cmp s.part z.part ≢ Greater) (some_source s q (sym at ∙ (ap (slice_get (sources c.cells)) (sym e) ∙ there))) (itself s.part)
      ];
    }

    -- the least one stays
    stays : (u : Unmasked) (so_far : IsLeastOf c read n u) → part_cmp so_far.source.part s.part ≢ Greater → IsLeastOf c read (n + 1) u
    stays u so_far before = record {
      source = so_far.source;
      numbered = so_far.numbered;
      is_read = so_far.is_read;
      reached = so_far.reached;
      least = λ i q below there r m h. elim (split i n below) [
        | inl l ↦ so_far.least i q l there r m h
        | inr e ↦ subst (λ (z : Source). part_cmp so_far.source.part z.part ≢ Greater) (some_source s q (sym at ∙ (ap (slice_get (sources c.cells)) (sym e) ∙ there))) before
      ];
    }

    by_order : (u : Unmasked) (so_far : IsLeastOf c read n u) (o : Ordering) → part_cmp so_far.source.part s.part ≡ o → (result : Unmasked)
        → (part_cmp so_far.source.part s.part ≡ Greater → result ≡ next) → (part_cmp so_far.source.part s.part ≢ Greater → result ≡ u) → IsLeastOf c read (n + 1) result
    by_order u so_far Greater e result takes keeps =
        let lower : part_cmp s.part so_far.source.part ≡ Less = part_total.antisymm s.part so_far.source.part ∙ ap ordering_reverse e in
        subst (IsLeastOf c read (n + 1)) (sym (takes e)) (moves (λ i q below there r m h greater. so_far.least i q below there r m h (which_less s.part so_far.source.part q.part (part_cmp so_far.source.part q.part) lower refl greater)))
    by_order u so_far Less e result takes keeps =
        let other : part_cmp so_far.source.part s.part ≢ Greater = λ h. (let wrong : Less ≡ Greater = sym e ∙ h in let no : ⊥ = cc in no) in
        subst (IsLeastOf c read (n + 1)) (sym (keeps other)) (stays u so_far other)
    by_order u so_far Equal e result takes keeps =
        let other : part_cmp so_far.source.part s.part ≢ Greater = λ h. (let wrong : Equal ≡ Greater = sym e ∙ h in let no : ⊥ = cc in no) in
        subst (IsLeastOf c read (n + 1)) (sym (keeps other)) (stays u so_far other)

    pub lesser_told : (least : Option Unmasked) (result : Unmasked) → LeastSoFar c read n least → IsLesser (sources c.cells) least next s result → IsLeastOf c read (n + 1) result
    lesser_told None result so_far told = subst (IsLeastOf c read (n + 1)) (sym told) (moves (λ i q below there r m h greater. so_far i q below there r m h))
    lesser_told (Some u) result so_far told =
        let t = told so_far.source so_far.numbered in
        by_order u so_far (part_cmp so_far.source.part s.part) refl result t.0 t.1

-- ---- flags

none_source : (s : Source) → None ≡ Some s → ⊥
none_source s h = (let no : ⊥ = cc in no)

module _ (cells : Cells) (feeds numbers : List (Option ℕ)) (read : List Bool) (c : Circuit) (shows : Shows c cells feeds numbers read) where
  flags_own : (k : ℕ) → k < length (sources c.cells) → (get_or read k false ≡ true) ↔ In feeds (Some k)
  flags_own = subst (λ x. (k : ℕ) → k < length (sources x) → (get_or read k false ≡ true) ↔ In feeds (Some k)) (sym shows.feeds_are.cells_are) shows.flags

  -- a flagged part is read
  pub flagged_read : (k : ℕ) (s : Source) → slice_get (sources c.cells) k ≡ Some s → get_or read k false ≡ true → IsRead c s
  flagged_read k s at on =
      let i = number_there feeds (Some k) ((flags_own k (slice_get_within (sources c.cells) k s at)).0 on) in
      let fed : get_or feeds i.0 None ≡ Some k = get_or_from_slice_get feeds i.0 (Some k) None i.1 in
      (read_told c feeds shows.feeds_are.tells s).1 (i.0, ap (option_and_then (slice_get (sources c.cells))) fed ∙ at)

  flag_by : (s : Source) (i : ℕ) (feed : Option ℕ) → get_or feeds i None ≡ feed → option_and_then (slice_get (sources c.cells)) feed ≡ Some s → (k : ℕ) × ((slice_get (sources c.cells) k ≡ Some s) × (get_or read k false ≡ true))
  flag_by s i None e h = absurd (none_source s h)
  flag_by s i (Some k) e h =
      let there : slice_get feeds i ≡ Some (Some k) = slice_get-get_or feeds i None (there_below feeds i k e) ∙ ap (λ x. Some x) e in
      (k, (h, (flags_own k (slice_get_within (sources c.cells) k s h)).1 (get_in feeds i (Some k) there)))

  -- a read part is flagged
  pub read_flagged : (s : Source) → IsRead c s → (k : ℕ) × ((slice_get (sources c.cells) k ≡ Some s) × (get_or read k false ≡ true))
  read_flagged s r = (let i = (read_told c feeds shows.feeds_are.tells s).0 r in flag_by s i.0 (get_or feeds i.0 None) refl i.1)

-- ---- one part more, by what a program reads

module _ (cells : Cells) (feeds numbers : List (Option ℕ)) (read : List Bool) (n : ℕ) (s : Source) (at : slice_get (sources cells) n ≡ Some s) (c : Circuit) (shows : Shows c cells feeds numbers read) where
  own_at : slice_get (sources c.cells) n ≡ Some s
  own_at = subst (λ x. slice_get (sources x) n ≡ Some s) (sym shows.feeds_are.cells_are) at

  pub unread_part : (least : Option Unmasked) → get_or read n false ≡ false → LeastSoFar c read n least → LeastSoFar c read (n + 1) least
  unread_part least off so_far = passed_part c read n s own_at least so_far (λ on m h. false≢true (sym off ∙ on))

  pub unfailing_part : (least : Option Unmasked) → Reached c s None → LeastSoFar c read n least → LeastSoFar c read (n + 1) least
  unfailing_part least none so_far = passed_part c read n s own_at least so_far (λ on. none)

  pub failing_part : (least : Option Unmasked) (next result : Unmasked) → next.part ≡ n → get_or read n false ≡ true → Reached c s (Some next.reached) → IsLesser (sources cells) least next s result → LeastSoFar c read n least
      → LeastSoFar c read (n + 1) (Some result)
  failing_part least next result is on reached told so_far =
      lesser_told c read n s own_at next is (flagged_read cells feeds numbers read c shows n s own_at on) reached least result so_far (subst (λ x. IsLesser (sources x) least next s result) (sym shows.feeds_are.cells_are) told)

-- ---- what this says of the check

not_after : (a b : ℕ) → (b < a → ⊥) → nat_cmp a b ≢ Greater
not_after a b h g = elim (same_number a b) [
  | inl e ↦ (let is : Equal ≡ nat_cmp a b = nat_cmp_is a b Equal e in let wrong : Equal ≡ Greater = is ∙ g in let no : ⊥ = cc in no)
  | inr other ↦ (let is : Less ≡ nat_cmp a b = nat_cmp_is a b Less (below a b h other) in let wrong : Less ≡ Greater = is ∙ g in let no : ⊥ = cc in no)
]
  where
    below : (a b : ℕ) → (b < a → ⊥) → (a ≡ b → ⊥) → a < b
    below a b h other = omega arith

module _ (cells : Cells) (feeds numbers : List (Option ℕ)) (read : List Bool) (c : Circuit) (shows : Shows c cells feeds numbers read) where
  at_source : (part : PartRef) (m : ℕ) (f : FailsAt c part m) → TableReaches c f.source m
  at_source part m f = (
    f.table,
    (
      f.is_table,
      record {
        other = f.other;
        foreign = f.foreign;
        bits = f.bits;
        before = f.before;
        after = f.after;
        assigned = f.assigned;
        same = f.same;
        open_pins = f.open_pins;
        at = f.at;
        differs = f.differs;
      },
    ),
  )

  failing : (s : Source) (m : ℕ) (k : ℕ) → slice_get (sources c.cells) k ≡ Some s → IsRead c s → TableReaches c s m → FailsAt c s.part m
  failing s m k at r h = record {
    source = s;
    table = h.0;
    is = refl;
    read = record { listed = get_in (sources c.cells) k s at; read = r };
    is_table = h.1.0;
    other = h.1.1.other;
    foreign = h.1.1.foreign;
    bits = h.1.1.bits;
    before = h.1.1.before;
    after = h.1.1.after;
    assigned = h.1.1.assigned;
    same = h.1.1.same;
    open_pins = h.1.1.open_pins;
    at = h.1.1.at;
    differs = h.1.1.differs;
  }

  numbered : (part : PartRef) (m : ℕ) (f : FailsAt c part m) → (k : ℕ) × ((slice_get (sources c.cells) k ≡ Some f.source) × (get_or read k false ≡ true))
  numbered part m f = read_flagged cells feeds numbers read c shows f.source f.read.read

  masked : (r : Refusal) → LeastSoFar c read (length (sources c.cells)) None → TablesFail c r → ⊥
  masked _ none (fails part reached least address) =
      let f = least.has.1 in
      let k = numbered part least.has.0 f in
      none k.0 f.source (slice_get_within (sources c.cells) k.0 f.source k.1.0) k.1.0 k.1.1 least.has.0 (at_source part least.has.0 f)

  unmasked : (u : Unmasked) (l : IsLeastOf c read (length (sources c.cells)) u) → TablesFail c (NotMasking l.source.part u.reached)
  unmasked u l = fails l.source.part u.reached
      (record {
        has = (u.reached, failing l.source u.reached u.part l.numbered l.is_read l.reached.0);
        least = λ y h.
            let k = numbered y h.0 h.1 in
            subst (λ p. part_cmp l.source.part p ≢ Greater) h.1.is (l.least k.0 h.1.source (slice_get_within (sources c.cells) k.0 h.1.source k.1.0) k.1.0 k.1.1 h.0 (at_source y h.0 h.1));
      })
      (record {
        has = failing l.source u.reached u.part l.numbered l.is_read l.reached.0;
        least = λ m h. not_after u.reached m (λ less. l.reached.1 m less (subst (λ (z : Source). TableReaches c z m)
            (part_same c.cells shows.feeds_are.tells.formed.names h.source l.source h.read.listed (get_in (sources c.cells) u.part l.source l.numbered) h.is) (at_source l.source.part m h)));
      })

  by : (r : Option Unmasked) → LeastSoFar c read (length (sources c.cells)) r → TellsMasks c r
  by None none = λ r h. masked r none h
  by (Some u) l = (l.source, (l.numbered, unmasked u l))

  pub masks_told : (r : Option Unmasked) (n : ℕ) → n ≡ length (sources cells) → LeastSoFar c read n r → TellsMasks c r
  masks_told r n is so_far = by r (subst (λ m. LeastSoFar c read m r) (is ∙ ap (λ x. length (sources x)) (sym shows.feeds_are.cells_are)) so_far)
