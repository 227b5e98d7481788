-- The least pin that an unnamed cell feeds.
use Rattle.std.proofs.Common.{◌≡◌, ◌≢◌, ℕ, zero, suc, ◌+◌, ◌<◌, List, [], ◌∷◌, length, get_or, map, Option, None, Some, ◌⊎◌, inl, inr, refl, sym, ap, subst, ◌∙◌, arith}
use Rattle.std.specs.Prelude.{slice_get}
use Rattle.std.specs.Option.{option_map}
use Rattle.std.specs.declared.cmp.Ordering.{Ordering}
use Rattle.std.specs.declared.cmp.Ordering.TheVariants.{Less, Equal, Greater}
use Rattle.std.specs.Ordering.{ordering_reverse}
use Rattle.std.specs.Cmp.{IsTotalOrder, nat_cmp_total, on_total, then_total}
use Rattle.std.specs.Cmp.Lexicographic.{nat_list_cmp_total}
use Rattle.std.proofs.lemmas.List.{length-map}
use Rattle.std.proofs.lemmas.Option.{slice_get-map, slice_get_read, slice_get_within}
use Rattle.words.specs.Members.{In}
use Rattle.links.specs.Links.{IsClean}
use Rattle.links.proofs.Members.{same_number}
use Rattle.circuit.specs.Parts.{sources}
use Rattle.circuit.specs.Pins.{Pin, PinRef, pins}
use Rattle.circuit.specs.Cells.{Cells}
use Rattle.circuit.specs.Circuits.{Circuit}
use Rattle.attempts.specs.PinOrder.{rank_of, number_of, part_cmp, pin_cmp}
use Rattle.fabric_laws.proofs.Numbered.{get_in, number_there}
use Rattle.design_checks.specs.PinChecks.{IsFedUnnamed}
use Rattle.wire_feeds.specs.Rows.{AreFeeds}
use Rattle.pin_feeds.specs.declared.errors.UnnamedFeed.{UnnamedFeed}
use Rattle.pin_feeds.specs.Outputs.{AreOutputs, part_at, unnamed_at}
use Rattle.pin_feeds.specs.PinFeeds.{IsPinFeed, ArePinFeeds}
use Rattle.pin_feeds.specs.LeastUnnamed.{IsLeastOf, LeastSoFar}
use Rattle.pin_feeds.specs.Unnamed.{IsUnnamedFeed}
use Rattle.pin_feeds.proofs.Telling.{unnamed_feed, named_pin, modelled_feed}

part_total : IsTotalOrder part_cmp
part_total = then_total (on_total (λ p. p.cell) nat_list_cmp_total) (then_total (on_total (λ p. rank_of p.part) nat_cmp_total) (on_total (λ p. number_of p.part) nat_cmp_total))

pin_total : IsTotalOrder pin_cmp
pin_total = then_total (on_total (λ p. p.part) part_total) (on_total (λ p. p.pin) nat_cmp_total)

some_pin : (a b : Pin) → Some a ≡ Some b → a ≡ b
some_pin a b h = cc

some_number : (a b : ℕ) → Some a ≡ Some b → a ≡ b
some_number a b h = cc

none_some : (a : ℕ) → None ≡ Some a → ⊥
none_some a h = (let no : ⊥ = cc in no)

-- a place below the next number is below the number, or it is that
split : (i n : ℕ) → i < n + 1 → (i < n) ⊎ (i ≡ n)
split i n h = elim (same_number i n) [ inl e ↦ inr e | inr other ↦ inl (omega arith) ]

module _ (unnamed : ℕ → Option ℕ) (all : List Pin) (n : ℕ) (p : Pin) (at : slice_get all n ≡ Some p) where
  -- the pin has no such feed
  pub least_passed : (least : Option UnnamedFeed) → LeastSoFar unnamed all n least → unnamed p.wire ≡ None → LeastSoFar unnamed all (n + 1) least
  least_passed None so_far none = λ i q below there. elim (split i n below) [
    | inl l ↦ so_far i q l there
    | inr e ↦ ap (λ (x : Pin). unnamed x.wire) (some_pin q p (sym there ∙ (ap (slice_get all) e ∙ at))) ∙ none
  ]
  least_passed (Some u) so_far none = record {
    pin = so_far.pin;
    numbered = so_far.numbered;
    feed = so_far.feed;
    least = λ i o q below there h. elim (split i n below) [
      | inl l ↦ so_far.least i o q l there h
      | inr e ↦ absurd (none_some o (sym none ∙ (ap (λ (x : Pin). unnamed x.wire) (some_pin p q (sym at ∙ (ap (slice_get all) (sym e) ∙ there))) ∙ h)))
    ];
  }

  -- the pin doesn't come before the least one
  pub least_stays : (u : UnnamedFeed) (l : Pin) → slice_get all u.pin ≡ Some l → IsLeastOf unnamed all n u → pin_cmp l.ref p.ref ≢ Greater → IsLeastOf unnamed all (n + 1) u
  least_stays u l is so_far before = record {
    pin = so_far.pin;
    numbered = so_far.numbered;
    feed = so_far.feed;
    least = λ i o q below there h. elim (split i n below) [
      | inl k ↦ so_far.least i o q k there h
      | inr e ↦ (
          let same : p ≡ q = some_pin p q (sym at ∙ (ap (slice_get all) (sym e) ∙ there)) in
          let first : l ≡ so_far.pin = some_pin l so_far.pin (sym is ∙ so_far.numbered) in
          subst (λ (x : Pin). pin_cmp so_far.pin.ref x.ref ≢ Greater) same (subst (λ (x : Pin). pin_cmp x.ref p.ref ≢ Greater) first before)
          )
    ];
  }

  itself : (r : PinRef) → pin_cmp r r ≢ Greater
  itself r h = (let back : pin_cmp r r ≡ ordering_reverse (pin_cmp r r) = pin_total.antisymm r r in let less : Greater ≡ Less = sym h ∙ (back ∙ ap ordering_reverse h) in let no : ⊥ = cc in no)

  -- the pin is the first with such a feed
  pub least_begins : (u : UnnamedFeed) → LeastSoFar unnamed all n None → u.pin ≡ n → unnamed p.wire ≡ Some u.feed → IsLeastOf unnamed all (n + 1) u
  least_begins u so_far is fed = record {
    pin = p;
    numbered = ap (slice_get all) is ∙ at;
    feed = fed;
    least = λ i o q below there h. elim (split i n below) [
      | inl k ↦ absurd (none_some o (sym (so_far i q k there) ∙ h))
      | inr e ↦ subst (λ (x : Pin). pin_cmp p.ref x.ref ≢ Greater) (some_pin p q (sym at ∙ (ap (slice_get all) (sym e) ∙ there))) (itself p.ref)
    ];
  }

  which_less : (x y z : PinRef) (o : Ordering) → pin_cmp x y ≡ Less → pin_cmp y z ≡ o → pin_cmp x z ≡ Greater → o ≡ Greater
  which_less x y z Less h k g = (let less : pin_cmp x z ≡ Less = pin_total.trans x y z h k in let wrong : Less ≡ Greater = sym less ∙ g in let no : ⊥ = cc in absurd no)
  which_less x y z Greater h k g = refl
  which_less x y z Equal h k g =
      let same : pin_cmp y x ≡ pin_cmp z x = pin_total.congr y z x k in
      let turned : pin_cmp z x ≡ Less = pin_total.antisymm z x ∙ ap ordering_reverse g in
      let back : pin_cmp y x ≡ Greater = pin_total.antisymm y x ∙ ap ordering_reverse h in
      let wrong : Less ≡ Greater = sym turned ∙ (sym same ∙ back) in
      let no : ⊥ = cc in absurd no

  -- the pin comes before the least one
  pub least_moves : (u v : UnnamedFeed) (l : Pin) → slice_get all u.pin ≡ Some l → IsLeastOf unnamed all n u → pin_cmp l.ref p.ref ≡ Greater → v.pin ≡ n → unnamed p.wire ≡ Some v.feed → IsLeastOf unnamed all (n + 1) v
  least_moves u v l at_l so_far before is fed = record {
    pin = p;
    numbered = ap (slice_get all) is ∙ at;
    feed = fed;
    least = λ i o q below there h. elim (split i n below) [
      | inl k ↦ (
          let first : l ≡ so_far.pin = some_pin l so_far.pin (sym at_l ∙ so_far.numbered) in
          let lower : pin_cmp p.ref l.ref ≡ Less = pin_total.antisymm p.ref l.ref ∙ ap ordering_reverse before in
          let after : pin_cmp l.ref q.ref ≢ Greater = subst (λ (x : Pin). pin_cmp x.ref q.ref ≢ Greater) (sym first) (so_far.least i o q k there h) in
          λ greater. after (which_less p.ref l.ref q.ref (pin_cmp l.ref q.ref) lower refl greater)
          )
      | inr e ↦ subst (λ (x : Pin). pin_cmp p.ref x.ref ≢ Greater) (some_pin p q (sym at ∙ (ap (slice_get all) (sym e) ∙ there))) (itself p.ref)
    ];
  }

-- ---- what this says of a circuit

module _ (c : Circuit) (feeds parts : List (Option ℕ)) (clean : IsClean c.routing) (are : AreFeeds c.routing feeds) (outputs : AreOutputs (sources c.cells) parts) (long : length parts ≡ length feeds) where
  abbrev unnamed : ℕ → Option ℕ
  unnamed = unnamed_at feeds parts

  -- no pin has such a feed
  pub all_named : LeastSoFar unnamed (pins c.cells) (length (pins c.cells)) None → (v : List (Option ℕ)) → v ≡ map (λ p. part_at feeds parts p.wire) (pins c.cells) → ArePinFeeds c v
  all_named none v is = record {
    long = ap (λ xs. length xs) is ∙ length-map (pins c.cells) (λ p. part_at feeds parts p.wire);
    each = λ i p feed at there.
        let made : Some feed ≡ Some (part_at feeds parts p.wire) = sym there ∙ (ap (λ xs. slice_get xs i) is ∙ (slice_get-map (λ (q : Pin). part_at feeds parts q.wire) (pins c.cells) i ∙ ap (option_map (λ (q : Pin). part_at feeds parts q.wire)) at)) in
        let same : feed ≡ part_at feeds parts p.wire = cc in
        subst (IsPinFeed c p) (sym same) (named_pin c feeds parts are outputs long p (none i p (slice_get_within (pins c.cells) i p at) at));
  }

  fed_unnamed : (p : Pin) (o : ℕ) → In (pins c.cells) p → unnamed p.wire ≡ Some o → IsFedUnnamed c p.ref o
  fed_unnamed p o i h =
      let f = unnamed_feed c feeds parts are outputs long p.wire o h in
      record { pin = p; listed = i; is = refl; feeds = f.0; unnamed = f.1 }

  seen : (ref : PinRef) (o i : ℕ) (h : IsFedUnnamed c ref o) (feed : Option ℕ) → unnamed h.pin.wire ≡ feed → slice_get (pins c.cells) i ≡ Some h.pin → (u : UnnamedFeed) → (least : IsLeastOf unnamed (pins c.cells) (length (pins c.cells)) u)
      → pin_cmp least.pin.ref ref ≢ Greater
  seen ref o i h None e at u least = (let s = modelled_feed c feeds parts are outputs long clean h.pin.wire o h.feeds e in absurd (h.unnamed s.0 s.1.0 s.1.1))
  seen ref o i h (Some x) e at u least = subst (λ r. pin_cmp least.pin.ref r ≢ Greater) h.is (least.least i x h.pin (slice_get_within (pins c.cells) i h.pin at) at e)

  -- the least pin with such a feed is the least that an unnamed cell feeds
  pub one_unnamed : (u : UnnamedFeed) → IsLeastOf unnamed (pins c.cells) (length (pins c.cells)) u → IsUnnamedFeed c u
  one_unnamed u least =
      let fed = fed_unnamed least.pin u.feed (get_in (pins c.cells) u.pin least.pin least.numbered) least.feed in
      record {
        pin = least.pin;
        numbered = least.numbered;
        least = record {
          has = (u.feed, fed);
          least = λ ref h. (let at = number_there (pins c.cells) h.1.pin h.1.listed in seen ref h.0 at.0 h.1 (unnamed h.1.pin.wire) refl at.1 u least);
        };
        feed = fed;
      }

-- ---- of two the lesser

element : (all : List Pin) (i : ℕ) → i < length all → (p : Pin) × (slice_get all i ≡ Some p)
element [] i h = absurd (omega arith)
element (p ∷ ps) zero h = (p, refl)
element (p ∷ ps) (suc i) h = element ps i (omega arith)

module _ (unnamed : ℕ → Option ℕ) (all : List Pin) (v : UnnamedFeed) (below : v.pin < length all) (fed : (p : Pin) → slice_get all v.pin ≡ Some p → unnamed p.wire ≡ Some v.feed) where
  -- none was there
  pub lesser_begins : (least : Option UnnamedFeed) → LeastSoFar unnamed all v.pin least → least ≡ None → IsLeastOf unnamed all (v.pin + 1) v
  lesser_begins least so_far none =
      let p = element all v.pin below in
      least_begins unnamed all v.pin p.0 p.1 v (subst (LeastSoFar unnamed all v.pin) none so_far) refl (fed p.0 p.1)

  module _ (least : Option UnnamedFeed) (u : UnnamedFeed) (so_far : LeastSoFar unnamed all v.pin least) (is : least ≡ Some u) (o : Ordering)
      (order : (p q : Pin) → slice_get all u.pin ≡ Some p → slice_get all v.pin ≡ Some q → o ≡ pin_cmp p.ref q.ref) where
    first : IsLeastOf unnamed all v.pin u
    first = subst (LeastSoFar unnamed all v.pin) is so_far

    pub lesser_moves : o ≡ Greater → IsLeastOf unnamed all (v.pin + 1) v
    lesser_moves greater =
        let p = element all v.pin below in
        least_moves unnamed all v.pin p.0 p.1 u v first.pin first.numbered first (sym (order first.pin p.0 first.numbered p.1) ∙ greater) refl (fed p.0 p.1)

    pub lesser_stays : o ≢ Greater → IsLeastOf unnamed all (v.pin + 1) u
    lesser_stays other =
        let p = element all v.pin below in
        least_stays unnamed all v.pin p.0 p.1 u first.pin first.numbered first (λ h. other (order first.pin p.0 first.numbered p.1 ∙ h))

-- a pin at its place that has no such feed
pub passed : (unnamed : ℕ → Option ℕ) (all : List Pin) (n : ℕ) (p : Pin) (least : Option UnnamedFeed) → n < length all → p ≡ get_or all n p → LeastSoFar unnamed all n least → unnamed p.wire ≡ None → LeastSoFar unnamed all (n + 1) least
passed unnamed all n p least below is so_far none = least_passed unnamed all n p (slice_get_read all (length all) n p refl below is) least so_far none

-- ---- answers

pub unnamed_answer : (cells : Cells) (feeds parts lent : List (Option ℕ)) (ps : List Pin) (o : Option UnnamedFeed) (u : UnnamedFeed) → ps ≡ pins cells → lent ≡ parts → AreOutputs (sources cells) parts → length parts ≡ length feeds
    → LeastSoFar (unnamed_at feeds lent) ps (length ps) o → o ≡ Some u → (c : Circuit) → c.cells ≡ cells → IsClean c.routing → AreFeeds c.routing feeds → IsUnnamedFeed c u
unnamed_answer cells feeds parts lent ps o u pins_are lent_are outputs long least is c of_cells clean are =
    let own : AreOutputs (sources c.cells) parts = subst (λ x. AreOutputs (sources x) parts) (sym of_cells) outputs in
    let first : LeastSoFar (unnamed_at feeds lent) ps (length ps) (Some u) = subst (LeastSoFar (unnamed_at feeds lent) ps (length ps)) is least in
    let second : IsLeastOf (unnamed_at feeds parts) ps (length ps) u = subst (λ x. IsLeastOf (unnamed_at feeds x) ps (length ps) u) lent_are first in
    let third : IsLeastOf (unnamed_at feeds parts) (pins c.cells) (length (pins c.cells)) u = subst (λ x. IsLeastOf (unnamed_at feeds parts) x (length x) u) (pins_are ∙ ap pins (sym of_cells)) second in
    one_unnamed c feeds parts clean are own long u third

pub named_answer : (cells : Cells) (feeds parts lent again : List (Option ℕ)) (ps qs : List Pin) (o : Option UnnamedFeed) (v : List (Option ℕ)) → ps ≡ pins cells → qs ≡ pins cells → lent ≡ parts → again ≡ parts → AreOutputs (sources cells) parts
    → length parts ≡ length feeds → LeastSoFar (unnamed_at feeds lent) ps (length ps) o → o ≡ None → v ≡ map (λ p. part_at feeds again p.wire) qs
    → (c : Circuit) → c.cells ≡ cells → IsClean c.routing → AreFeeds c.routing feeds → ArePinFeeds c v
named_answer cells feeds parts lent again ps qs o v pins_are again_are lent_are again_lent outputs long least is made c of_cells clean are =
    let own : AreOutputs (sources c.cells) parts = subst (λ x. AreOutputs (sources x) parts) (sym of_cells) outputs in
    let first : LeastSoFar (unnamed_at feeds lent) ps (length ps) None = subst (LeastSoFar (unnamed_at feeds lent) ps (length ps)) is least in
    let second : LeastSoFar (unnamed_at feeds parts) ps (length ps) None = subst (λ x. LeastSoFar (unnamed_at feeds x) ps (length ps) None) lent_are first in
    let third : LeastSoFar (unnamed_at feeds parts) (pins c.cells) (length (pins c.cells)) None = subst (λ x. LeastSoFar (unnamed_at feeds parts) x (length x) None) (pins_are ∙ ap pins (sym of_cells)) second in
    let values : v ≡ map (λ p. part_at feeds parts p.wire) (pins c.cells) = made ∙ (ap (λ x. map (λ (p : Pin). part_at feeds x p.wire) qs) again_lent ∙ ap (map (λ (p : Pin). part_at feeds parts p.wire)) (again_are ∙ ap pins (sym of_cells))) in
    all_named c feeds parts clean are own long third v values
