-- Connections by the list of the feeds of pins.
use Rattle.std.proofs.Common.{◌≡◌, ◌↔◌, ℕ, zero, suc, ◌<◌, List, [], ◌∷◌, length, get_or, Option, None, Some, option_map, option_and_then, refl, sym, ap, subst, ◌∙◌, inl, inr, arith}
use Rattle.std.specs.Prelude.{slice_get}
use Rattle.std.specs.List.{zip}
use Rattle.std.proofs.lemmas.Option.{slice_get_within, slice_get-get_or, get_or_from_slice_get}
use Rattle.words.specs.Members.{In}
use Rattle.records.specs.Side.{Domain}
use Rattle.links.specs.Links.{Fed, Feeds, IsClean}
use Rattle.links.proofs.Feeds.{one_feed}
use Rattle.circuit.specs.Parts.{PartRef, Source, sources}
use Rattle.circuit.specs.Pins.{Pin, PinRef, pins}
use Rattle.circuit.specs.Circuits.{Circuit, Connects, IsRead, Connection, IsConnection}
use Rattle.circuit.specs.Domains.{HasDomain}
use Rattle.fabric_laws.proofs.Members.{in_filter_map_to, in_filter_map_from}
use Rattle.fabric_laws.proofs.Numbered.{get_in, number_there}
use Rattle.pin_feeds.specs.PinFeeds.{IsPinFeed, ArePinFeeds, feed_source, connection_with, connections_with}
use Rattle.pin_feeds.specs.Told.{Tells, FeedsAreNamed}
use Rattle.pin_feeds.proofs.Writing.{there_below}

some_source : (a b : Source) → Some a ≡ Some b → a ≡ b
some_source a b h = cc

no_source : (s : Source) → None ≡ Some s → ⊥
no_source s h = (let no : ⊥ = cc in no)

element : {X : Type 0} (xs : List X) (i : ℕ) → i < length xs → (x : X) × (slice_get xs i ≡ Some x)
element [] i h = absurd (omega arith)
element (x ∷ xs) zero h = (x, refl)
element (x ∷ xs) (suc i) h = element xs i (omega arith)

-- what the list has for a pin
entry : (c : Circuit) (feeds : List (Option ℕ)) → ArePinFeeds c feeds → (i : ℕ) (p : Pin) → slice_get (pins c.cells) i ≡ Some p → slice_get feeds i ≡ Some (get_or feeds i None)
entry c feeds are i p at = slice_get-get_or feeds i None (subst (λ n. i < n) (sym are.long) (slice_get_within (pins c.cells) i p at))

pin_feed : (c : Circuit) (feeds : List (Option ℕ)) → ArePinFeeds c feeds → (i : ℕ) (p : Pin) → slice_get (pins c.cells) i ≡ Some p → IsPinFeed c p (get_or feeds i None)
pin_feed c feeds are i p at = are.each i p (get_or feeds i None) at (entry c feeds are i p at)

-- each feed is the output of a part
named_by : (c : Circuit) → IsClean c.routing → (p : Pin) (o : ℕ) (feed : Option ℕ) → IsPinFeed c p feed → Feeds c.routing o p.wire → (s : Source) × (In (sources c.cells) s × (s.out ≡ o))
named_by c clean p o None none f = absurd (none (o, f))
named_by c clean p o (Some k) has f = (has.0, (get_in (sources c.cells) k has.0 has.1.0, one_feed c.routing clean has.0.out o p.wire has.1.1 f))

pub named : FeedsAreNamed
named c feeds clean are p o i f = (let at = number_there (pins c.cells) p i in named_by c clean p o (get_or feeds at.0 None) (pin_feed c feeds are at.0 p at.1) f)

module _ (c : Circuit) (feeds : List (Option ℕ)) (tells : Tells c feeds) where
  told_by : (p : Pin) (s : Source) (feed : Option ℕ) → IsPinFeed c p feed → Connects c s p → option_and_then (slice_get (sources c.cells)) feed ≡ Some s
  told_by p s None none connects = absurd (none (s.out, connects.feeds))
  told_by p s (Some k) has connects =
      let same : has.0 ≡ s = tells.formed.outputs.alone has.0 s (get_in (sources c.cells) k has.0 has.1.0) connects.source (one_feed c.routing tells.clean has.0.out s.out p.wire has.1.1 connects.feeds) in
      has.1.0 ∙ ap (λ (x : Source). Some x) same

  by_told : (p : Pin) (s : Source) (feed : Option ℕ) → In (pins c.cells) p → IsPinFeed c p feed → option_and_then (slice_get (sources c.cells)) feed ≡ Some s → Connects c s p
  by_told p s None i none h = absurd (no_source s h)
  by_told p s (Some k) i has h =
      let same : has.0 ≡ s = some_source has.0 s (sym has.1.0 ∙ h) in
      record { source = get_in (sources c.cells) k s h; pin = i; feeds = subst (λ (x : Source). Feeds c.routing x.out p.wire) same has.1.1 }

  pub connects_told : (i : ℕ) (p : Pin) (s : Source) → slice_get (pins c.cells) i ≡ Some p → Connects c s p ↔ (feed_source c.cells feeds i ≡ Some s)
  connects_told i p s at = (
    (λ connects. told_by p s (get_or feeds i None) (pin_feed c feeds tells.are i p at) connects),
    (λ h. by_told p s (get_or feeds i None) (get_in (pins c.cells) i p at) (pin_feed c feeds tells.are i p at) h),
  )

  -- a pin for which the list names a part is there
  pin_by : (i : ℕ) (s : Source) (feed : Option ℕ) → get_or feeds i None ≡ feed → option_and_then (slice_get (sources c.cells)) feed ≡ Some s → i < length (pins c.cells)
  pin_by i s None e h = absurd (no_source s h)
  pin_by i s (Some k) e h = subst (λ n. i < n) tells.are.long (there_below feeds i k e)

  pin_there : (i : ℕ) (s : Source) → feed_source c.cells feeds i ≡ Some s → (p : Pin) × (slice_get (pins c.cells) i ≡ Some p)
  pin_there i s h = element (pins c.cells) i (pin_by i s (get_or feeds i None) refl h)

  pub read_told : (s : Source) → IsRead c s ↔ ((i : ℕ) × (feed_source c.cells feeds i ≡ Some s))
  read_told s = (
    (λ read. let at = number_there (pins c.cells) read.0 read.1.pin in (at.0, (connects_told at.0 read.0 s at.1).0 read.1)),
    (λ h. let p = pin_there h.0 s h.1 in (p.0, (connects_told h.0 p.0 s p.1).1 h.1)),
  )

  pub fed_told : (i : ℕ) (p : Pin) → slice_get (pins c.cells) i ≡ Some p → Fed c.routing p.wire ↔ ((s : Source) × (feed_source c.cells feeds i ≡ Some s))
  fed_told i p at = (
    (λ fed.
        let s = named c feeds tells.clean tells.are p fed.0 (get_in (pins c.cells) i p at) fed.1 in
        let f : Feeds c.routing s.0.out p.wire = subst (λ o. Feeds c.routing o p.wire) (sym s.1.1) fed.1 in
        (s.0, (connects_told i p s.0 at).0 (record { source = s.1.0; pin = get_in (pins c.cells) i p at; feeds = f }))),
    (λ h. (h.0.out, ((connects_told i p h.0 at).1 h.1).feeds)),
  )

  pub domain_told : (i : ℕ) (p : Pin) (d : Domain) → slice_get (pins c.cells) i ≡ Some p → HasDomain c p.wire d ↔ ((s : Source) × ((feed_source c.cells feeds i ≡ Some s) × (s.domain ≡ d)))
  domain_told i p d at = (
    (λ has. (has.source, ((connects_told i p has.source at).0 (record { source = has.listed; pin = get_in (pins c.cells) i p at; feeds = has.feeds }), has.domain))),
    (λ h.
        let connects = (connects_told i p h.0 at).1 h.1.0 in
        record { source = h.0; listed = connects.source; feeds = connects.feeds; only = λ o f. one_feed c.routing tells.clean o h.0.out p.wire f connects.feeds; domain = h.1.1 }),
  )

-- ---- the list of connections

zip_at : {X Y : Type 0} (xs : List X) (ys : List Y) (x : X) (y : Y) → In (zip xs ys) (x, y) → (i : ℕ) × ((slice_get xs i ≡ Some x) × (slice_get ys i ≡ Some y))
zip_at [] ys x y h = absurd h
zip_at (a ∷ xs) [] x y h = absurd h
zip_at (a ∷ xs) (b ∷ ys) x y h = elim h [
  | inl e ↦ (0, (ap (λ z. Some z.0) e, ap (λ z. Some z.1) e))
  | inr j ↦ (let r = zip_at xs ys x y j in (suc r.0, r.1))
]

some_equal : {X : Type 0} (a b : X) → Some a ≡ Some b → a ≡ b
some_equal a b h = cc

none_here : {X : Type 0} (b : X) → None ≡ Some b → ⊥
none_here b h = (let no : ⊥ = cc in no)

at_zip : {X Y : Type 0} (xs : List X) (ys : List Y) (i : ℕ) (x : X) (y : Y) → slice_get xs i ≡ Some x → slice_get ys i ≡ Some y → In (zip xs ys) (x, y)
at_zip [] ys i x y h k = absurd (none_here x h)
at_zip (a ∷ xs) [] i x y h k = absurd (none_here y k)
at_zip (a ∷ xs) (b ∷ ys) zero x y h k = inl (let e : a ≡ x = some_equal a x h in let f : b ≡ y = some_equal b y k in cc)
at_zip (a ∷ xs) (b ∷ ys) (suc i) x y h k = inr (at_zip xs ys i x y h k)

of_made : (p : Pin) (x : Connection) (source : Option Source) → option_map (λ s. let y : Connection = record { source = s.part; pin = p.ref } in y) source ≡ Some x
    → (s : Source) × ((source ≡ Some s) × ((s.part ≡ x.source) × (p.ref ≡ x.pin)))
of_made p x None h = absurd (none_here x h)
of_made p x (Some s) h = (let e = some_equal (record { source = s.part; pin = p.ref }) x h in (s, (refl, (ap (λ y. y.source) e, ap (λ y. y.pin) e))))

pair_same : (a b : PartRef) (p q : PinRef) → a ≡ b → p ≡ q → (let y : Connection = record { source = a; pin = p } in y) ≡ record { source = b; pin = q }
pair_same a b p q e f = cc

module _ (c : Circuit) (feeds : List (Option ℕ)) (tells : Tells c feeds) where
  listed_is : (x : Connection) → In (connections_with c.cells feeds) x → IsConnection c x
  listed_is x h =
      let of = in_filter_map_from (λ (z : Pin × Option ℕ). connection_with c.cells z.0 z.1) (zip (pins c.cells) feeds) x h in
      let p = of.0.0 in
      let feed = of.0.1 in
      let at = zip_at (pins c.cells) feeds p feed of.1 in
      let s = of_made p x (option_and_then (slice_get (sources c.cells)) feed) of.2 in
      let is : get_or feeds at.0 None ≡ feed = get_or_from_slice_get feeds at.0 feed None at.1.1 in
      let told : feed_source c.cells feeds at.0 ≡ Some s.0 = ap (option_and_then (slice_get (sources c.cells))) is ∙ s.1.0 in
      record { source = s.0; pin = p; connects = (connects_told c feeds tells at.0 p s.0 at.1.0).1 told; from = s.1.1.0; to = s.1.1.1 }

  is_listed : (x : Connection) → IsConnection c x → In (connections_with c.cells feeds) x
  is_listed x k =
      let at = number_there (pins c.cells) k.pin k.connects.pin in
      let told : feed_source c.cells feeds at.0 ≡ Some k.source = (connects_told c feeds tells at.0 k.pin k.source at.1).0 k.connects in
      let there = at_zip (pins c.cells) feeds at.0 k.pin (get_or feeds at.0 None) at.1 (entry c feeds tells.are at.0 k.pin at.1) in
      let same : (let y : Connection = record { source = k.source.part; pin = k.pin.ref } in y) ≡ x = pair_same k.source.part x.source k.pin.ref x.pin k.from k.to in
      in_filter_map_to (λ (z : Pin × Option ℕ). connection_with c.cells z.0 z.1) (zip (pins c.cells) feeds) (k.pin, get_or feeds at.0 None) x there
      (ap (option_map (λ (s : Source). let y : Connection = record { source = s.part; pin = k.pin.ref } in y)) told ∙ ap (λ (y : Connection). Some y) same)

  pub connections_listed : (x : Connection) → In (connections_with c.cells feeds) x ↔ IsConnection c x
  connections_listed x = (listed_is x, is_listed x)
