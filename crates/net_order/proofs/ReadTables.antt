-- Links into tables are what tables read.
use Rattle.std.proofs.Common.{◌≡◌, ℕ, zero, suc, ◌+◌, ◌-◌, ◌<◌, Bool, true, false, List, [], ◌∷◌, ◌++◌, length, get_or, take, drop, Option, None, Some, option_map, option_and_then, inl, inr, refl, sym, ap, subst, ◌∙◌, arith}
use Rattle.std.specs.Prelude.{slice_get, slice_range, if◌then◌else◌}
use Rattle.std.proofs.lemmas.Option.{get_or_from_slice_get, slice_get-get_or, slice_get_within}
use Rattle.words.specs.Members.{In}
use Rattle.links.proofs.Members.{in_either, in_left, in_right}
use Rattle.fabric_laws.proofs.Numbered.{get_in, number_there}
use Rattle.circuit.specs.Cells.{TableCell, Cells}
use Rattle.circuit.specs.Parts.{Kind, OfTable, OfRegister, OfInput, OfClock, Source, sources}
use Rattle.circuit.specs.Pins.{table_pins, bit_pins_of, clock_pins_of, pins, source_pins}
use Rattle.circuit.specs.Circuits.{Circuit, IsReadBy}
use Rattle.circuit_parts.specs.Flat.{first_pin}
use Rattle.circuit_parts.proofs.Starts.{pins_cut}
use Rattle.pin_feeds.specs.PinFeeds.{ArePinFeeds, feed_source}
use Rattle.pin_feeds.specs.Told.{Tells}
use Rattle.pin_feeds.proofs.Connected.{connects_told}
use Rattle.net_order.specs.declared.feeding.TableLink.{TableLink}
use Rattle.net_order.specs.Links.{is_table, links_from, links_into, links_of, links_with}
use Rattle.net_order.specs.Orders.{AreKnown, IsLinked}
use Rattle.net_order.proofs.Few.{of_into}

none_some : {X : Type 0} (x : X) → None ≡ Some x → ⊥
none_some x h = (let no : ⊥ = cc in no)

some_same : {X : Type 0} (x y : X) → Some x ≡ Some y → x ≡ y
some_same x y h = cc

true_false : true ≡ false → ⊥
true_false h = (let no : ⊥ = cc in no)

element : {X : Type 0} (xs : List X) (i : ℕ) → i < length xs → (x : X) × (slice_get xs i ≡ Some x)
element [] i h = absurd (omega arith)
element (x ∷ xs) zero h = (x, refl)
element (x ∷ xs) (suc i) h = element xs i (omega arith)

-- ---- a part of a list by places

of_taken : {X : Type 0} (m : ℕ) (xs : List X) (x : X) → In (take m xs) x → (q : ℕ) × ((q < m) × (slice_get xs q ≡ Some x))
of_taken zero xs x i = absurd i
of_taken (suc m) [] x i = absurd i
of_taken (suc m) (y ∷ xs) x i = elim i [
  | inl e ↦ (0, ((let h : 0 < suc m = omega arith in h), ap (λ z. Some z) e))
  | inr j ↦ (let r = of_taken m xs x j in (suc r.0, ((let k : r.0 < m = r.1.0 in let h : suc r.0 < suc m = omega arith in h), r.1.1)))
]

to_taken : {X : Type 0} (m : ℕ) (xs : List X) (q : ℕ) (x : X) → q < m → slice_get xs q ≡ Some x → In (take m xs) x
to_taken zero xs q x h at = absurd (omega arith)
to_taken (suc m) [] q x h at = absurd (none_some x at)
to_taken (suc m) (y ∷ xs) zero x h at = inl (some_same y x at)
to_taken (suc m) (y ∷ xs) (suc q) x h at = inr (to_taken m xs q x (omega arith) at)

dropped : {X : Type 0} (a : ℕ) (xs : List X) (q : ℕ) → slice_get (drop a xs) q ≡ slice_get xs (a + q)
dropped zero xs q = (let e : q ≡ 0 + q = omega arith in ap (slice_get xs) e)
dropped (suc a) [] q = refl
dropped (suc a) (x ∷ xs) q = dropped a xs q ∙ (let e : suc (a + q) ≡ suc a + q = omega arith in ap (slice_get (x ∷ xs)) e)

of_range : {X : Type 0} (xs : List X) (a b : ℕ) (x : X) → In (slice_range xs a b) x → (q : ℕ) × ((q < b - a) × (slice_get xs (a + q) ≡ Some x))
of_range xs a b x i = (let r = of_taken (b - a) (drop a xs) x i in (r.0, (r.1.0, sym (dropped a xs r.0) ∙ r.1.1)))

to_range : {X : Type 0} (xs : List X) (a b q : ℕ) (x : X) → q < b - a → slice_get xs (a + q) ≡ Some x → In (slice_range xs a b) x
to_range xs a b q x h at = to_taken (b - a) (drop a xs) q x h (dropped a xs q ∙ at)

-- ---- links

of_links : (cells : Cells) (feeds : List (Option ℕ)) (ss : List Source) (n : ℕ) (l : TableLink) → In (links_from cells feeds n ss) l
    → (m : ℕ) × ((s : Source) × ((slice_get ss m ≡ Some s) × ((is_table s.kind ≡ true) × (In (slice_range feeds (first_pin cells (n + m)) (first_pin cells ((n + m) + 1))) (Some l.source) × (l.table ≡ n + m)))))
of_links cells feeds [] n l i = absurd i
of_links cells feeds (s ∷ ss) n l i =
    let row = slice_range feeds (first_pin cells n) (first_pin cells (n + 1)) in
    elim (in_either (links_of n s.kind row) (links_from cells feeds (n + 1) ss) l i) [
      | inl j ↦ (
          let r = own (is_table s.kind) refl j in
          let e : n ≡ n + 0 = omega arith in
          (0, (s, (refl, (r.0, (subst (λ k. In (slice_range feeds (first_pin cells k) (first_pin cells (k + 1))) (Some l.source)) e r.1.0, r.1.1 ∙ e)))))
          )
      | inr j ↦ (
          let r = of_links cells feeds ss (n + 1) l j in
          let e : (n + 1) + r.0 ≡ n + suc r.0 = omega arith in
          (suc r.0, (r.1.0, (r.1.1.0, (r.1.1.1.0, (subst (λ k. In (slice_range feeds (first_pin cells k) (first_pin cells (k + 1))) (Some l.source)) e r.1.1.1.1.0, r.1.1.1.1.1 ∙ e)))))
          )
    ]
  where
    own : (b : Bool) → is_table s.kind ≡ b → In (if b then links_into n (slice_range feeds (first_pin cells n) (first_pin cells (n + 1))) else []) l
        → (is_table s.kind ≡ true) × (In (slice_range feeds (first_pin cells n) (first_pin cells (n + 1))) (Some l.source) × (l.table ≡ n))
    own true e j = (e, of_into n (slice_range feeds (first_pin cells n) (first_pin cells (n + 1))) l j)
    own false e j = absurd j

into_has : (k j : ℕ) (fs : List (Option ℕ)) → In fs (Some j) → In (links_into k fs) (record { source = j; table = k })
into_has k j [] i = absurd i
into_has k j (None ∷ fs) i = elim i [ inl e ↦ absurd (none_some j e) | inr h ↦ into_has k j fs h ]
into_has k j (Some x ∷ fs) i = elim i [
  | inl e ↦ inl (let same : x ≡ j = some_same x j e in ap (λ (y : ℕ). let l : TableLink = record { source = y; table = k } in l) same)
  | inr h ↦ inr (into_has k j fs h)
]

to_links : (cells : Cells) (feeds : List (Option ℕ)) (ss : List Source) (n m j : ℕ) (s : Source) → slice_get ss m ≡ Some s → is_table s.kind ≡ true
    → In (slice_range feeds (first_pin cells (n + m)) (first_pin cells ((n + m) + 1))) (Some j) → In (links_from cells feeds n ss) (record { source = j; table = n + m })
to_links cells feeds [] n m j s at table i = absurd (none_some s at)
to_links cells feeds (u ∷ ss) n zero j s at table i =
    let e : n + 0 ≡ n = omega arith in
    let row = slice_range feeds (first_pin cells n) (first_pin cells (n + 1)) in
    let mine : In row (Some j) = subst (λ k. In (slice_range feeds (first_pin cells k) (first_pin cells (k + 1))) (Some j)) e i in
    let is : is_table u.kind ≡ true = ap (λ (x : Source). is_table x.kind) (some_same u s at) ∙ table in
    let made : In (links_of n u.kind row) (record { source = j; table = n }) = subst (λ b. In (if b then links_into n row else []) (record { source = j; table = n })) (sym is) (into_has n j row mine) in
    subst (λ k. In (links_from cells feeds n (u ∷ ss)) (record { source = j; table = k })) (sym e) (in_left (links_of n u.kind row) (links_from cells feeds (n + 1) ss) (record { source = j; table = n }) made)
to_links cells feeds (u ∷ ss) n (suc m) j s at table i =
    let e : n + suc m ≡ (n + 1) + m = omega arith in
    let row = slice_range feeds (first_pin cells n) (first_pin cells (n + 1)) in
    let rest = to_links cells feeds ss (n + 1) m j s at table (subst (λ k. In (slice_range feeds (first_pin cells k) (first_pin cells (k + 1))) (Some j)) e i) in
    subst (λ k. In (links_from cells feeds n (u ∷ ss)) (record { source = j; table = k })) (sym e)
    (in_right (links_of n u.kind row) (links_from cells feeds (n + 1) ss) (record { source = j; table = (n + 1) + m }) rest)

-- ---- what tables read

table_of : (k : Kind) → is_table k ≡ true → (t : TableCell) × (k ≡ OfTable t)
table_of (OfTable t) h = (t, refl)
table_of (OfRegister r) h = absurd (true_false (sym h))
table_of OfInput h = absurd (true_false (sym h))
table_of OfClock h = absurd (true_false (sym h))

own_pins : (s : Source) (t : TableCell) → s.kind ≡ OfTable t → source_pins s ≡ table_pins s.part t ++ []
own_pins s t is = ap (λ k. bit_pins_of s.part k ++ clock_pins_of s.part k) is

pub known : (c : Circuit) (feeds : List (Option ℕ)) → ArePinFeeds c feeds → AreKnown c.cells feeds
known c feeds are = λ j i.
    let at = number_there feeds (Some j) i in
    let below : at.0 < length (pins c.cells) = subst (λ n. at.0 < n) are.long (slice_get_within feeds at.0 (Some j) at.1) in
    let p = element (pins c.cells) at.0 below in
    let feed = are.each at.0 p.0 (Some j) p.1 at.1 in
    slice_get_within (sources c.cells) j feed.0 feed.1.0

module _ (c : Circuit) (feeds : List (Option ℕ)) (tells : Tells c feeds) where
  -- the pins of a part
  cut : (k : ℕ) (s : Source) → slice_get (sources c.cells) k ≡ Some s → slice_range (pins c.cells) (first_pin c.cells k) (first_pin c.cells (k + 1)) ≡ source_pins s
  cut k s at = some_same _ _ (pins_cut c.cells k (slice_get_within (sources c.cells) k s at) ∙ ap (option_map source_pins) at)

  -- a link leads from a part into a table that reads it
  pub link_reads : (j k : ℕ) → IsLinked c.cells feeds j k → (u : Source) × ((s : Source) × ((slice_get (sources c.cells) j ≡ Some u) × ((slice_get (sources c.cells) k ≡ Some s) × IsReadBy c u s)))
  link_reads j k linked =
      let l : TableLink = record { source = j; table = k } in
      let r = of_links c.cells feeds (sources c.cells) 0 l linked in
      let s = r.1.0 in
      let m = r.0 in
      let here : k ≡ m = (let e : k ≡ 0 + m = r.1.1.1.1.1 in omega arith) in
      let e : 0 + m ≡ m = omega arith in
      let row : In (slice_range feeds (first_pin c.cells m) (first_pin c.cells (m + 1))) (Some j) = subst (λ n. In (slice_range feeds (first_pin c.cells n) (first_pin c.cells (n + 1))) (Some j)) e r.1.1.1.1.0 in
      let q = of_range feeds (first_pin c.cells m) (first_pin c.cells (m + 1)) (Some j) row in
      let i = first_pin c.cells m + q.0 in
      let below : i < length (pins c.cells) = subst (λ n. i < n) tells.are.long (slice_get_within feeds i (Some j) q.1.1) in
      let p = element (pins c.cells) i below in
      let feed = tells.are.each i p.0 (Some j) p.1 q.1.1 in
      let t = table_of s.kind r.1.1.1.0 in
      let mine : In (source_pins s) p.0 = subst (λ ps. In ps p.0) (cut m s r.1.1.0) (to_range (pins c.cells) (first_pin c.cells m) (first_pin c.cells (m + 1)) q.0 p.0 q.1.0 p.1) in
      let takes : In (table_pins s.part t.0) p.0 = elim (in_either (table_pins s.part t.0) [] p.0 (subst (λ ps. In ps p.0) (own_pins s t.0 t.1) mine)) [ inl a ↦ a | inr a ↦ absurd a ] in
      let told : feed_source c.cells feeds i ≡ Some feed.0 = ap (option_and_then (slice_get (sources c.cells))) (get_or_from_slice_get feeds i (Some j) None q.1.1) ∙ feed.1.0 in (
        feed.0,
        (
          s,
          (
            feed.1.0,
            (
              subst (λ n. slice_get (sources c.cells) n ≡ Some s) (sym here) r.1.1.0,
              record {
                table = t.0;
                is_table = t.1;
                listed = get_in (sources c.cells) m s r.1.1.0;
                pin = p.0;
                takes = takes;
                connects = (connects_told c feeds tells i p.0 feed.0 p.1).1 told;
              },
            ),
          ),
        ),
      )

  linked_by : (i k q : ℕ) (u s : Source) (t : TableCell) (feed : Option ℕ) → i ≡ first_pin c.cells k + q → q < first_pin c.cells (k + 1) - first_pin c.cells k → slice_get (sources c.cells) k ≡ Some s → s.kind ≡ OfTable t
      → i < length feeds → get_or feeds i None ≡ feed → option_and_then (slice_get (sources c.cells)) feed ≡ Some u → (j : ℕ) × ((slice_get (sources c.cells) j ≡ Some u) × IsLinked c.cells feeds j k)
  linked_by i k q u s t None is within at table below has h = absurd (none_some u h)
  linked_by i k q u s t (Some j) is within at table below has h =
      let there : slice_get feeds i ≡ Some (Some j) = slice_get-get_or feeds i None below ∙ ap (λ x. Some x) has in
      let row = to_range feeds (first_pin c.cells k) (first_pin c.cells (k + 1)) q (Some j) within (ap (slice_get feeds) (sym is) ∙ there) in
      let e : k ≡ 0 + k = omega arith in
      let made = to_links c.cells feeds (sources c.cells) 0 k j s at (ap is_table table) (subst (λ n. In (slice_range feeds (first_pin c.cells n) (first_pin c.cells (n + 1))) (Some j)) e row) in
      (j, (h, subst (λ n. In (links_with c.cells feeds) (record { source = j; table = n })) (sym e) made))

  -- what a table reads has a link into it
  pub reading_links : (k : ℕ) (u s : Source) → slice_get (sources c.cells) k ≡ Some s → IsReadBy c u s → (j : ℕ) × ((slice_get (sources c.cells) j ≡ Some u) × IsLinked c.cells feeds j k)
  reading_links k u s at reads =
      let mine : In (source_pins s) reads.pin = subst (λ ps. In ps reads.pin) (sym (own_pins s reads.table reads.is_table)) (in_left (table_pins s.part reads.table) [] reads.pin reads.takes) in
      let q = of_range (pins c.cells) (first_pin c.cells k) (first_pin c.cells (k + 1)) reads.pin (subst (λ ps. In ps reads.pin) (sym (cut k s at)) mine) in
      let i = first_pin c.cells k + q.0 in
      let below : i < length feeds = subst (λ n. i < n) (sym tells.are.long) (slice_get_within (pins c.cells) i reads.pin q.1.1) in
      linked_by i k q.0 u s reads.table (get_or feeds i None) refl q.1.0 at reads.is_table below refl ((connects_told c feeds tells i reads.pin u q.1.1).0 reads.connects)
