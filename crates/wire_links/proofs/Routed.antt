-- Rows of drivers as the links of a routing, and when rows and feeds are joined.
use Rattle.std.proofs.Common.{◌≡◌, ℕ, zero, suc, ◌+◌, ◌<◌, ◌^◌, ◌↔◌, List, [], ◌∷◌, map, Option, length, get_or, refl, sym, ap, subst, ◌∙◌, inl, inr, arith}
use Rattle.std.specs.declared.cmp.Ordering.TheVariants.{Less, Equal}
use Rattle.std.specs.Ordering.{nat_cmp, ordering_then}
use Rattle.std.proofs.lemmas.Bool.{cases_lt, eq-eqb, le-ltb, lt-ltb}
use Rattle.std.proofs.lemmas.List.{get_or_past}
use Rattle.words.specs.Members.{In}
use Rattle.links.specs.Links.{Link, Routing, Drives, IsClean}
use Rattle.links.proofs.Members.{in_either, in_left, in_map, in_right, of_map}
use Rattle.fabric.specs.InOrder.{InOrderOnce, IsRising}
use Rattle.grouped_laws.proofs.Stable.{rising_both}
use Rattle.link_order.specs.Order.{AreWithin, link_cmp}
use Rattle.wire_feeds.specs.Rows.{AreFeeds, HasNext}
use Rattle.wire_contests.specs.Contests.{AreDriverRows, HasDrivers}
use Rattle.wire_links.specs.Rows.{AreJoined, AreLinkRows, links_of_rows, routing_of_rows}

abbrev onto_sink : ℕ → ℕ → Link
onto_sink k x = record { source = x; sink = k }

-- a link of rows stands in a row
pub in_rows : (k : ℕ) (rows : List (List ℕ)) (l : Link) → In (links_of_rows k rows) l → (j : ℕ) × ((l.sink ≡ k + j) × In (get_or rows j []) l.source)
in_rows k [] l i = absurd i
in_rows k (row ∷ rows) l i = elim (in_either (map (onto_sink k) row) (links_of_rows (suc k) rows) l i) [
  | inl here ↦ (let m = of_map (onto_sink k) row l here in
      (0, ((let e = ap (λ z. z.sink) m.1.1 in omega arith), subst (In row) (ap (λ z. z.source) m.1.1) m.1.0)))
  | inr later ↦ (let m = in_rows (suc k) rows l later in (suc m.0, ((let e = m.1.0 in omega arith), m.1.1)))
]

pub rows_have : (k : ℕ) (rows : List (List ℕ)) (j x : ℕ) → In (get_or rows j []) x → In (links_of_rows k rows) (record { source = x; sink = k + j })
rows_have k [] j x i = absurd i
rows_have k (row ∷ rows) zero x i =
    let e : k + 0 ≡ k = omega arith in
    in_left (map (onto_sink k) row) (links_of_rows (suc k) rows) (record { source = x; sink = k + 0 })
    (subst (λ z. In (map (onto_sink k) row) (record { source = x; sink = z })) (sym e) (in_map (onto_sink k) row x i))
rows_have k (row ∷ rows) (suc j) x i =
    let e : suc k + j ≡ k + suc j = omega arith in
    in_right (map (onto_sink k) row) (links_of_rows (suc k) rows) (record { source = x; sink = k + suc j })
    (subst (λ z. In (links_of_rows (suc k) rows) (record { source = x; sink = z })) e (rows_have (suc k) rows j x i))

-- the drivers of the routing of rows are those of the rows
pub rows_drive : (rows : List (List ℕ)) (outputs : List ℕ) → HasDrivers (routing_of_rows rows outputs) rows
rows_drive rows outputs w x = (
  (λ i. let m = in_rows 0 rows (record { source = x; sink = w }) i in let e : m.0 ≡ w = (let s = m.1.0 in omega arith) in subst (λ j. In (get_or rows j []) x) e m.1.1),
  (λ i. let e : 0 + w ≡ w = omega arith in subst (λ z. In (links_of_rows 0 rows) (record { source = x; sink = z })) e (rows_have 0 rows w x i)),
)

-- links of rows in order are in order
row_rises : (k : ℕ) (row : List ℕ) → IsRising nat_cmp row → IsRising link_cmp (map (onto_sink k) row)
row_rises k [] h = tt
row_rises k (x ∷ xs) h = (
  (λ l i. let m = of_map (onto_sink k) xs l i in subst (λ z. link_cmp (onto_sink k x) z ≡ Less) m.1.1 (ap (λ o. ordering_then o (nat_cmp x m.0)) (same k) ∙ h.0 m.0 m.1.0)),
  row_rises k xs h.1,
)
  where
    same : (n : ℕ) → nat_cmp n n ≡ Equal
    same n = rw (le-ltb n n (omega arith), eq-eqb n n refl) refl

pub rows_rise : (k : ℕ) (rows : List (List ℕ)) → ((w : ℕ) → IsRising nat_cmp (get_or rows w [])) → IsRising link_cmp (links_of_rows k rows)
rows_rise k [] h = tt
rows_rise k (row ∷ rows) h =
    rising_both link_cmp (map (onto_sink k) row) (links_of_rows (suc k) rows) (row_rises k row (h 0)) (rows_rise (suc k) rows (λ w. h (suc w)))
    (λ l m i j. let a = of_map (onto_sink k) row l i in let b = in_rows (suc k) rows m j in
    let sink : l.sink ≡ k = ap (λ z. z.sink) (sym a.1.1) in
    let less : l.sink < m.sink = (let e = b.1.0 in omega arith) in
    ap (λ o. ordering_then o (nat_cmp l.source m.source)) (let c : nat_cmp l.sink m.sink ≡ Less = rw (lt-ltb l.sink m.sink less) refl in c))

-- rows of links in order, as a routing
module _ (wires : ℕ) (given links : List Link) (outputs : List ℕ) (drivers next : List (List ℕ))
    (ordered : InOrderOnce link_cmp given links) (are : AreLinkRows wires links drivers next) (within : AreWithin wires given) where
  pub drives : (x w : ℕ) → Drives (routing_of_rows drivers outputs) x w ↔ In links (record { source = x; sink = w })
  drives x w = (
    (λ d. (are.drivers_are w x).0 ((rows_drive drivers outputs w x).0 d)),
    (λ i. (rows_drive drivers outputs w x).1 ((are.drivers_are w x).1 i)),
  )

  pub given_drives : (x w : ℕ) → Drives (record { links = given; outputs = outputs }) x w ↔ In links (record { source = x; sink = w })
  given_drives x w = let m = ordered.members (record { source = x; sink = w }) in (m.1, m.0)

  pub given_next : HasNext (record { links = given; outputs = outputs }) next
  given_next x w = ((λ d. (are.next_are x w).1 ((given_drives x w).0 d)), (λ i. (given_drives x w).1 ((are.next_are x w).0 i)))

  pub given_drivers : HasDrivers (record { links = given; outputs = outputs }) drivers
  given_drivers w x = ((λ d. (are.drivers_are w x).1 ((given_drives x w).0 d)), (λ i. (given_drives x w).1 ((are.drivers_are w x).0 i)))

  pub own_next : HasNext (routing_of_rows drivers outputs) next
  own_next x w = ((λ d. (are.next_are x w).1 ((drives x w).0 d)), (λ i. (drives x w).1 ((are.next_are x w).0 i)))

  pub driver_rows : AreDriverRows drivers
  driver_rows = record {
    rising = are.drivers_rising;
    within = λ w x i. let l = (within (record { source = x; sink = w }) ((ordered.members (record { source = x; sink = w })).0 ((are.drivers_are w x).0 i))).0 in let e = are.drivers_long in omega arith;
  }

  pub rows_within : (x w : ℕ) → In (get_or next x []) w → w < length next
  rows_within x w i = let l = (within (record { source = x; sink = w }) ((ordered.members (record { source = x; sink = w })).0 ((are.next_are x w).0 i))).1 in let e = are.next_long in omega arith

  pub rows_in_order : InOrderOnce link_cmp given (links_of_rows 0 drivers)
  rows_in_order = record {
    rising = rows_rise 0 drivers are.drivers_rising;
    members = λ l. ((λ i. (ordered.members l).0 ((drives l.source l.sink).0 i)), (λ i. (drives l.source l.sink).1 ((ordered.members l).1 i)));
  }

  -- all is joined where nothing contests a wire
  pub joined : (feeds : List (Option ℕ)) → wires < 2 ^ 32 → length feeds ≡ length next → ((r : Routing) → HasNext r next → r.outputs ≡ outputs → AreFeeds r feeds)
      → ((r : Routing) → HasDrivers r drivers → AreFeeds r feeds → IsClean r) → AreJoined drivers next feeds outputs
  joined feeds few long feeds_are clean =
      let own = feeds_are (routing_of_rows drivers outputs) own_next refl in
      record {
        rows = driver_rows;
        few = let e = are.drivers_long in omega arith;
        next_long = are.next_long ∙ sym are.drivers_long;
        feeds_long = long ∙ (are.next_long ∙ sym are.drivers_long);
        next_rising = are.next_rising;
        has_next = own_next;
        feeds_are = own;
        clean = clean (routing_of_rows drivers outputs) (rows_drive drivers outputs) own;
      }

-- each wire to which a link leads has a row
pub next_within : (drivers next : List (List ℕ)) (feeds : List (Option ℕ)) (outputs : List ℕ) → AreJoined drivers next feeds outputs
    → (x w : ℕ) → In (get_or next x []) w → w < length next
next_within drivers next feeds outputs are x w i = elim (cases_lt w (length drivers)) [
  | inl l ↦ (let e = are.next_long in omega arith)
  | inr past ↦ absurd (subst (λ (row : List ℕ). In row x) (get_or_past drivers w [] past) ((rows_drive drivers outputs w x).0 ((are.has_next x w).1 i)))
]
