-- The rows of links that stand in order.
use Rattle.std.proofs.Common.{◌≡◌, ℕ, List, map, refl, sym, ap, ap₂, subst, ◌∙◌, inl, inr, arith}
use Rattle.std.specs.declared.cmp.Ordering.TheVariants.{Less, Equal, Greater}
use Rattle.std.specs.Ordering.{nat_cmp, ordering_then}
use Rattle.std.proofs.lemmas.Bool.{cases_lt, cases_eq, eq-eqb, le-ltb, lt-ltb, ne_eqb}
use Rattle.std.proofs.lemmas.List.FromFn.{length-map-range_with_len}
use Rattle.words.specs.Members.{In}
use Rattle.links.specs.Links.{Link}
use Rattle.fabric.specs.InOrder.{IsRising}
use Rattle.grouped.specs.Rows.{grouped, row_of}
use Rattle.link_order.specs.Order.{AreWithin, link_cmp}
use Rattle.wire_links.specs.Rows.{AreLinkRows}
use Rattle.wire_links.proofs.Filtered.{ends, ends_have, ends_rise, in_ends, row_at}
use Rattle.wire_contests.proofs.Deciding.{less_from}

abbrev by_sink : ℕ → List Link → List ℕ
by_sink w links = ends (λ l. l.sink) (λ l. l.source) w links

abbrev by_source : ℕ → List Link → List ℕ
by_source x links = ends (λ l. l.source) (λ l. l.sink) x links

drivers_have : (links : List Link) (w x : ℕ) → In (by_sink w links) x → In links (record { source = x; sink = w })
drivers_have links w x i =
    let m = in_ends (λ l. l.sink) (λ l. l.source) links w x i in
    subst (In links) (ap₂ (λ a b. record { source = a; sink = b }) m.1.1.1 m.1.1.0) m.1.0

next_have : (links : List Link) (x w : ℕ) → In (by_source x links) w → In links (record { source = x; sink = w })
next_have links x w i =
    let m = in_ends (λ l. l.source) (λ l. l.sink) links x w i in
    subst (In links) (ap₂ (λ a b. record { source = a; sink = b }) m.1.1.0 m.1.1.1) m.1.0

-- of links with one sink, the one that comes first has the lower source
same_sink : (w : ℕ) (a b : Link) → a.sink ≡ w → b.sink ≡ w → link_cmp a b ≡ Less → nat_cmp a.source b.source ≡ Less
same_sink w a b ea eb less =
    let e : nat_cmp a.sink b.sink ≡ Equal = rw (le-ltb a.sink b.sink (omega arith), eq-eqb a.sink b.sink (ea ∙ sym eb)) refl in
    ap (λ o. ordering_then o (nat_cmp a.source b.source)) (sym e) ∙ less

-- of links with one source, the one that comes first has the lower sink
same_source : (x : ℕ) (a b : Link) → a.source ≡ x → b.source ≡ x → link_cmp a b ≡ Less → nat_cmp a.sink b.sink ≡ Less
same_source x a b ea eb less = elim (cases_lt a.sink b.sink) [
  | inl l ↦ rw (lt-ltb a.sink b.sink l) refl
  | inr k ↦ absurd (elim (cases_eq a.sink b.sink) [
    | inl e ↦ (let s = less_from a.source b.source (same_sink b.sink a b e refl less) in let no : ⊥ = omega arith in no)
    | inr d ↦ (let g : nat_cmp a.sink b.sink ≡ Greater = rw (le-ltb a.sink b.sink k, ne_eqb a.sink b.sink d) refl in
        let h : link_cmp a b ≡ Greater = ap (λ o. ordering_then o (nat_cmp a.source b.source)) g in let no : ⊥ = cc in no)
  ])
]

rows_of : (wires : ℕ) (links : List Link) → AreWithin wires links → IsRising link_cmp links
    → AreLinkRows wires links (grouped (λ (n : ℕ). n) wires (map (λ l. l.sink) links) (map (λ l. l.source) links)) (grouped (λ (n : ℕ). n) wires (map (λ l. l.source) links) (map (λ l. l.sink) links))
rows_of wires links within rising =
    let sinks = λ (w : ℕ). row_at (λ (l : Link). l.sink) (λ (l : Link). l.source) links wires (λ l i. (within l i).1) w in
    let sources = λ (x : ℕ). row_at (λ (l : Link). l.source) (λ (l : Link). l.sink) links wires (λ l i. (within l i).0) x in
    record {
      drivers_long = length-map-range_with_len (row_of (λ (n : ℕ). n) (map (λ l. l.sink) links) (map (λ l. l.source) links)) 0 wires;
      next_long = length-map-range_with_len (row_of (λ (n : ℕ). n) (map (λ l. l.source) links) (map (λ l. l.sink) links)) 0 wires;
      drivers_are = λ w x. (
        (λ i. drivers_have links w x (subst (λ (row : List ℕ). In row x) (sinks w) i)),
        (λ i. subst (λ (row : List ℕ). In row x) (sym (sinks w)) (ends_have (λ l. l.sink) (λ l. l.source) links (record { source = x; sink = w }) i)),
      );
      next_are = λ x w. (
        (λ i. next_have links x w (subst (λ (row : List ℕ). In row w) (sources x) i)),
        (λ i. subst (λ (row : List ℕ). In row w) (sym (sources x)) (ends_have (λ l. l.source) (λ l. l.sink) links (record { source = x; sink = w }) i)),
      );
      drivers_rising = λ w. subst (IsRising nat_cmp) (sym (sinks w)) (ends_rise (λ l. l.sink) (λ l. l.source) link_cmp links w rising (same_sink w));
      next_rising = λ x. subst (IsRising nat_cmp) (sym (sources x)) (ends_rise (λ l. l.source) (λ l. l.sink) link_cmp links x rising (same_source x));
    }

-- the same of groupings, whatever they are called
pub rows_are : (wires : ℕ) (links : List Link) (sources sinks : List ℕ) (drivers next : List (List ℕ)) → AreWithin wires links → IsRising link_cmp links
    → sources ≡ map (λ l. l.source) links → sinks ≡ map (λ l. l.sink) links
    → drivers ≡ grouped (λ (n : ℕ). n) wires sinks sources → next ≡ grouped (λ (n : ℕ). n) wires sources sinks → AreLinkRows wires links drivers next
rows_are wires links sources sinks drivers next within rising s t d n =
    let P : List (List ℕ) → Type 0 = λ xs. AreLinkRows wires links xs next in
    let Q : List (List ℕ) → Type 0 = λ xs. AreLinkRows wires links (grouped (λ (k : ℕ). k) wires (map (λ l. l.sink) links) (map (λ l. l.source) links)) xs in
    subst P (sym (d ∙ ap₂ (λ (a b : List ℕ). grouped (λ (k : ℕ). k) wires a b) t s))
    (subst Q (sym (n ∙ ap₂ (λ (a b : List ℕ). grouped (λ (k : ℕ). k) wires a b) s t)) (rows_of wires links within rising))
