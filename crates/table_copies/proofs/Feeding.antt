-- What feeds a copy of a table, by what a program has of its pins.
use Rattle.std.proofs.Common.{◌≡◌, ℕ, ◌+◌, ◌<◌, ◌≤◌, List, length, get_or, Option, None, Some, option_map, option_and_then, refl, sym, ap, subst, ◌∙◌, arith}
use Rattle.std.specs.Prelude.{slice_get, slice_range}
use Rattle.std.proofs.lemmas.Option.{none-some, same_Some, get_or_from_slice_get, slice_get-get_or, slice_get_within}
use Rattle.words.specs.Members.{In}
use Rattle.circuit.specs.Cells.{TableCell}
use Rattle.circuit.specs.Parts.{Table, PartRef, Kind, OfTable, OfRegister, OfInput, OfClock, Source, sources}
use Rattle.circuit.specs.Pins.{Pin, pin_at, table_pins}
use Rattle.circuit.specs.Triples.{PartTriple, triple_of}
use Rattle.circuit.specs.Circuits.{Circuit, Connects}
use Rattle.circuit_laws.proofs.Parts.{Fits, kind_fits, bit_pin_listed, table_bit}
use Rattle.circuit_laws.proofs.Refs.{part_same}
use Rattle.circuit_laws.proofs.Sound.{at_pin, to_pin}
use Rattle.circuit_parts.specs.Flat.{first_pin}
use Rattle.design_checks.specs.CopyChecks.{first_part, part_in}
use Rattle.fabric_laws.proofs.Numbered.{get_in, number_there}
use Rattle.pin_feeds.specs.Told.{Tells}
use Rattle.pin_feeds.proofs.Writing.{there_below}
use Rattle.table_masks.specs.Pins.{fed_by}
use Rattle.table_masks.proofs.Row.{few_pins, row_fed, row_long}
use Rattle.table_masks.proofs.Tied.{in_numbered, of_numbered}
use Rattle.part_copies.specs.Numbered.{IsPartNumber}
use Rattle.table_copies.specs.Rows.{IsRow}
use Rattle.table_copies.proofs.Gathered.{IsFirstIn}

-- a triple feeds a pin of the table with a name
pub record FeedsPart (c : Circuit) (p : PartRef) (feeder : PartTriple) : Type 0 where
  pub source : Source
  pub table : TableCell
  pub listed : In (sources c.cells) source
  pub is : source.part ≡ p
  pub is_table : source.kind ≡ OfTable table
  pub pin : Pin
  pub takes : In (table_pins source.part table) pin
  pub from : Source
  pub connects : Connects c from pin
  pub same : triple_of c.side from.part ≡ feeder

some_first : (g : Source → PartRef) (o : Option Source) (q : PartRef) → option_map g o ≡ Some q → (a : Source) × ((o ≡ Some a) × (g a ≡ q))
some_first g None q h = absurd (none-some q h)
some_first g (Some a) q h = (a, (refl, same_Some (g a) q h))

module _ (c : Circuit) (feeds : List (Option ℕ)) (tells : Tells c feeds) (k : ℕ) (s : Source) (t : TableCell) (at : slice_get (sources c.cells) k ≡ Some s) (is : s.kind ≡ OfTable t) where
  abbrev pub row_of : List (Option ℕ)
  row_of = slice_range feeds (first_pin c.cells k) (first_pin c.cells (k + 1))

  listed : In (sources c.cells) s
  listed = get_in (sources c.cells) k s at

  abbrev pub pin_of : ℕ → Pin
  pin_of i = pin_at s.part (0 + i) (get_or t.pins i 0)

  -- a part is connected to a pin exactly where the row says so
  pub fed_at : (i : ℕ) (a : Source) → i < length t.pins → Connects c a (pin_of i) → fed_by (sources c.cells) row_of i ≡ Some a
  fed_at i a below cn = (row_fed c feeds tells k s t at is i a below).0 (at_pin c a (pin_of i) cn)

  pub pin_in : (i : ℕ) → i < length t.pins → In (table_pins s.part t) (pin_of i)
  pin_in i below = in_numbered s.part 0 t.pins i below

  pub connects_at : (i : ℕ) (a : Source) → i < length t.pins → fed_by (sources c.cells) row_of i ≡ Some a → Connects c a (pin_of i)
  connects_at i a below h = to_pin c a (pin_of i) (bit_pin_listed c.cells s (pin_of i) listed (table_bit s t is (pin_of i) (pin_in i below))) ((row_fed c feeds tells k s t at is i a below).1 h)

  pub first_in : (i : ℕ) (a : Source) (feed : Option ℕ) → get_or row_of i None ≡ feed → option_and_then (slice_get (sources c.cells)) feed ≡ Some a → IsFirstIn c.side (sources c.cells) row_of (first_part (triple_of c.side a.part))
  first_in i a None e h = absurd (none-some a h)
  first_in i a (Some n) e h = (
    n,
    (
      get_in row_of i (Some n) (slice_get-get_or row_of i None (there_below row_of i n e) ∙ ap (λ (x : Option ℕ). Some x) e),
      ap (option_map (λ (z : Source). first_part (triple_of c.side z.part))) h,
    ),
  )

  to_row_at : (p : Pin) (a : Source) → In (table_pins s.part t) p → Connects c a p → IsFirstIn c.side (sources c.cells) row_of (first_part (triple_of c.side a.part))
  to_row_at p a i cn =
      let r = of_numbered s.part 0 t.pins p i in
      first_in r.0 a (get_or row_of r.0 None) refl (fed_at r.0 a r.1.0 (subst (Connects c a) (sym r.1.1) cn))

  of_row_at : (q : PartRef) → IsFirstIn c.side (sources c.cells) row_of q → (f : PartTriple) × (FeedsPart c s.part f × (first_part f ≡ q))
  of_row_at q h =
      let i = number_there row_of (Some h.0) h.1.0 in
      let a = some_first (λ (z : Source). first_part (triple_of c.side z.part)) (slice_get (sources c.cells) h.0) q h.1.1 in
      let below : i.0 < length t.pins = subst (λ n. i.0 < n) (row_long c feeds tells k s t at is) (slice_get_within row_of i.0 (Some h.0) i.1) in
      let fed : fed_by (sources c.cells) row_of i.0 ≡ Some a.0 = ap (option_and_then (slice_get (sources c.cells))) (get_or_from_slice_get row_of i.0 (Some h.0) None i.1) ∙ a.1.0 in (
        triple_of c.side a.0.part,
        (
          record {
            source = s;
            table = t;
            listed = listed;
            is = refl;
            is_table = is;
            pin = pin_of i.0;
            takes = pin_in i.0 below;
            from = a.0;
            connects = connects_at i.0 a.0 below fed;
            same = refl;
          },
          a.1.1,
        ),
      )

table_kind : (n : ℕ) (k : Kind) → Fits (Table n) k → (t : TableCell) × (k ≡ OfTable t)
table_kind n (OfTable t) f = (t, refl)
table_kind n (OfRegister r) f = absurd f
table_kind n OfInput f = absurd f
table_kind n OfClock f = absurd f

module _ (c : Circuit) (feeds : List (Option ℕ)) (tells : Tells c feeds) (cell : List ℕ) (number : ℕ) where
  abbrev part : PartRef
  part = part_in cell (Table number)

  -- a part with the name of a table is a table
  pub named_table : (s : Source) → In (sources c.cells) s → s.part ≡ part → (t : TableCell) × (s.kind ≡ OfTable t)
  named_table s i e = table_kind number s.kind (subst (λ p. Fits p s.kind) (ap (λ (p : PartRef). p.part) e) (kind_fits c.cells s i))

  -- a triple that feeds a copy is among those of its row
  pub to_row : (o : Option ℕ) (row : List (Option ℕ)) → IsPartNumber (sources c.cells) part o → IsRow c.cells feeds o row → (f : PartTriple) → FeedsPart c part f → IsFirstIn c.side (sources c.cells) row (first_part f)
  to_row None row none is f h = absurd (none h.source h.listed h.is)
  to_row (Some k) row numbered is f h =
      let s = numbered.0 in
      let at = numbered.1.0 in
      let same : h.source ≡ s = part_same c.cells tells.formed.names h.source s h.listed (get_in (sources c.cells) k s at) (h.is ∙ sym numbered.1.1) in
      let kind : s.kind ≡ OfTable h.table = sym (ap (λ (z : Source). z.kind) same) ∙ h.is_table in
      let found = to_row_at c feeds tells k s h.table at kind h.pin h.from (subst (λ (z : Source). In (table_pins z.part h.table) h.pin) same h.takes) h.connects in
      subst (λ r. IsFirstIn c.side (sources c.cells) r (first_part f)) (sym (is (slice_get_within (sources c.cells) k s at) tells.are.long))
      (subst (λ (g : PartTriple). IsFirstIn c.side (sources c.cells) (row_of c feeds tells k s h.table at kind) (first_part g)) h.same found)

  -- and those of its row feed it
  pub of_row : (o : Option ℕ) (row : List (Option ℕ)) → IsPartNumber (sources c.cells) part o → IsRow c.cells feeds o row → (q : PartRef) → IsFirstIn c.side (sources c.cells) row q
      → (f : PartTriple) × (FeedsPart c part f × (first_part f ≡ q))
  of_row None row none is q h = absurd (subst (λ r. In r (Some h.0)) is h.1.0)
  of_row (Some k) row numbered is q h =
      let s = numbered.0 in
      let at = numbered.1.0 in
      let t = named_table s (get_in (sources c.cells) k s at) numbered.1.1 in
      let g = of_row_at c feeds tells k s t.0 at t.1 q (subst (λ r. IsFirstIn c.side (sources c.cells) r q) (is (slice_get_within (sources c.cells) k s at) tells.are.long) h) in
      (g.0, (subst (λ p. FeedsPart c p g.0) numbered.1.1 g.1.0, g.1.1))

  pub few_feeds : (o : Option ℕ) (row : List (Option ℕ)) → IsPartNumber (sources c.cells) part o → IsRow c.cells feeds o row → length row ≤ 4
  few_feeds None row none is = subst (λ (r : List (Option ℕ)). length r ≤ 4) (sym is) (let few : 0 ≤ 4 = omega arith in few)
  few_feeds (Some k) row numbered is =
      let s = numbered.0 in
      let at = numbered.1.0 in
      let there = get_in (sources c.cells) k s at in
      let t = named_table s there numbered.1.1 in
      let few = few_pins c tells.formed s t.0 there t.1 in
      let long : length row ≡ length t.0.pins = ap (λ (r : List (Option ℕ)). length r) (is (slice_get_within (sources c.cells) k s at) tells.are.long) ∙ row_long c feeds tells k s t.0 at t.1 in
      omega arith
