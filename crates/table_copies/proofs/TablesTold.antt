-- Whether the tables of a triple give different outputs, by what a program has of them.
use Rattle.std.proofs.Common.{◌≡◌, ℕ, ◌^◌, ◌<◌, ◌≤◌, Bool, List, [], ◌∷◌, length, map, Option, None, Some, inl, inr, refl, sym, ap, ap₂, subst, ◌∙◌, arith}
use Rattle.std.specs.Prelude.{codes}
use Rattle.std.specs.Global.{Vec}
use Rattle.std.specs.Cmp.{on_total}
use Rattle.std.proofs.lemmas.List.{length-map}
use Rattle.words.specs.Members.{In}
use Rattle.records.specs.Side.{Side, Triple}
use Rattle.links.proofs.Members.{in_map, of_map}
use Rattle.fabric.specs.InOrder.{IsRising}
use Rattle.fabric_laws.proofs.Sorted.{determined}
use Rattle.circuit.specs.Cells.{Cells}
use Rattle.circuit.specs.Parts.{PartRef, Table, Source, sources}
use Rattle.circuit.specs.Triples.{PartTriple, IsEntry}
use Rattle.circuit.specs.Circuits.{Circuit}
use Rattle.attempts.specs.PinOrder.{part_cmp}
use Rattle.design_checks.specs.CopyChecks.{first_part, part_in, FeedsTable, AreFeeders, Gives, TablesDiffer}
use Rattle.pin_feeds.specs.Told.{Tells}
use Rattle.part_triples.specs.Numbers.{numbers_of}
use Rattle.table_masks.specs.Least.{Shows}
use Rattle.part_copies.specs.declared.numbers.CopyNumbers.{CopyNumbers}
use Rattle.part_copies.specs.Numbered.{AreCopyNumbers, AreNumberedOnce}
use Rattle.table_copies.specs.declared.copies.Tables.{Tables}
use Rattle.table_copies.specs.Firsts.{all_gathered}
use Rattle.table_copies.specs.Rows.{AreRows}
use Rattle.table_copies.specs.Copies.{AreTables}
use Rattle.table_copies.specs.Digits.{digits_of}
use Rattle.table_copies.specs.Outputs.{DifferAt, given_by, output_text, TellsOutputs}
use Rattle.table_copies.specs.Told.{TellsTables}
use Rattle.table_copies.proofs.Bits.{length_digits}
use Rattle.table_copies.proofs.Values.{value_from, value_small, digits_back, none_after}
use Rattle.table_copies.proofs.Order.{part_total}
use Rattle.table_copies.proofs.Gathered.{IsFirstIn, all_few, all_from, all_rise, takes_first, takes_second, takes_third}
use Rattle.table_copies.proofs.Feeding.{FeedsPart, few_feeds, of_row, to_row}
use Rattle.table_copies.proofs.Tying.{IsReal, bits_are, bits_by, feeder_cmp, same_triples}
use Rattle.table_copies.proofs.Read.{copy_gives, copy_is}

rising_map : (fs : List PartTriple) → IsRising part_cmp (map first_part fs) → IsRising feeder_cmp fs
rising_map [] r = tt
rising_map (f ∷ fs) r = ((λ g i. r.0 (first_part g) (in_map first_part fs g i)), rising_map fs r.1)

-- texts that are given
module _ (x y z u v w : List ℕ) (a : x ≡ u) (b : y ≡ v) (d : z ≡ w) where
  texts_same : (text : List ℕ) → In (x ∷ y ∷ z ∷ []) text → In (u ∷ v ∷ w ∷ []) text
  texts_same text i = subst (λ p. In (u ∷ v ∷ p ∷ []) text) d (subst (λ p. In (u ∷ p ∷ z ∷ []) text) b (subst (λ p. In (p ∷ y ∷ z ∷ []) text) a i))

at_least : (m n : ℕ) → (m < n → ⊥) → n ≤ m
at_least m n h = omega arith

module _ (c : Circuit) (feeds numbers : List (Option ℕ)) (read : List Bool) (shows : Shows c c.cells feeds numbers read) (once : AreNumberedOnce c.cells) (t : Triple) (number : ℕ)
    (copies : CopyNumbers) (named : AreCopyNumbers (sources c.cells) t (Table number) copies) (a b d : List (Option ℕ)) (rows : AreRows c.cells feeds copies a b d) (refs : List PartRef)
    (refs_are : refs ≡ all_gathered c.side (sources c.cells) a b d) (tables : Tables) (are : AreTables c.side (sources c.cells) refs read a b d copies tables) where
  abbrev all : List Source
  all = sources c.cells

  abbrev tells : Tells c feeds
  tells = shows.feeds_are.tells

  -- ---- the triples that feed the tables

  rising : IsRising part_cmp refs
  rising = subst (IsRising part_cmp) (sym refs_are) (all_rise c.side all a b d)

  reaches_first : (q : PartRef) → IsFirstIn c.side all a q → In refs q
  reaches_first q h = subst (λ r. In r q) (sym refs_are) (takes_first c.side all a b d q h)

  reaches_second : (q : PartRef) → IsFirstIn c.side all b q → In refs q
  reaches_second q h = subst (λ r. In r q) (sym refs_are) (takes_second c.side all a b d q h)

  reaches_third : (q : PartRef) → IsFirstIn c.side all d q → In refs q
  reaches_third q h = subst (λ r. In r q) (sym refs_are) (takes_third c.side all a b d q h)

  of_copy : (cell : List ℕ) → IsEntry t cell → (f : PartTriple) → FeedsPart c (part_in cell (Table number)) f → FeedsTable c t number f
  of_copy cell entry f h = record {
    cell = cell;
    copy = entry;
    source = h.source;
    table = h.table;
    listed = h.listed;
    is = h.is;
    is_table = h.is_table;
    pin = h.pin;
    takes = h.takes;
    from = h.from;
    connects = h.connects;
    same = h.same;
  }

  to_copy : (cell : List ℕ) (f : PartTriple) (h : FeedsTable c t number f) → h.cell ≡ cell → FeedsPart c (part_in cell (Table number)) f
  to_copy cell f h e = record {
    source = h.source;
    table = h.table;
    listed = h.listed;
    is = h.is ∙ ap (λ x. part_in x (Table number)) e;
    is_table = h.is_table;
    pin = h.pin;
    takes = h.takes;
    from = h.from;
    connects = h.connects;
    same = h.same;
  }

  Feeder : PartRef → Type 0
  Feeder q = (f : PartTriple) × (FeedsTable c t number f × (first_part f ≡ q))

  feeder : (q : PartRef) → In refs q → Feeder q
  unfolding Feeder
  feeder q i = elim (all_from c.side all a b d q (subst (λ r. In r q) refs_are i)) [
    | inl h ↦ (let g = of_row c feeds tells t.first number copies.first a named.first rows.of_first q h in (g.0, (of_copy t.first (inl refl) g.0 g.1.0, g.1.1)))
    | inr j ↦ elim j [
      | inl h ↦ (let g = of_row c feeds tells t.second number copies.second b named.second rows.of_second q h in (g.0, (of_copy t.second (inr (inl refl)) g.0 g.1.0, g.1.1)))
      | inr h ↦ (let g = of_row c feeds tells t.third number copies.third d named.third rows.of_third q h in (g.0, (of_copy t.third (inr (inr (inl refl))) g.0 g.1.0, g.1.1)))
    ]
  ]

  to_refs : (f : PartTriple) → FeedsTable c t number f → In refs (first_part f)
  to_refs f h = elim h.copy [
    | inl e ↦ reaches_first (first_part f) (to_row c feeds tells t.first number copies.first a named.first rows.of_first f (to_copy t.first f h (sym e)))
    | inr i ↦ elim i [
      | inl e ↦ reaches_second (first_part f) (to_row c feeds tells t.second number copies.second b named.second rows.of_second f (to_copy t.second f h (sym e)))
      | inr j ↦ elim j [
        | inl e ↦ reaches_third (first_part f) (to_row c feeds tells t.third number copies.third d named.third rows.of_third f (to_copy t.third f h (sym e)))
        | inr k ↦ absurd k
      ]
    ]
  ]

  record Lifted (qs : List PartRef) : Type 0 where
    list : List PartTriple
    firsts : map first_part list ≡ qs
    each : (f : PartTriple) → In list f → FeedsTable c t number f

  lifted : (qs : List PartRef) → ((q : PartRef) → In qs q → Feeder q) → Lifted qs
  unfolding Feeder
  lifted [] h = record { list = []; firsts = refl; each = λ f i. absurd i }
  lifted (q ∷ qs) h =
      let x = h q (inl refl) in
      let rest = lifted qs (λ p i. h p (inr i)) in
      record {
        list = x.0 ∷ rest.list;
        firsts = ap₂ (λ y ys. y ∷ ys) x.1.1 rest.firsts;
        each = λ f i. elim i [ inl e ↦ subst (FeedsTable c t number) e x.1.0 | inr j ↦ rest.each f j ];
      }

  feeders : Lifted refs
  feeders = lifted refs feeder

  real : (f : PartTriple) → FeedsTable c t number f → IsReal c f
  real f h = (h.from, (h.connects.source, h.same))

  real_feeders : (f : PartTriple) → In feeders.list f → IsReal c f
  real_feeders f i = real f (feeders.each f i)

  rising_feeders : IsRising feeder_cmp feeders.list
  rising_feeders = rising_map feeders.list (subst (IsRising part_cmp) (sym feeders.firsts) rising)

  listed : (f : PartTriple) → FeedsTable c t number f → In feeders.list f
  listed f h =
      let g = of_map first_part feeders.list (first_part f) (subst (λ r. In r (first_part f)) (sym feeders.firsts) (to_refs f h)) in
      subst (In feeders.list) (same_triples c tells.formed g.0 f (real_feeders g.0 g.1.0) (real f h) g.1.1) g.1.0

  are_feeders : AreFeeders c t number feeders.list
  are_feeders = record { rising = rising_feeders; members = λ f. (feeders.each f, listed f) }

  one_list : (gs : List PartTriple) → AreFeeders c t number gs → gs ≡ feeders.list
  one_list gs h = determined feeder_cmp (on_total first_part part_total) gs feeders.list h.rising rising_feeders (λ f i. listed f ((h.members f).0 i)) (λ f i. (h.members f).1 (feeders.each f i))

  count : length feeders.list ≡ length refs
  count = sym (length-map feeders.list first_part) ∙ ap (λ (r : List PartRef). length r) feeders.firsts

  few : length refs ≤ 12
  few =
      let x = few_feeds c feeds tells t.first number copies.first a named.first rows.of_first in
      let y = few_feeds c feeds tells t.second number copies.second b named.second rows.of_second in
      let z = few_feeds c feeds tells t.third number copies.third d named.third rows.of_third in
      let all_few_are = all_few c.side all a b d in
      let same : length refs ≡ length (all_gathered c.side all a b d) = ap (λ (r : List PartRef). length r) refs_are in
      omega arith

  -- ---- what the copies give

  module _ (bits : PartTriple → Bool) (digits : List Bool) (assigned : map bits feeders.list ≡ digits) where
    first_gives : Gives c bits (part_in t.first (Table number)) (given_by digits tables.first)
    first_gives =
        copy_gives c feeds numbers read shows once t.first number refs rising feeders.list feeders.firsts real_feeders bits digits assigned copies.first a tables.first named.first rows.of_first reaches_first are.of_first

    second_gives : Gives c bits (part_in t.second (Table number)) (given_by digits tables.second)
    second_gives =
        copy_gives c feeds numbers read shows once t.second number refs rising feeders.list feeders.firsts real_feeders bits digits assigned copies.second b tables.second named.second rows.of_second reaches_second are.of_second

    third_gives : Gives c bits (part_in t.third (Table number)) (given_by digits tables.third)
    third_gives =
        copy_gives c feeds numbers read shows once t.third number refs rising feeders.list feeders.firsts real_feeders bits digits assigned copies.third d tables.third named.third rows.of_third reaches_third are.of_third

    first_is : (text : List ℕ) → Gives c bits (part_in t.first (Table number)) text → text ≡ given_by digits tables.first
    first_is =
        copy_is c feeds numbers read shows once t.first number refs rising feeders.list feeders.firsts real_feeders bits digits assigned copies.first a tables.first named.first rows.of_first reaches_first are.of_first

    second_is : (text : List ℕ) → Gives c bits (part_in t.second (Table number)) text → text ≡ given_by digits tables.second
    second_is =
        copy_is c feeds numbers read shows once t.second number refs rising feeders.list feeders.firsts real_feeders bits digits assigned copies.second b tables.second named.second rows.of_second reaches_second are.of_second

    third_is : (text : List ℕ) → Gives c bits (part_in t.third (Table number)) text → text ≡ given_by digits tables.third
    third_is =
        copy_is c feeds numbers read shows once t.third number refs rising feeders.list feeders.firsts real_feeders bits digits assigned copies.third d tables.third named.third rows.of_third reaches_third are.of_third

  module _ (digits : List Bool) (outputs : List ℕ) (x : TablesDiffer c t number digits outputs) where
    own : map x.bits feeders.list ≡ digits
    own = ap (map x.bits) (sym (one_list x.feeders x.are)) ∙ x.assigned

    as_many : length digits ≡ length refs
    as_many = ap (λ (ds : List Bool). length ds) (sym own) ∙ (length-map feeders.list x.bits ∙ count)

    they_differ : DifferAt digits tables
    they_differ =
        let e = first_is x.bits digits own x.first x.gives_first in
        let f = second_is x.bits digits own x.second x.gives_second in
        let g = third_is x.bits digits own x.third x.gives_third in
        let same = texts_same x.first x.second x.third (given_by digits tables.first) (given_by digits tables.second) (given_by digits tables.third) e f g in
        (same (codes "0") x.zero, same (codes "1") x.one)

  tables_differ : (digits : List Bool) → length digits ≡ length refs → DifferAt digits tables → TablesDiffer c t number digits (output_text digits tables)
  tables_differ digits long h =
      let bits = bits_by feeders.list digits in
      let assigned = bits_are feeders.list digits rising_feeders (count ∙ sym long) in
      record {
        feeders = feeders.list;
        are = are_feeders;
        bits = bits;
        assigned = assigned;
        first = given_by digits tables.first;
        second = given_by digits tables.second;
        third = given_by digits tables.third;
        gives_first = first_gives bits digits assigned;
        gives_second = second_gives bits digits assigned;
        gives_third = third_gives bits digits assigned;
        zero = h.0;
        one = h.1;
        text = refl;
      }

  -- ---- the least digits

  number_there : (digits : List Bool) → length digits ≡ length refs → DifferAt digits tables → (m : ℕ) × ((m ≡ value_from 0 digits) × ((m < 2 ^ length refs) × DifferAt (digits_of (length refs) m) tables))
  number_there digits long h = (
    value_from 0 digits,
    (
      refl,
      (
        subst (λ n. value_from 0 digits < 2 ^ n) long (value_small digits),
        subst (λ ds. DifferAt ds tables) (sym (subst (λ n. digits_of n (value_from 0 digits) ≡ digits) long (digits_back digits 0))) h,
      ),
    ),
  )

  by : (r : Option (Vec ℕ)) → TellsOutputs (length refs) tables r → TellsTables c t number r
  by None none = λ digits outputs x. (let m = number_there digits (as_many digits outputs x) (they_differ digits outputs x) in none m.0 m.1.1.0 m.1.1.1)
  by (Some text) told =
      let n = told.0 in
      let least = told.1.0 in
      let digits = digits_of (length refs) n in
      let differ = tables_differ digits (length_digits (length refs) n) least.1 in (
        digits,
        (
          output_text digits tables,
          (
            differ,
            record {
              has = (output_text digits tables, differ);
              least = λ ys h.
                  let long = as_many ys h.0 h.1 in
                  let m = number_there ys long (they_differ ys h.0 h.1) in
                  none_after (length refs) n ys least.0 long (at_least (value_from 0 ys) n (λ below. least.2 m.0 (subst (λ k. k < n) (sym m.1.0) below) m.1.1.1));
            },
            told.1.1,
          ),
        ),
      )

  told : (r : Option (Vec ℕ)) → (length refs ≤ 12 → TellsOutputs (length refs) tables r) → TellsTables c t number r
  told r h = by r (h few)

-- ---- by what a program has

module _ (feeds numbers : List (Option ℕ)) (read : List Bool) (copies : CopyNumbers) (a b d : List (Option ℕ)) (refs : List PartRef) (tables : Tables) (r : Option (Vec ℕ)) (c : Circuit) (t : Triple) (number : ℕ) where
  Answer : Cells → Side → Type 0
  Answer cells side = AreRows cells feeds copies a b d → (numbers ≡ numbers_of side (sources cells) → refs ≡ all_gathered side (sources cells) a b d)
      → (numbers ≡ numbers_of side (sources cells) → AreTables side (sources cells) refs read a b d copies tables) → (length refs ≤ 12 → TellsOutputs (length refs) tables r)
      → Shows c cells feeds numbers read → AreNumberedOnce c.cells → AreCopyNumbers (sources cells) t (Table number) copies → TellsTables c t number r

  own_answer : Answer c.cells c.side
  unfolding Answer
  own_answer rows refs_are are outputs shows once named =
      told c feeds numbers read shows once t number copies named a b d rows refs (refs_are shows.feeds_are.numbers_are) tables (are shows.feeds_are.numbers_are) r outputs

  pub tables_told : (cells : Cells) (side : Side) → AreRows cells feeds copies a b d → (numbers ≡ numbers_of side (sources cells) → refs ≡ all_gathered side (sources cells) a b d)
      → (numbers ≡ numbers_of side (sources cells) → AreTables side (sources cells) refs read a b d copies tables) → (length refs ≤ 12 → TellsOutputs (length refs) tables r)
      → Shows c cells feeds numbers read → c.side ≡ side → AreNumberedOnce c.cells → AreCopyNumbers (sources cells) t (Table number) copies → TellsTables c t number r
  unfolding Answer
  tables_told cells side rows refs_are are outputs shows side_is once named = subst (λ v. Answer v side) shows.feeds_are.cells_are (subst (Answer c.cells) side_is own_answer) rows refs_are are outputs shows once named
