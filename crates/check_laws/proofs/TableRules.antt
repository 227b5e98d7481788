-- What the check of copies leaves of tables: those of a triple give equal outputs.
use Rattle.std.proofs.Common.{◌≡◌, ◌≢◌, ℕ, zero, suc, Bool, true, false, List, [], ◌∷◌, ◌++◌, length, map, ◌⊎◌, inl, inr, refl, sym, ap, subst, ◌∙◌, arith, ◌↔◌}
use Rattle.std.specs.Prelude.{codes, if◌then◌else◌}
use Rattle.std.specs.declared.cmp.Ordering.{Ordering}
use Rattle.std.specs.declared.cmp.Ordering.TheVariants.{Less, Equal}
use Rattle.std.specs.Ordering.{ordering_reverse}
use Rattle.std.specs.Cmp.{IsTotalOrder, on_total}
use Rattle.std.proofs.lemmas.Cmp.{lists_total}
use Rattle.std.specs.Cmp.Lexicographic.{slice_cmp}
use Rattle.words.specs.Members.{In}
use Rattle.records.specs.Side.{Triple}
use Rattle.links.specs.Links.{Feeds, Fed}
use Rattle.circuit.specs.Cells.{TableCell}
use Rattle.circuit.specs.Parts.{PartKind, Table, Register, Pad, PartRef, Kind, OfTable, OfRegister, OfInput, OfClock, Source, sources}
use Rattle.circuit.specs.Pins.{Pin, table_pins}
use Rattle.circuit.specs.Triples.{IsEntry, all_triples, triple_with, PartTriple, triple_of}
use Rattle.circuit.specs.Circuits.{Circuit, Connects, IsRead}
use Rattle.circuit.specs.Worlds.{table_output}
use Rattle.circuit.specs.Tables.{Assigned, TablesAlike}
use Rattle.circuit.specs.Triplicated.{ReadPart, OpenPinsIgnored}
use Rattle.attempts.specs.PinOrder.{part_cmp}
use Rattle.design_checks.specs.Checks.{Passes}
use Rattle.design_checks.specs.CopyChecks.{first_part, part_in, FeedsTable, AreFeeders, Gives, output, unread, TablesDiffer, digit_cmp, digits_or_dash, in_tables, CopiesUnlike}
use Rattle.links.proofs.Members.{in_left, in_right, in_map, of_map}
use Rattle.fabric_laws.specs.Insertion.{sorted_once}
use Rattle.fabric_laws.proofs.Sorted.{determined, sorted}
use Rattle.circuit_laws.proofs.Parts.{Fits, kind_fits, table_bit, table_path, bit_pin_listed}
use Rattle.circuit_laws.proofs.Refs as refs
use Rattle.circuit_laws.proofs.Sound.{Sound, FeedsFrom, at_pin, source_same, feed_at}
use Rattle.check_laws.specs.Accepted.{FeedsAreModelled}
use Rattle.check_laws.proofs.Least.{excluded, no_least}
use Rattle.check_laws.proofs.Orders.{part_total, part_same}
use Rattle.check_laws.proofs.Passing.{bits_agree}
use Rattle.check_laws.proofs.MaskRules.{zeroed, zeroed_open, zeroed_assigned, same_where_fed}
use Rattle.check_laws.proofs.CopyRules.{part_paired, slice_triple, none_differ}

-- ---- digits

digit_turn : (a b : Bool) → digit_cmp a b ≡ ordering_reverse (digit_cmp b a)
digit_turn false false = refl
digit_turn false true = refl
digit_turn true false = refl
digit_turn true true = refl

digit_trans : (a b c : Bool) → digit_cmp a b ≡ Less → digit_cmp b c ≡ Less → digit_cmp a c ≡ Less
digit_trans false false c h k = absurd (let wrong : ⊥ = cc in wrong)
digit_trans false true false h k = absurd (let wrong : ⊥ = cc in wrong)
digit_trans false true true h k = refl
digit_trans true false c h k = absurd (let wrong : ⊥ = cc in wrong)
digit_trans true true c h k = absurd (let wrong : ⊥ = cc in wrong)

digit_alike : (a b c : Bool) → digit_cmp a b ≡ Equal → digit_cmp a c ≡ digit_cmp b c
digit_alike false false c h = refl
digit_alike false true c h = absurd (let wrong : ⊥ = cc in wrong)
digit_alike true false c h = absurd (let wrong : ⊥ = cc in wrong)
digit_alike true true c h = refl

pub digits_total : IsTotalOrder (slice_cmp digit_cmp)
digits_total = lists_total (record { antisymm = digit_turn; trans = digit_trans; congr = digit_alike })

-- all lists of so many digits
digit_lists : ℕ → List (List Bool)
digit_lists zero = [] ∷ []
digit_lists (suc n) = map (λ xs. false ∷ xs) (digit_lists n) ++ map (λ xs. true ∷ xs) (digit_lists n)

digits_listed : (n : ℕ) (xs : List Bool) → length xs ≡ n → In (digit_lists n) xs
unfolding digit_lists
digits_listed zero [] e = inl refl
digits_listed zero (x ∷ xs) e = absurd (let wrong : ⊥ = omega arith in wrong)
digits_listed (suc n) [] e = absurd (let wrong : ⊥ = omega arith in wrong)
digits_listed (suc n) (false ∷ xs) e = in_left (map (λ ys. false ∷ ys) (digit_lists n)) (map (λ ys. true ∷ ys) (digit_lists n)) (false ∷ xs)
    (in_map (λ ys. false ∷ ys) (digit_lists n) xs (digits_listed n xs (let l : length xs ≡ n = omega arith in l)))
digits_listed (suc n) (true ∷ xs) e = in_right (map (λ ys. false ∷ ys) (digit_lists n)) (map (λ ys. true ∷ ys) (digit_lists n)) (true ∷ xs)
    (in_map (λ ys. true ∷ ys) (digit_lists n) xs (digits_listed n xs (let l : length xs ≡ n = omega arith in l)))

length_map : {X Y : Type 0} (f : X → Y) (xs : List X) → length (map f xs) ≡ length xs
length_map f [] = refl
length_map f (x ∷ xs) = ap suc (length_map f xs)

-- ---- the elements of a list that have a property

listed_of : {X : Type 0} (P : X → Type 0) (xs : List X) → ((ys : List X) → ((y : X) → In ys y ↔ (In xs y × P y)) → ⊥) → ⊥
listed_of P [] found = found [] (λ y. ((λ i. absurd i), (λ i. i.0)))
listed_of P (x ∷ xs) found = listed_of P xs (λ ys are. excluded (P x) (λ e. elim e [
  | inl p ↦ found (x ∷ ys) (λ y. (
    (λ i. elim i [ inl s ↦ (inl s, subst P s p) | inr j ↦ (inr ((are y).0 j).0, ((are y).0 j).1) ]),
    (λ i. elim i.0 [ inl s ↦ inl s | inr j ↦ inr ((are y).1 (j, i.1)) ]),
  ))
  | inr n ↦ found ys (λ y. (
    (λ i. (inr ((are y).0 i).0, ((are y).0 i).1)),
    (λ i. elim i.0 [ inl s ↦ absurd (n (subst P (sym s) i.1)) | inr j ↦ (are y).1 (j, i.1) ]),
  ))
]))

-- ---- what copies give

abbrev pub digit : Bool → List ℕ
digit b = if b then codes "1" else codes "0"

table_name : (p : PartKind) (k : Kind) (t : TableCell) → k ≡ OfTable t → Fits p k → (n : ℕ) × (p ≡ Table n)
table_name (Table n) k t e f = (n, refl)
table_name (Register n) k t e f = absurd (subst (Fits (Register n)) e f)
table_name Pad k t e f = absurd (subst (Fits Pad) e f)

table_kind : (n : ℕ) (k : Kind) → Fits (Table n) k → (t : TableCell) × (k ≡ OfTable t)
table_kind n (OfTable t) f = (t, refl)
table_kind n (OfRegister r) f = absurd f
table_kind n OfInput f = absurd f
table_kind n OfClock f = absurd f

table_no_pad : (p : PartKind) (n : ℕ) → p ≡ Table n → p ≢ Pad
table_no_pad p n e h = (let bad : Table n ≡ Pad = sym e ∙ h in let wrong : ⊥ = cc in wrong)

module _ (c : Circuit) (ok : Sound c) (modelled : FeedsAreModelled c) (ignored : OpenPinsIgnored c) where
  -- two readings of one assignment by one table give one output
  one_reading : (bits : PartTriple → Bool) (s : Source) (t : TableCell) (x y : Pin → Bool) → ReadPart c s → s.kind ≡ OfTable t → Assigned c bits s t x → Assigned c bits s t y
      → table_output s.part t x ≡ table_output s.part t y
  one_reading bits s t x y rs ks a b = same_where_fed c ignored s t x y rs ks at
    where
      at : (p : Pin) → In (table_pins s.part t) p → Fed c.routing p.wire → x p ≡ y p
      at p i f =
          let listed = bit_pin_listed c.cells s p rs.listed (table_bit s t ks p i) in
          let m = modelled p f.0 listed f.1 in
          let cn : Connects c m.0 p = record { source = m.1.0; pin = listed; feeds = subst (λ o. Feeds c.routing o p.wire) (sym m.1.1) f.1 } in
          a p m.0 i cn ∙ sym (b p m.0 i cn)

  -- what a copy gives is the digit of its output
  pub gives_is : (bits : PartTriple → Bool) (s : Source) (t : TableCell) (x : Pin → Bool) → ReadPart c s → s.kind ≡ OfTable t → Assigned c bits s t x
      → (part : PartRef) (text : List ℕ) → s.part ≡ part → Gives c bits part text → text ≡ digit (table_output s.part t x)
  gives_is bits s t x rs ks asg part _ e (output u v y f ru ku bsg open_zero) =
      of_one u (refs.part_same c.cells ok.formed.names s u rs.listed ru.listed (e ∙ sym f)) v y ku bsg
    where
      of_table : (v : TableCell) → t ≡ v → (y : Pin → Bool) → Assigned c bits s v y → digit (table_output s.part v y) ≡ digit (table_output s.part t x)
      of_table v same = subst (λ (z : TableCell). (y : Pin → Bool) → Assigned c bits s z y → digit (table_output s.part z y) ≡ digit (table_output s.part t x)) same
          (λ y bsg. ap digit (one_reading bits s t y x rs ks bsg asg))

      of_one : (u : Source) → s ≡ u → (v : TableCell) (y : Pin → Bool) → u.kind ≡ OfTable v → Assigned c bits u v y → digit (table_output u.part v y) ≡ digit (table_output s.part t x)
      of_one u same = subst (λ (z : Source). (v : TableCell) (y : Pin → Bool) → z.kind ≡ OfTable v → Assigned c bits z v y → digit (table_output z.part v y) ≡ digit (table_output s.part t x)) same
          (λ v y ku bsg. of_table v (table_path s.kind t v ks ku) y bsg)
  gives_is bits s t x rs ks asg part _ e (unread none) = absurd (none s rs.listed e rs.read)

  -- the bit of the triple that feeds a pin, or 0
  chosen : (PartTriple → Bool) → Pin → Bool
  chosen bits p = elim (feed_at c ok p.wire) [ inl a ↦ bits (triple_of c.side a.0.part) | inr n ↦ false ]

  chosen_assigned : (bits : PartTriple → Bool) (s : Source) (t : TableCell) → Assigned c bits s t (chosen bits)
  unfolding chosen
  chosen_assigned bits s t p a i cn = of (feed_at c ok p.wire)
    where
      of : (d : ((b : Source) × FeedsFrom c b p.wire) ⊎ ((b : Source) → FeedsFrom c b p.wire → ⊥)) → elim d [ inl b ↦ bits (triple_of c.side b.0.part) | inr n ↦ false ] ≡ bits (triple_of c.side a.part)
      of (inl b) = ap (λ (z : Source). bits (triple_of c.side z.part)) (source_same c ok b.0 a p.wire b.1 (at_pin c a p cn))
      of (inr n) = absurd (n a (at_pin c a p cn))

  -- each copy gives something
  gives : (bits : PartTriple → Bool) (number : ℕ) (cell : List ℕ) → ((text : List ℕ) → Gives c bits (part_in cell (Table number)) text → ⊥) → ⊥
  gives bits number cell found = excluded ((s : Source) × (In (sources c.cells) s × ((s.part ≡ part_in cell (Table number)) × IsRead c s))) (λ e. elim e [
    | inl s ↦ (let fits = subst (λ z. Fits z s.0.kind) (ap (λ (z : PartRef). z.part) s.1.1.0) (kind_fits c.cells s.0 s.1.0) in
        let t = table_kind number s.0.kind fits in
        let x = zeroed c (chosen bits) in
        found (digit (table_output s.0.part t.0 x)) (output s.0 t.0 x s.1.1.0 (record { listed = s.1.0; read = s.1.1.1 }) t.1
        (zeroed_assigned c bits s.0 t.0 (chosen bits) (chosen_assigned bits s.0 t.0)) (zeroed_open c s.0 t.0 (chosen bits))))
    | inr n ↦ found (codes "-") (unread (λ s i e r. n (s, (i, (e, r)))))
  ])

  -- ---- the triples that feed tables

  abbrev feeder_cmp : PartTriple → PartTriple → Ordering
  feeder_cmp a b = part_cmp (first_part a) (first_part b)

  feeder_total : IsTotalOrder feeder_cmp
  feeder_total = on_total first_part part_total

  abbrev triples : List PartTriple
  triples = map (λ s. triple_of c.side s.part) (sources c.cells)

  -- the triples of parts that tie are one
  triples_tie : (a b : PartTriple) → In triples a → In triples b → feeder_cmp a b ≡ Equal → b ≡ a
  triples_tie a b i j h =
      let x = of_map (λ (s : Source). triple_of c.side s.part) (sources c.cells) a i in
      let y = of_map (λ (s : Source). triple_of c.side s.part) (sources c.cells) b j in
      let firsts = part_same (first_part a) (first_part b) h in
      let first : b.cells.first ≡ a.cells.first = ap (λ (z : PartRef). z.cell) (sym firsts) in
      let listed_a = subst (λ (z : PartTriple). In (all_triples c.side) z.cells) x.1.1 (part_paired c ok x.0 x.1.0).0 in
      let listed_b = subst (λ (z : PartTriple). In (all_triples c.side) z.cells) y.1.1 (part_paired c ok y.0 y.1.0).0 in
      let cells : b.cells ≡ a.cells = ok.formed.triples.once b.cells a.cells b.cells.first listed_b listed_a (inl refl) (inl (sym first)) in
      let parts : b.part ≡ a.part = ap (λ (z : PartRef). z.part) (sym firsts) in
      λ k. record { cells = cells k; part = parts k }

  module _ (t : Triple) (number : ℕ) where
    feeder_listed : (f : PartTriple) → FeedsTable c t number f → In triples f
    feeder_listed f h = subst (In triples) h.same (in_map (λ (s : Source). triple_of c.side s.part) (sources c.cells) h.from h.connects.source)

    with_feeders : ((fs : List PartTriple) → AreFeeders c t number fs → ⊥) → ⊥
    with_feeders found = listed_of (FeedsTable c t number) triples (λ ys are.
        let o = sorted feeder_cmp feeder_total ys (λ a b i j h. triples_tie a b ((are a).0 i).0 ((are b).0 j).0 h) in
        found (sorted_once feeder_cmp ys) (record {
          rising = o.rising;
          members = λ f. ((λ i. ((are f).0 ((o.members f).0 i)).1), (λ h. (o.members f).1 ((are f).1 (feeder_listed f h, h))));
        }))

    pub one_list : (fs gs : List PartTriple) → AreFeeders c t number fs → AreFeeders c t number gs → fs ≡ gs
    one_list fs gs p q = determined feeder_cmp feeder_total fs gs p.rising q.rising (λ f i. (q.members f).1 ((p.members f).0 i)) (λ f i. (p.members f).1 ((q.members f).0 i))

    -- ---- tables that differ

    module _ (pass : Passes (CopiesUnlike c)) (is_slices : In c.side.triples t) where
      none_of : (fs : List PartTriple) → AreFeeders c t number fs → (digits : List Bool) (text : List ℕ) → TablesDiffer c t number digits text → ⊥
      none_of fs are digits text d = no_least (slice_cmp digit_cmp) digits_total (λ other. (what : List ℕ) × TablesDiffer c t number other what) (digit_lists (length fs)) listed
          (λ other l. none_differ c ok pass (part_in t.first (Table number)) (digits_or_dash other ++ codes " " ++ l.has.0) (in_tables t number other l.has.0 is_slices l.has.1 l)) digits (text, d)
        where
          listed : (other : List Bool) → (what : List ℕ) × TablesDiffer c t number other what → In (digit_lists (length fs)) other
          listed other h = digits_listed (length fs) other (ap (λ (z : List Bool). length z) (sym h.1.assigned) ∙ (length_map h.1.bits h.1.feeders ∙ ap (λ (z : List PartTriple). length z) (one_list h.1.feeders fs h.1.are are)))

      module _ (bits : PartTriple → Bool) (fs : List PartTriple) (are : AreFeeders c t number fs) (a b d : List ℕ) (ga : Gives c bits (part_in t.first (Table number)) a)
          (gb : Gives c bits (part_in t.second (Table number)) b) (gd : Gives c bits (part_in t.third (Table number)) d) where
        abbrev texts : List (List ℕ)
        texts = a ∷ b ∷ d ∷ []

        copy_gives : (s : Source) (v : TableCell) (x : Pin → Bool) → ReadPart c s → s.kind ≡ OfTable v → Assigned c bits s v x → s.part.part ≡ Table number → IsEntry t s.part.cell
            → In texts (digit (table_output s.part v x))
        copy_gives s v x rs ks asg is entry = elim entry [
          | inl e ↦ inl (gives_is bits s v x rs ks asg (part_in t.first (Table number)) a (λ i. record { cell = sym e i; part = is i }) ga)
          | inr i ↦ elim i [
            | inl e ↦ inr (inl (gives_is bits s v x rs ks asg (part_in t.second (Table number)) b (λ i. record { cell = sym e i; part = is i }) gb))
            | inr j ↦ elim j [
              | inl e ↦ inr (inr (inl (gives_is bits s v x rs ks asg (part_in t.third (Table number)) d (λ i. record { cell = sym e i; part = is i }) gd)))
              | inr k ↦ absurd k
            ]
          ]
        ]

        no_two : (p q : Bool) → (p ≡ q → ⊥) → In texts (digit p) → In texts (digit q) → ⊥
        no_two p q apart i j = (let both = two_digits p q apart i j in none_of fs are (map bits fs) (a ++ b ++ d) (record {
          feeders = fs;
          are = are;
          bits = bits;
          assigned = refl;
          first = a;
          second = b;
          third = d;
          gives_first = ga;
          gives_second = gb;
          gives_third = gd;
          zero = both.0;
          one = both.1;
          text = refl;
        }))
          where
            two_digits : (p q : Bool) → (p ≡ q → ⊥) → In texts (digit p) → In texts (digit q) → In texts (codes "0") × In texts (codes "1")
            two_digits true true apart i j = absurd (apart refl)
            two_digits true false apart i j = (j, i)
            two_digits false true apart i j = (i, j)
            two_digits false false apart i j = absurd (apart refl)

  pub tables_alike : Passes (CopiesUnlike c) → (s u : Source) (t v : TableCell) → ReadPart c s → ReadPart c u → s.kind ≡ OfTable t → u.kind ≡ OfTable v
      → triple_of c.side s.part ≡ triple_of c.side u.part → TablesAlike c s u t v
  tables_alike pass s u t v rs ru ks ku same bits x y asg bsg = bits_agree (table_output s.part t x) (table_output u.part v y) (λ apart.
      let named = table_name s.part.part s.kind t ks (kind_fits c.cells s rs.listed) in
      let number = named.0 in
      let triple = triple_with c.side s.part.cell in
      let is_slices : In c.side.triples triple = slice_triple c ok s rs.listed (table_no_pad s.part.part number named.1) in
      let other : u.part.part ≡ Table number = ap (λ (z : PartTriple). z.part) (sym same) ∙ named.1 in
      let entry : IsEntry triple u.part.cell = subst (λ (z : Triple). IsEntry z u.part.cell) (ap (λ (z : PartTriple). z.cells) (sym same)) (part_paired c ok u ru.listed).1 in
      with_feeders triple number (λ fs are. gives bits number triple.first (λ a ga. gives bits number triple.second (λ b gb. gives bits number triple.third (λ d gd.
      no_two triple number pass is_slices bits fs are a b d ga gb gd (table_output s.part t x) (table_output u.part v y) apart
      (copy_gives triple number pass is_slices bits fs are a b d ga gb gd s t x rs ks asg named.1 (part_paired c ok s rs.listed).1)
      (copy_gives triple number pass is_slices bits fs are a b d ga gb gd u v y ru ku bsg other entry))))))
