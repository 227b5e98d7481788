-- Where w1 gives the opposite of its pin, the tables w0, w1 and w2 are the only copies that differ, and they do so where
-- the tables u give 0.
use Rattle.std.proofs.Common.{◌≡◌, ◌≢◌, ℕ, ◌<◌, Bool, true, false, not, inl, inr, List, [], ◌∷◌, map, refl, sym, ap, subst, ◌∙◌, ◌&&◌, codes, eqb, arith}
use Rattle.std.specs.List.{list_all, list_any}
use Rattle.std.specs.declared.cmp.Ordering.TheVariants.{Greater}
use Rattle.std.specs.Ordering.{nat_cmp}
use Rattle.std.specs.Cmp.{nat_cmp_is}
use Rattle.std.specs.Cmp.Lexicographic.{slice_cmp}
use Rattle.words.specs.Members.{In}
use Rattle.records.specs.Side.{Domain, D0, D1, D2, Triple}
use Rattle.fabric.specs.Graph.{Graph}
use Rattle.fabric_laws.specs.PlainGraph.{graph_of}
use Rattle.fabric_examples.proofs.Tests.{clean_once}
use Rattle.circuit.specs.Cells.{TableCell, PadCell}
use Rattle.circuit.specs.Parts.{Table, Pad, PartRef, Kind, OfTable, Source, table_source, sources, output_pads}
use Rattle.circuit.specs.Pins.{Pin, pin_at, bit_pins, pad_pin, pins}
use Rattle.circuit.specs.Triples.{names_of, IsEntry, PartTriple, triple_of}
use Rattle.circuit.specs.Circuits.{Circuit}
use Rattle.circuit.specs.Worlds.{table_output}
use Rattle.circuit.specs.Tables.{Assigned, TablesAlike}
use Rattle.circuit.specs.Registers.{FedAlike}
use Rattle.circuit.specs.Triplicated.{ReadPart}
use Rattle.circuit_laws.proofs.Parts.{table_bit, pad_pin_listed}
use Rattle.circuit_laws.proofs.Sound.{Sound, at_pin, to_pin}
use Rattle.circuit_examples.proofs.Tests.{and_left, and_right, and_both, implies, implied, all_in, any_in, any_at, name_eq, is_name, triple_eq, group_eq, group_is, is_group, clash, no_false}
use Rattle.circuit_examples.proofs.Feeding.{feeds, feeds_is, is_feeds}
use Rattle.circuit_examples.proofs.Formed.{well_formed}
use Rattle.circuit_examples.proofs.Voting.{labels, alike_test, alike_is}
use Rattle.mini.specs.Toggle.{triple}
use Rattle.mini.specs.ToggleCells.{wire_at}
use Rattle.mini_b.specs.MiniB.{mini_b}
use Rattle.mini_b.specs.CorridorCells.{buffer_at}
use Rattle.attempts.specs.PinOrder.{part_cmp}
use Rattle.design_checks.specs.Checks.{IsLeast}
use Rattle.design_checks.specs.CopyChecks.{part_in, FeedsTable, AreFeeders, Gives, output, unread, TablesDiffer, digit_cmp, OutputsDiffer, DifferIn, in_tables, in_registers, in_outputs}
use Rattle.formed_laws.proofs.Placed.{of_slices}
use Rattle.check_laws.proofs.CopyRules.{triple_is}
use Rattle.check_laws.proofs.TableRules.{digit}
use Rattle.check_examples.specs.CorridorRefused.{turned_circuit, turned_slice}
use Rattle.check_examples.proofs.Tests.{not_after}
use Rattle.check_examples.proofs.Parts.{is_register}

abbrev g : Graph
g = graph_of mini_b

abbrev pub c : Circuit
c = turned_circuit g

pub ok : Sound c
ok = record {
  clean = clean_once c.routing refl;
  formed = well_formed c (record {
    names = refl;
    outputs = refl;
    triples = record { slices = refl; inputs = refl; outputs = refl; clocks = refl; paired = refl; once = refl };
    sizes = record { tables = refl; registers = refl; some_pins = refl; few_pins = refl };
  });
}

-- ---- the tables w

abbrev pub copies_w : Triple
copies_w = triple (codes "w0") (codes "w1") (codes "w2")

abbrev feeder : PartTriple
feeder = record { cells = triple (codes "u0") (codes "u1") (codes "u2"); part = Table 0 }

abbrev cell : ℕ → ℕ → TableCell
cell word column = record { word = word; pins = wire_at g 1 column (codes "D") ∷ []; out = wire_at g 1 column (codes "F") }

abbrev table : List ℕ → Domain → ℕ → ℕ → Source
table name domain word column = table_source (turned_slice (buffer_at g name domain column)) 0 (cell word column)

abbrev w0 : Source
w0 = table (codes "w0") D0 2 3

abbrev w1 : Source
w1 = table (codes "w1") D1 1 8

abbrev w2 : Source
w2 = table (codes "w2") D2 2 13

abbrev u0 : Source
u0 = table (codes "u0") D0 2 1

-- the pad above shows a table
abbrev shown_by : List ℕ → ℕ → Pin
shown_by name column = pin_at (record { cell = name; part = Pad }) 0 (wire_at g 0 column (codes "PO"))

connected : (s : Source) (p : Pin) → In (sources c.cells) s → In (pins c.cells) p → feeds c s p.wire ≡ true → ReadPart c s
connected s p i j h = record { listed = i; read = (p, to_pin c s p j (feeds_is c ok.formed.outputs.listed s p.wire i h)) }

read_w0 : ReadPart c w0
read_w0 = connected w0 (shown_by (codes "o0") 3) (inr (inr (inr (inr (inr (inr (inl refl))))))) (inr (inr (inr (inr (inr (inr (inr (inr (inr (inl refl)))))))))) refl

read_w1 : ReadPart c w1
read_w1 = connected w1 (shown_by (codes "o1") 8) (inr (inr (inr (inr (inr (inr (inr (inl refl)))))))) (inr (inr (inr (inr (inr (inr (inr (inr (inr (inr (inl refl))))))))))) refl

read_w2 : ReadPart c w2
read_w2 = connected w2 (shown_by (codes "o2") 13) (inr (inr (inr (inr (inr (inr (inr (inr (inl refl))))))))) (inr (inr (inr (inr (inr (inr (inr (inr (inr (inr (inr (inl refl)))))))))))) refl

-- the tables u feed them
feeds_w : FeedsTable c copies_w 0 feeder
feeds_w = (let pin : Pin = pin_at w0.part 0 (wire_at g 1 3 (codes "D")) in record {
  cell = codes "w0";
  copy = inl refl;
  source = w0;
  table = cell 2 3;
  listed = read_w0.listed;
  is = refl;
  is_table = refl;
  pin = pin;
  takes = inl refl;
  from = u0;
  connects = to_pin c u0 pin (inr (inr (inr (inr (inr (inr (inl refl))))))) (feeds_is c ok.formed.outputs.listed u0 pin.wire (inl refl) refl);
  same = refl;
})

-- and nothing else does
abbrev fed_by_u : Source → Bool
fed_by_u s = implies (list_any (λ n. name_eq n s.part.cell) (names_of copies_w)) (list_all (λ p. list_all (λ a. implies (feeds c a p.wire) (group_eq (triple_of c.side a.part) feeder)) (sources c.cells)) (bit_pins s))

all_fed_by_u : list_all fed_by_u (sources c.cells) ≡ true
all_fed_by_u = refl

only_u : (f : PartTriple) → FeedsTable c copies_w 0 f → feeder ≡ f
only_u f h =
    let entry : list_any (λ n. name_eq n h.source.part.cell) (names_of copies_w) ≡ true = any_at (λ n. name_eq n h.source.part.cell) (names_of copies_w) h.cell h.copy (is_name h.cell h.source.part.cell (sym (ap (λ z. z.cell) h.is))) in
    let of_pins = implied (list_any (λ n. name_eq n h.source.part.cell) (names_of copies_w)) _ (all_in fed_by_u (sources c.cells) h.source all_fed_by_u h.listed) entry in
    let of_parts = all_in (λ (p : Pin). list_all (λ a. implies (feeds c a p.wire) (group_eq (triple_of c.side a.part) feeder)) (sources c.cells)) (bit_pins h.source) h.pin of_pins (table_bit h.source h.table h.is_table h.pin h.takes) in
    let same = implied (feeds c h.from h.pin.wire) _ (all_in (λ (a : Source). implies (feeds c a h.pin.wire) (group_eq (triple_of c.side a.part) feeder)) (sources c.cells) h.from of_parts h.connects.source) (is_feeds c h.from h.pin.wire (at_pin c h.from h.pin h.connects)) in
    sym (group_is (triple_of c.side h.from.part) feeder same) ∙ h.same

are_feeders : AreFeeders c copies_w 0 (feeder ∷ [])
are_feeders = record {
  rising = ((λ y i. absurd i), tt);
  members = λ f. (
    (λ i. elim i [ inl e ↦ subst (FeedsTable c copies_w 0) e feeds_w | inr j ↦ absurd j ]),
    (λ h. inl (only_u f h)),
  );
}

abbrev zeros : Pin → Bool
zeros p = false

pub differ_w : TablesDiffer c copies_w 0 (false ∷ []) (codes "010")
differ_w = record {
  feeders = feeder ∷ [];
  are = are_feeders;
  bits = λ t. false;
  assigned = refl;
  first = codes "0";
  second = codes "1";
  third = codes "0";
  gives_first = output w0 (cell 2 3) zeros refl read_w0 refl (λ p a i cn. refl) (λ p i n. refl);
  gives_second = output w1 (cell 1 8) zeros refl read_w1 refl (λ p a i cn. refl) (λ p i n. refl);
  gives_third = output w2 (cell 2 13) zeros refl read_w2 refl (λ p a i cn. refl) (λ p i n. refl);
  zero = inl refl;
  one = inr (inl refl);
  text = refl;
}

-- no digits come before 0, since there is a feeder
zero_first : (b : Bool) (bs : List Bool) → slice_cmp digit_cmp (false ∷ []) (b ∷ bs) ≢ Greater
zero_first true bs = not_after (slice_cmp digit_cmp (false ∷ []) (true ∷ bs)) refl
zero_first false [] = not_after (slice_cmp digit_cmp (false ∷ []) (false ∷ [])) refl
zero_first false (x ∷ xs) = not_after (slice_cmp digit_cmp (false ∷ []) (false ∷ x ∷ xs)) refl

not_before_zero : (bits : PartTriple → Bool) (fs : List PartTriple) → In fs feeder → (other : List Bool) → map bits fs ≡ other → slice_cmp digit_cmp (false ∷ []) other ≢ Greater
not_before_zero bits [] i other e = absurd i
not_before_zero bits (f ∷ fs) i other e = subst (λ z. slice_cmp digit_cmp (false ∷ []) z ≢ Greater) e (zero_first (bits f) (map bits fs))

pub least_digits : IsLeast (slice_cmp digit_cmp) (λ other. (text : List ℕ) × TablesDiffer c copies_w 0 other text) (false ∷ [])
least_digits = record { has = (codes "010", differ_w); least = λ other h. not_before_zero h.1.bits h.1.feeders ((h.1.are.members feeder).1 feeds_w) other h.1.assigned }

-- ---- no other copies differ

abbrev tables_test : Source → Source → Kind → Kind → Bool
tables_test s u (OfTable t) (OfTable v) = alike_test c t.word v.word (labels c ok s.part t) (labels c ok u.part v)
tables_test s u _ _ = true

abbrev pair : Source → Source → Bool
pair s u = implies (group_eq (triple_of c.side s.part) (triple_of c.side u.part) && not (triple_eq (triple_of c.side s.part).cells copies_w)) (tables_test s u s.kind u.kind)

all_pairs : list_all (λ s. list_all (pair s) (sources c.cells)) (sources c.cells) ≡ true
all_pairs = refl

alike : (s u : Source) (t v : TableCell) → In (sources c.cells) s → In (sources c.cells) u → s.kind ≡ OfTable t → u.kind ≡ OfTable v → triple_of c.side s.part ≡ triple_of c.side u.part
    → not (triple_eq (triple_of c.side s.part).cells copies_w) ≡ true → TablesAlike c s u t v
alike s u t v js ju ks ku same other =
    alike_is c ok s u t v js ju ks ku (subst (λ k. tables_test s u k (OfTable v) ≡ true) ks (subst (λ k. tables_test s u s.kind k ≡ true) ku
    (implied (group_eq (triple_of c.side s.part) (triple_of c.side u.part) && not (triple_eq (triple_of c.side s.part).cells copies_w)) (tables_test s u s.kind u.kind)
    (all_in (pair s) (sources c.cells) u (all_in (λ (z : Source). list_all (pair z) (sources c.cells)) (sources c.cells) s all_pairs js) ju)
    (and_both (group_eq (triple_of c.side s.part) (triple_of c.side u.part)) (not (triple_eq (triple_of c.side s.part).cells copies_w)) (is_group (triple_of c.side s.part) (triple_of c.side u.part) same) other))))

-- a copy of a table that is read, with a bit that it gives
record Reading (t : Triple) (n : ℕ) (bits : PartTriple → Bool) (b : Bool) : Type 0 where
  cell : List ℕ
  entry : IsEntry t cell
  source : Source
  table : TableCell
  pins : Pin → Bool
  is : source.part ≡ part_in cell (Table n)
  listed : In (sources c.cells) source
  is_table : source.kind ≡ OfTable table
  assigned : Assigned c bits source table pins
  gives : digit (table_output source.part table pins) ≡ digit b

-- whether a text begins with a code
abbrev begins : ℕ → List ℕ → Bool
begins n [] = false
begins n (x ∷ xs) = eqb x n

digit_no_dash : (b : Bool) → begins 45 (digit b) ≡ false
digit_no_dash true = refl
digit_no_dash false = refl

no_dash : (b : Bool) → codes "-" ≡ digit b → ⊥
no_dash b e = no_false (sym (digit_no_dash b) ∙ sym (ap (begins 45) e))

reading : (t : Triple) (n : ℕ) (bits : PartTriple → Bool) (b : Bool) (cell text : List ℕ) → IsEntry t cell → Gives c bits (part_in cell (Table n)) text → text ≡ digit b → Reading t n bits b
reading t n bits b cell _ entry (output s v x e rs ks asg open_zero) same = record { cell = cell; entry = entry; source = s; table = v; pins = x; is = e; listed = rs.listed; is_table = ks; assigned = asg; gives = same }
reading t n bits b cell _ entry (unread no_read) same = absurd (no_dash b same)

reading_in : (t : Triple) (n : ℕ) (digits : List Bool) (outputs : List ℕ) (d : TablesDiffer c t n digits outputs) (b : Bool) → In (d.first ∷ d.second ∷ d.third ∷ []) (digit b) → Reading t n d.bits b
reading_in t n digits outputs d b i = elim i [
  | inl e ↦ reading t n d.bits b t.first d.first (inl refl) d.gives_first e
  | inr j ↦ elim j [
    | inl e ↦ reading t n d.bits b t.second d.second (inr (inl refl)) d.gives_second e
    | inr k ↦ elim k [ inl e ↦ reading t n d.bits b t.third d.third (inr (inr (inl refl))) d.gives_third e | inr l ↦ absurd l ]
  ]
]

-- the copy of a slice stands in its triple
group_at : (t : Triple) (n : ℕ) (bits : PartTriple → Bool) (b : Bool) → In c.side.triples t → (r : Reading t n bits b) → triple_of c.side r.source.part ≡ record { cells = t; part = Table n }
group_at t n bits b i r = ap (triple_of c.side) r.is ∙ ap (λ z. let x : PartTriple = record { cells = z; part = Table n } in x) (triple_is c ok t r.cell (of_slices c.side t i) r.entry)

apart_digits : digit true ≡ digit false → ⊥
apart_digits e = no_false (sym (ap (begins 49) e))

none_of : (t : Triple) (n : ℕ) (digits : List Bool) (outputs : List ℕ) → In c.side.triples t → not (triple_eq t copies_w) ≡ true → TablesDiffer c t n digits outputs → ⊥
none_of t n digits outputs i other d =
    let p = reading_in t n digits outputs d false d.zero in
    let q = reading_in t n digits outputs d true d.one in
    let at_p = group_at t n d.bits false i p in
    let at_q = group_at t n d.bits true i q in
    let same = alike p.source q.source p.table q.table p.listed q.listed p.is_table q.is_table (at_p ∙ sym at_q)
    (subst (λ (z : PartTriple). not (triple_eq z.cells copies_w) ≡ true) (sym at_p) other) d.bits p.pins q.pins p.assigned q.assigned in
    apart_digits (sym q.gives ∙ (sym (ap digit same) ∙ p.gives))

no_registers : list_all (λ s. not (is_register c s.kind)) (sources c.cells) ≡ true
no_registers = refl

-- output pads of a triple are fed alike
abbrev fed_alike : ℕ → ℕ → Bool
fed_alike v w = list_any (λ a. feeds c a v && list_any (λ b. feeds c b w && group_eq (triple_of c.side a.part) (triple_of c.side b.part)) (sources c.cells)) (sources c.cells)

fed_alike_is : (p q : Pin) → In (pins c.cells) p → In (pins c.cells) q → fed_alike p.wire q.wire ≡ true → FedAlike c p q
fed_alike_is p q jp jq e =
    let a = any_in (λ (a : Source). feeds c a p.wire && list_any (λ (b : Source). feeds c b q.wire && group_eq (triple_of c.side a.part) (triple_of c.side b.part)) (sources c.cells)) (sources c.cells) e in
    let b = any_in (λ (b : Source). feeds c b q.wire && group_eq (triple_of c.side a.0.part) (triple_of c.side b.part)) (sources c.cells) (and_right (feeds c a.0 p.wire) _ a.1.1) in record {
      first = a.0;
      second = b.0;
      feeds_first = to_pin c a.0 p jp (feeds_is c ok.formed.outputs.listed a.0 p.wire a.1.0 (and_left (feeds c a.0 p.wire) _ a.1.1));
      feeds_second = to_pin c b.0 q jq (feeds_is c ok.formed.outputs.listed b.0 q.wire b.1.0 (and_left (feeds c b.0 q.wire) _ b.1.1));
      same = group_is _ _ (and_right (feeds c b.0 q.wire) _ b.1.1);
    }

abbrev entry : Triple → List ℕ → Bool
entry t name = list_any (λ n. name_eq n name) (names_of t)

entry_is : (t : Triple) (name : List ℕ) → IsEntry t name → entry t name ≡ true
entry_is t name i = any_at (λ n. name_eq n name) (names_of t) name i (is_name name name refl)

abbrev shown_alike : Triple → PadCell → PadCell → Bool
shown_alike t p q = implies (entry t p.name && entry t q.name) (fed_alike p.wire q.wire)

all_shown : list_all (λ t. list_all (λ p. list_all (shown_alike t p) (output_pads c.cells)) (output_pads c.cells)) c.side.outputs ≡ true
all_shown = refl

no_outputs_differ : (t : Triple) → In c.side.outputs t → OutputsDiffer c t → ⊥
no_outputs_differ t i d =
    let p = d.0 in
    let q = d.1.0 in
    let jp = d.1.1.0 in
    let jq = d.1.1.1.0 in
    let tested = all_in (shown_alike t p) (output_pads c.cells) q (all_in (λ (z : PadCell). list_all (shown_alike t z) (output_pads c.cells)) (output_pads c.cells) p
    (all_in (λ (x : Triple). list_all (λ (z : PadCell). list_all (shown_alike x z) (output_pads c.cells)) (output_pads c.cells)) c.side.outputs t all_shown i) jp) jq in
    d.1.1.1.1.1.1 (fed_alike_is (pad_pin p) (pad_pin q) (pad_pin_listed c.cells p jp) (pad_pin_listed c.cells q jq)
    (implied (entry t p.name && entry t q.name) _ tested (and_both (entry t p.name) (entry t q.name) (entry_is t p.name d.1.1.1.1.0) (entry_is t q.name d.1.1.1.1.1.0))))

-- no table of w0 comes before its first one
before_zero : (n : ℕ) → nat_cmp 0 n ≡ Greater → n < 0
before_zero n h = grind (arith, nat_cmp_is)

first_number : (n : ℕ) → part_cmp (part_in (codes "w0") (Table 0)) (part_in (codes "w0") (Table n)) ≢ Greater
first_number n h = (let below : n < 0 = before_zero n h in omega arith)

not_before_w : (part : PartRef) (what : List ℕ) → DifferIn c part what → part_cmp (part_in (codes "w0") (Table 0)) part ≢ Greater
not_before_w _ _ (in_tables t n digits outputs i d l) = elim i [
  | inl e ↦ absurd (none_of t n digits outputs (inl e) (subst (λ z. not (triple_eq z copies_w) ≡ true) e refl) d)
  | inr j ↦ elim j [
    | inl e ↦ absurd (none_of t n digits outputs (inr (inl e)) (subst (λ z. not (triple_eq z copies_w) ≡ true) e refl) d)
    | inr k ↦ elim k [
      | inl e ↦ subst (λ (z : Triple). part_cmp (part_in (codes "w0") (Table 0)) (part_in z.first (Table n)) ≢ Greater) e (first_number n)
      | inr m ↦ absurd m
    ]
  ]
]
not_before_w _ _ (in_registers t n field i f) =
    (let d = f.differs in let two = d.1.1.1.1.0 in absurd (clash (is_register c d.0.kind) (ap (is_register c) two.first_kind) (all_in (λ (s : Source). not (is_register c s.kind)) (sources c.cells) d.0 no_registers two.first_read.listed)))
not_before_w _ _ (in_outputs t i d) = absurd (no_outputs_differ t i d)

pub differ_in_w : DifferIn c (part_in (codes "w0") (Table 0)) (codes "0 010")
differ_in_w = in_tables copies_w 0 (false ∷ []) (codes "010") (inr (inr (inl refl))) differ_w least_digits

pub least_w : IsLeast part_cmp (λ p. (text : List ℕ) × DifferIn c p text) (part_in (codes "w0") (Table 0))
least_w = record { has = (codes "0 010", differ_in_w); least = λ p h. not_before_w p h.0 h.1 }
