-- A table by itself tells whether it masks other domains.
use Rattle.std.proofs.Common.{◌≡◌, ◌≢◌, ◌↔◌, ℕ, zero, suc, ◌+◌, ◌^◌, ◌<◌, ◌≤◌, Bool, true, false, List, [], ◌∷◌, length, map, get_or, Option, None, Some, ◌⊎◌, inl, inr, refl, sym, ap, subst, ◌∙◌, arith}
use Rattle.std.specs.Prelude.{slice_get}
use Rattle.std.proofs.lemmas.Option.{slice_get_within}
use Rattle.words.specs.Members.{In}
use Rattle.records.specs.Side as side_of
use Rattle.links.specs.Links.{Fed}
use Rattle.links.proofs.Members.{same_number}
use Rattle.circuit.specs.Cells.{TableCell}
use Rattle.circuit.specs.Parts.{PartRef, OfTable, Source, numbered, sources}
use Rattle.circuit.specs.Pins.{Pin, pin_at, table_pins}
use Rattle.circuit.specs.Triples.{PartTriple, triple_of}
use Rattle.circuit.specs.Circuits.{Circuit, Connects}
use Rattle.circuit.specs.Domains.{HasDomain}
use Rattle.circuit.specs.Worlds.{address, table_output}
use Rattle.circuit.specs.Tables.{Assigned}
use Rattle.circuit_laws.proofs.Assign.{Gives, SameBits, assigned}
use Rattle.circuit_laws.proofs.Parts.{bit_pin_listed, table_bit}
use Rattle.circuit_laws.proofs.Sound.{Sound, FeedsFrom, at_pin, to_pin, has_domain, domain_is}
use Rattle.rr_ids.specs.Domains.{domain_of}
use Rattle.rr_ids.specs.declared.domain.Domain.{Domain}
use Rattle.rr_ids.specs.declared.domain.Domain.TheVariants.{D0, D1, D2}
use Rattle.table_masks.specs.declared.table_pin.TablePin.{TablePin}
use Rattle.table_masks.specs.declared.table_pin.TablePin.TheVariants as at
use Rattle.table_masks.specs.Masking.{is_set, MayTurn, Turns, FailsIn}
use Rattle.table_masks.specs.Pins.{SameFeed, IsFed, PinTold, PinsTold}
use Rattle.table_masks.specs.Reaching.{Reaching}
use Rattle.table_masks.proofs.Bits.{set_address, address_below, same_address}

-- ---- domains

domain_back : (d : side_of.Domain) → (x : Domain) × (domain_of x ≡ d)
domain_back side_of.D0 = (D0, refl)
domain_back side_of.D1 = (D1, refl)
domain_back side_of.D2 = (D2, refl)

one_domain : (x y : Domain) → domain_of x ≡ domain_of y → x ≡ y
one_domain D0 D0 h = refl
one_domain D0 D1 h = absurd (let no : ⊥ = cc in no)
one_domain D0 D2 h = absurd (let no : ⊥ = cc in no)
one_domain D1 D0 h = absurd (let no : ⊥ = cc in no)
one_domain D1 D1 h = refl
one_domain D1 D2 h = absurd (let no : ⊥ = cc in no)
one_domain D2 D0 h = absurd (let no : ⊥ = cc in no)
one_domain D2 D1 h = absurd (let no : ⊥ = cc in no)
one_domain D2 D2 h = refl

tell : (x y : Domain) → (x ≡ y) ⊎ (x ≢ y)
tell D0 D0 = inl refl
tell D0 D1 = inr (λ h. let no : ⊥ = cc in no)
tell D0 D2 = inr (λ h. let no : ⊥ = cc in no)
tell D1 D0 = inr (λ h. let no : ⊥ = cc in no)
tell D1 D1 = inl refl
tell D1 D2 = inr (λ h. let no : ⊥ = cc in no)
tell D2 D0 = inr (λ h. let no : ⊥ = cc in no)
tell D2 D1 = inr (λ h. let no : ⊥ = cc in no)
tell D2 D2 = inl refl

-- ---- numbered pins

pub length_numbered : (part : PartRef) (n : ℕ) (ws : List ℕ) (x : Pin → Bool) → length (map x (numbered (pin_at part) n ws)) ≡ length ws
length_numbered part n [] x = refl
length_numbered part n (w ∷ ws) x = (let rest = length_numbered part (suc n) ws x in omega arith)

pub bit_numbered : (part : PartRef) (n : ℕ) (ws : List ℕ) (x : Pin → Bool) (i : ℕ) → i < length ws → get_or (map x (numbered (pin_at part) n ws)) i false ≡ x (pin_at part (n + i) (get_or ws i 0))
bit_numbered part n [] x i h = absurd (omega arith)
bit_numbered part n (w ∷ ws) x zero h = (let e : n ≡ n + 0 = omega arith in ap (λ m. x (pin_at part m w)) e)
bit_numbered part n (w ∷ ws) x (suc i) h =
    (let e : suc n + i ≡ n + suc i = omega arith in bit_numbered part (suc n) ws x i (omega arith) ∙ ap (λ m. x (pin_at part m (get_or ws i 0))) e)

pub in_numbered : (part : PartRef) (n : ℕ) (ws : List ℕ) (i : ℕ) → i < length ws → In (numbered (pin_at part) n ws) (pin_at part (n + i) (get_or ws i 0))
in_numbered part n [] i h = absurd (omega arith)
in_numbered part n (w ∷ ws) zero h = inl (let e : n ≡ n + 0 = omega arith in ap (λ m. pin_at part m w) e)
in_numbered part n (w ∷ ws) (suc i) h =
    inr (let e : suc n + i ≡ n + suc i = omega arith in subst (λ m. In (numbered (pin_at part) (suc n) ws) (pin_at part m (get_or ws i 0))) e (in_numbered part (suc n) ws i (omega arith)))

pub of_numbered : (part : PartRef) (n : ℕ) (ws : List ℕ) (p : Pin) → In (numbered (pin_at part) n ws) p → (i : ℕ) × ((i < length ws) × (pin_at part (n + i) (get_or ws i 0) ≡ p))
of_numbered part n [] p h = absurd h
of_numbered part n (w ∷ ws) p h = elim h [
  | inl e ↦ (0, ((let few : 0 < suc (length ws) = omega arith in few), (let z : n + 0 ≡ n = omega arith in ap (λ m. pin_at part m w) z ∙ e)))
  | inr j ↦ (
      let r = of_numbered part (suc n) ws p j in
      (suc r.0, ((let few : r.0 < length ws = r.1.0 in let more : suc r.0 < suc (length ws) = omega arith in more), (let z : n + suc r.0 ≡ suc n + r.0 = omega arith in ap (λ m. pin_at part m (get_or ws r.0 0)) z ∙ r.1.1)))
      )
]

element : {X : Type 0} (xs : List X) (i : ℕ) → i < length xs → (x : X) × (slice_get xs i ≡ Some x)
element [] i h = absurd (omega arith)
element (x ∷ xs) zero h = (x, refl)
element (x ∷ xs) (suc i) h = element xs i (omega arith)

some_source : (a b : Source) → Some a ≡ Some b → a ≡ b
some_source a b h = cc

none_source : (a : Source) → None ≡ Some a → ⊥
none_source a h = (let no : ⊥ = cc in no)

zero_and : (i : ℕ) → 0 + i ≡ i
zero_and i = omega arith

module _ (c : Circuit) (ok : Sound c) (s : Source) (t : TableCell) (listed : In (sources c.cells) s) (is_table : s.kind ≡ OfTable t) (fed : ℕ → Option Source)
    (feeds : (i : ℕ) (a : Source) → i < length t.pins → FeedsFrom c a (get_or t.pins i 0) ↔ (fed i ≡ Some a))
    (open_wire : (i : ℕ) → i < length t.pins → fed i ≡ None → Fed c.routing (get_or t.pins i 0) → ⊥)
    (pins : List TablePin) (long : length pins ≡ length t.pins) (told : PinsTold c.side fed pins) (own : Domain) (own_is : domain_of own ≡ s.domain) where
  abbrev wire : ℕ → ℕ
  wire i = get_or t.pins i 0

  abbrev pin : ℕ → Pin
  pin i = pin_at s.part i (wire i)

  pin_in : (i : ℕ) → i < length t.pins → In (table_pins s.part t) (pin i)
  pin_in i below = subst (λ m. In (table_pins s.part t) (pin_at s.part m (wire i))) (zero_and i) (in_numbered s.part 0 t.pins i below)

  pin_of : (p : Pin) → In (table_pins s.part t) p → (i : ℕ) × ((i < length t.pins) × (pin i ≡ p))
  pin_of p h = (let r = of_numbered s.part 0 t.pins p h in (r.0, (r.1.0, ap (λ m. pin_at s.part m (wire r.0)) (sym (zero_and r.0)) ∙ r.1.1)))

  bit_of : (x : Pin → Bool) (i : ℕ) → i < length t.pins → get_or (map x (table_pins s.part t)) i false ≡ x (pin i)
  bit_of x i below = bit_numbered s.part 0 t.pins x i below ∙ ap (λ m. x (pin_at s.part m (wire i))) (zero_and i)

  count : (x : Pin → Bool) → length (map x (table_pins s.part t)) ≡ length t.pins
  count x = length_numbered s.part 0 t.pins x

  connects : (i : ℕ) (a : Source) → i < length t.pins → fed i ≡ Some a → Connects c a (pin i)
  connects i a below h = to_pin c a (pin i) (bit_pin_listed c.cells s (pin i) listed (table_bit s t is_table (pin i) (pin_in i below))) ((feeds i a below).1 h)

  told_at : (i : ℕ) → i < length t.pins → (p : TablePin) × ((slice_get pins i ≡ Some p) × PinTold c.side fed i p)
  told_at i below = (let e = element pins i (subst (λ m. i < m) (sym long) below) in (e.0, (e.1, told i e.0 e.1)))

  -- ---- from a failing address

  module _ (n : ℕ) (f : Reaching c s t n) where
    abbrev first_address : ℕ
    first_address = address (map f.before (table_pins s.part t))

    bit_before : (i : ℕ) → i < length t.pins → is_set first_address i ≡ f.before (pin i)
    bit_before i below = set_address (map f.before (table_pins s.part t)) i ∙ bit_of f.before i below

    bit_after : (i : ℕ) → i < length t.pins → is_set n i ≡ f.after (pin i)
    bit_after i below = ap (λ m. is_set m i) (sym f.at) ∙ (set_address (map f.after (table_pins s.part t)) i ∙ bit_of f.after i below)

    given : (i : ℕ) (a : Source) → i < length t.pins → fed i ≡ Some a → f.before (pin i) ≡ f.bits (triple_of c.side a.part)
    given i a below h = f.assigned (pin i) a (pin_in i below) (connects i a below h)

    own_feed : (k first : ℕ) (d : Domain) → k < length t.pins → IsFed c.side fed k first d → HasDomain c (wire k) f.other → d ≡ (domain_back f.other).0
    own_feed k first d below is has =
        one_domain d (domain_back f.other).0 (is.domain ∙ (domain_is c ok is.source (wire k) f.other ((feeds k is.source below).1 is.feeds) has ∙ sym (domain_back f.other).1))

    turn : (k : ℕ) (p : TablePin) → k < length t.pins → PinTold c.side fed k p → MayTurn (domain_back f.other).0 first_address n k p
    turn k at.Open below none =
        let zeroed : f.after (pin k) ≡ false = f.open_pins (pin k) (pin_in k below) (open_wire k below none) in
        let kept : f.before (pin k) ≡ f.after (pin k) = f.same (pin k) (pin_in k below) (λ has. open_wire k below none (has.source.out, has.feeds)) in
        (bit_before k below ∙ (kept ∙ zeroed), bit_after k below ∙ zeroed)
    turn k (at.Fed first d) below is =
        let earlier : first < length t.pins = (let le : first ≤ k = is.before in omega arith) in (
          bit_before k below
              ∙ (given k is.alike.second below is.alike.feeds_second
              ∙ (ap f.bits (sym is.alike.same) ∙ (sym (given first is.alike.first earlier is.alike.feeds_first) ∙ sym (bit_before first earlier)))),
          (λ ne. bit_before k below ∙ (f.same (pin k) (pin_in k below) (λ has. ne (own_feed k first d below is has)) ∙ sym (bit_after k below))),
        )

    few : (x : Pin → Bool) → address (map x (table_pins s.part t)) < 2 ^ length pins
    few x = subst (λ m. address (map x (table_pins s.part t)) < 2 ^ m) (count x ∙ sym long) (address_below (map x (table_pins s.part t)))

    pub fails_told : (n < 2 ^ length pins) × FailsIn t.word pins own n
    fails_told = (
      subst (λ m. m < 2 ^ length pins) f.at (few f.after),
      (
        (domain_back f.other).0,
        (
          (λ e. f.foreign (sym (domain_back f.other).1 ∙ (ap domain_of e ∙ own_is))),
          (
            first_address,
            (
              few f.before,
              (
                (λ e. f.differs (e ∙ ap (is_set t.word) (sym f.at))),
                (λ k p there. turn k p (subst (λ m. k < m) long (slice_get_within pins k p there)) (told k p there)),
              ),
            ),
          ),
        ),
      ),
    )

  -- ---- from a table by itself

  module _ (n : ℕ) (below_n : n < 2 ^ length pins) (g : FailsIn t.word pins own n) where
    abbrev other : Domain
    other = g.0

    abbrev old : ℕ
    old = g.1.1.0

    abbrev x : Pin → Bool
    x p = is_set old p.ref.pin

    abbrev y : Pin → Bool
    y p = is_set n p.ref.pin

    turns : Turns other old n pins
    turns = g.1.1.1.1.1

    at_address : (m : ℕ) → m < 2 ^ length pins → address (map (λ p. is_set m p.ref.pin) (table_pins s.part t)) ≡ m
    at_address m small =
        let z : Pin → Bool = λ p. is_set m p.ref.pin in
        same_address m (map z (table_pins s.part t)) (subst (λ k. m < 2 ^ k) (long ∙ sym (count z)) small) (λ i h. bit_of z i (subst (λ k. i < k) (count z) h))

    not_before : (i j e f : ℕ) (d g : Domain) (a : IsFed c.side fed i e d) (b : IsFed c.side fed j f g) → triple_of c.side a.source.part ≡ triple_of c.side b.source.part → e < f → ⊥
    not_before i j e f d g a b same less = b.least e less (record {
      first = a.alike.first;
      second = b.source;
      feeds_first = a.alike.feeds_first;
      feeds_second = b.feeds;
      same = a.alike.same ∙ (ap (λ (z : Source). triple_of c.side z.part) (some_source a.alike.second a.source (sym a.alike.feeds_second ∙ a.feeds)) ∙ same);
    })

    same_first : (i j e f : ℕ) (d g : Domain) (a : IsFed c.side fed i e d) (b : IsFed c.side fed j f g) → triple_of c.side a.source.part ≡ triple_of c.side b.source.part → e ≡ f
    same_first i j e f d g a b same = elim (same_number e f) [
      | inl is ↦ is
      | inr none_there ↦ absurd (apart e f none_there (not_before i j e f d g a b same) (not_before j i f e g d b a (sym same)))
    ]
      where
        apart : (e f : ℕ) → (e ≡ f → ⊥) → (e < f → ⊥) → (f < e → ⊥) → ⊥
        apart e f none_there less more = omega arith

    alike_by : (i j : ℕ) (a b : Source) (p q : TablePin) → fed i ≡ Some a → fed j ≡ Some b → triple_of c.side a.part ≡ triple_of c.side b.part
        → PinTold c.side fed i p → PinTold c.side fed j q → MayTurn other old n i p → MayTurn other old n j q → is_set old i ≡ is_set old j
    alike_by i j a b at.Open q fa fb same none told first_turn second_turn = absurd (none_source a (sym none ∙ fa))
    alike_by i j a b (at.Fed e d) at.Open fa fb same told none first_turn second_turn = absurd (none_source b (sym none ∙ fb))
    alike_by i j a b (at.Fed e d) (at.Fed f h) fa fb same ia ib first_turn second_turn =
        let is_a : ia.source ≡ a = some_source ia.source a (sym ia.feeds ∙ fa) in
        let is_b : ib.source ≡ b = some_source ib.source b (sym ib.feeds ∙ fb) in
        let one : e ≡ f = same_first i j e f d h ia ib (ap (λ (z : Source). triple_of c.side z.part) is_a ∙ (same ∙ sym (ap (λ (z : Source). triple_of c.side z.part) is_b))) in
        first_turn.0 ∙ (ap (is_set old) one ∙ sym second_turn.0)

    alike_at : (i j : ℕ) (a b : Source) → i < length t.pins → j < length t.pins → fed i ≡ Some a → fed j ≡ Some b → triple_of c.side a.part ≡ triple_of c.side b.part → is_set old i ≡ is_set old j
    alike_at i j a b h k fa fb same =
        let p = told_at i h in
        let q = told_at j k in
        alike_by i j a b p.0 q.0 fa fb same p.1.1 q.1.1 (turns i p.0 p.1.0) (turns j q.0 q.1.0)

    -- pins that parts of one triple feed have one bit
    one_bit : SameBits c (table_pins s.part t) (table_pins s.part t) x x
    one_bit p q a b in_p in_q fp fq same =
        let i = pin_of p in_p in
        let j = pin_of q in_q in
        let fa = (feeds i.0 a i.1.0).0 (subst (λ (z : Pin). FeedsFrom c a z.wire) (sym i.1.1) fp) in
        let fb = (feeds j.0 b j.1.0).0 (subst (λ (z : Pin). FeedsFrom c b z.wire) (sym j.1.1) fq) in
        ap x (sym i.1.1) ∙ (alike_at i.0 j.0 a b i.1.0 j.1.0 fa fb same ∙ ap x j.1.1)

    kept_by : (i : ℕ) (p : TablePin) → i < length t.pins → PinTold c.side fed i p → MayTurn other old n i p → (HasDomain c (wire i) (domain_of other) → ⊥) → is_set old i ≡ is_set n i
    kept_by i at.Open below none first_turn none_there = first_turn.0 ∙ sym first_turn.1
    kept_by i (at.Fed e d) below is first_turn none_there = elim (tell d other) [
      | inl same ↦ absurd (none_there (subst (HasDomain c (wire i)) (sym is.domain ∙ ap domain_of same) (has_domain c ok is.source (wire i) ((feeds i is.source below).1 is.feeds))))
      | inr apart ↦ first_turn.1 apart
    ]

    zero_by : (i : ℕ) (p : TablePin) → i < length t.pins → PinTold c.side fed i p → MayTurn other old n i p → (Fed c.routing (wire i) → ⊥) → is_set n i ≡ false
    zero_by i at.Open below none first_turn none_there = first_turn.1
    zero_by i (at.Fed e d) below is first_turn none_there = absurd (let h = (feeds i is.source below).1 is.feeds in none_there (is.source.out, h.feeds))

    bits_of : (bits : PartTriple → Bool) × Gives c bits (table_pins s.part t) x
    bits_of = assigned c ok x (table_pins s.part t) one_bit

    pub told_fails : Reaching c s t n
    told_fails = record {
      other = domain_of other;
      foreign = λ e. g.1.0 (one_domain other own (e ∙ sym own_is));
      bits = bits_of.0;
      before = x;
      after = y;
      assigned = λ p a i cn. bits_of.1 p a i (at_pin c a p cn);
      same = λ p i none_there.
          let k = pin_of p i in
          let q = told_at k.0 k.1.0 in
          ap x (sym k.1.1) ∙ (kept_by k.0 q.0 k.1.0 q.1.1 (turns k.0 q.0 q.1.0) (subst (λ (z : Pin). HasDomain c z.wire (domain_of other) → ⊥) (sym k.1.1) none_there) ∙ ap y k.1.1);
      open_pins = λ p i none_there.
          let k = pin_of p i in
          let q = told_at k.0 k.1.0 in
          ap y (sym k.1.1) ∙ zero_by k.0 q.0 k.1.0 q.1.1 (turns k.0 q.0 q.1.0) (subst (λ (z : Pin). Fed c.routing z.wire → ⊥) (sym k.1.1) none_there);
      at = at_address n below_n;
      differs = λ e. g.1.1.1.1.0 (sym (ap (is_set t.word) (at_address old g.1.1.1.0)) ∙ (e ∙ ap (is_set t.word) (at_address n below_n)));
    }
