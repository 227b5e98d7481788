-- Registers that no clock feeds.
use Rattle.std.proofs.Common.{◌≡◌, ◌≢◌, ℕ, zero, suc, ◌+◌, ◌-◌, ◌<◌, ◌≤◌, Bool, true, false, List, [], ◌∷◌, ◌++◌, length, get_or, take, map, Option, None, Some, inl, inr, refl, sym, ap, ap₂, subst, ◌∙◌, arith}
use Rattle.std.specs.Prelude.{◌&&◌, not, slice_get}
use Rattle.std.specs.List.{flat_map}
use Rattle.std.specs.declared.cmp.Ordering.TheVariants.{Greater}
use Rattle.std.proofs.lemmas.List.{append_assoc, length-append}
use Rattle.std.proofs.lemmas.Option.{slice_get_within}
use Rattle.words.specs.Members.{In}
use Rattle.circuit.specs.Cells.{Input, InputWire, InputNotWire, InputZero, InputOne, RegisterCell, Cells}
use Rattle.circuit.specs.Parts.{PartRef, Kind, OfTable, OfRegister, OfInput, OfClock, Source, sources, output_pads}
use Rattle.circuit.specs.Pins.{Pin, pad_pin, pins, pin_at, input_pin, data_pins, bit_pins_of, clock_pins_of, clock_pins, source_pins}
use Rattle.circuit.specs.Circuits.{Circuit}
use Rattle.circuit.specs.Triplicated.{FedByClock}
use Rattle.circuit_parts.specs.Flat.{first_pin}
use Rattle.fabric_laws.proofs.Numbered.{get_in}
use Rattle.attempts.specs.PinOrder.{part_cmp}
use Rattle.answers.specs.Refusals.{Refusal, NotClocked}
use Rattle.design_checks.specs.PinChecks.{IsUnclocked, RegistersUnclocked, unclocked}
use Rattle.pin_feeds.specs.PinFeeds.{feed_source}
use Rattle.pin_feeds.specs.Told.{Tells}
use Rattle.pin_rules.specs.ReadParts.{AreReadParts}
use Rattle.pin_rules.specs.Rules.{is_clock_feed}
use Rattle.pin_rules.specs.Unclocked.{is_clocked, kind_unclocked, source_unclocked, takes_wire, unclocked_at}
use Rattle.pin_rules.specs.Least.{FindsPart, LeastFlagged, part_order}
use Rattle.pin_rules.proofs.Joined.{both}
use Rattle.pin_rules.proofs.Reading.{flag_reads, read_flagged}
use Rattle.pin_rules.proofs.Laws.{clocked, is_clocked_at, fails, not_true}

true_false : true ≡ false → ⊥
true_false h = (let no : ⊥ = cc in no)

none_some : {X : Type 0} (x : X) → None ≡ Some x → ⊥
none_some x h = (let no : ⊥ = cc in no)

some_same : {X : Type 0} (x y : X) → Some x ≡ Some y → x ≡ y
some_same x y h = cc

-- ---- the last pin of a part

at_end : (front : List Pin) (p : Pin) (rest : List Pin) → slice_get (front ++ p ∷ rest) (length front) ≡ Some p
at_end [] p rest = refl
at_end (x ∷ front) p rest = at_end front p rest

past : (xs ys : List Pin) (n : ℕ) → slice_get (xs ++ ys) (length xs + n) ≡ slice_get ys n
past [] ys n = (let e : 0 + n ≡ n = omega arith in ap (slice_get ys) e)
past (x ∷ xs) ys n = (let e : suc (length xs) + n ≡ suc (length xs + n) = omega arith in ap (slice_get ((x ∷ xs) ++ ys)) e ∙ past xs ys n)

abbrev up_to : List Source → ℕ → ℕ
up_to ss k = length (flat_map source_pins (take k ss))

-- there are pins up to a part that has some
some_pins : (ss : List Source) (k : ℕ) (s : Source) → slice_get ss k ≡ Some s → length (source_pins s) ≤ up_to ss (suc k)
some_pins [] k s at = absurd (none_some s at)
some_pins (u ∷ ss) zero s at =
    let same : length (source_pins u) ≡ length (source_pins s) = ap (λ x. length (source_pins x)) (some_same u s at) in
    let parts = length-append (source_pins u) (flat_map source_pins (take 0 ss)) in
    omega arith
some_pins (u ∷ ss) (suc k) s at =
    let rest = some_pins ss k s at in
    let parts = length-append (source_pins u) (flat_map source_pins (take (suc k) ss)) in
    omega arith

last_at : (ss : List Source) (rest : List Pin) (k : ℕ) (s : Source) (front : List Pin) (p : Pin) → slice_get ss k ≡ Some s → source_pins s ≡ front ++ p ∷ []
    → slice_get (flat_map source_pins ss ++ rest) (up_to ss (suc k) - 1) ≡ Some p
last_at [] rest k s front p at is = absurd (none_some s at)
last_at (u ∷ ss) rest zero s front p at is =
    let own : source_pins u ≡ front ++ p ∷ [] = ap source_pins (some_same u s at) ∙ is in
    let size : length (source_pins u) ≡ length (front ++ p ∷ []) = ap (λ ps. length ps) own in
    let parts = length-append (source_pins u) (flat_map source_pins (take 0 ss)) in
    let none : length (flat_map source_pins (take 0 ss)) ≡ 0 = refl in
    let long = length-append front (p ∷ []) in
    let place : up_to (u ∷ ss) 1 - 1 ≡ length front = omega arith in
    let whole : (source_pins u ++ flat_map source_pins ss) ++ rest ≡ front ++ p ∷ (flat_map source_pins ss ++ rest) =
    append_assoc (source_pins u) (flat_map source_pins ss) rest ∙ (ap (λ ps. ps ++ (flat_map source_pins ss ++ rest)) own ∙ append_assoc front (p ∷ []) (flat_map source_pins ss ++ rest)) in
    ap₂ (λ ps n. slice_get ps n) whole place ∙ at_end front p (flat_map source_pins ss ++ rest)
last_at (u ∷ ss) rest (suc k) s front p at is =
    let there = last_at ss rest k s front p at is in
    let size : length (source_pins s) ≡ length (front ++ p ∷ []) = ap (λ ps. length ps) is in
    let long = length-append front (p ∷ []) in
    let some = some_pins ss k s at in
    let parts = length-append (source_pins u) (flat_map source_pins (take (suc k) ss)) in
    let place : up_to (u ∷ ss) (suc (suc k)) - 1 ≡ length (source_pins u) + (up_to ss (suc k) - 1) = omega arith in
    ap₂ (λ ps n. slice_get ps n) (append_assoc (source_pins u) (flat_map source_pins ss) rest) place ∙ (past (source_pins u) (flat_map source_pins ss ++ rest) (up_to ss (suc k) - 1) ∙ there)

-- the clock pin of a register is its last
clock_pin_at : (cells : Cells) (k : ℕ) (s : Source) (r : RegisterCell) (w : ℕ) → slice_get (sources cells) k ≡ Some s → s.kind ≡ OfRegister r → input_pin s.part 3 r.clock ≡ pin_at s.part 3 w ∷ []
    → slice_get (pins cells) (first_pin cells (k + 1) - 1) ≡ Some (pin_at s.part 3 w)
clock_pin_at cells k s r w at is clock =
    let own : source_pins s ≡ data_pins s.part r ++ pin_at s.part 3 w ∷ [] = ap (λ x. bit_pins_of s.part x ++ clock_pins_of s.part x) is ∙ ap (λ ps. data_pins s.part r ++ ps) clock in
    let e : suc k ≡ k + 1 = omega arith in
    subst (λ n. slice_get (pins cells) (first_pin cells n - 1) ≡ Some (pin_at s.part 3 w)) e
    (last_at (sources cells) (map pad_pin (output_pads cells)) k s (data_pins s.part r) (pin_at s.part 3 w) at own)

-- ---- clocked registers

module _ (c : Circuit) (feeds : List (Option ℕ)) (tells : Tells c feeds) (k : ℕ) (s : Source) (at : slice_get (sources c.cells) k ≡ Some s) (r : RegisterCell) (is : s.kind ≡ OfRegister r) where
  abbrev place : ℕ
  place = first_pin c.cells (k + 1) - 1

  abbrev Clocked : Type 0
  Clocked = (p : Pin) × (In (clock_pins s) p × FedByClock c p)

  clocks : clock_pins s ≡ input_pin s.part 3 r.clock
  clocks = ap (clock_pins_of s.part) is

  clocked_by : (x : Input) → r.clock ≡ x → (takes_wire x && is_clock_feed (feed_source c.cells feeds place)) ≡ true → Clocked
  clocked_by (InputWire w) e h =
      let own : input_pin s.part 3 r.clock ≡ pin_at s.part 3 w ∷ [] = ap (input_pin s.part 3) e in
      (pin_at s.part 3 w, (subst (λ ps. In ps (pin_at s.part 3 w)) (sym (clocks ∙ own)) (inl refl), clocked c feeds tells place (pin_at s.part 3 w) (clock_pin_at c.cells k s r w at is own) h))
  clocked_by (InputNotWire w) e h =
      let own : input_pin s.part 3 r.clock ≡ pin_at s.part 3 w ∷ [] = ap (input_pin s.part 3) e in
      (pin_at s.part 3 w, (subst (λ ps. In ps (pin_at s.part 3 w)) (sym (clocks ∙ own)) (inl refl), clocked c feeds tells place (pin_at s.part 3 w) (clock_pin_at c.cells k s r w at is own) h))
  clocked_by InputZero e h = absurd (true_false (sym h))
  clocked_by InputOne e h = absurd (true_false (sym h))

  one_clock : (w : ℕ) (p : Pin) → In (pin_at s.part 3 w ∷ []) p → pin_at s.part 3 w ≡ p
  one_clock w p i = elim i [ inl e ↦ e | inr j ↦ absurd j ]

  by_clock : (x : Input) → r.clock ≡ x → Clocked → (takes_wire x && is_clock_feed (feed_source c.cells feeds place)) ≡ true
  by_clock (InputWire w) e h =
      let own : input_pin s.part 3 r.clock ≡ pin_at s.part 3 w ∷ [] = ap (input_pin s.part 3) e in
      let same : pin_at s.part 3 w ≡ h.0 = one_clock w h.0 (subst (λ ps. In ps h.0) (clocks ∙ own) h.1.0) in
      is_clocked_at c feeds tells place (pin_at s.part 3 w) (clock_pin_at c.cells k s r w at is own) (subst (FedByClock c) (sym same) h.1.1)
  by_clock (InputNotWire w) e h =
      let own : input_pin s.part 3 r.clock ≡ pin_at s.part 3 w ∷ [] = ap (input_pin s.part 3) e in
      let same : pin_at s.part 3 w ≡ h.0 = one_clock w h.0 (subst (λ ps. In ps h.0) (clocks ∙ own) h.1.0) in
      is_clocked_at c feeds tells place (pin_at s.part 3 w) (clock_pin_at c.cells k s r w at is own) (subst (FedByClock c) (sym same) h.1.1)
  by_clock InputZero e h = absurd (subst (λ ps. In ps h.0) (clocks ∙ ap (input_pin s.part 3) e) h.1.0)
  by_clock InputOne e h = absurd (subst (λ ps. In ps h.0) (clocks ∙ ap (input_pin s.part 3) e) h.1.0)

  pub register_clocked : is_clocked c.cells feeds k r ≡ true → Clocked
  register_clocked h = clocked_by r.clock refl h

  pub clocked_register : Clocked → is_clocked c.cells feeds k r ≡ true
  clocked_register h = by_clock r.clock refl h

-- ---- the least

module _ (c : Circuit) (feeds : List (Option ℕ)) (read : List Bool) (tells : Tells c feeds) (are : AreReadParts c.cells feeds read) where
  flag_unclocked : (k : ℕ) (s : Source) (kind : Kind) → slice_get (sources c.cells) k ≡ Some s → s.kind ≡ kind → get_or read k false ≡ true → kind_unclocked c.cells feeds k kind ≡ true → IsUnclocked c s.part
  flag_unclocked k s (OfTable t) at is flag h = absurd (true_false (sym h))
  flag_unclocked k s (OfRegister r) at is flag h = record {
    source = s;
    register = r;
    is = refl;
    read = record { listed = get_in (sources c.cells) k s at; read = flag_reads c feeds read tells are k s at flag };
    is_register = is;
    unclocked = λ p i f. true_false (sym (clocked_register c feeds tells k s at r is (p, (i, f))) ∙ not_true (is_clocked c.cells feeds k r) h);
  }
  flag_unclocked k s OfInput at is flag h = absurd (true_false (sym h))
  flag_unclocked k s OfClock at is flag h = absurd (true_false (sym h))

  flagged_is : (k : ℕ) (s : Source) → slice_get (sources c.cells) k ≡ Some s → unclocked_at c.cells feeds read k ≡ true → IsUnclocked c s.part
  flagged_is k s at h =
      let parts = both (get_or read k false) (kind_unclocked c.cells feeds k s.kind) (sym (ap (source_unclocked c.cells feeds read k) at) ∙ h) in
      flag_unclocked k s s.kind at refl parts.0 parts.1

  abbrev Seen : PartRef → Type 0
  Seen part = (k : ℕ) × ((s : Source) × ((slice_get (sources c.cells) k ≡ Some s) × ((s.part ≡ part) × (unclocked_at c.cells feeds read k ≡ true))))

  is_flagged : (part : PartRef) → IsUnclocked c part → Seen part
  is_flagged part u =
      let k = read_flagged c feeds read tells are u.source u.read.read in
      let still : not (is_clocked c.cells feeds k.0 u.register) ≡ true = fails (is_clocked c.cells feeds k.0 u.register) (λ h.
      let p = register_clocked c feeds tells k.0 u.source k.1.0 u.register u.is_register h in
      u.unclocked p.0 p.1.0 p.1.1) in
      let kind : kind_unclocked c.cells feeds k.0 u.source.kind ≡ true = ap (kind_unclocked c.cells feeds k.0) u.is_register ∙ still in
      (k.0, (u.source, (k.1.0, (u.is, ap (source_unclocked c.cells feeds read k.0) k.1.0 ∙ ap₂ (λ a b. a && b) k.1.1 kind))))

  no_part : ((i : ℕ) → i < length (sources c.cells) → unclocked_at c.cells feeds read i ≡ true → ⊥) → (x : Refusal) → RegistersUnclocked c x → ⊥
  no_part none _ (unclocked part least) = (let s = is_flagged part least.has in none s.0 (slice_get_within (sources c.cells) s.0 s.1.0 s.1.1.0) s.1.1.1.1)

  pub part_found : (r : Option ℕ) → LeastFlagged part_order (sources c.cells) (λ k. unclocked_at c.cells feeds read k ≡ true) (length (sources c.cells)) r → FindsPart c (RegistersUnclocked c) NotClocked r
  part_found None none = no_part none
  part_found (Some n) least = (
    least.item,
    (
      least.numbered,
      unclocked least.item.part (record {
        has = flagged_is n least.item least.numbered least.flagged;
        least = λ part h.
            let s = is_flagged part h in
            subst (λ x. part_cmp least.item.part x ≢ Greater) s.1.1.1.0 (least.least s.0 s.1.0 (slice_get_within (sources c.cells) s.0 s.1.0 s.1.1.0) s.1.1.0 s.1.1.1.1);
      }),
    ),
  )

pub unclocked_answer : (cells : Cells) (feeds : List (Option ℕ)) (read : List Bool) (r : Option ℕ) → AreReadParts cells feeds read
    → LeastFlagged part_order (sources cells) (λ k. unclocked_at cells feeds read k ≡ true) (length (sources cells)) r → (c : Circuit) → c.cells ≡ cells → Tells c feeds → FindsPart c (RegistersUnclocked c) NotClocked r
unclocked_answer cells feeds read r are least c same tells =
    part_found c feeds read tells (subst (λ x. AreReadParts x feeds read) (sym same) are) r
    (subst (λ x. LeastFlagged part_order (sources x) (λ k. unclocked_at x feeds read k ≡ true) (length (sources x)) r) (sym same) least)
