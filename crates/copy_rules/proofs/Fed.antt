-- Pins that parts of one triple feed.
use Rattle.std.proofs.Common.{◌≡◌, ◌↔◌, ℕ, ◌+◌, ◌-◌, ◌<◌, Bool, List, [], ◌++◌, length, get_or, drop, Option, None, Some, inl, inr, option_map, option_and_then, refl, sym, ap, subst, ◌∙◌, arith}
use Rattle.std.specs.Prelude.{IsTrue, slice_get, slice_range}
use Rattle.std.proofs.lemmas.List.{length-take, length-drop, get_or-take, get_or-drop}
use Rattle.std.proofs.lemmas.Option.{get_or_from_slice_get, slice_get-get_or, slice_get_within}
use Rattle.words.specs.Members.{In}
use Rattle.records.specs.Side.{Side}
use Rattle.links.proofs.Members.{in_either}
use Rattle.circuit.specs.Cells.{Cells, Input, InputWire, InputNotWire, InputZero, InputOne, RegisterCell}
use Rattle.circuit.specs.Parts.{PartRef, Kind, OfTable, OfRegister, OfInput, OfClock, Source, sources}
use Rattle.circuit.specs.Pins.{Pin, pin_at, input_pin, table_pins, data_pins, bit_pins_of, clock_pins_of, source_pins, pins}
use Rattle.circuit.specs.Circuits.{Circuit, Connects}
use Rattle.circuit.specs.Registers.{FedAlike}
use Rattle.circuit_laws.proofs.Parts.{of_numbered}
use Rattle.circuit_laws.proofs.Refs.{pin_same}
use Rattle.circuit_parts.specs.Flat.{first_pin}
use Rattle.fabric_laws.proofs.Numbered.{get_in, number_there}
use Rattle.pin_feeds.proofs.Connected.{connects_told}
use Rattle.part_triples.specs.Numbers.{numbers_of}
use Rattle.table_masks.specs.Least.{ShowsFeeds}
use Rattle.copy_rules.specs.Feeds.{IsFeedOf, IsNumbered, SameFeeds}

none_source : (s : Source) → None ≡ Some s → ⊥
none_source s h = (let no : ⊥ = cc in no)

module _ (c : Circuit) (a b : Option ℕ) (x y : Pin)
    (feeds_x : (s : Source) → Connects c s x ↔ (option_and_then (slice_get (sources c.cells)) a ≡ Some s))
    (feeds_y : (s : Source) → Connects c s y ↔ (option_and_then (slice_get (sources c.cells)) b ≡ Some s)) where
  abbrev source_by : Option ℕ → Option Source
  source_by k = option_and_then (slice_get (sources c.cells)) k

  alike : (i j : Option ℕ) → a ≡ i → b ≡ j → SameFeeds c.side (sources c.cells) i j → FedAlike c x y
  alike None j e f h = absurd h
  alike (Some i) None e f h = absurd h
  alike (Some i) (Some j) e f h = record {
    first = h.first;
    second = h.second;
    feeds_first = (feeds_x h.first).1 (ap source_by e ∙ h.first_at);
    feeds_second = (feeds_y h.second).1 (ap source_by f ∙ h.second_at);
    same = h.same;
  }

  copies : (i j : Option ℕ) → a ≡ i → b ≡ j → FedAlike c x y → SameFeeds c.side (sources c.cells) i j
  copies None j e f h = none_source h.first (sym (ap source_by e) ∙ (feeds_x h.first).0 h.feeds_first)
  copies (Some i) None e f h = none_source h.second (sym (ap source_by f) ∙ (feeds_y h.second).0 h.feeds_second)
  copies (Some i) (Some j) e f h = record {
    first = h.first;
    second = h.second;
    first_at = sym (ap source_by e) ∙ (feeds_x h.first).0 h.feeds_first;
    second_at = sym (ap source_by f) ∙ (feeds_y h.second).0 h.feeds_second;
    same = h.same;
  }

  -- what feeds two pins tells whether they are fed alike
  pub alike_by : (r : Bool) → IsTrue r ↔ SameFeeds c.side (sources c.cells) a b → IsTrue r ↔ FedAlike c x y
  alike_by r told = ((λ h. alike a b refl refl (told.0 h)), (λ f. told.1 (copies a b refl refl f)))

-- two pins by their numbers
pub alike_told : (cells : Cells) (feeds numbers : List (Option ℕ)) (i j : ℕ) (a b : Option ℕ) (r : Bool) (c : Circuit) → ShowsFeeds c cells feeds numbers
    → a ≡ get_or feeds i None → b ≡ get_or feeds j None
    → ((side : Side) → numbers ≡ numbers_of side (sources cells) → IsTrue r ↔ SameFeeds side (sources cells) a b)
    → (x y : Pin) → slice_get (pins cells) i ≡ Some x → slice_get (pins cells) j ≡ Some y → IsTrue r ↔ FedAlike c x y
alike_told cells feeds numbers i j a b r c shows a_is b_is told x y at_i at_j =
    let back = sym shows.cells_are in
    let own = subst (λ v. IsTrue r ↔ SameFeeds c.side (sources v) a b) back (told c.side shows.numbers_are) in
    let own_i : slice_get (pins c.cells) i ≡ Some x = subst (λ v. slice_get (pins v) i ≡ Some x) back at_i in
    let own_j : slice_get (pins c.cells) j ≡ Some y = subst (λ v. slice_get (pins v) j ≡ Some y) back at_j in
    alike_by c a b x y
    (λ s. subst (λ k. Connects c s x ↔ (option_and_then (slice_get (sources c.cells)) k ≡ Some s)) (sym a_is) (connects_told c feeds shows.tells i x s own_i))
    (λ s. subst (λ k. Connects c s y ↔ (option_and_then (slice_get (sources c.cells)) k ≡ Some s)) (sym b_is) (connects_told c feeds shows.tells j y s own_j)) r own

-- ---- the pin of a part with a number

input_part : (part : PartRef) (n : ℕ) (x : Input) (p : Pin) → In (input_pin part n x) p → p.ref.part ≡ part
input_part part n (InputWire w) p i = elim i [ inl e ↦ ap (λ z. z.ref.part) (sym e) | inr j ↦ absurd j ]
input_part part n (InputNotWire w) p i = elim i [ inl e ↦ ap (λ z. z.ref.part) (sym e) | inr j ↦ absurd j ]
input_part part n InputZero p i = absurd i
input_part part n InputOne p i = absurd i

data_part : (part : PartRef) (r : RegisterCell) (p : Pin) → In (data_pins part r) p → p.ref.part ≡ part
data_part part r p i = elim (in_either (input_pin part 0 r.input ++ input_pin part 1 r.enable) (input_pin part 2 r.reset) p i) [
  | inl j ↦ elim (in_either (input_pin part 0 r.input) (input_pin part 1 r.enable) p j) [
    | inl k ↦ input_part part 0 r.input p k
    | inr k ↦ input_part part 1 r.enable p k
  ]
  | inr j ↦ input_part part 2 r.reset p j
]

pin_part : (part : PartRef) (k : Kind) (p : Pin) → In (bit_pins_of part k ++ clock_pins_of part k) p → p.ref.part ≡ part
pin_part part (OfTable t) p i = elim (in_either (table_pins part t) [] p i) [
  | inl j ↦ (let g = of_numbered (pin_at part) 0 t.pins p j in ap (λ z. z.ref.part) (sym g.1.1.1.0))
  | inr j ↦ absurd j
]
pin_part part (OfRegister r) p i = elim (in_either (data_pins part r) (input_pin part 3 r.clock) p i) [
  | inl j ↦ data_part part r p j
  | inr j ↦ input_part part 3 r.clock p j
]
pin_part part OfInput p i = absurd i
pin_part part OfClock p i = absurd i

-- an entry of a range
range_at : {X : Type 0} (xs : List X) (f g i : ℕ) (d : X) → i < g - f → get_or (slice_range xs f g) i d ≡ get_or xs (f + i) d
range_at xs f g i d h = get_or-take (g - f) (drop f xs) i d h ∙ get_or-drop f xs i d

some_pins : (a b : List Pin) → Some a ≡ Some b → a ≡ b
some_pins a b h = cc

within_range : (n f g i : ℕ) → i < n → n ≡ g - f → i < g - f
within_range n f g i h e = omega arith

-- a pin in a row stands among all
in_range : (xs row : List Pin) (f g i : ℕ) (p : Pin) → row ≡ slice_range xs f g → slice_get row i ≡ Some p → (i < g - f) × (f + i < length xs)
in_range xs row f g i p is at =
    let below : i < length row = slice_get_within row i p at in
    let long : length row ≡ length (slice_range xs f g) = ap (λ ps. length ps) is in
    let a = length-take (g - f) (drop f xs) in
    let b = length-drop f xs in
    ((let x : i < g - f = omega arith in x), (let y : f + i < length xs = omega arith in y))

among : (xs row : List Pin) (f g i : ℕ) (p : Pin) → row ≡ slice_range xs f g → slice_get row i ≡ Some p → slice_get xs (f + i) ≡ Some p
among xs row f g i p is at =
    let inside = in_range xs row f g i p is at in
    slice_get-get_or xs (f + i) p inside.1
    ∙ ap (λ (x : Pin). Some x) (sym (range_at xs f g i p inside.0) ∙ (ap (λ ps. get_or ps i p) (sym is) ∙ get_or_from_slice_get row i p p at))

module _ (cells : Cells) (feeds : List (Option ℕ)) (k n : ℕ) (row : List Pin) (row_is : Some row ≡ option_map source_pins (slice_get (sources cells) k))
    (range : row ≡ slice_range (pins cells) (first_pin cells k) (first_pin cells (k + 1))) where
  own_row : (v : Cells) → v ≡ cells → (s : Source) → slice_get (sources v) k ≡ Some s → row ≡ source_pins s
  own_row v e s at = some_pins row (source_pins s) (row_is ∙ ap (option_map source_pins) (ap (λ x. slice_get (sources x) k) (sym e) ∙ at))

  pub no_feed : IsNumbered row n None → (c : Circuit) → c.cells ≡ cells → IsFeedOf c feeds k n None
  no_feed none c e tells s p at there is a =
      let i = number_there row p (subst (λ ps. In ps p) (sym (own_row c.cells e s at)) there) in
      absurd (none i.0 p i.1 is)

  pub feed_there : (i : ℕ) (r : Option ℕ) → IsNumbered row n (Some i) → r ≡ get_or feeds (first_pin cells k + i) None → (c : Circuit) → c.cells ≡ cells → IsFeedOf c feeds k n r
  feed_there i r one r_is c e tells s p at there is a =
      let same = own_row c.cells e s at in
      let q = one.0 in
      let q_row : In (source_pins s) q = subst (λ ps. In ps q) same (get_in row i q one.1.0) in
      let q_at : slice_get (pins cells) (first_pin cells k + i) ≡ Some q = among (pins cells) row (first_pin cells k) (first_pin cells (k + 1)) i q range one.1.0 in
      let q_own : slice_get (pins c.cells) (first_pin cells k + i) ≡ Some q = subst (λ v. slice_get (pins v) (first_pin cells k + i) ≡ Some q) (sym e) q_at in
      let j = number_there row p (subst (λ ps. In ps p) (sym same) there) in
      let p_at : slice_get (pins cells) (first_pin cells k + j.0) ≡ Some p = among (pins cells) row (first_pin cells k) (first_pin cells (k + 1)) j.0 p range j.1 in
      let p_own : slice_get (pins c.cells) (first_pin cells k + j.0) ≡ Some p = subst (λ v. slice_get (pins v) (first_pin cells k + j.0) ≡ Some p) (sym e) p_at in
      let part : q.ref.part ≡ p.ref.part = pin_part s.part s.kind q q_row ∙ sym (pin_part s.part s.kind p there) in
      let number : q.ref.pin ≡ p.ref.pin = one.1.1 ∙ sym is in
      let one_pin : q ≡ p = pin_same c.cells tells.formed.names q p (get_in (pins c.cells) (first_pin cells k + i) q q_own) (get_in (pins c.cells) (first_pin cells k + j.0) p p_own) (λ z. record { part = part z; pin = number z }) in
      subst (λ f. Connects c a p ↔ (option_and_then (slice_get (sources c.cells)) f ≡ Some a)) (sym r_is)
      (connects_told c feeds tells (first_pin cells k + i) p a (subst (λ (z : Pin). slice_get (pins c.cells) (first_pin cells k + i) ≡ Some z) one_pin q_own))

-- the place of a pin in a row among all
pub first_room : (xs row : List Pin) (f g i : ℕ) (p : Pin) → row ≡ slice_range xs f g → slice_get row i ≡ Some p → f + i < length xs
first_room xs row f g i p is at = (in_range xs row f g i p is at).1
