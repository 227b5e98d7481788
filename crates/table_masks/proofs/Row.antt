-- The pins of a table among all, and what feeds them.
use Rattle.std.proofs.Common.{◌≡◌, ◌↔◌, ℕ, zero, suc, ◌+◌, ◌-◌, ◌^◌, ◌<◌, ◌≤◌, List, [], ◌∷◌, ◌++◌, length, map, get_or, take, drop, Option, None, Some, ◌⊎◌, inl, inr, option_map, option_and_then, refl, sym, ap, subst, ◌∙◌, arith}
use Rattle.std.specs.Prelude.{slice_get, slice_range}
use Rattle.std.specs.List.{flat_map}
use Rattle.std.proofs.lemmas.List.{append-nil, length-append, length-take, length-drop, take_more, take-append-drop, get_or-take, get_or-drop}
use Rattle.std.proofs.lemmas.List.Concat.{flat_map-append}
use Rattle.std.proofs.lemmas.Option.{get_or_from_slice_get, slice_get-get_or, slice_get_within}
use Rattle.words.specs.Members.{In}
use Rattle.links.specs.Links.{Fed}
use Rattle.circuit.specs.Cells.{TableCell, RegisterCell, Cells}
use Rattle.circuit.specs.Parts.{Kind, OfTable, OfRegister, Pad, PartRef, Source, sources, numbered, table_source, register_source, output_pads}
use Rattle.circuit.specs.Pins.{Pin, pin_at, pad_pin, pins, table_pins, source_pins, bit_pins_of, clock_pins_of}
use Rattle.circuit.specs.Circuits.{Circuit}
use Rattle.circuit.specs.WellFormed.{IsWellFormed}
use Rattle.links.proofs.Members.{in_either}
use Rattle.circuit_laws.proofs.Parts.{Fits, of_sources, of_numbered, of_pad_by, kind_fits}
use Rattle.circuit_laws.proofs.Sound.{Sound, FeedsFrom, at_pin, to_pin}
use Rattle.circuit_parts.specs.Flat.{first_pin}
use Rattle.circuit_parts.proofs.Starts.{pins_cut}
use Rattle.fabric_laws.proofs.Numbered.{get_in}
use Rattle.pin_feeds.specs.Told.{Tells}
use Rattle.pin_feeds.specs.PinFeeds.{feed_source}
use Rattle.pin_feeds.proofs.Connected.{connects_told, fed_told}
use Rattle.rr_ids.specs.Domains.{domain_of}
use Rattle.rr_ids.specs.declared.domain.Domain.{Domain}
use Rattle.table_masks.specs.declared.table_pin.TablePin.{TablePin}
use Rattle.table_masks.specs.Masking.{FailsIn, LeastReached}
use Rattle.table_masks.specs.Pins.{PinsTold, fed_by}
use Rattle.table_masks.specs.Reaching.{Reaching, TableReaches}
use Rattle.table_masks.specs.Least.{Reached, ShowsFeeds}
use Rattle.table_masks.proofs.Tied.{fails_told, told_fails}

length_pins : (part : PartRef) (n : ℕ) (ws : List ℕ) → length (numbered (pin_at part) n ws) ≡ length ws
length_pins part n [] = refl
length_pins part n (w ∷ ws) = (let rest = length_pins part (suc n) ws in omega arith)

pin_numbered : (part : PartRef) (n : ℕ) (ws : List ℕ) (i : ℕ) (d : Pin) → i < length ws → get_or (numbered (pin_at part) n ws) i d ≡ pin_at part (n + i) (get_or ws i 0)
pin_numbered part n [] i d h = absurd (omega arith)
pin_numbered part n (w ∷ ws) zero d h = (let e : n ≡ n + 0 = omega arith in ap (λ m. pin_at part m w) e)
pin_numbered part n (w ∷ ws) (suc i) d h =
    (let e : suc n + i ≡ n + suc i = omega arith in pin_numbered part (suc n) ws i d (omega arith) ∙ ap (λ m. pin_at part m (get_or ws i 0)) e)

some_pins : (a b : List Pin) → Some a ≡ Some b → a ≡ b
some_pins a b h = cc

none_source : (a : Source) → None ≡ Some a → ⊥
none_source a h = (let no : ⊥ = cc in no)

first_below : (v : Cells) (k : ℕ) → first_pin v k ≤ length (pins v)
first_below v k =
    let split : flat_map source_pins (sources v) ≡ flat_map source_pins (take k (sources v)) ++ flat_map source_pins (drop k (sources v)) = ap (flat_map source_pins) (sym (take-append-drop k (sources v))) ∙ flat_map-append source_pins (take k (sources v)) (drop k (sources v)) in
    let inner = length-append (flat_map source_pins (take k (sources v))) (flat_map source_pins (drop k (sources v))) in
    let outer = length-append (flat_map source_pins (sources v)) (map pad_pin (output_pads v)) in
    let same = ap (λ xs. length xs) split in
    omega arith

-- the pins of a part are as many as the places between
next_first : (v : Cells) (k : ℕ) (s : Source) → slice_get (sources v) k ≡ Some s → first_pin v (k + 1) ≡ first_pin v k + length (source_pins s)
next_first v k s at =
    let below = slice_get_within (sources v) k s at in
    let same : get_or (sources v) k s ≡ s = get_or_from_slice_get (sources v) k s s at in
    let up_to : flat_map source_pins (take (k + 1) (sources v)) ≡ flat_map source_pins (take k (sources v)) ++ source_pins s =
    ap (flat_map source_pins) (take_more (sources v) k s below)
    ∙ (flat_map-append source_pins (take k (sources v)) (get_or (sources v) k s ∷ []) ∙ (ap (λ ps. flat_map source_pins (take k (sources v)) ++ ps) (append-nil (source_pins (get_or (sources v) k s))) ∙ ap (λ (z : Source). flat_map source_pins (take k (sources v)) ++ source_pins z) same)) in
    ap (λ ps. length ps) up_to ∙ length-append (flat_map source_pins (take k (sources v))) (source_pins s)

-- an entry of a range
range_at : {X : Type 0} (xs : List X) (f g i : ℕ) (d : X) → i < g - f → get_or (slice_range xs f g) i d ≡ get_or xs (f + i) d
range_at xs f g i d h = get_or-take (g - f) (drop f xs) i d h ∙ get_or-drop f xs i d

zero_and : (i : ℕ) → 0 + i ≡ i
zero_and i = omega arith

module _ (c : Circuit) (feeds : List (Option ℕ)) (tells : Tells c feeds) (k : ℕ) (s : Source) (t : TableCell) (at : slice_get (sources c.cells) k ≡ Some s) (is : s.kind ≡ OfTable t) where
  abbrev start : ℕ
  start = first_pin c.cells k

  abbrev end : ℕ
  end = first_pin c.cells (k + 1)

  abbrev row_feeds : List (Option ℕ)
  row_feeds = slice_range feeds start end

  abbrev fed : ℕ → Option Source
  fed = fed_by (sources c.cells) row_feeds

  own_pins : source_pins s ≡ table_pins s.part t
  own_pins = ap (λ (x : Kind). bit_pins_of s.part x ++ clock_pins_of s.part x) is ∙ append-nil (table_pins s.part t)

  row : slice_range (pins c.cells) start end ≡ table_pins s.part t
  row = some_pins (slice_range (pins c.cells) start end) (source_pins s) (pins_cut c.cells k (slice_get_within (sources c.cells) k s at) ∙ ap (option_map source_pins) at) ∙ own_pins

  end_is : end ≡ start + length t.pins
  end_is = next_first c.cells k s at ∙ ap (λ n. start + n) (ap (λ ps. length ps) own_pins ∙ length_pins s.part 0 t.pins)

  pub row_long : length row_feeds ≡ length t.pins
  row_long =
      let most = first_below c.cells (k + 1) in
      let all = tells.are.long in
      let e = end_is in
      let a = length-take (end - start) (drop start feeds) in
      let b = length-drop start feeds in
      omega arith

  abbrev pin : ℕ → Pin
  pin i = pin_at s.part i (get_or t.pins i 0)

  pin_there : (i : ℕ) → i < length t.pins → slice_get (pins c.cells) (start + i) ≡ Some (pin i)
  pin_there i below =
      let most = first_below c.cells (k + 1) in
      let e = end_is in
      let d = pin i in
      let inside : i < end - start = omega arith in
      slice_get-get_or (pins c.cells) (start + i) d (omega arith)
      ∙ ap (λ (x : Pin). Some x) (sym (range_at (pins c.cells) start end i d inside) ∙ (ap (λ ps. get_or ps i d) row ∙ (pin_numbered s.part 0 t.pins i d below ∙ ap (λ m. pin_at s.part m (get_or t.pins i 0)) (zero_and i))))

  fed_is : (i : ℕ) → i < length t.pins → fed i ≡ feed_source c.cells feeds (start + i)
  fed_is i below = (let e = end_is in let inside : i < end - start = omega arith in ap (option_and_then (slice_get (sources c.cells))) (range_at feeds start end i None inside))

  pub row_fed : (i : ℕ) (a : Source) → i < length t.pins → FeedsFrom c a (get_or t.pins i 0) ↔ (fed i ≡ Some a)
  row_fed i a below =
      let there = pin_there i below in
      let told = connects_told c feeds tells (start + i) (pin i) a there in (
        (λ f. fed_is i below ∙ told.0 (to_pin c a (pin i) (get_in (pins c.cells) (start + i) (pin i) there) f)),
        (λ h. at_pin c a (pin i) (told.1 (sym (fed_is i below) ∙ h))),
      )

  pub row_open : (i : ℕ) → i < length t.pins → fed i ≡ None → Fed c.routing (get_or t.pins i 0) → ⊥
  row_open i below none f = (let a = (fed_told c feeds tells (start + i) (pin i) (pin_there i below)).0 f in none_source a.0 (sym none ∙ (fed_is i below ∙ a.1)))

  sound : Sound c
  sound = record { clean = tells.clean; formed = tells.formed }

  one_table : (u : TableCell) → s.kind ≡ OfTable u → t ≡ u
  one_table u h = (let both : OfTable t ≡ OfTable u = sym is ∙ h in let same : t ≡ u = cc in same)

  module _ (list : List TablePin) (long : length list ≡ length t.pins) (told : PinsTold c.side fed list) (own : Domain) (own_is : domain_of own ≡ s.domain) where
    listed : In (sources c.cells) s
    listed = get_in (sources c.cells) k s at

    to_failing : (n : ℕ) → TableReaches c s n → (n < 2 ^ length list) × FailsIn t.word list own n
    to_failing n h =
        fails_told c sound s t listed is fed row_fed row_open list long told own own_is n (subst (λ (u : TableCell). Reaching c s u n) (sym (one_table h.0 h.1.0)) h.1.1)

    of_failing : (n : ℕ) → n < 2 ^ length list → FailsIn t.word list own n → TableReaches c s n
    of_failing n below f = (t, (is, told_fails c sound s t listed is fed row_fed row_open list long told own own_is n below f))

    pub least_told : (r : Option ℕ) → LeastReached t.word list own r → Reached c s r
    least_told None none = λ n h. (let f = to_failing n h in none n f.0 f.1)
    least_told (Some n) least = (of_failing n least.0 least.1, λ m less h. least.2 m less (to_failing m h).1)

-- no table fails nowhere
pub no_table : (c : Circuit) (s : Source) → ((t : TableCell) → s.kind ≡ OfTable t → ⊥) → Reached c s None
no_table c s other n h = other h.0 h.1.0

table_kind : (k : Kind) (t u : TableCell) → k ≡ OfTable t → k ≡ OfTable u → t ≡ u
table_kind k t u h g = (let both : OfTable t ≡ OfTable u = sym h ∙ g in let same : t ≡ u = cc in same)

no_register : (k : Kind) (t : TableCell) (r : RegisterCell) → k ≡ OfTable t → k ≡ OfRegister r → ⊥
no_register k t r h g = (let both : OfTable t ≡ OfRegister r = sym h ∙ g in let no : ⊥ = cc in no)

no_pad : (x : Source) (t : TableCell) → x.kind ≡ OfTable t → x.part.part ≡ Pad → Fits x.part.part x.kind → ⊥
no_pad x t h p f = (let g : Fits Pad (OfTable t) = subst (λ k. Fits Pad k) h (subst (λ q. Fits q x.kind) p f) in g)

-- a table has at most four pins
pub few_pins : (c : Circuit) → IsWellFormed c → (x : Source) (t : TableCell) → In (sources c.cells) x → x.kind ≡ OfTable t → length t.pins ≤ 4
few_pins c formed x t i h = elim (of_sources c.cells x i) [
  | inl s ↦ elim (in_either (numbered (table_source s.0) 0 s.0.tables) (numbered (register_source s.0) 0 s.0.registers) x s.1.1) [
    | inl j ↦ (let g = of_numbered (table_source s.0) 0 s.0.tables x j in
        subst (λ (u : TableCell). length u.pins ≤ 4) (table_kind x.kind g.1.0 t (sym (ap (λ (z : Source). z.kind) g.1.1.1.0)) h) (formed.sizes.few_pins s.0 g.1.0 s.1.0 g.1.1.0))
    | inr j ↦ (let g = of_numbered (register_source s.0) 0 s.0.registers x j in absurd (no_register x.kind t g.1.0 h (sym (ap (λ (z : Source). z.kind) g.1.1.1.0))))
  ]
  | inr p ↦ absurd (no_pad x t h (ap (λ (q : PartRef). q.part) (of_pad_by p.0 p.0.role x p.1.1).part) (kind_fits c.cells x i))
]

-- the answer of a table by itself
pub table_answer : (cells : Cells) (feeds numbers : List (Option ℕ)) (k : ℕ) (s : Source) (t : TableCell) (list : List TablePin) (own : Domain) (r : Option ℕ)
    → slice_get (sources cells) k ≡ Some s → s.kind ≡ OfTable t → domain_of own ≡ s.domain
    → length list ≡ length (slice_range feeds (first_pin cells k) (first_pin cells (k + 1)))
    → (c : Circuit) → ShowsFeeds c cells feeds numbers → PinsTold c.side (fed_by (sources cells) (slice_range feeds (first_pin cells k) (first_pin cells (k + 1)))) list
    → (length list ≤ 4 → LeastReached t.word list own r) → Reached c s r
table_answer cells feeds numbers k s t list own r at is own_is long c shows told least =
    let back = sym shows.cells_are in
    let own_at : slice_get (sources c.cells) k ≡ Some s = subst (λ x. slice_get (sources x) k ≡ Some s) back at in
    let own_long : length list ≡ length (slice_range feeds (first_pin c.cells k) (first_pin c.cells (k + 1))) = subst (λ x. length list ≡ length (slice_range feeds (first_pin x k) (first_pin x (k + 1)))) back long in
    let own_told : PinsTold c.side (fed_by (sources c.cells) (slice_range feeds (first_pin c.cells k) (first_pin c.cells (k + 1)))) list =
    subst (λ x. PinsTold c.side (fed_by (sources x) (slice_range feeds (first_pin x k) (first_pin x (k + 1)))) list) back told in
    let count : length list ≡ length t.pins = own_long ∙ row_long c feeds shows.tells k s t own_at is in
    least_told c feeds shows.tells k s t own_at is list count own_told own own_is r (least (subst (λ n. n ≤ 4) (sym count) (few_pins c shows.tells.formed s t (get_in (sources c.cells) k s own_at) is)))
