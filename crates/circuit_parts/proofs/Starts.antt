-- Where the pins of each part begin.
use Rattle.std.proofs.Common.{◌≡◌, ℕ, zero, suc, ◌+◌, ◌-◌, ◌<◌, ◌≤◌, List, [], ◌∷◌, ◌++◌, length, get_or, drop, take, map, Some, option_map, refl, sym, ap, ◌∙◌, arith, Bor}
use Rattle.std.specs.Prelude.{slice_get, slice_range}
use Rattle.std.specs.List.{flat_map}
use Rattle.std.proofs.lemmas.List.{append-nil, append_assoc, length-append, drop_more, drop_all, drop_at, take_at, take_all, take_more, take-append-drop}
use Rattle.std.proofs.lemmas.Option.{get_or_from_slice_get}
use Rattle.std.proofs.lemmas.List.Concat.{flat_map-append}
use Rattle.circuit.specs.Cells.{PadCell, Cells}
use Rattle.circuit.specs.Parts.{Source, sources, output_pads}
use Rattle.circuit.specs.Pins.{Pin, pad_pin, pins, source_pins}
use Rattle.circuit_parts.specs.Flat.{AreFew, AreFlat, first_pin, starts_from}

-- one part more: where it begins, and its pins
pub starts_more : (sources : List Source) (i : ℕ) (d : Source) (pins next : List Pin) (starts more whole : List ℕ) → i < length sources
    → starts ++ starts_from (length pins) (drop i sources) ≡ whole → more ≡ starts ++ length pins ∷ [] → next ≡ pins ++ source_pins (get_or sources i d)
    → more ++ starts_from (length next) (drop (i + 1) sources) ≡ whole
starts_more sources i d pins next starts more whole below all is has =
    let rest = drop (i + 1) sources in
    let n : length next ≡ length pins + length (source_pins (get_or sources i d)) = ap (λ ps. length ps) has ∙ length-append pins (source_pins (get_or sources i d)) in
    ap (λ k. more ++ starts_from k rest) n
    ∙ (ap (λ zs. zs ++ starts_from (length pins + length (source_pins (get_or sources i d))) rest) is
    ∙ (append_assoc starts (length pins ∷ []) (starts_from (length pins + length (source_pins (get_or sources i d))) rest)
    ∙ (ap (λ zs. starts ++ zs) (sym (ap (starts_from (length pins)) (drop_more sources i d below))) ∙ all)))

pub starts_all : (sources : List Source) (i n : ℕ) (starts more whole : List ℕ) → length sources ≤ i → starts ++ starts_from n (drop i sources) ≡ whole → more ≡ starts ++ n ∷ [] → more ≡ whole
starts_all sources i n starts more whole over all is = is ∙ (ap (λ zs. starts ++ zs) (sym (ap (starts_from n) (drop_all i sources over))) ∙ all)

-- the pins so far are few
pub pins_few : (sources : List Source) (i most : ℕ) (pins : List Pin) → pins ++ flat_map source_pins (drop i sources) ≡ flat_map source_pins sources → length (flat_map source_pins sources) < most → length pins < most
pins_few sources i most pins all few =
    let parts = length-append pins (flat_map source_pins (drop i sources)) in
    let whole : length (pins ++ flat_map source_pins (drop i sources)) ≡ length (flat_map source_pins sources) = ap (λ ps. length ps) all in
    omega arith

-- ---- reading them

pub start_at : (n k : ℕ) (sources : List Source) → k ≤ length sources → get_or (starts_from n sources) k 0 ≡ n + length (flat_map source_pins (take k sources))
start_at n zero [] h = omega arith
start_at n zero (s ∷ ss) h = omega arith
start_at n (suc k) [] h = absurd (omega arith)
start_at n (suc k) (s ∷ ss) h =
    let rest = start_at (n + length (source_pins s)) k ss (omega arith) in
    let parts = length-append (source_pins s) (flat_map source_pins (take k ss)) in
    omega arith

pub length_starts : (n : ℕ) (sources : List Source) → length (starts_from n sources) ≡ length sources + 1
length_starts n [] = refl
length_starts n (s ∷ ss) = (let rest = length_starts (n + length (source_pins s)) ss in omega arith)

-- ---- the pins of a part among all

cut_middle : (a b r : List Pin) → slice_range (a ++ (b ++ r)) (length a) (length (a ++ b)) ≡ b
cut_middle a b r =
    let n : length b ≡ length (a ++ b) - length a = omega (arith, length-append a b) in
    ap (take (length (a ++ b) - length a)) (drop_at a (b ++ r) (length a) refl) ∙ take_at b r (length (a ++ b) - length a) n

pub cut_part : (sources : List Source) (rest : List Pin) (k : ℕ) (d : Source) → k < length sources
    → slice_range (flat_map source_pins sources ++ rest) (length (flat_map source_pins (take k sources))) (length (flat_map source_pins (take (k + 1) sources))) ≡ source_pins (get_or sources k d)
cut_part sources rest k d below =
    let a = flat_map source_pins (take k sources) in
    let b = source_pins (get_or sources k d) in
    let behind = flat_map source_pins (drop (k + 1) sources) in
    let whole : flat_map source_pins sources ≡ a ++ (b ++ behind) =
    ap (flat_map source_pins) (sym (take-append-drop k sources)) ∙ (flat_map-append source_pins (take k sources) (drop k sources) ∙ ap (λ ss. a ++ flat_map source_pins ss) (drop_more sources k d below)) in
    let up_to : flat_map source_pins (take (k + 1) sources) ≡ a ++ b =
    ap (flat_map source_pins) (take_more sources k d below) ∙ (flat_map-append source_pins (take k sources) (get_or sources k d ∷ []) ∙ ap (λ ps. a ++ ps) (append-nil b)) in
    ap (λ ps. slice_range (ps ++ rest) (length a) (length (flat_map source_pins (take (k + 1) sources)))) whole
    ∙ (ap (λ ps. slice_range ((a ++ (b ++ behind)) ++ rest) (length a) (length ps)) up_to
    ∙ (ap (λ ps. slice_range ps (length a) (length (a ++ b))) (append_assoc a (b ++ behind) rest ∙ ap (λ ps. a ++ ps) (append_assoc b behind rest))
    ∙ cut_middle a b (behind ++ rest)))

map_now : (pads : List (Bor PadCell)) → map (λ pad. pad_pin pad.now) pads ≡ map pad_pin (map (λ pad. pad.now) pads)
map_now [] = refl
map_now (pad ∷ pads) = ap (λ ps. pad_pin pad.now ∷ ps) (map_now pads)

-- lists that are gathered are those of the cells
pub flat_made : (cells : Cells) (ss : List Source) (ps : List Pin) (pads : List (Bor PadCell)) (starts : List ℕ) → AreFew cells → ss ≡ sources cells
    → ps ≡ flat_map source_pins ss ++ map (λ pad. pad_pin pad.now) pads → map (λ pad. pad.now) pads ≡ output_pads cells → starts ≡ starts_from 0 ss
    → AreFlat cells ss ps (map (λ pad. pad.now) pads) starts
flat_made cells ss ps pads starts few sources_are pins_are pads_are starts_are = record {
  few = few;
  sources_are = sources_are;
  pins_are = pins_are ∙ (ap (λ rest. flat_map source_pins ss ++ rest) (map_now pads ∙ ap (map pad_pin) pads_are) ∙ ap (λ xs. flat_map source_pins xs ++ map pad_pin (output_pads cells)) sources_are);
  pads_are = pads_are;
  starts_are = starts_are ∙ ap (starts_from 0) sources_are;
}

first_below : (v : Cells) (k : ℕ) → first_pin v k ≤ length (pins v)
first_below v k =
    let split : flat_map source_pins (sources v) ≡ flat_map source_pins (take k (sources v)) ++ flat_map source_pins (drop k (sources v)) = ap (flat_map source_pins) (sym (take-append-drop k (sources v))) ∙ flat_map-append source_pins (take k (sources v)) (drop k (sources v)) in
    let inner = length-append (flat_map source_pins (take k (sources v))) (flat_map source_pins (drop k (sources v))) in
    let outer = length-append (flat_map source_pins (sources v)) (map pad_pin (output_pads v)) in
    let same = ap (λ xs. length xs) split in
    omega arith

element : (ss : List Source) (k : ℕ) → k < length ss → (s : Source) × (slice_get ss k ≡ Some s)
element [] k h = absurd (omega arith)
element (s ∷ ss) zero h = (s, refl)
element (s ∷ ss) (suc k) h = element ss k (omega arith)

-- the pins of a part stand in a row
pub pins_cut : (v : Cells) (k : ℕ) → k < length (sources v) → Some (slice_range (pins v) (first_pin v k) (first_pin v (k + 1))) ≡ option_map source_pins (slice_get (sources v) k)
pins_cut v k below =
    let e = element (sources v) k below in
    let same : get_or (sources v) k e.0 ≡ e.0 = get_or_from_slice_get (sources v) k e.0 e.0 e.1 in
    ap (λ ps. Some ps) (cut_part (sources v) (map pad_pin (output_pads v)) k e.0 below ∙ ap source_pins same) ∙ sym (ap (option_map source_pins) e.1)

pub first_rises : (v : Cells) (k : ℕ) → k < length (sources v) → first_pin v k ≤ first_pin v (k + 1)
first_rises v k below =
    let e = element (sources v) k below in
    let d = get_or (sources v) k e.0 in
    let up_to = ap (flat_map source_pins) (take_more (sources v) k e.0 below) ∙ flat_map-append source_pins (take k (sources v)) (d ∷ []) in
    let long = ap (λ xs. length xs) up_to in
    let parts = length-append (flat_map source_pins (take k (sources v))) (flat_map source_pins (d ∷ [])) in
    omega arith

-- those of output pads come last
pub pads_cut : (v : Cells) → drop (first_pin v (length (sources v))) (pins v) ≡ map pad_pin (output_pads v)
pads_cut v = drop_at (flat_map source_pins (sources v)) (map pad_pin (output_pads v)) (first_pin v (length (sources v))) (ap (λ ss. length (flat_map source_pins ss)) (sym (take_all (length (sources v)) (sources v) (omega arith))))

-- what is kept tells where pins begin
pub start_kept : (cells v : Cells) (ss : List Source) (ps : List Pin) (pads : List PadCell) (starts : List ℕ) (k : ℕ) → AreFlat cells ss ps pads starts → cells ≡ v → k ≤ length (sources v)
    → (k < length starts) × ((get_or starts k 0 ≡ first_pin v k) × (first_pin v k ≤ length (pins v)))
start_kept cells v ss ps pads starts k are is below =
    let starts_are : starts ≡ starts_from 0 (sources v) = are.starts_are ∙ ap (λ x. starts_from 0 (sources x)) is in
    let at = start_at 0 k (sources v) below in
    let long = ap (λ xs. length xs) starts_are in
    let many = length_starts 0 (sources v) in
    (omega arith, (ap (λ xs. get_or xs k 0) starts_are ∙ omega arith, first_below v k))
