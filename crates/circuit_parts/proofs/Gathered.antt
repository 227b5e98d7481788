-- Lists that are gathered element by element, and what is left of them.
use Rattle.std.proofs.Common.{◌≡◌, ℕ, suc, ◌+◌, ◌<◌, ◌≤◌, Bool, true, false, List, [], ◌∷◌, ◌++◌, length, get_or, drop, map, filter, refl, sym, ap, subst, ◌∙◌, add-one, arith}
use Rattle.std.specs.List.{flat_map}
use Rattle.std.proofs.lemmas.List.{append-nil, append_assoc, length-append, drop_more, drop_all}
use Rattle.std.proofs.lemmas.List.Folds.{length-flat_map-take}
use Rattle.circuit.specs.Cells.{SliceCell, PadCell}
use Rattle.circuit.specs.Parts.{OfTable, Source, numbered, table_source, register_source, slice_sources, is_output}
use Rattle.circuit.specs.Cells.{TableCell}
use Rattle.circuit.specs.Pins.{pin_at, bit_pins_of, clock_pins_of, source_pins}

pub length_numbered : {X Y : Type 0} (make : ℕ → X → Y) (n : ℕ) (xs : List X) → length (numbered make n xs) ≡ length xs
length_numbered make n [] = refl
length_numbered make n (x ∷ xs) = (let rest = length_numbered make (suc n) xs in omega arith)

-- ---- what is made of numbered elements

numbered_next : {X Y : Type 0} (make : ℕ → X → Y) (xs : List X) (i : ℕ) (d : X) → i < length xs
    → numbered make i (drop i xs) ≡ make i (get_or xs i d) ∷ numbered make (i + 1) (drop (i + 1) xs)
numbered_next make xs i d below =
    ap (numbered make i) (drop_more xs i d below) ∙ ap (λ n. make i (get_or xs i d) ∷ numbered make n (drop (i + 1) xs)) (sym (add-one i))

pub numbered_more : {X Y : Type 0} (make : ℕ → X → Y) (xs : List X) (i : ℕ) (d : X) (ys more whole : List Y) → i < length xs
    → ys ++ numbered make i (drop i xs) ≡ whole → more ≡ ys ++ make i (get_or xs i d) ∷ []
    → more ++ numbered make (i + 1) (drop (i + 1) xs) ≡ whole
numbered_more make xs i d ys more whole below all is =
    let rest = numbered make (i + 1) (drop (i + 1) xs) in
    ap (λ zs. zs ++ rest) is ∙ (append_assoc ys (make i (get_or xs i d) ∷ []) rest ∙ (ap (λ zs. ys ++ zs) (sym (numbered_next make xs i d below)) ∙ all))

pub numbered_all : {X Y : Type 0} (make : ℕ → X → Y) (xs : List X) (i : ℕ) (ys whole : List Y) → length xs ≤ i → ys ++ numbered make i (drop i xs) ≡ whole → ys ≡ whole
numbered_all make xs i ys whole over all =
    sym (append-nil ys) ∙ (ap (λ zs. ys ++ zs) (sym (ap (numbered make i) (drop_all i xs over))) ∙ all)

-- ---- what is made of each element

pub flat_more : {X Y : Type 0} (f : X → List Y) (xs : List X) (i : ℕ) (d : X) (ys more whole : List Y) → i < length xs
    → ys ++ flat_map f (drop i xs) ≡ whole → more ≡ ys ++ f (get_or xs i d)
    → more ++ flat_map f (drop (i + 1) xs) ≡ whole
flat_more f xs i d ys more whole below all is =
    let rest = flat_map f (drop (i + 1) xs) in
    ap (λ zs. zs ++ rest) is ∙ (append_assoc ys (f (get_or xs i d)) rest ∙ (ap (λ zs. ys ++ zs) (sym (ap (flat_map f) (drop_more xs i d below))) ∙ all))

pub flat_all : {X Y : Type 0} (f : X → List Y) (xs : List X) (i : ℕ) (ys whole : List Y) → length xs ≤ i → ys ++ flat_map f (drop i xs) ≡ whole → ys ≡ whole
flat_all f xs i ys whole over all =
    sym (append-nil ys) ∙ (ap (λ zs. ys ++ zs) (sym (ap (flat_map f) (drop_all i xs over))) ∙ all)

-- ---- numbers that are few

pub slice_few : (slices : List SliceCell) (i : ℕ) (d : SliceCell) (most : ℕ) → i < length slices → length (flat_map slice_sources slices) < most → length (slice_sources (get_or slices i d)) < most
slice_few slices i d most below few = (let part = length-flat_map-take slice_sources slices i d below in omega arith)

pub tables_few : (s : SliceCell) (most : ℕ) → length (slice_sources s) < most → length s.tables < most
tables_few s most few =
    let parts = length-append (numbered (table_source s) 0 s.tables) (numbered (register_source s) 0 s.registers) in
    let tables = length_numbered (table_source s) 0 s.tables in
    omega arith

pub registers_few : (s : SliceCell) (most : ℕ) → length (slice_sources s) < most → length s.registers < most
registers_few s most few =
    let parts = length-append (numbered (table_source s) 0 s.tables) (numbered (register_source s) 0 s.registers) in
    let registers = length_numbered (register_source s) 0 s.registers in
    omega arith

pub source_few : (sources : List Source) (i : ℕ) (d : Source) (most : ℕ) → i < length sources → length (flat_map source_pins sources) < most → length (source_pins (get_or sources i d)) < most
source_few sources i d most below few = (let part = length-flat_map-take source_pins sources i d below in omega arith)

pub table_pins_few : (s : Source) (t : TableCell) (most : ℕ) → s.kind ≡ OfTable t → length (source_pins s) < most → length t.pins < most
table_pins_few s t most is few =
    let whole : length (bit_pins_of s.part (OfTable t) ++ clock_pins_of s.part (OfTable t)) < most = subst (λ k. length (bit_pins_of s.part k ++ clock_pins_of s.part k) < most) is few in
    let parts = length-append (numbered (pin_at s.part) 0 t.pins) [] in
    let pins = length_numbered (pin_at s.part) 0 t.pins in
    omega arith

-- ---- what passes a test

filter_first : {X : Type 0} (p : X → Bool) (x : X) (xs : List X) (b : Bool) → p x ≡ b → filter p (x ∷ xs) ≡ filter p (x ∷ []) ++ filter p xs
filter_first p x xs true e = rw e refl
filter_first p x xs false e = rw e refl

pub outputs_more : (pads : List PadCell) (i : ℕ) (d : PadCell) (ys more whole : List PadCell) → i < length pads
    → ys ++ filter (λ p. is_output p.role) (drop i pads) ≡ whole → more ≡ ys ++ filter (λ p. is_output p.role) (get_or pads i d ∷ [])
    → more ++ filter (λ p. is_output p.role) (drop (i + 1) pads) ≡ whole
outputs_more pads i d ys more whole below all is =
    let test = λ (p : PadCell). is_output p.role in
    let x = get_or pads i d in
    let rest = filter test (drop (i + 1) pads) in
    let next : filter test (drop i pads) ≡ filter test (x ∷ []) ++ rest = ap (filter test) (drop_more pads i d below) ∙ filter_first test x (drop (i + 1) pads) (test x) refl in
    ap (λ zs. zs ++ rest) is ∙ (append_assoc ys (filter test (x ∷ [])) rest ∙ (ap (λ zs. ys ++ zs) (sym next) ∙ all))

pub outputs_all : (pads : List PadCell) (i : ℕ) (ys whole : List PadCell) → length pads ≤ i → ys ++ filter (λ p. is_output p.role) (drop i pads) ≡ whole → ys ≡ whole
outputs_all pads i ys whole over all =
    sym (append-nil ys) ∙ (ap (λ zs. ys ++ zs) (sym (ap (filter (λ (p : PadCell). is_output p.role)) (drop_all i pads over))) ∙ all)

-- ---- what is made of each

pub map_more : {X Y : Type 0} (f : X → Y) (xs : List X) (i : ℕ) (d : X) (ys more whole : List Y) → i < length xs
    → ys ++ map f (drop i xs) ≡ whole → more ≡ ys ++ f (get_or xs i d) ∷ []
    → more ++ map f (drop (i + 1) xs) ≡ whole
map_more f xs i d ys more whole below all is =
    let rest = map f (drop (i + 1) xs) in
    ap (λ zs. zs ++ rest) is ∙ (append_assoc ys (f (get_or xs i d) ∷ []) rest ∙ (ap (λ zs. ys ++ zs) (sym (ap (map f) (drop_more xs i d below))) ∙ all))

pub map_all : {X Y : Type 0} (f : X → Y) (xs : List X) (i : ℕ) (ys whole : List Y) → length xs ≤ i → ys ++ map f (drop i xs) ≡ whole → ys ≡ whole
map_all f xs i ys whole over all =
    sym (append-nil ys) ∙ (ap (λ zs. ys ++ zs) (sym (ap (map f) (drop_all i xs over))) ∙ all)
