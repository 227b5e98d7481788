-- The rows of spans, as one of them gets longer or shorter.
use Rattle.std.proofs.Common.{◌≡◌, ℕ, zero, suc, ◌+◌, ◌-◌, ◌<◌, ◌≤◌, List, [], ◌∷◌, ◌++◌, map, length, get_or, set, take, drop, refl, sym, ap, ap₂, subst, ◌∙◌, inl, inr, arith}
use Rattle.std.specs.Prelude.{sum, slice_get, Some}
use Rattle.std.proofs.lemmas.Bool.{cases_lt}
use Rattle.std.proofs.lemmas.List.Sums.{sum_by-cons, sum_by-drop_more}
use Rattle.std.proofs.lemmas.List.{append-nil, drop_all, take_all, drop_more, get_or_past, drop-set-lt, drop-set-add, take-set-le, take_more_set, take-take, length-set, length-map, get_or-map, length-take-le, length-drop}
use Rattle.open_rows.specs.declared.spans.Span.{Span}
use Rattle.open_rows.specs.Rows.{HasRoom, Rows, popped, pushed}
use Rattle.open_rows.specs.Spans.{AreOpen, AreSpans, IsSpanAt, begin_of, longer, part_of, parts_of, room_of, shorter, spans_from}

pub in_order : (spans : List Span) (last : ℕ) → AreSpans spans last → begin_of spans last ≤ last
in_order [] last h = omega arith
in_order (s ∷ ss) last h = let m = in_order ss last h.1 in let b = h.0 in omega arith

-- no row begins before the first one
pub begins_first : (spans : List Span) (last : ℕ) (k : ℕ) (s : Span) → AreSpans spans last → k < length spans → IsSpanAt spans k s → begin_of spans last ≤ s.start
begins_first [] last k s are below is = absurd (omega arith)
begins_first (t ∷ ts) last zero s are below is = let e = ap (λ (z : Span). z.start) is in omega arith
begins_first (t ∷ ts) last (suc k) s are below is =
    let more = begins_first ts last k s are.1 (omega arith) is in
    let a = are.0 in
    omega arith

-- each row ends before the array does
pub ends_within : (spans : List Span) (last : ℕ) (k : ℕ) (s : Span) → AreSpans spans last → k < length spans → IsSpanAt spans k s → s.start + s.len ≤ last
ends_within [] last k s are below is = absurd (omega arith)
ends_within (t ∷ ts) last zero s are below is =
    let e = ap (λ (z : Span). z.start + z.len) is in
    let a = are.0 in
    let m = in_order ts last are.1 in
    omega arith
ends_within (t ∷ ts) last (suc k) s are below is = ends_within ts last k s are.1 (omega arith) is

-- one with room ends before the next one
pub room_within : (spans : List Span) (last : ℕ) (k : ℕ) (s : Span) → AreSpans spans last → k < length spans → IsSpanAt spans k s
    → s.len < get_or (room_of spans last) k 0 → s.start + s.len < last
room_within [] last k s are below is room = absurd (omega arith)
room_within (t ∷ ts) last zero s are below is room =
    let e = ap (λ (z : Span). z.start) is in
    let m = in_order ts last are.1 in
    omega arith
room_within (t ∷ ts) last (suc k) s are below is room = room_within ts last k s are.1 (omega arith) is room

-- an item that is put before rows leaves them
pub rows_past : {V : Type 0} (items : List V) (p : ℕ) (v : V) (spans : List Span) (last : ℕ) → AreSpans spans last → p < begin_of spans last
    → parts_of (set items p v) spans ≡ parts_of items spans
rows_past items p v [] last are before = refl
rows_past items p v (s ∷ ss) last are before =
    let a = are.0 in
    ap₂ (λ x xs. x ∷ xs) (ap (take s.len) (drop-set-lt s.start items p v before)) (rows_past items p v ss last are.1 (omega arith))

-- one that is put behind a row leaves it
pub row_before : {V : Type 0} (items : List V) (p : ℕ) (v : V) (s : Span) → s.start + s.len ≤ p → part_of (set items p v) s ≡ part_of items s
row_before items p v s after =
    let e : p ≡ s.start + (p - s.start) = omega arith in
    ap (λ n. take s.len (drop s.start (set items n v))) e ∙ (ap (take s.len) (drop-set-add s.start items (p - s.start) v) ∙ take-set-le s.len (drop s.start items) (p - s.start) v (omega arith))

-- one that is put at the end of a row makes it longer
pub row_longer : {V : Type 0} (items : List V) (v : V) (s : Span) → s.start + s.len < length items → part_of (set items (s.start + s.len) v) (longer s) ≡ part_of items s ++ v ∷ []
row_longer items v s within =
    let l = length-drop s.start items in
    ap (take (s.len + 1)) (drop-set-add s.start items s.len v) ∙ take_more_set (drop s.start items) s.len v (omega arith)

pub rows_pushed : {V : Type 0} (items : List V) (v : V) (spans : List Span) (k : ℕ) (s : Span) → AreSpans spans (length items) → k < length spans → IsSpanAt spans k s
    → s.len < get_or (room_of spans (length items)) k 0
    → parts_of (set items (s.start + s.len) v) (set spans k (longer s)) ≡ pushed (parts_of items spans) k v
rows_pushed items v [] k s are below is room = absurd (omega arith)
rows_pushed items v (t ∷ ts) zero s are below is room =
    let e : s ≡ t = sym is in
    let m = in_order ts (length items) are.1 in
    let begins = ap (λ (z : Span). z.start) e in
    ap₂ (λ x xs. x ∷ xs) (row_longer items v s (omega arith) ∙ ap (λ z. part_of items z ++ v ∷ []) e) (rows_past items (s.start + s.len) v ts (length items) are.1 (omega arith))
rows_pushed items v (t ∷ ts) (suc k) s are below is room =
    let first = begins_first ts (length items) k s are.1 (omega arith) is in
    let a = are.0 in
    ap₂ (λ x xs. x ∷ xs) (row_before items (s.start + s.len) v t (omega arith)) (rows_pushed items v ts k s are.1 (omega arith) is room)

-- the room stays where no row begins elsewhere
begin_kept : (spans : List Span) (last : ℕ) (k : ℕ) (s t : Span) → IsSpanAt spans k s → t.start ≡ s.start → begin_of (set spans k t) last ≡ begin_of spans last
begin_kept [] last k s t is same = refl
begin_kept (u ∷ us) last zero s t is same = same ∙ ap (λ (z : Span). z.start) (sym is)
begin_kept (u ∷ us) last (suc k) s t is same = refl

pub room_kept : (spans : List Span) (last : ℕ) (k : ℕ) (s t : Span) → IsSpanAt spans k s → t.start ≡ s.start → room_of (set spans k t) last ≡ room_of spans last
room_kept [] last k s t is same = refl
room_kept (u ∷ us) last zero s t is same = ap (λ n. (begin_of us last - n) ∷ room_of us last) (same ∙ ap (λ (z : Span). z.start) (sym is))
room_kept (u ∷ us) last (suc k) s t is same = ap₂ (λ n ns. (n - u.start) ∷ ns) (begin_kept us last k s t is same) (room_kept us last k s t is same)

-- rows stay apart
pub apart_longer : (spans : List Span) (last : ℕ) (k : ℕ) (s : Span) → AreSpans spans last → IsSpanAt spans k s → s.len < get_or (room_of spans last) k 0 → AreSpans (set spans k (longer s)) last
apart_longer [] last k s are is room = tt
apart_longer (t ∷ ts) last zero s are is room = let e = ap (λ (z : Span). z.start) is in (omega arith, are.1)
apart_longer (t ∷ ts) last (suc k) s are is room =
    let b = begin_kept ts last k s (longer s) is refl in
    let a = are.0 in
    (omega arith, apart_longer ts last k s are.1 is room)

pub apart_shorter : (spans : List Span) (last : ℕ) (k : ℕ) (s : Span) → AreSpans spans last → IsSpanAt spans k s → AreSpans (set spans k (shorter s)) last
apart_shorter [] last k s are is = tt
apart_shorter (t ∷ ts) last zero s are is =
    let e = ap (λ (z : Span). z.start) is in
    let l = ap (λ (z : Span). z.len) is in
    let a = are.0 in
    (omega arith, are.1)
apart_shorter (t ∷ ts) last (suc k) s are is =
    let b = begin_kept ts last k s (shorter s) is refl in
    let a = are.0 in
    (omega arith, apart_shorter ts last k s are.1 is)

-- how long a row is
pub part_long : {V : Type 0} (items : List V) (spans : List Span) (k : ℕ) (s : Span) → AreSpans spans (length items) → k < length spans → IsSpanAt spans k s
    → length (get_or (parts_of items spans) k []) ≡ s.len
part_long items spans k s are below is =
    let w = ends_within spans (length items) k s are below is in
    let l = length-drop s.start items in
    ap length (get_or-map (part_of items) spans k s [] below ∙ ap (part_of items) is) ∙ length-take-le s.len (drop s.start items) (omega arith)

pub rows_popped : {V : Type 0} (items : List V) (spans : List Span) (k : ℕ) (s : Span) → AreSpans spans (length items) → k < length spans → IsSpanAt spans k s
    → parts_of items (set spans k (shorter s)) ≡ popped (parts_of items spans) k
rows_popped items [] k s are below is = absurd (omega arith)
rows_popped items (t ∷ ts) zero s are below is =
    let long = part_long items (t ∷ ts) 0 s are below is in
    let e : s ≡ t = sym is in
    let front : take (s.len - 1) (take t.len (drop t.start items)) ≡ take (s.len - 1) (drop t.start items) = take-take (s.len - 1) t.len (drop t.start items) (let l = ap (λ (z : Span). z.len) e in omega arith) in
    ap (λ x. x ∷ parts_of items ts)
    (ap (λ (z : Span). take (s.len - 1) (drop z.start items)) e ∙ (sym front ∙ ap (λ n. take (n - 1) (part_of items t)) (sym long)))
rows_popped items (t ∷ ts) (suc k) s are below is = ap (λ xs. part_of items t ∷ xs) (rows_popped items ts k s are.1 (omega arith) is)

-- rows that are made with room
pub none_yet : {V : Type 0} (items : List V) (start : ℕ) (room : List ℕ) → parts_of items (spans_from start room) ≡ map (λ _. []) room
none_yet items start [] = refl
none_yet items start (r ∷ rs) = ap (λ xs. [] ∷ xs) (none_yet items (start + r) rs)

begin_from : (start : ℕ) (room : List ℕ) → begin_of (spans_from start room) (start + sum room) ≡ start
begin_from start [] = omega arith
begin_from start (r ∷ rs) = refl

pub room_from : (start last : ℕ) (room : List ℕ) → last ≡ start + sum room → room_of (spans_from start room) last ≡ room
room_from start last [] is = refl
room_from start last (r ∷ rs) is =
    let cons = sum_by-cons (λ (x : ℕ). x) r rs in
    let e : last ≡ (start + r) + sum rs = omega arith in
    let b = ap (begin_of (spans_from (start + r) rs)) e ∙ begin_from (start + r) rs in
    let n : begin_of (spans_from (start + r) rs) last - start ≡ r = omega arith in
    ap₂ (λ x xs. x ∷ xs) n (room_from (start + r) last rs e)

pub apart_from : (start last : ℕ) (room : List ℕ) → last ≡ start + sum room → AreSpans (spans_from start room) last
apart_from start last [] is = tt
apart_from start last (r ∷ rs) is =
    let cons = sum_by-cons (λ (x : ℕ). x) r rs in
    let e : last ≡ (start + r) + sum rs = omega arith in
    let b = ap (begin_of (spans_from (start + r) rs)) e ∙ begin_from (start + r) rs in
    (omega arith, apart_from (start + r) last rs e)

pub length-spans_from : (start : ℕ) (room : List ℕ) → length (spans_from start room) ≡ length room
length-spans_from start [] = refl
length-spans_from start (r ∷ rs) = ap suc (length-spans_from (start + r) rs)

pub length-room_of : (spans : List Span) (last : ℕ) → length (room_of spans last) ≡ length spans
length-room_of [] last = refl
length-room_of (s ∷ ss) last = ap suc (length-room_of ss last)

-- a list that was lent whole, and was given back
pub whole : {X : Type 0} (xs items : List X) (len : ℕ) → length items ≤ length xs → length xs ≤ len → take len (xs ++ drop (length xs) items) ≡ xs
whole xs items len less all =
    ap (λ ys. take len (xs ++ ys)) (drop_all (length xs) items less) ∙ (ap (λ ys. take len ys) (append-nil xs) ∙ take_all len xs all)

-- one more row is made
pub sum_left : (xs : List ℕ) (i : ℕ) → i < length xs → sum (drop i xs) ≡ get_or xs i 0 + sum (drop (i + 1) xs)
sum_left xs i below = sum_by-drop_more (λ (x : ℕ). x) xs i 0 below

pub spans_left : (start : ℕ) (xs : List ℕ) (i : ℕ) → i < length xs → spans_from start (drop i xs) ≡ record { start = start; len = 0 } ∷ spans_from (start + get_or xs i 0) (drop (i + 1) xs)
spans_left start xs i below = ap (spans_from start) (drop_more xs i 0 below)

pub spans_all : (start : ℕ) (xs : List ℕ) (i : ℕ) → length xs ≤ i → spans_from start (drop i xs) ≡ []
spans_all start xs i all = ap (spans_from start) (drop_all i xs all)

-- each place has a span
pub span_at : (spans : List Span) (k : ℕ) → k < length spans → (s : Span) × IsSpanAt spans k s
span_at [] k below = absurd (omega arith)
span_at (s ∷ ss) zero below = (s, refl)
span_at (s ∷ ss) (suc k) below = span_at ss k (omega arith)

pub row_at : {V : Type 0} (items : List V) (spans : List Span) (k : ℕ) (s : Span) → k < length spans → IsSpanAt spans k s → slice_get (parts_of items spans) k ≡ Some (part_of items s)
row_at items [] k s below is = absurd (omega arith)
row_at items (t ∷ ts) zero s below is = ap (λ z. Some (part_of items z)) is
row_at items (t ∷ ts) (suc k) s below is = row_at items ts k s (omega arith) is

-- a row that has room, or an item, is there
known_by_room : (spans : List Span) (last k x : ℕ) → x < get_or (room_of spans last) k 0 → k < length spans
known_by_room spans last k x room = elim (cases_lt k (length spans)) [
  | inl l ↦ l
  | inr past ↦ absurd (let long = length-room_of spans last in let none = get_or_past (room_of spans last) k 0 (omega arith) in omega arith)
]

known_by_row : {V : Type 0} (rows : List (List V)) (k : ℕ) → 0 < length (get_or rows k []) → k < length rows
known_by_row rows k filled = elim (cases_lt k (length rows)) [
  | inl l ↦ l
  | inr past ↦ absurd (let none = ap length (get_or_past rows k [] past) in omega arith)
]

abbrev pub seen : {V : Type 0} → List V → List Span → Rows V
seen items spans = record { rows = parts_of items spans; room = room_of spans (length items) }

-- what an item that is pushed asks and leaves
pub record Pushes {V : Type 0} (items : List V) (spans : List Span) (value : Rows V) (k : ℕ) (v : V) : Type 0 where
  pub known : k < length spans
  pub within : (s : Span) → IsSpanAt spans k s → s.start + s.len < length items
  pub rows : (s : Span) → IsSpanAt spans k s → parts_of (set items (s.start + s.len) v) (set spans k (longer s)) ≡ pushed value.rows k v
  pub room : (s : Span) → IsSpanAt spans k s → room_of (set spans k (longer s)) (length (set items (s.start + s.len) v)) ≡ value.room
  pub are : (s : Span) → IsSpanAt spans k s → AreOpen (set spans k (longer s)) (length (set items (s.start + s.len) v))

pub pushes : {V : Type 0} (items : List V) (spans : List Span) (value : Rows V) (k : ℕ) (v : V) → seen items spans ≡ value → AreOpen spans (length items) → HasRoom value k
    → Pushes items spans value k v
pushes items spans value k v view are room =
    let here : HasRoom (seen items spans) k = subst (λ (z : Rows _). HasRoom z k) (sym view) room in
    let below = known_by_room spans (length items) k (length (get_or (parts_of items spans) k [])) here in
    let fits : (s : Span) → IsSpanAt spans k s → s.len < get_or (room_of spans (length items)) k 0 = λ s is. let l = part_long items spans k s are.apart below is in omega arith in
    record {
      known = below;
      within = λ s is. room_within spans (length items) k s are.apart below is (fits s is);
      rows = λ s is. rows_pushed items v spans k s are.apart below is (fits s is) ∙ ap (λ (z : Rows _). pushed z.rows k v) view;
      room = λ s is. ap (room_of (set spans k (longer s))) (length-set items (s.start + s.len) v) ∙ (room_kept spans (length items) k s (longer s) is refl ∙ ap (λ (z : Rows _). z.room) view);
      are = λ s is. subst (AreOpen (set spans k (longer s))) (sym (length-set items (s.start + s.len) v)) (record { apart = apart_longer spans (length items) k s are.apart is (fits s is); few = are.few });
    }

-- what an item that is taken off asks and leaves
pub record Pops {V : Type 0} (items : List V) (spans : List Span) (value : Rows V) (k : ℕ) : Type 0 where
  pub known : k < length spans
  pub filled : (s : Span) → IsSpanAt spans k s → 0 < s.len
  pub rows : (s : Span) → IsSpanAt spans k s → parts_of items (set spans k (shorter s)) ≡ popped value.rows k
  pub room : (s : Span) → IsSpanAt spans k s → room_of (set spans k (shorter s)) (length items) ≡ value.room
  pub are : (s : Span) → IsSpanAt spans k s → AreOpen (set spans k (shorter s)) (length items)

pub pops : {V : Type 0} (items : List V) (spans : List Span) (value : Rows V) (k : ℕ) → seen items spans ≡ value → AreOpen spans (length items) → 0 < length (get_or value.rows k [])
    → Pops items spans value k
pops items spans value k view are filled =
    let here : 0 < length (get_or (parts_of items spans) k []) = subst (λ (z : Rows _). 0 < length (get_or z.rows k [])) (sym view) filled in
    let row = known_by_row (parts_of items spans) k here in
    let long = length-map spans (part_of items) in
    let below : k < length spans = omega arith in
    record {
      known = below;
      filled = λ s is. let l = part_long items spans k s are.apart below is in omega arith;
      rows = λ s is. rows_popped items spans k s are.apart below is ∙ ap (λ (z : Rows _). popped z.rows k) view;
      room = λ s is. room_kept spans (length items) k s (shorter s) is refl ∙ ap (λ (z : Rows _). z.room) view;
      are = λ s is. record { apart = apart_shorter spans (length items) k s are.apart is; few = are.few };
    }
