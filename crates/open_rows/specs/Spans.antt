-- Where rows stand in a flat array. (Our own.)
use Rattle.std.specs.Prelude.{◌≡◌, ℕ, zero, suc, ◌+◌, ◌-◌, ◌<◌, ◌≤◌, ◌^◌, List, [], ◌∷◌, map, length, get_or, take, drop}
use Rattle.open_rows.specs.declared.spans.Span.{Span}

-- this is the span at a place
abbrev pub IsSpanAt : List Span → ℕ → Span → Type 0
IsSpanAt spans k s = get_or spans k s ≡ s

abbrev pub longer : Span → Span
longer s = record { start = s.start; len = s.len + 1 }

abbrev pub shorter : Span → Span
shorter s = record { start = s.start; len = s.len - 1 }

-- the items of a span
abbrev pub part_of : {V : Type 0} → List V → Span → List V
part_of items s = take s.len (drop s.start items)

abbrev pub parts_of : {V : Type 0} → List V → List Span → List (List V)
parts_of items spans = map (part_of items) spans

-- where the first of some rows begins, or the array ends
abbrev pub begin_of : List Span → ℕ → ℕ
begin_of [] last = last
begin_of (s ∷ ss) last = s.start

-- the room of each row: up to the next one
abbrev pub room_of : List Span → ℕ → List ℕ
room_of [] last = []
room_of (s ∷ ss) last = (begin_of ss last - s.start) ∷ room_of ss last

-- each row ends before the next one
abbrev pub AreSpans : List Span → ℕ → Type 0
AreSpans [] last = Unit {0}
AreSpans (s ∷ ss) last = (s.start + s.len ≤ begin_of ss last) × AreSpans ss last

-- and the array is short enough
pub record AreOpen (spans : List Span) (last : ℕ) : Type 0 where
  pub apart : AreSpans spans last
  pub few : last < 2 ^ 32

-- rows with no item, one after the other, of which the first begins here
abbrev pub spans_from : ℕ → List ℕ → List Span
spans_from start [] = []
spans_from start (room ∷ rooms) = record { start = start; len = 0 } ∷ spans_from (start + room) rooms
