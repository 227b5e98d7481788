-- The wire that a name stands for, computed: what a reader of names does from left to right. That it is what
-- `IsWireName` says is a law.
use Rattle.std.specs.Prelude.{ℕ, ℤ, pos, neg_ℤ, ◌+ℤ◌, Bool, List, length, drop, take_while, Option, Some, None, codes, nat_eq, nat_lt, if◌then◌else◌, ◌&&◌}
use Rattle.std.specs.List.{list_any, starts_with}
use Rattle.texts.specs.Numbers.{is_digit, number_up_to}
use Rattle.records.specs.Profile.{Rules}
use Rattle.records.specs.Limits.{most_distance}
use Rattle.fabric.specs.Wires.{Local, Wide}
use Rattle.fabric.specs.WireNames.{WireName, Named, Ignored}

abbrev pub begins_with_one : List (List ℕ) → List ℕ → Bool
begins_with_one prefixes name = list_any (λ prefix. starts_with nat_eq name prefix) prefixes

abbrev pub without_chip : Option (List ℕ) → List ℕ → List ℕ
without_chip None name = name
without_chip (Some prefix) name = if starts_with nat_eq name prefix && nat_lt (length prefix) (length name) then drop (length prefix) name else name

-- what has been read of a name, and what is left of it
pub record Moved : Type 0 where
  pub by : ℤ
  pub rest : List ℕ

abbrev pub behind_number : (ℕ → ℤ) → List ℕ → List ℕ → Moved
behind_number way name digits_on =
    elim (number_up_to most_distance (take_while is_digit digits_on)) [
      | Some n ↦ record { by = way n; rest = drop (length (take_while is_digit digits_on)) digits_on }
      | None ↦ record { by = pos 0; rest = name }
    ]

-- the distance at the front of a name, which one letter lowers and another one raises
abbrev pub distance_of : List ℕ → List ℕ → List ℕ → Moved
distance_of lowers raises name =
    if starts_with nat_eq name lowers then behind_number (λ n. neg_ℤ (pos n)) name (drop (length lowers) name)
    else if starts_with nat_eq name raises then behind_number (λ n. pos n) name (drop (length raises) name)
    else record { by = pos 0; rest = name }

-- rows and columns from a tile's place, and a base
pub record Relative : Type 0 where
  pub rows : ℤ
  pub columns : ℤ
  pub base : List ℕ

abbrev pub behind_distances : ℤ → ℤ → List ℕ → List ℕ → Relative
behind_distances rows columns name rest =
    if starts_with nat_eq rest (codes "_") && nat_lt 1 (length rest) then record { rows = rows; columns = columns; base = drop 1 rest }
    else record { rows = pos 0; columns = pos 0; base = name }

-- the distances and the base of a name; none and the whole name where it isn't relative
abbrev pub relative_of : List ℕ → Relative
relative_of name =
    let down = distance_of (codes "N") (codes "S") name in
    let right = distance_of (codes "W") (codes "E") down.rest in
    behind_distances down.by right.by name right.rest

abbrev pub wire_of_relative : ℕ × ℕ → Rules → Relative → WireName
wire_of_relative place rules r = Named (if begins_with_one rules.wide r.base then Wide r.base else Local (pos place.0 +ℤ r.rows) (pos place.1 +ℤ r.columns) r.base)

-- the wire of a name at a place
abbrev pub wire_of_name : ℕ × ℕ → List ℕ → Rules → WireName
wire_of_name place name rules = if begins_with_one rules.other_chips name then Ignored else wire_of_relative place rules (relative_of (without_chip rules.chip_prefix name))
