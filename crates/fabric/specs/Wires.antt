-- Wires by name, their order, and how they are printed. (Our own; that a wire belongs to a row and a column is
-- after Project Trellis.)
use Rattle.std.specs.Prelude.{ℕ, ℤ, Bool, List, ◌++◌, codes}
use Rattle.std.specs.declared.cmp.Ordering.{Ordering}
use Rattle.std.specs.declared.cmp.Ordering.TheVariants.{Less, Greater}
use Rattle.std.specs.Ordering.{int_cmp, nat_cmp, ordering_then, is_eq}
use Rattle.std.specs.Cmp.Lexicographic.{slice_cmp}
use Rattle.std.specs.Fmt.{signed_decimal}

-- A wire: one of a row and a column, which may lie outside the grid, or one of the whole device. Its base is
-- its name without a place.
pub data Wire : Type 0 where
  Local : ℤ → ℤ → List ℕ → Wire
  Wide : List ℕ → Wire

-- names are ordered by their bytes
abbrev pub name_cmp : List ℕ → List ℕ → Ordering
name_cmp a b = slice_cmp nat_cmp a b

-- Wire order: local wires before wide ones; local ones by row, column, then base; wide ones by base.
abbrev pub wire_cmp : Wire → Wire → Ordering
wire_cmp (Local row column base) (Local row' column' base') = ordering_then (int_cmp row row') (ordering_then (int_cmp column column') (name_cmp base base'))
wire_cmp (Local row column base) (Wide base') = Less
wire_cmp (Wide base) (Local row' column' base') = Greater
wire_cmp (Wide base) (Wide base') = name_cmp base base'

abbrev pub same_wire : Wire → Wire → Bool
same_wire a b = is_eq (wire_cmp a b)

-- a local wire prints as `R1C2/H0`, a wide one as `*/G_CK0`
abbrev pub wire_text : Wire → List ℕ
wire_text (Local row column base) = codes "R" ++ signed_decimal row ++ codes "C" ++ signed_decimal column ++ codes "/" ++ base
wire_text (Wide base) = codes "*/" ++ base
