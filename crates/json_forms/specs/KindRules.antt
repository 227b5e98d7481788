-- The rules that the kinds of a profile keep, beside their forms. (Our own.)
use Rattle.std.specs.Prelude.{ℕ, Bool, true, false, not, List, [], ◌∷◌, ◌++◌, length, map, find, option_to_list, is_some, nat_eq, nat_le, ◌==◌, ◌&&◌, ◌||◌}
use Rattle.std.specs.List.{list_all, list_any, starts_with}
use Rattle.std.specs.Option.{option_map_or}
use Rattle.std.specs.Set.{is_member}
use Rattle.std.specs.Str.{bytes_eq}
use Rattle.std.specs.Cmp.Lexicographic.{pointwise}
use Rattle.records.specs.Profile.{Take, TakeWire, TakeNotWire, TakeIn, TakeOut, Case, Choice, TableKind, RegisterKind, SliceKind, PadKind}
use Rattle.records.specs.Limits.{most_parts}

-- ---- settings

-- a setting that is named passes a test
abbrev pub choice_setting_passes : (List ℕ → Bool) → Choice → Bool
choice_setting_passes test choice = option_map_or test choice.setting true

abbrev pub register_settings_pass : (List ℕ → Bool) → RegisterKind → Bool
register_settings_pass test register =
    list_all (choice_setting_passes test) (register.input ∷ register.enable ∷ register.reset ∷ register.set ∷ register.clock ∷ [])

abbrev pub slice_settings_pass : (List ℕ → Bool) → SliceKind → Bool
slice_settings_pass test kind =
    list_all (λ require. test require.setting) kind.require && list_all (λ table. test table.word) kind.tables && list_all (register_settings_pass test) kind.registers

-- ---- wires

-- each wire that is named passes a test
abbrev pub take_wire_passes : (List ℕ → Bool) → Take → Bool
take_wire_passes test (TakeWire name) = test name
take_wire_passes test (TakeNotWire name) = test name
take_wire_passes test _ = true

abbrev pub choice_wires_pass : (List ℕ → Bool) → Choice → Bool
choice_wires_pass test choice = list_all (λ case. take_wire_passes test case.take) choice.cases

abbrev pub table_wires_pass : (List ℕ → Bool) → TableKind → Bool
table_wires_pass test table = list_all test table.pins && test table.out

abbrev pub register_wires_pass : (List ℕ → Bool) → RegisterKind → Bool
register_wires_pass test register =
    list_all (choice_wires_pass test) (register.input ∷ register.enable ∷ register.reset ∷ register.set ∷ register.clock ∷ []) && test register.out

abbrev pub slice_wires_pass : (List ℕ → Bool) → SliceKind → Bool
slice_wires_pass test kind = list_all (table_wires_pass test) kind.tables && list_all (register_wires_pass test) kind.registers

abbrev pub pad_wires_pass : (List ℕ → Bool) → PadKind → Bool
pad_wires_pass test kind = option_map_or test kind.in_wire true && option_map_or test kind.out_wire true

-- a name is no wire of another chip: it begins with none of the prefixes
abbrev pub is_own_wire : List (List ℕ) → List ℕ → Bool
is_own_wire other_chips name = not (list_any (λ prefix. starts_with nat_eq name prefix) other_chips)

-- ---- kinds that stand before

-- a kind goes by the type of its tile and its name
abbrev pub KindName : Type 0
KindName = List ℕ × List ℕ

abbrev pub same_kind : KindName → KindName → Bool
same_kind a b = bytes_eq a.0 b.0 && bytes_eq a.1 b.1

abbrev pub slice_name : SliceKind → KindName
slice_name kind = (kind.tile, kind.name)

abbrev pub pad_name : PadKind → KindName
pad_name kind = (kind.tile, kind.name)

-- as many settings, tables, pins of each table in turn, and registers
abbrev pub same_counts : SliceKind → SliceKind → Bool
same_counts a b =
    (length a.settings == length b.settings) && pointwise nat_eq (map (λ table. length table.pins) a.tables) (map (λ table. length table.pins) b.tables)
    && (length a.registers == length b.registers)

-- A kind of a shape has the counts of the first kind of that shape.
abbrev pub has_counts_of_shape : List SliceKind → SliceKind → Bool
has_counts_of_shape earlier kind = option_map_or (λ first. same_counts first kind) (find (λ k. bytes_eq kind.shape k.shape) earlier) true

-- ---- slices and pads

-- The rules of a slice kind behind others: the settings that it names stand in `settings`, its wires are of this
-- chip, its name is new, and kinds of one shape have equal counts.
abbrev pub slice_keeps_rules : List (List ℕ) → List SliceKind → SliceKind → Bool
slice_keeps_rules other_chips earlier kind =
    slice_settings_pass (is_member bytes_eq kind.settings) kind
    && slice_wires_pass (is_own_wire other_chips) kind
    && not (is_member same_kind (map slice_name earlier) (slice_name kind))
    && has_counts_of_shape earlier kind

abbrev pub takes_in : Case → Bool
takes_in case = elim case.take [ TakeIn ↦ true | _ ↦ false ]

abbrev pub takes_out : Case → Bool
takes_out case = elim case.take [ TakeOut ↦ true | _ ↦ false ]

-- a pad that may be an input has the wire `in`, and one that may be an output the wire `out`
abbrev pub has_wires_of_modes : PadKind → Bool
has_wires_of_modes kind =
    (not (list_any takes_in kind.mode.cases) || is_some kind.in_wire) && (not (list_any takes_out kind.mode.cases) || is_some kind.out_wire)

-- The rules of a pad kind behind other kinds: as those of slices, and it has the wires of its modes.
abbrev pub pad_keeps_rules : List (List ℕ) → List KindName → PadKind → Bool
pad_keeps_rules other_chips earlier kind =
    choice_setting_passes (is_member bytes_eq kind.settings) kind.mode
    && pad_wires_pass (is_own_wire other_chips) kind
    && has_wires_of_modes kind
    && not (is_member same_kind earlier (pad_name kind))

-- a kind has few tables and few registers
abbrev pub parts_fit : SliceKind → Bool
parts_fit kind = nat_le (length kind.tables) most_parts && nat_le (length kind.registers) most_parts
