-- Images in which words and enums read the same have the same cells.
use Rattle.std.proofs.Common.{◌≡◌, ℕ, false, List, [], ◌++◌, map, flat_map, length, Some, None, option_map}
use Rattle.std.specs.Prelude.{filter_map, unwrap_or, slice_get, ◌==◌, ◌^◌, if◌then◌else◌}
use Rattle.std.specs.Option.{option_and_then, option_map_or, is_some, option_to_list}
use Rattle.std.specs.Str.{bytes_eq}
use Rattle.words.specs.Firsts.{or_else, first_fault}
use Rattle.patterns.specs.Bits.{Bits}
use Rattle.records.specs.Profile.{Choice, Require, TableKind, RegisterKind, SliceKind, PadKind, Profile}
use Rattle.records.specs.Side.{Placed, Side}
use Rattle.fabric.specs.Graph.{Graph}
use Rattle.fabric.specs.Values.{word_at, value_at}
use Rattle.circuit.specs.Cells.{InputZero}
use Rattle.cells.specs.Sites.{Site, slice_site, pad_site, unnamed_pads}
use Rattle.cells.specs.Takes.{choice_value, case_with, take_at, wire_number, input_of, is_one, suits, takes_out}
use Rattle.cells.specs.Resolved.{word_of, table_cell, input_at, register_cell, site_bits, slice_cell, role_of}
use Rattle.cells.specs.Readings.{require_reading, digits_of, table_reading, choice_reading, choices_of, slice_readings, pad_reading, slices_of, pads_of, readings}
use Rattle.cells.specs.Faults.{UnnamedPad, site_fault, shape_fault, value_fault, unnamed_fault, cell_fault}
use Rattle.cells.specs.CellsOf.{slice_cells, pad_cells, unless, cells_of}

module _ (g : Graph) (profile : Profile) (one other : Bits) (words : (n : ℕ) (name : List ℕ) → word_at g one n name ≡ word_at g other n name)
    (values : (n : ℕ) (name : List ℕ) → value_at g one n name ≡ value_at g other n name) where
  taken_same : (n : ℕ) (c : Choice) → take_at g one n c ≡ take_at g other n c
  taken_same n c k = option_map (λ d. d.take) (option_map_or (λ setting. option_and_then (case_with c.cases) (values n setting k)) c.setting (slice_get c.cases 0))

  value_same : (n : ℕ) (c : Choice) → choice_value g one n c ≡ choice_value g other n c
  value_same n c k = option_and_then (λ setting. values n setting k) c.setting

  -- ---- the cells

  table_same : (site : Site SliceKind) (t : TableKind) → table_cell g profile.rules one site t ≡ table_cell g profile.rules other site t
  table_same site t k = record {
    word = word_of (unwrap_or (words site.number t.word k) []);
    pins = map (wire_number g profile.rules site.tile) t.pins;
    out = wire_number g profile.rules site.tile t.out;
  }

  input_same : (site : Site SliceKind) (c : Choice) → input_at g profile.rules one site c ≡ input_at g profile.rules other site c
  input_same site c k = option_map_or (input_of (wire_number g profile.rules site.tile)) (taken_same site.number c k) InputZero

  register_same : (site : Site SliceKind) (r : RegisterKind) → register_cell g profile.rules one site r ≡ register_cell g profile.rules other site r
  register_same site r k = record {
    input = input_same site r.input k;
    enable = input_same site r.enable k;
    reset = input_same site r.reset k;
    set = option_map_or is_one (taken_same site.number r.set k) false;
    clock = input_same site r.clock k;
    out = wire_number g profile.rules site.tile r.out;
  }

  slice_same : (p : Placed) (site : Site SliceKind) → slice_cell g profile.rules one p site ≡ slice_cell g profile.rules other p site
  slice_same p site k = record {
    name = p.name;
    domain = p.domain;
    tables = map (λ t. table_same site t k) site.kind.tables;
    registers = map (λ r. register_same site r k) site.kind.registers;
    bits = site_bits g site site.kind.settings;
  }

  slices_same : (side : Side) → slice_cells g profile one side ≡ slice_cells g profile other side
  slices_same side k = filter_map (λ p. option_map (λ s. slice_same p s k) (slice_site g profile p)) (slices_of side)

  -- ---- what is refused of them

  require_same : (cell : List ℕ) (n : ℕ) (r : Require) → require_reading g one cell n r ≡ require_reading g other cell n r
  require_same cell n r k = record { cell = cell; setting = r.setting; value = values n r.setting k; modelled = option_map_or (bytes_eq r.value) (values n r.setting k) false }

  word_same : (cell : List ℕ) (n : ℕ) (t : TableKind) → table_reading g one cell n t ≡ table_reading g other cell n t
  word_same cell n t k =
      record { cell = cell; setting = t.word; value = option_map digits_of (words n t.word k); modelled = option_map_or (λ bits. length bits == 2 ^ length t.pins) (words n t.word k) false }

  choice_same : (cell : List ℕ) (n : ℕ) (c : Choice) → choice_reading g one cell n c ≡ choice_reading g other cell n c
  choice_same cell n c k = record { cell = cell; setting = unwrap_or c.setting []; value = value_same n c k; modelled = is_some (taken_same n c k) }

  settings_same : (p : Placed) (site : Site SliceKind) → slice_readings g one p site ≡ slice_readings g other p site
  settings_same p site k =
      map (λ r. require_same p.name site.number r k) site.kind.require
      ++ map (λ t. word_same p.name site.number t k) site.kind.tables
      ++ flat_map (λ r. map (λ c. choice_same p.name site.number c k) (choices_of r)) site.kind.registers

  mode_same : (side : Side) (p : Placed) (site : Site PadKind) → pad_reading g one side p site ≡ pad_reading g other side p site
  mode_same side p site k = record {
    cell = p.name;
    setting = unwrap_or site.kind.mode.setting [];
    value = value_same site.number site.kind.mode k;
    modelled = option_map_or (suits (role_of side p.name)) (taken_same site.number site.kind.mode k) false;
  }

  readings_same : (side : Side) → readings g profile one side ≡ readings g profile other side
  readings_same side k =
      flat_map (λ p. option_map_or (λ site. settings_same p site k) (slice_site g profile p) []) (slices_of side)
      ++ flat_map (λ p. option_to_list (option_map (λ site. mode_same side p site k) (pad_site g profile p))) (pads_of side)
      ++ map (λ site. choice_same site.tile.name site.number site.kind.mode k) (unnamed_pads g profile side)

  unnamed_same : (s : Site PadKind) → unnamed_fault g one s ≡ unnamed_fault g other s
  unnamed_same s k = if option_map_or takes_out (taken_same s.number s.kind.mode k) false then Some (UnnamedPad s.tile.name s.kind.name) else None

  fault_same : (side : Side) → cell_fault g profile one side ≡ cell_fault g profile other side
  fault_same side k =
      or_else (first_fault (λ before p. site_fault p.name (slice_site g profile p)) (slices_of side))
      (or_else (first_fault (λ before p. site_fault p.name (pad_site g profile p)) (pads_of side))
      (or_else (first_fault (λ before t. shape_fault g profile side t) side.triples)
      (or_else (first_fault (λ before r. value_fault r) (readings_same side k))
      (first_fault (λ before s. unnamed_same s k) (unnamed_pads g profile side)))))

  pub cells_same : (side : Side) → cells_of g profile one side ≡ cells_of g profile other side
  cells_same side k = unless (fault_same side k) (record { slices = slices_same side k; pads = pad_cells g profile side })
