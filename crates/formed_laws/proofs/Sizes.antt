-- The slices of a triple have equally many tables and registers, and tables have 1 to 4 pins.
use Rattle.std.proofs.Common.{◌≡◌, ◌≤◌, ℕ, inl, inr, List, map, length, Some, find, sym, ap, subst, ◌∙◌}
use Rattle.std.specs.Prelude.{Ok, unwrap_or}
use Rattle.std.specs.Str.{bytes_eq}
use Rattle.std.proofs.lemmas.List.{length-map}
use Rattle.std.proofs.lemmas.Option.{same_Some}
use Rattle.std.proofs.lemmas.Slice.Eq.{bytes_eq-Decides}
use Rattle.words.specs.Members.{In}
use Rattle.records.specs.Profile.{TableKind, SliceKind}
use Rattle.records.specs.Side.{Triple}
use Rattle.fabric.specs.Device.{Device}
use Rattle.circuit.specs.Cells.{TableCell, SliceCell}
use Rattle.circuit.specs.Triples.{IsEntry, is_entry, all_triples, triple_with}
use Rattle.circuit.specs.WellFormed.{SizesFit}
use Rattle.cells.specs.Sites.{Site, slice_site}
use Rattle.cells.specs.Standing.{SliceStandsAt}
use Rattle.cells.specs.Takes.{wire_number}
use Rattle.cells.specs.Resolved.{table_cell, register_cell}
use Rattle.cells.specs.Accepted.{TripleAlike}
use Rattle.cells.specs.Faults.{site_of_slice}
use Rattle.cells.specs.CellsOf.{IsSliceOf, cells_of}
use Rattle.upset.specs.Configured.{Configured, circuit_of}
use Rattle.links.proofs.Members.{of_map}
use Rattle.fabric_laws.proofs.Members.{find_from, find_to}
use Rattle.cells_laws.proofs.Options.{some_is, then_to}
use Rattle.cells_laws.proofs.Sites.{site_stands}
use Rattle.formed_laws.specs.SideRead.{IsApart}
use Rattle.formed_laws.specs.ProfileRead.{HaveEqualCounts, IsFit}
use Rattle.formed_laws.proofs.Found.{found_none}
use Rattle.formed_laws.proofs.Placed.{accepted, of_slice, one_name, one_triple, slice_paired, is_entry_from, is_entry_to, of_slices, in_slices, slice_name}

-- the number of tables, and of registers, follows from that of the pins and registers of kinds
tables_equal : (a b : SliceKind) → HaveEqualCounts a b → length a.tables ≡ length b.tables
tables_equal a b h = sym (length-map a.tables (λ t. length t.pins)) ∙ ap length h.pins ∙ length-map b.tables (λ t. length t.pins)

module _ (device : Device) (k : Configured) (apart : IsApart k.side) (fit : IsFit device.profile) (made : cells_of k.graph device.profile k.image k.side ≡ Ok k.cells) where
  pub stands : (c : SliceCell) (a : IsSliceOf k.graph device.profile k.image k.side c) → SliceStandsAt k.graph device.profile a.placed a.site
  stands c a = site_stands k.graph device.profile.slices (λ j. j.tile) (λ j. j.name) a.placed a.site a.stands

  -- the site of a slice's name is that of the slice
  site_by_name : (c : SliceCell) (a : IsSliceOf k.graph device.profile k.image k.side c) → site_of_slice k.graph device.profile k.side c.name ≡ Some a.site
  site_by_name c a =
      let named = slice_name device k apart made c a in
      let found : find (λ p. bytes_eq p.name c.name) k.side.slices ≡ Some a.placed =
      find_to (λ p. bytes_eq p.name c.name) k.side.slices a.placed a.listed ((bytes_eq-Decides a.placed.name c.name).1 named)
      (λ q i e. one_name device k apart made q a.placed (in_slices device k apart made q i) (in_slices device k apart made a.placed a.listed) ((bytes_eq-Decides q.name c.name).0 e ∙ sym named)) in
      then_to (slice_site k.graph device.profile) (find (λ p. bytes_eq p.name c.name) k.side.slices) a.placed a.site found a.stands

  -- the triple with a slice's name is one of slices
  triple_of_slice : (c : SliceCell) → In k.cells.slices c → (t : Triple) × (In k.side.triples t × (IsEntry t c.name × (triple_with k.side c.name ≡ t)))
  triple_of_slice c i =
      let t = slice_paired device k apart made c i in
      let listed = of_slices k.side t.0 t.1.0 in
      let found = some_is (find (is_entry c.name) (all_triples k.side)) (λ n. found_none (is_entry c.name) (all_triples k.side) n t.0 listed (is_entry_to c.name t.0 t.1.1)) in
      let r = find_from (is_entry c.name) (all_triples k.side) found.0 found.1 in
      let same : found.0 ≡ t.0 = one_triple device k apart made found.0 t.0 c.name r.0 listed (is_entry_from c.name found.0 r.1) t.1.1 in
      (t.0, (t.1.0, (t.1.1, ap (λ o. unwrap_or o (record { first = c.name; second = c.name; third = c.name })) found.1 ∙ same)))

  -- a slice of a triple has the shape of the triple's first slice
  shape_in : (t : Triple) (alike : TripleAlike k.graph device.profile k.side t) (c : SliceCell) (a : IsSliceOf k.graph device.profile k.image k.side c) → IsEntry t c.name
      → a.site.kind.shape ≡ alike.first.kind.shape
  shape_in t alike c a i =
      let site : List ℕ → Type 0 = λ name. site_of_slice k.graph device.profile k.side name ≡ Some a.site in
      let here = site_by_name c a in
      elim i [
        | inl e ↦ ap (λ (s : Site SliceKind). s.kind.shape) (same_Some a.site alike.first (sym (subst site (sym e) here) ∙ alike.at_first))
        | inr j ↦ elim j [
          | inl e ↦ ap (λ (s : Site SliceKind). s.kind.shape) (same_Some a.site alike.second (sym (subst site (sym e) here) ∙ alike.at_second)) ∙ sym alike.second_alike.shapes
          | inr l ↦ elim l [
            | inl e ↦ ap (λ (s : Site SliceKind). s.kind.shape) (same_Some a.site alike.third (sym (subst site (sym e) here) ∙ alike.at_third)) ∙ sym alike.third_alike.shapes
            | inr none ↦ absurd none
          ]
        ]
      ]

  -- the kinds of two slices of one triple have equal counts
  counts_equal : (s u : SliceCell) (i : In k.cells.slices s) (j : In k.cells.slices u) → triple_with k.side s.name ≡ triple_with k.side u.name
      → HaveEqualCounts (of_slice device k apart made s i).site.kind (of_slice device k apart made u j).site.kind
  counts_equal s u i j e =
      let a = of_slice device k apart made s i in
      let b = of_slice device k apart made u j in
      let t = triple_of_slice s i in
      let v = triple_of_slice u j in
      let same : v.0 ≡ t.0 = sym v.1.1.1 ∙ sym e ∙ t.1.1.1 in
      let alike = (accepted device k apart made).shapes t.0 t.1.0 in
      fit.counts a.site.kind b.site.kind (stands s a).listed (stands u b).listed
      (shape_in t.0 alike s a t.1.1.0 ∙ sym (shape_in t.0 alike u b (subst (λ w. IsEntry w u.name) same v.1.1.0)))

  tables_of : (c : SliceCell) (a : IsSliceOf k.graph device.profile k.image k.side c) → map (table_cell k.graph device.profile.rules k.image a.site) a.site.kind.tables ≡ c.tables
  tables_of c a = ap (λ (s : SliceCell). s.tables) a.cell

  table_count : (c : SliceCell) (a : IsSliceOf k.graph device.profile k.image k.side c) → length c.tables ≡ length a.site.kind.tables
  table_count c a = ap length (sym (tables_of c a)) ∙ length-map a.site.kind.tables (table_cell k.graph device.profile.rules k.image a.site)

  register_count : (c : SliceCell) (a : IsSliceOf k.graph device.profile k.image k.side c) → length c.registers ≡ length a.site.kind.registers
  register_count c a =
      ap (λ (s : SliceCell). length s.registers) (sym a.cell) ∙ length-map a.site.kind.registers (register_cell k.graph device.profile.rules k.image a.site)

  -- a table has the pins of a table of its kind
  table_pins : (c : SliceCell) (t : TableCell) → (a : IsSliceOf k.graph device.profile k.image k.side c) → In c.tables t
      → (u : TableKind) × (In a.site.kind.tables u × (length t.pins ≡ length u.pins))
  table_pins c t a i =
      let make = table_cell k.graph device.profile.rules k.image a.site in
      let r = of_map make a.site.kind.tables t (subst (λ ts. In ts t) (sym (tables_of c a)) i) in
      (r.0, (r.1.0, ap (λ (u : TableCell). length u.pins) (sym r.1.1) ∙ length-map r.0.pins (wire_number k.graph device.profile.rules a.site.tile)))

  pub sizes_fit : SizesFit (circuit_of k)
  sizes_fit = record {
    tables = λ s u i j e. (let a = of_slice device k apart made s i in let b = of_slice device k apart made u j in
        table_count s a ∙ tables_equal a.site.kind b.site.kind (counts_equal s u i j e) ∙ sym (table_count u b));
    registers = λ s u i j e. (let a = of_slice device k apart made s i in let b = of_slice device k apart made u j in
        register_count s a ∙ (counts_equal s u i j e).registers ∙ sym (register_count u b));
    some_pins = λ s t i l. (let a = of_slice device k apart made s i in let r = table_pins s t a l in
        subst (λ n. 1 ≤ n) (sym r.1.1) (fit.some_pins a.site.kind r.0 (stands s a).listed r.1.0));
    few_pins = λ s t i l. (let a = of_slice device k apart made s i in let r = table_pins s t a l in
        subst (λ n. n ≤ 4) (sym r.1.1) (fit.few_pins a.site.kind r.0 (stands s a).listed r.1.0));
  }
