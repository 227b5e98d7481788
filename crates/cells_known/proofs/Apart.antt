-- No part of the cells of a side file that is read has two numbers.
use Rattle.std.proofs.Common.{◌≡◌, ℕ, suc, ◌≤◌, List, [], ◌∷◌, ◌++◌, map, Some, refl, sym, ap, subst, ◌∙◌, arith}
use Rattle.std.specs.Prelude.{Ok, slice_get}
use Rattle.std.specs.List.{flat_map}
use Rattle.std.proofs.lemmas.List.{map-append}
use Rattle.words.specs.Members.{In}
use Rattle.words.specs.Twice.{HasNoneTwice}
use Rattle.patterns.specs.Bits.{Bits}
use Rattle.records.specs.Profile.{Profile}
use Rattle.records.specs.Side.{Side}
use Rattle.fabric.specs.Device.{Device}
use Rattle.fabric.specs.Graph.{Graph}
use Rattle.circuit.specs.Cells.{TableCell, RegisterCell, SliceCell, Role, InputPad, OutputPad, ClockPad, PadCell, Cells}
use Rattle.circuit.specs.Parts.{PartKind, Table, Register, PartRef, Source, numbered, table_source, register_source, slice_sources, pad_source_by, pad_sources, sources}
use Rattle.circuit.specs.WellFormed.{NamesApart}
use Rattle.circuit_laws.proofs.Parts.{of_numbered, of_slice, of_pad_by}
use Rattle.cells.specs.CellsOf.{cells_of}
use Rattle.upset.specs.Configured.{Configured}
use Rattle.links.proofs.Members.{in_map, of_map, of_flat_map}
use Rattle.formed_laws.specs.Readers.{IsReadSide}
use Rattle.formed_laws.proofs.Objects.{rising_once}
use Rattle.formed_laws.proofs.Placed as placed
use Rattle.formed_laws.proofs.Twice.{joined_twice, one_place_of_key}
use Rattle.part_copies.specs.Numbered.{AreNumberedOnce}
use Rattle.cells_known.proofs.Names.{apart, slices_rise, pads_rise}

-- what is numbered has one part for each number
numbered_once : {X : Type 0} (make : ℕ → X → Source) → ((m k : ℕ) (x y : X) → (make m x).part ≡ (make k y).part → m ≡ k)
    → (n : ℕ) (xs : List X) → HasNoneTwice (map (λ (s : Source). s.part) (numbered make n xs))
numbered_once make same n [] = tt
numbered_once make same n (x ∷ xs) = (later, numbered_once make same (suc n) xs)
  where
    later : In (map (λ (s : Source). s.part) (numbered make (suc n) xs)) (make n x).part → ⊥
    later i =
        let r = of_map (λ (s : Source). s.part) (numbered make (suc n) xs) (make n x).part i in
        let m = of_numbered make (suc n) xs r.0 r.1.0 in
        let equal : m.0 ≡ n = same m.0 n m.1.0 x (ap (λ (s : Source). s.part) m.1.1.1.0 ∙ r.1.1) in
        let over : suc n ≤ m.0 = m.1.1.1.1 in
        omega arith

table_number : (s : SliceCell) (m k : ℕ) (x y : TableCell) → (table_source s m x).part ≡ (table_source s k y).part → m ≡ k
table_number s m k x y e = (let f : Table m ≡ Table k = ap (λ (r : PartRef). r.part) e in cc)

register_number : (s : SliceCell) (m k : ℕ) (x y : RegisterCell) → (register_source s m x).part ≡ (register_source s k y).part → m ≡ k
register_number s m k x y e = (let f : Register m ≡ Register k = ap (λ (r : PartRef). r.part) e in cc)

-- the parts of a slice
slice_once : (s : SliceCell) → HasNoneTwice (map (λ (x : Source). x.part) (slice_sources s))
slice_once s =
    let tables = numbered (table_source s) 0 s.tables in
    let registers = numbered (register_source s) 0 s.registers in
    subst HasNoneTwice (sym (map-append (λ (x : Source). x.part) tables registers))
    (joined_twice (map (λ (x : Source). x.part) tables) (map (λ (x : Source). x.part) registers) (numbered_once (table_source s) (table_number s) 0 s.tables)
    (numbered_once (register_source s) (register_number s) 0 s.registers) clash)
  where
    clash : (r : PartRef) → In (map (λ (x : Source). x.part) (numbered (table_source s) 0 s.tables)) r → In (map (λ (x : Source). x.part) (numbered (register_source s) 0 s.registers)) r → ⊥
    clash r i j =
        let a = of_map (λ (x : Source). x.part) (numbered (table_source s) 0 s.tables) r i in
        let b = of_map (λ (x : Source). x.part) (numbered (register_source s) 0 s.registers) r j in
        let m = of_numbered (table_source s) 0 s.tables a.0 a.1.0 in
        let k = of_numbered (register_source s) 0 s.registers b.0 b.1.0 in
        let table : Table m.0 ≡ r.part = ap (λ (x : Source). x.part.part) m.1.1.1.0 ∙ ap (λ (q : PartRef). q.part) a.1.1 in
        let register : Register k.0 ≡ r.part = ap (λ (x : Source). x.part.part) k.1.1.1.0 ∙ ap (λ (q : PartRef). q.part) b.1.1 in
        let both : Table m.0 ≡ Register k.0 = table ∙ sym register in
        let no : ⊥ = cc in
        no

pad_once_by : (p : PadCell) (r : Role) → HasNoneTwice (map (λ (x : Source). x.part) (pad_source_by p r))
pad_once_by p InputPad = ((λ i. i), tt)
pad_once_by p ClockPad = ((λ i. i), tt)
pad_once_by p OutputPad = tt

-- the parts of cells whose names are apart
module _ {X : Type 0} (give : X → List Source) (name : X → List ℕ) (of_cell : (x : X) (s : Source) → In (give x) s → s.part.cell ≡ name x)
    (once : (x : X) → HasNoneTwice (map (λ (s : Source). s.part) (give x))) where
  cells_once : (xs : List X) → HasNoneTwice (map name xs) → HasNoneTwice (map (λ (s : Source). s.part) (flat_map give xs))
  cells_once [] h = tt
  cells_once (x ∷ xs) h =
      subst HasNoneTwice (sym (map-append (λ (s : Source). s.part) (give x) (flat_map give xs)))
      (joined_twice (map (λ (s : Source). s.part) (give x)) (map (λ (s : Source). s.part) (flat_map give xs)) (once x) (cells_once xs h.1) clash)
    where
      clash : (r : PartRef) → In (map (λ (s : Source). s.part) (give x)) r → In (map (λ (s : Source). s.part) (flat_map give xs)) r → ⊥
      clash r i j =
          let a = of_map (λ (s : Source). s.part) (give x) r i in
          let b = of_map (λ (s : Source). s.part) (flat_map give xs) r j in
          let c = of_flat_map give xs b.0 b.1.0 in
          let here : name x ≡ r.cell = sym (of_cell x a.0 a.1.0) ∙ ap (λ (q : PartRef). q.cell) a.1.1 in
          let there : name c.0 ≡ r.cell = sym (of_cell c.0 b.0 c.1.1) ∙ ap (λ (q : PartRef). q.cell) b.1.1 in
          h.0 (subst (In (map name xs)) (there ∙ sym here) (in_map name xs c.0 c.1.0))

module _ (g : Graph) (profile : Profile) (image : Bits) (side : Side) (cells : Cells) (read : IsReadSide side) (made : cells_of g profile image side ≡ Ok cells) where
  -- any device with this profile, since only that is asked for
  abbrev device : Device
  device = record { grid = g.grid; types = []; profile = profile }

  abbrev configured : Configured
  configured = record { graph = g; image = image; cells = cells; side = side }

  names : NamesApart cells
  names = placed.names_apart device configured (apart g profile image side cells read made) made

  slice_parts : HasNoneTwice (map (λ (s : Source). s.part) (flat_map slice_sources cells.slices))
  slice_parts = cells_once slice_sources (λ (s : SliceCell). s.name) (λ s x i. (of_slice s x i).cell) slice_once cells.slices
      (rising_once (map (λ (s : SliceCell). s.name) cells.slices) (slices_rise g profile image side cells read made))

  pad_parts : HasNoneTwice (map (λ (s : Source). s.part) (flat_map pad_sources cells.pads))
  pad_parts = cells_once pad_sources (λ (p : PadCell). p.name) (λ p x i. ap (λ (q : PartRef). q.cell) (of_pad_by p p.role x i).part) (λ p. pad_once_by p p.role) cells.pads
      (rising_once (map (λ (p : PadCell). p.name) cells.pads) (pads_rise g profile image side cells read made))

  clash : (r : PartRef) → In (map (λ (s : Source). s.part) (flat_map slice_sources cells.slices)) r → In (map (λ (s : Source). s.part) (flat_map pad_sources cells.pads)) r → ⊥
  clash r i j =
      let a = of_map (λ (s : Source). s.part) (flat_map slice_sources cells.slices) r i in
      let b = of_map (λ (s : Source). s.part) (flat_map pad_sources cells.pads) r j in
      let c = of_flat_map slice_sources cells.slices a.0 a.1.0 in
      let d = of_flat_map pad_sources cells.pads b.0 b.1.0 in
      let slice : c.0.name ≡ r.cell = sym (of_slice c.0 a.0 c.1.1).cell ∙ ap (λ (q : PartRef). q.cell) a.1.1 in
      let pad : d.0.name ≡ r.cell = sym (ap (λ (q : PartRef). q.cell) (of_pad_by d.0 d.0.role b.0 d.1.1).part) ∙ ap (λ (q : PartRef). q.cell) b.1.1 in
      names.kinds c.0 d.0 c.1.0 d.1.0 (slice ∙ sym pad)

  parts_once : HasNoneTwice (map (λ (s : Source). s.part) (sources cells))
  parts_once =
      let slices = flat_map slice_sources cells.slices in
      let pads = flat_map pad_sources cells.pads in
      subst HasNoneTwice (sym (map-append (λ (s : Source). s.part) slices pads))
      (joined_twice (map (λ (s : Source). s.part) slices) (map (λ (s : Source). s.part) pads) slice_parts pad_parts clash)

  pub numbered_once_all : AreNumberedOnce cells
  numbered_once_all i j s u es eu e = one_place_of_key (λ (x : Source). x.part) (sources cells) parts_once i j s u es eu e
