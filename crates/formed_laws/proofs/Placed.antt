-- Each placed cell of a side file that is read makes one cell, and each cell is made of one.
use Rattle.std.proofs.Common.{◌≡◌, ◌⊎◌, ℕ, true, false, inl, inr, List, ◌++◌, map, refl, sym, ap, ap₂, subst, ◌∙◌}
use Rattle.std.specs.Prelude.{Ok, if◌then◌else◌}
use Rattle.std.specs.List.{list_any}
use Rattle.std.specs.Str.{bytes_eq}
use Rattle.std.proofs.lemmas.Option.{same_Some}
use Rattle.std.proofs.lemmas.Slice.Eq.{bytes_eq-Decides}
use Rattle.words.specs.Members.{In}
use Rattle.records.specs.Side.{Domain, D0, D1, D2, Placed, Triple, Side}
use Rattle.fabric.specs.Device.{Device}
use Rattle.circuit.specs.Cells.{SliceCell, Role, InputPad, OutputPad, ClockPad, PadCell}
use Rattle.circuit.specs.Triples.{names_of, IsEntry, is_entry, all_triples, Member, LiesIn}
use Rattle.circuit.specs.WellFormed.{NamesApart, IsSlice, IsPad, TriplesFit}
use Rattle.circuit.specs.Triplicated.{EntriesInDomain}
use Rattle.cells.specs.Sites.{slice_site, pad_site}
use Rattle.cells.specs.Resolved.{slice_cell, role_of, pad_cell}
use Rattle.cells.specs.Accepted.{CellsAreAccepted}
use Rattle.cells.specs.CellsOf.{IsSliceOf, IsPadOf, cells_of}
use Rattle.upset.specs.Configured.{Configured, circuit_of}
use Rattle.links.proofs.Members.{in_left, in_right, in_either, in_map, of_map}
use Rattle.fabric_laws.proofs.Members.{any_from, any_to, is_false}
use Rattle.cells_laws.proofs.Faults.{cells_accepted}
use Rattle.cells_laws.proofs.Named.{slices_named, pads_named}
use Rattle.side_form.specs.Side.{pad_triples}
use Rattle.formed_laws.specs.SideRead.{site_of, placed_cells, Lists, EntriesAre, IsApart}
use Rattle.formed_laws.proofs.Twice.{one_of_key, one_giver, givers_apart, left_givers, keys_apart}

-- an entry of a triple is one of the cells that its entries are
entry_listed : (cells : List Placed) (t : Triple) (name : List ℕ) → EntriesAre cells t → IsEntry t name → (p : Placed) × (In cells p × (p.name ≡ name))
entry_listed cells t name h i = elim i [
  | inl e ↦ (h.first.0, (h.first.1.0, h.first.1.1 ∙ e))
  | inr j ↦ elim j [
    | inl e ↦ (h.second.0, (h.second.1.0, h.second.1.1 ∙ e))
    | inr l ↦ elim l [
      | inl e ↦ (h.third.0, (h.third.1.0, h.third.1.1 ∙ e))
      | inr none ↦ absurd none
    ]
  ]
]

pub is_entry_to : (name : List ℕ) (t : Triple) → IsEntry t name → is_entry name t ≡ true
is_entry_to name t i = any_to (bytes_eq name) (names_of t) name i ((bytes_eq-Decides name name).1 refl)

pub is_entry_from : (name : List ℕ) (t : Triple) → is_entry name t ≡ true → IsEntry t name
is_entry_from name t h = let r = any_from (bytes_eq name) (names_of t) h in subst (IsEntry t) (sym ((bytes_eq-Decides name r.0).0 r.2)) r.1

-- the parts of all triples
module _ (side : Side) where
  pub of_slices : (t : Triple) → In side.triples t → In (all_triples side) t
  of_slices t i = in_left (side.triples ++ side.inputs ++ side.outputs) side.clocks t (in_left (side.triples ++ side.inputs) side.outputs t (in_left side.triples side.inputs t i))

  of_inputs : (t : Triple) → In side.inputs t → In (all_triples side) t
  of_inputs t i = in_left (side.triples ++ side.inputs ++ side.outputs) side.clocks t (in_left (side.triples ++ side.inputs) side.outputs t (in_right side.triples side.inputs t i))

  of_outputs : (t : Triple) → In side.outputs t → In (all_triples side) t
  of_outputs t i = in_left (side.triples ++ side.inputs ++ side.outputs) side.clocks t (in_right (side.triples ++ side.inputs) side.outputs t i)

  of_clocks : (t : Triple) → In side.clocks t → In (all_triples side) t
  of_clocks t i = in_right (side.triples ++ side.inputs ++ side.outputs) side.clocks t i

  pad_inputs : (t : Triple) → In side.inputs t → In (pad_triples side) t
  pad_inputs t i = in_left side.inputs (side.outputs ++ side.clocks) t i

  pad_outputs : (t : Triple) → In side.outputs t → In (pad_triples side) t
  pad_outputs t i = in_right side.inputs (side.outputs ++ side.clocks) t (in_left side.outputs side.clocks t i)

  pad_clocks : (t : Triple) → In side.clocks t → In (pad_triples side) t
  pad_clocks t i = in_right side.inputs (side.outputs ++ side.clocks) t (in_right side.outputs side.clocks t i)

  of_pads : (t : Triple) → In (pad_triples side) t → In (all_triples side) t
  of_pads t i = elim (in_either side.inputs (side.outputs ++ side.clocks) t i) [
    | inl j ↦ of_inputs t j
    | inr j ↦ elim (in_either side.outputs side.clocks t j) [ inl l ↦ of_outputs t l | inr l ↦ of_clocks t l ]
  ]

  sorted : (t : Triple) → In (all_triples side) t → In side.triples t ⊎ In (pad_triples side) t
  sorted t i = elim (in_either (side.triples ++ side.inputs ++ side.outputs) side.clocks t i) [
    | inl a ↦ elim (in_either (side.triples ++ side.inputs) side.outputs t a) [
      | inl b ↦ elim (in_either side.triples side.inputs t b) [ inl l ↦ inl l | inr l ↦ inr (pad_inputs t l) ]
      | inr b ↦ inr (pad_outputs t b)
    ]
    | inr a ↦ inr (pad_clocks t a)
  ]

module _ (side : Side) (apart : IsApart side) where
  -- a name of an output is no input, and one of a clock is neither
  no_input : (t u : Triple) (name : List ℕ) → In side.outputs t → In side.inputs u → IsEntry t name → IsEntry u name → ⊥
  no_input t u name i j e f =
      let first = left_givers names_of (side.triples ++ side.inputs ++ side.outputs) side.clocks apart.entries in
      givers_apart names_of (side.triples ++ side.inputs) side.outputs first u t name (in_right side.triples side.inputs u j) i f e

  no_clock : (t u : Triple) (name : List ℕ) → In side.clocks t → In (side.triples ++ side.inputs ++ side.outputs) u → IsEntry t name → IsEntry u name → ⊥
  no_clock t u name i j e f = givers_apart names_of (side.triples ++ side.inputs ++ side.outputs) side.clocks apart.entries u t name j i f e

  not_in : (name : List ℕ) (triples : List Triple) → ((u : Triple) → In triples u → IsEntry u name → ⊥) → list_any (is_entry name) triples ≡ false
  not_in name triples n = is_false (list_any (is_entry name) triples) (λ h. (let r = any_from (is_entry name) triples h in n r.0 r.1 (is_entry_from name r.0 r.2)))

  input_role : (t : Triple) (name : List ℕ) → In side.inputs t → IsEntry t name → role_of side name ≡ InputPad
  input_role t name i e = ap (λ b. if b then InputPad else if list_any (is_entry name) side.outputs then OutputPad else ClockPad) (any_to (is_entry name) side.inputs t i (is_entry_to name t e))

  output_role : (t : Triple) (name : List ℕ) → In side.outputs t → IsEntry t name → role_of side name ≡ OutputPad
  output_role t name i e =
      ap₂ (λ a b. if a then InputPad else if b then OutputPad else ClockPad) (not_in name side.inputs (λ u j f. no_input t u name i j e f)) (any_to (is_entry name) side.outputs t i (is_entry_to name t e))

  clock_role : (t : Triple) (name : List ℕ) → In side.clocks t → IsEntry t name → role_of side name ≡ ClockPad
  clock_role t name i e = ap₂ (λ a b. if a then InputPad else if b then OutputPad else ClockPad)
      (not_in name side.inputs (λ u j f. no_clock t u name i (in_left (side.triples ++ side.inputs) side.outputs u (in_right side.triples side.inputs u j)) e f))
      (not_in name side.outputs (λ u j f. no_clock t u name i (in_right (side.triples ++ side.inputs) side.outputs u j) e f))

-- ---- the cells

module _ (device : Device) (k : Configured) (apart : IsApart k.side) (made : cells_of k.graph device.profile k.image k.side ≡ Ok k.cells) where
  pub accepted : CellsAreAccepted k.graph device.profile k.image k.side
  accepted = cells_accepted k.graph device.profile k.image k.side k.cells made

  pub of_slice : (c : SliceCell) → In k.cells.slices c → IsSliceOf k.graph device.profile k.image k.side c
  of_slice c = (slices_named k.graph device.profile k.image k.side k.cells made c).0

  pub of_pad : (c : PadCell) → In k.cells.pads c → IsPadOf k.graph device.profile k.side c
  of_pad c = (pads_named k.graph device.profile k.image k.side k.cells made c).0

  -- the cell of a placed slice, and of a placed pad
  slice_there : (p : Placed) → In k.side.slices p → (c : SliceCell) × (In k.cells.slices c × ((c.name ≡ p.name) × (c.domain ≡ p.domain)))
  slice_there p i =
      let s = accepted.slices p i in
      let c = slice_cell k.graph device.profile.rules k.image p s.0 in
      (c, ((slices_named k.graph device.profile k.image k.side k.cells made c).1 (record { placed = p; site = s.0; listed = i; stands = s.1.0; cell = refl }), (refl, refl)))

  pad_there : (p : Placed) → In k.side.pads p → (c : PadCell) × (In k.cells.pads c × ((c.name ≡ p.name) × ((c.domain ≡ p.domain) × (c.role ≡ role_of k.side p.name))))
  pad_there p i =
      let s = accepted.pads p i in
      let c = pad_cell k.graph device.profile.rules k.side p s.0 in
      (c, ((pads_named k.graph device.profile k.image k.side k.cells made c).1 (record { placed = p; site = s.0; listed = i; stands = s.1.0; cell = refl }), (refl, (refl, refl))))

  pub in_slices : (p : Placed) → In k.side.slices p → In (placed_cells k.side) p
  in_slices p i = in_left k.side.slices k.side.pads p i

  pub in_pads : (p : Placed) → In k.side.pads p → In (placed_cells k.side) p
  in_pads p i = in_right k.side.slices k.side.pads p i

  -- placed cells of one name are one, and so are those of one site
  pub one_name : (p q : Placed) → In (placed_cells k.side) p → In (placed_cells k.side) q → p.name ≡ q.name → p ≡ q
  one_name p q i j e = one_of_key (λ (r : Placed). r.name) (placed_cells k.side) apart.names p q i j e

  pub one_site : (p q : Placed) → In (placed_cells k.side) p → In (placed_cells k.side) q → p.tile ≡ q.tile → p.kind ≡ q.kind → p ≡ q
  one_site p q i j e f = one_of_key site_of (placed_cells k.side) apart.sites p q i j (ap₂ (λ (a : List ℕ) (b : List ℕ). (a, b)) e f)

  -- the cells of one placed cell are one
  pub one_slice : (c d : SliceCell) (a : IsSliceOf k.graph device.profile k.image k.side c) (b : IsSliceOf k.graph device.profile k.image k.side d) → a.placed ≡ b.placed → c ≡ d
  one_slice c d a b e =
      let site : a.site ≡ b.site = same_Some a.site b.site (sym a.stands ∙ ap (slice_site k.graph device.profile) e ∙ b.stands) in
      sym a.cell ∙ ap₂ (slice_cell k.graph device.profile.rules k.image) e site ∙ b.cell

  pub one_pad : (c d : PadCell) (a : IsPadOf k.graph device.profile k.side c) (b : IsPadOf k.graph device.profile k.side d) → a.placed ≡ b.placed → c ≡ d
  one_pad c d a b e =
      let site : a.site ≡ b.site = same_Some a.site b.site (sym a.stands ∙ ap (pad_site k.graph device.profile) e ∙ b.stands) in
      sym a.cell ∙ ap₂ (pad_cell k.graph device.profile.rules k.side) e site ∙ b.cell

  pub slice_name : (c : SliceCell) (a : IsSliceOf k.graph device.profile k.image k.side c) → a.placed.name ≡ c.name
  slice_name c a = ap (λ (s : SliceCell). s.name) a.cell

  pub pad_name : (c : PadCell) (a : IsPadOf k.graph device.profile k.side c) → a.placed.name ≡ c.name
  pad_name c a = ap (λ (s : PadCell). s.name) a.cell

  pub names_apart : NamesApart k.cells
  names_apart = record {
    slices = λ s u i j e. (let a = of_slice s i in let b = of_slice u j in
        one_slice s u a b (one_name a.placed b.placed (in_slices a.placed a.listed) (in_slices b.placed b.listed) (slice_name s a ∙ e ∙ sym (slice_name u b))));
    pads = λ p q i j e. (let a = of_pad p i in let b = of_pad q j in
        one_pad p q a b (one_name a.placed b.placed (in_pads a.placed a.listed) (in_pads b.placed b.listed) (pad_name p a ∙ e ∙ sym (pad_name q b))));
    kinds = λ s p i j e. (let a = of_slice s i in let b = of_pad p j in
        keys_apart (λ (r : Placed). r.name) k.side.slices k.side.pads apart.names a.placed b.placed a.listed b.listed (slice_name s a ∙ e ∙ sym (pad_name p b)));
  }

  slice_of_entry : (t : Triple) (name : List ℕ) → In k.side.triples t → IsEntry t name → IsSlice k.cells name
  slice_of_entry t name i e =
      let p = entry_listed k.side.slices t name (apart.slice_entries t i) e in
      let c = slice_there p.0 p.1.0 in
      (c.0, (c.1.0, c.1.1.0 ∙ p.1.1))

  pad_of_entry : (t : Triple) (name : List ℕ) (role : Role) → In (pad_triples k.side) t → IsEntry t name → role_of k.side name ≡ role → IsPad k.cells role name
  pad_of_entry t name role i e r =
      let p = entry_listed k.side.pads t name (apart.pad_entries t i) e in
      let c = pad_there p.0 p.1.0 in
      (c.0, (c.1.0, c.1.1.0 ∙ p.1.1, c.1.1.1.1 ∙ ap (role_of k.side) p.1.1 ∙ r))

  pub one_triple : (t u : Triple) (name : List ℕ) → In (all_triples k.side) t → In (all_triples k.side) u → IsEntry t name → IsEntry u name → t ≡ u
  one_triple t u name i j e f = one_giver names_of (all_triples k.side) apart.entries t u name i j e f

  -- the triple of a slice
  pub slice_paired : (c : SliceCell) → In k.cells.slices c → (t : Triple) × (In k.side.triples t × IsEntry t c.name)
  slice_paired c i =
      let a = of_slice c i in
      let t = apart.slices_paired a.placed a.listed in
      (t.0, (t.1.0, subst (IsEntry t.0) (slice_name c a) t.1.1))

  pad_paired : (c : PadCell) → In k.cells.pads c → (t : Triple) × (In (pad_triples k.side) t × IsEntry t c.name)
  pad_paired c i =
      let a = of_pad c i in
      let t = apart.pads_paired a.placed a.listed in
      (t.0, (t.1.0, subst (IsEntry t.0) (pad_name c a) t.1.1))

  paired : (name : List ℕ) (d : Domain) → LiesIn k.cells name d → (t : Triple) × (In (all_triples k.side) t × IsEntry t name)
  paired name d lies =
      let of_slices_members = map (λ (s : SliceCell). let m : Member = record { name = s.name; domain = s.domain } in m) k.cells.slices in
      let of_pads_members = map (λ (p : PadCell). let m : Member = record { name = p.name; domain = p.domain } in m) k.cells.pads in
      elim (in_either of_slices_members of_pads_members (record { name = name; domain = d }) lies) [
        | inl i ↦ (let r = of_map (λ (s : SliceCell). let m : Member = record { name = s.name; domain = s.domain } in m) k.cells.slices (record { name = name; domain = d }) i in
            let t = slice_paired r.0 r.1.0 in
            (t.0, (of_slices k.side t.0 t.1.0, subst (IsEntry t.0) (ap (λ (m : Member). m.name) r.1.1) t.1.1)))
        | inr i ↦ (let r = of_map (λ (p : PadCell). let m : Member = record { name = p.name; domain = p.domain } in m) k.cells.pads (record { name = name; domain = d }) i in
            let t = pad_paired r.0 r.1.0 in
            (t.0, (of_pads k.side t.0 t.1.0, subst (IsEntry t.0) (ap (λ (m : Member). m.name) r.1.1) t.1.1)))
      ]

  pub triples_fit : TriplesFit (circuit_of k)
  triples_fit = record {
    slices = slice_of_entry;
    inputs = λ t name i e. pad_of_entry t name InputPad (pad_inputs k.side t i) e (input_role k.side apart t name i e);
    outputs = λ t name i e. pad_of_entry t name OutputPad (pad_outputs k.side t i) e (output_role k.side apart t name i e);
    clocks = λ t name i e. pad_of_entry t name ClockPad (pad_clocks k.side t i) e (clock_role k.side apart t name i e);
    paired = paired;
    once = one_triple;
  }

  -- a slice, or a pad, that is listed lies in its domain
  slice_lies : (name : List ℕ) (d : Domain) → Lists k.side.slices name d → LiesIn k.cells name d
  slice_lies name d l =
      let c = slice_there l.0 l.1.0 in
      let make : SliceCell → Member = λ s. record { name = s.name; domain = s.domain } in
      let same : make c.0 ≡ record { name = name; domain = d } = ap₂ (λ (n : List ℕ) (e : Domain). let m : Member = record { name = n; domain = e } in m) (c.1.1.0 ∙ l.1.1) (c.1.1.1 ∙ l.1.2) in
      in_left (map make k.cells.slices) (map (λ (p : PadCell). let m : Member = record { name = p.name; domain = p.domain } in m) k.cells.pads) (record { name = name; domain = d })
      (subst (In (map make k.cells.slices)) same (in_map make k.cells.slices c.0 c.1.0))

  pad_lies : (name : List ℕ) (d : Domain) → Lists k.side.pads name d → LiesIn k.cells name d
  pad_lies name d l =
      let c = pad_there l.0 l.1.0 in
      let make : PadCell → Member = λ p. record { name = p.name; domain = p.domain } in
      let same : make c.0 ≡ record { name = name; domain = d } = ap₂ (λ (n : List ℕ) (e : Domain). let m : Member = record { name = n; domain = e } in m) (c.1.1.0 ∙ l.1.1) (c.1.1.1.0 ∙ l.1.2) in
      in_right (map (λ (s : SliceCell). let m : Member = record { name = s.name; domain = s.domain } in m) k.cells.slices) (map make k.cells.pads) (record { name = name; domain = d })
      (subst (In (map make k.cells.pads)) same (in_map make k.cells.pads c.0 c.1.0))

  pub entries_in_domain : EntriesInDomain (circuit_of k)
  entries_in_domain = record {
    first = λ t i. elim (sorted k.side t i) [ inl j ↦ slice_lies t.first D0 (apart.slice_entries t j).first | inr j ↦ pad_lies t.first D0 (apart.pad_entries t j).first ];
    second = λ t i. elim (sorted k.side t i) [ inl j ↦ slice_lies t.second D1 (apart.slice_entries t j).second | inr j ↦ pad_lies t.second D1 (apart.pad_entries t j).second ];
    third = λ t i. elim (sorted k.side t i) [ inl j ↦ slice_lies t.third D2 (apart.slice_entries t j).third | inr j ↦ pad_lies t.third D2 (apart.pad_entries t j).third ];
  }
