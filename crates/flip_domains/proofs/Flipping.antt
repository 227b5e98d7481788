-- The domains of flips are those of the roots and of the touched cells.
use Rattle.std.proofs.Common.{◌≡◌, ℕ, ◌↔◌, ◌⊎◌, Bool, true, false, List, map, filter, get_or, Some, None, sym, ap, subst, ◌∙◌, inl, inr}
use Rattle.std.specs.List.{list_any}
use Rattle.std.proofs.lemmas.Bool.{false≢true}
use Rattle.words.specs.Members.{In}
use Rattle.patterns.specs.Bits.{Bits}
use Rattle.records.specs.Side.{Domain}
use Rattle.links.specs.Links.{IsClean}
use Rattle.links.proofs.Members.{in_either, in_left, in_right, in_map, of_map}
use Rattle.fabric.specs.Links.{routing_of}
use Rattle.fabric_laws.proofs.Members.{in_filter_from, in_filter_to}
use Rattle.circuit.specs.Cells.{SliceCell, PadCell, Cells}
use Rattle.circuit.specs.Triples.{Member, LiesIn}
use Rattle.circuit.specs.WellFormed.{NamesApart}
use Rattle.upset.specs.Configured.{Configured, circuit_of}
use Rattle.upset.specs.Effect.{touched_names}
use Rattle.upset.specs.Roots.{IsRoot, RootsHave}
use Rattle.upset.specs.Safe.{FlipsHave, IsBad}
use Rattle.upset_laws.proofs.Roots.{roots_domains}
use Rattle.domain_map.specs.Labels.{AreLabels, WireLabels}
use Rattle.flip_domains.specs.declared.set.Domains.{Domains}
use Rattle.flip_domains.specs.Sets.{Gains, HasTwo, has_domain}
use Rattle.flip_domains.proofs.Gaining.{OneOf}

-- a setting of a slice, or of a pad, of a domain names a bit that flips
abbrev pub SliceHas : Bits → SliceCell → Domain → Type 0
SliceHas flips s d = (list_any flips s.bits ≡ true) × (s.domain ≡ d)

abbrev pub PadHas : Bits → PadCell → Domain → Type 0
PadHas flips p d = (list_any flips p.bits ≡ true) × (p.domain ≡ d)

-- a wire of a domain, by its label
abbrev pub WireHas : WireLabels → ℕ → Domain → Type 0
WireHas l w d = get_or l.domains w None ≡ Some d

-- a touched cell by its name
abbrev pub CellHas : Cells → Bits → Domain → Type 0
CellHas cells flips d = (name : List ℕ) × (In (touched_names cells flips) name × LiesIn cells name d)

module _ (cells : Cells) (flips : Bits) (d : Domain) where
  touched_slices : List SliceCell
  touched_slices = filter (λ (s : SliceCell). list_any flips s.bits) cells.slices

  touched_pads : List PadCell
  touched_pads = filter (λ (p : PadCell). list_any flips p.bits) cells.pads

  slice_names : List (List ℕ)
  slice_names = map (λ (s : SliceCell). s.name) touched_slices

  pad_names : List (List ℕ)
  pad_names = map (λ (p : PadCell). p.name) touched_pads

  slice_member : SliceCell → Member
  slice_member s = record { name = s.name; domain = s.domain }

  pad_member : PadCell → Member
  pad_member p = record { name = p.name; domain = p.domain }

  pub by_slice : OneOf (SliceHas flips) cells.slices d → CellHas cells flips d
  unfolding touched_slices touched_pads slice_names pad_names slice_member pad_member
  by_slice h =
      let domain = h.1.1.1 in (
        h.0.name,
        (
          in_left slice_names pad_names h.0.name (in_map (λ (s : SliceCell). s.name) touched_slices h.0 (in_filter_to (λ (s : SliceCell). list_any flips s.bits) cells.slices h.0 h.1.0 h.1.1.0)),
          in_left (map slice_member cells.slices) (map pad_member cells.pads) (record { name = h.0.name; domain = d })
              (subst (In (map slice_member cells.slices)) (λ j. record { name = h.0.name; domain = domain j }) (in_map slice_member cells.slices h.0 h.1.0)),
        ),
      )

  pub by_pad : OneOf (PadHas flips) cells.pads d → CellHas cells flips d
  unfolding touched_slices touched_pads slice_names pad_names slice_member pad_member
  by_pad h =
      let domain = h.1.1.1 in (
        h.0.name,
        (
          in_right slice_names pad_names h.0.name (in_map (λ (p : PadCell). p.name) touched_pads h.0 (in_filter_to (λ (p : PadCell). list_any flips p.bits) cells.pads h.0 h.1.0 h.1.1.0)),
          in_right (map slice_member cells.slices) (map pad_member cells.pads) (record { name = h.0.name; domain = d })
              (subst (In (map pad_member cells.pads)) (λ j. record { name = h.0.name; domain = domain j }) (in_map pad_member cells.pads h.0 h.1.0)),
        ),
      )

  -- a touched slice by its name, and a cell of that name
  of_slice : NamesApart cells → (name : List ℕ) (s : SliceCell) → In cells.slices s → list_any flips s.bits ≡ true → s.name ≡ name → LiesIn cells name d → OneOf (SliceHas flips) cells.slices d
  unfolding slice_member pad_member
  of_slice apart name s i touched e lies = elim (in_either (map slice_member cells.slices) (map pad_member cells.pads) (record { name = name; domain = d }) lies) [
    | inl j ↦ (let u = of_map slice_member cells.slices (record { name = name; domain = d }) j in
        let same : s ≡ u.0 = apart.slices s u.0 i u.1.0 (e ∙ sym (ap (λ (m : Member). m.name) u.1.1)) in
        (s, (i, (touched, ap (λ (x : SliceCell). x.domain) same ∙ ap (λ (m : Member). m.domain) u.1.1))))
    | inr j ↦ (let p = of_map pad_member cells.pads (record { name = name; domain = d }) j in
        absurd (apart.kinds s p.0 i p.1.0 (e ∙ sym (ap (λ (m : Member). m.name) p.1.1))))
  ]

  of_pad : NamesApart cells → (name : List ℕ) (p : PadCell) → In cells.pads p → list_any flips p.bits ≡ true → p.name ≡ name → LiesIn cells name d → OneOf (PadHas flips) cells.pads d
  unfolding slice_member pad_member
  of_pad apart name p i touched e lies = elim (in_either (map slice_member cells.slices) (map pad_member cells.pads) (record { name = name; domain = d }) lies) [
    | inl j ↦ (let u = of_map slice_member cells.slices (record { name = name; domain = d }) j in
        absurd (apart.kinds u.0 p u.1.0 i (ap (λ (m : Member). m.name) u.1.1 ∙ sym e)))
    | inr j ↦ (let q = of_map pad_member cells.pads (record { name = name; domain = d }) j in
        let same : p ≡ q.0 = apart.pads p q.0 i q.1.0 (e ∙ sym (ap (λ (m : Member). m.name) q.1.1)) in
        (p, (i, (touched, ap (λ (x : PadCell). x.domain) same ∙ ap (λ (m : Member). m.domain) q.1.1))))
  ]

  pub by_cell : NamesApart cells → CellHas cells flips d → OneOf (SliceHas flips) cells.slices d ⊎ OneOf (PadHas flips) cells.pads d
  unfolding touched_slices touched_pads slice_names pad_names
  by_cell apart h = elim (in_either slice_names pad_names h.0 h.1.0) [
    | inl i ↦ (let s = of_map (λ (s : SliceCell). s.name) touched_slices h.0 i in
        let f = in_filter_from (λ (s : SliceCell). list_any flips s.bits) cells.slices s.0 s.1.0 in
        inl (of_slice apart h.0 s.0 f.0 f.1 s.1.1 h.1.1))
    | inr i ↦ (let p = of_map (λ (p : PadCell). p.name) touched_pads h.0 i in
        let f = in_filter_from (λ (p : PadCell). list_any flips p.bits) cells.pads p.0 p.1.0 in
        inr (of_pad apart h.0 p.0 f.0 f.1 p.1.1 h.1.1))
  ]

module _ (k : Configured) (flips : Bits) (l : WireLabels) (wires : List ℕ) (none of_wires of_slices of_pads : Domains) (clean : IsClean (routing_of k.graph k.image)) (labels : AreLabels (circuit_of k) l) (apart : NamesApart k.cells)
    (roots : (w : ℕ) → In wires w ↔ IsRoot k flips w) (empty : (d : Domain) → has_domain none d ≡ false) (one : Gains none of_wires (OneOf (WireHas l) wires)) (two : Gains of_wires of_slices (OneOf (SliceHas flips) k.cells.slices))
    (three : Gains of_slices of_pads (OneOf (PadHas flips) k.cells.pads)) where
  from_wires : (d : Domain) → has_domain of_wires d ≡ true → RootsHave k flips d
  from_wires d h = elim ((one d).0 h) [
    | inl e ↦ absurd (false≢true (sym (empty d) ∙ e))
    | inr r ↦ inl (r.0, ((roots r.0).0 r.1.0, (labels.domains_are r.0 d).1 r.1.1))
  ]

  from_slices : (d : Domain) → has_domain of_slices d ≡ true → RootsHave k flips d
  from_slices d h = elim ((two d).0 h) [
    | inl e ↦ from_wires d e
    | inr r ↦ inr (by_slice k.cells flips d r)
  ]

  from_pads : (d : Domain) → has_domain of_pads d ≡ true → RootsHave k flips d
  from_pads d h = elim ((three d).0 h) [
    | inl e ↦ from_slices d e
    | inr r ↦ inr (by_pad k.cells flips d r)
  ]

  to_pads : (d : Domain) → RootsHave k flips d → has_domain of_pads d ≡ true
  to_pads d h = elim h [
    | inl w ↦ (three d).1 (inl ((two d).1 (inl ((one d).1 (inr (w.0, ((roots w.0).1 w.1.0, (labels.domains_are w.0 d).0 w.1.1)))))))
    | inr c ↦ elim (by_cell k.cells flips d apart c) [
      | inl s ↦ (three d).1 (inl ((two d).1 (inr s)))
      | inr p ↦ (three d).1 (inr p)
    ]
  ]

  pub domains_are : (d : Domain) → (has_domain of_pads d ≡ true) ↔ FlipsHave k flips d
  domains_are d = (
    (λ h. (roots_domains k flips clean d).1 (from_pads d h)),
    (λ h. to_pads d ((roots_domains k flips clean d).0 h)),
  )

-- flips are bad where their set has two domains
pub bad_is : (k : Configured) (flips : Bits) (s : Domains) (b : Bool) → ((d : Domain) → (has_domain s d ≡ true) ↔ FlipsHave k flips d) → (b ≡ true) ↔ HasTwo s → (b ≡ true) ↔ IsBad k flips
bad_is k flips s b are two = (
  (λ h. let t = two.0 h in (t.0, (t.1.0, ((are t.0).0 t.1.1.0, (are t.1.0).0 t.1.1.1, t.1.1.2)))),
  (λ h. two.1 (h.0, (h.1.0, ((are h.0).1 h.1.1.0, (are h.1.0).1 h.1.1.1, h.1.1.2)))),
)
