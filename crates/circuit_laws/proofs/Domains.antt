-- A wire has one domain at most, and so has a named cell.
use Rattle.std.proofs.Common.{◌≡◌, ℕ, List, map, inl, inr, sym, ap, ◌∙◌}
use Rattle.records.specs.Side.{Domain}
use Rattle.circuit.specs.Cells.{SliceCell, PadCell, Cells}
use Rattle.circuit.specs.Triples.{Member, LiesIn}
use Rattle.circuit.specs.Circuits.{Circuit}
use Rattle.circuit.specs.Domains.{HasDomain}
use Rattle.circuit.specs.WellFormed.{NamesApart, IsWellFormed}
use Rattle.links.proofs.Members.{in_either, of_map}

pub wire_domain : (c : Circuit) → IsWellFormed c → (w : ℕ) (d e : Domain) → HasDomain c w d → HasDomain c w e → d ≡ e
wire_domain c formed w d e x y =
    sym x.domain ∙ (ap (λ z. z.domain) (formed.outputs.alone x.source y.source x.listed y.listed (y.only x.source.out x.feeds)) ∙ y.domain)

abbrev slice_member : SliceCell → Member
slice_member s = record { name = s.name; domain = s.domain }

abbrev pad_member : PadCell → Member
pad_member p = record { name = p.name; domain = p.domain }

pub cell_domain : (cells : Cells) → NamesApart cells → (name : List ℕ) (d e : Domain) → LiesIn cells name d → LiesIn cells name e → d ≡ e
cell_domain cells names name d e i j = elim (in_either (map slice_member cells.slices) (map pad_member cells.pads) _ i) [
  | inl k ↦ (let s = of_map slice_member cells.slices _ k in elim (in_either (map slice_member cells.slices) (map pad_member cells.pads) _ j) [
    | inl l ↦ (let u = of_map slice_member cells.slices _ l in
        let same = names.slices s.0 u.0 s.1.0 u.1.0 (ap (λ z. z.name) s.1.1 ∙ ap (λ z. z.name) (sym u.1.1)) in
        ap (λ z. z.domain) (sym s.1.1) ∙ (ap (λ z. z.domain) same ∙ ap (λ z. z.domain) u.1.1))
    | inr l ↦ (let p = of_map pad_member cells.pads _ l in absurd (names.kinds s.0 p.0 s.1.0 p.1.0 (ap (λ z. z.name) s.1.1 ∙ ap (λ z. z.name) (sym p.1.1))))
  ])
  | inr k ↦ (let p = of_map pad_member cells.pads _ k in elim (in_either (map slice_member cells.slices) (map pad_member cells.pads) _ j) [
    | inl l ↦ (let s = of_map slice_member cells.slices _ l in absurd (names.kinds s.0 p.0 s.1.0 p.1.0 (ap (λ z. z.name) s.1.1 ∙ ap (λ z. z.name) (sym p.1.1))))
    | inr l ↦ (let q = of_map pad_member cells.pads _ l in
        let same = names.pads p.0 q.0 p.1.0 q.1.0 (ap (λ z. z.name) p.1.1 ∙ ap (λ z. z.name) (sym q.1.1)) in
        ap (λ z. z.domain) (sym p.1.1) ∙ (ap (λ z. z.domain) same ∙ ap (λ z. z.domain) q.1.1))
  ])
]
