-- The touched cells of a domain are slices and pads with it.
use Rattle.std.proofs.Common.{◌≡◌, ◌⊎◌, ℕ, Bool, true, false, ◌&&◌, cond, List, map, filter, Option, None, Some, refl, sym, ap, subst, ◌∙◌, inl, inr}
use Rattle.std.specs.List.{list_any}
use Rattle.std.proofs.lemmas.Bool.{false≢true, and_from, and_parts}
use Rattle.words.specs.Members.{In}
use Rattle.patterns.specs.Bits.{Bits}
use Rattle.records.specs.Side.{Domain, D0, D1, D2}
use Rattle.links.proofs.Members.{in_either, in_left, in_right, in_map, of_map}
use Rattle.fabric.specs.Wires.{name_cmp}
use Rattle.fabric_laws.proofs.Members.{in_filter_from, in_filter_to, if_true}
use Rattle.circuit.specs.Cells.{SliceCell, PadCell, Cells}
use Rattle.circuit.specs.Triples.{Member, LiesIn}
use Rattle.circuit.specs.WellFormed.{NamesApart}
use Rattle.side_form.specs.Side.{same_domain}
use Rattle.bad_bits.specs.Least.{LeastOrNone, NamesOf, TouchedOf, lesser_of, pad_name, slice_name}
use Rattle.bad_bits.proofs.Leasts.{lesser_least}

pub same_is : (d e : Domain) → same_domain d e ≡ true → d ≡ e
same_is D0 D0 h = refl
same_is D0 D1 h = absurd (false≢true h)
same_is D0 D2 h = absurd (false≢true h)
same_is D1 D0 h = absurd (false≢true h)
same_is D1 D1 h = refl
same_is D1 D2 h = absurd (false≢true h)
same_is D2 D0 h = absurd (false≢true h)
same_is D2 D1 h = absurd (false≢true h)
same_is D2 D2 h = refl

same_refl : (d : Domain) → same_domain d d ≡ true
same_refl D0 = refl
same_refl D1 = refl
same_refl D2 = refl

pub is_same : (d e : Domain) → d ≡ e → same_domain d e ≡ true
is_same d e h = subst (λ x. same_domain d x ≡ true) h (same_refl d)

some_if : (b : Bool) (x n : List ℕ) → cond b (Some x) None ≡ Some n → (b ≡ true) × (x ≡ n)
some_if true x n h = (refl, (let same : x ≡ n = cc in same))
some_if false x n h = absurd (let no : ⊥ = cc in no)

module _ (cells : Cells) (flips : Bits) (d : Domain) where
  slice_member : SliceCell → Member
  slice_member s = record { name = s.name; domain = s.domain }

  pad_member : PadCell → Member
  pad_member p = record { name = p.name; domain = p.domain }

  touched_slices : List SliceCell
  touched_slices = filter (λ (s : SliceCell). list_any flips s.bits) cells.slices

  touched_pads : List PadCell
  touched_pads = filter (λ (p : PadCell). list_any flips p.bits) cells.pads

  named_slice : (s : SliceCell) → s.domain ≡ d → list_any flips s.bits ≡ true → slice_name flips d s ≡ Some s.name
  named_slice s e t = if_true (same_domain d s.domain && list_any flips s.bits) (Some s.name) None (and_from (same_domain d s.domain) (list_any flips s.bits) (is_same d s.domain (sym e)) t)

  named_pad : (p : PadCell) → p.domain ≡ d → list_any flips p.bits ≡ true → pad_name flips d p ≡ Some p.name
  named_pad p e t = if_true (same_domain d p.domain && list_any flips p.bits) (Some p.name) None (and_from (same_domain d p.domain) (list_any flips p.bits) (is_same d p.domain (sym e)) t)

  -- a touched cell of the domain by its name is a slice or a pad
  of_slice : NamesApart cells → (name : List ℕ) (s : SliceCell) → In cells.slices s → list_any flips s.bits ≡ true → s.name ≡ name → LiesIn cells name d → NamesOf (slice_name flips d) cells.slices name
  unfolding slice_member pad_member
  of_slice apart name s i touched e lies = elim (in_either (map slice_member cells.slices) (map pad_member cells.pads) (record { name = name; domain = d }) lies) [
    | inl j ↦ (let u = of_map slice_member cells.slices (record { name = name; domain = d }) j in
        let same : s ≡ u.0 = apart.slices s u.0 i u.1.0 (e ∙ sym (ap (λ (m : Member). m.name) u.1.1)) in
        let domain : s.domain ≡ d = ap (λ (x : SliceCell). x.domain) same ∙ ap (λ (m : Member). m.domain) u.1.1 in
        (s, (i, named_slice s domain touched ∙ ap (λ n. Some n) e)))
    | inr j ↦ (let p = of_map pad_member cells.pads (record { name = name; domain = d }) j in
        absurd (apart.kinds s p.0 i p.1.0 (e ∙ sym (ap (λ (m : Member). m.name) p.1.1))))
  ]

  of_pad : NamesApart cells → (name : List ℕ) (p : PadCell) → In cells.pads p → list_any flips p.bits ≡ true → p.name ≡ name → LiesIn cells name d → NamesOf (pad_name flips d) cells.pads name
  unfolding slice_member pad_member
  of_pad apart name p i touched e lies = elim (in_either (map slice_member cells.slices) (map pad_member cells.pads) (record { name = name; domain = d }) lies) [
    | inl j ↦ (let u = of_map slice_member cells.slices (record { name = name; domain = d }) j in
        absurd (apart.kinds u.0 p u.1.0 i (ap (λ (m : Member). m.name) u.1.1 ∙ sym e)))
    | inr j ↦ (let q = of_map pad_member cells.pads (record { name = name; domain = d }) j in
        let same : p ≡ q.0 = apart.pads p q.0 i q.1.0 (e ∙ sym (ap (λ (m : Member). m.name) q.1.1)) in
        let domain : p.domain ≡ d = ap (λ (x : PadCell). x.domain) same ∙ ap (λ (m : Member). m.domain) q.1.1 in
        (p, (i, named_pad p domain touched ∙ ap (λ n. Some n) e)))
  ]

  from_touched : NamesApart cells → (name : List ℕ) → TouchedOf cells flips d name → NamesOf (slice_name flips d) cells.slices name ⊎ NamesOf (pad_name flips d) cells.pads name
  unfolding touched_slices touched_pads
  from_touched apart name h = elim (in_either (map (λ (s : SliceCell). s.name) touched_slices) (map (λ (p : PadCell). p.name) touched_pads) name h.0) [
    | inl i ↦ (let s = of_map (λ (s : SliceCell). s.name) touched_slices name i in
        let f = in_filter_from (λ (s : SliceCell). list_any flips s.bits) cells.slices s.0 s.1.0 in
        inl (of_slice apart name s.0 f.0 f.1 s.1.1 h.1))
    | inr i ↦ (let p = of_map (λ (p : PadCell). p.name) touched_pads name i in
        let f = in_filter_from (λ (p : PadCell). list_any flips p.bits) cells.pads p.0 p.1.0 in
        inr (of_pad apart name p.0 f.0 f.1 p.1.1 h.1))
  ]

  by_slice : (s : SliceCell) → In cells.slices s → s.domain ≡ d → list_any flips s.bits ≡ true → TouchedOf cells flips d s.name
  unfolding touched_slices touched_pads slice_member pad_member
  by_slice s i e t = (
    in_left (map (λ (s : SliceCell). s.name) touched_slices) (map (λ (p : PadCell). p.name) touched_pads) s.name
        (in_map (λ (s : SliceCell). s.name) touched_slices s (in_filter_to (λ (s : SliceCell). list_any flips s.bits) cells.slices s i t)),
    in_left (map slice_member cells.slices) (map pad_member cells.pads) (record { name = s.name; domain = d })
        (subst (In (map slice_member cells.slices)) (λ j. record { name = s.name; domain = e j }) (in_map slice_member cells.slices s i)),
  )

  by_pad : (p : PadCell) → In cells.pads p → p.domain ≡ d → list_any flips p.bits ≡ true → TouchedOf cells flips d p.name
  unfolding touched_slices touched_pads slice_member pad_member
  by_pad p i e t = (
    in_right (map (λ (s : SliceCell). s.name) touched_slices) (map (λ (p : PadCell). p.name) touched_pads) p.name
        (in_map (λ (p : PadCell). p.name) touched_pads p (in_filter_to (λ (p : PadCell). list_any flips p.bits) cells.pads p i t)),
    in_right (map slice_member cells.slices) (map pad_member cells.pads) (record { name = p.name; domain = d })
        (subst (In (map pad_member cells.pads)) (λ j. record { name = p.name; domain = e j }) (in_map pad_member cells.pads p i)),
  )

  to_touched : (name : List ℕ) → NamesOf (slice_name flips d) cells.slices name ⊎ NamesOf (pad_name flips d) cells.pads name → TouchedOf cells flips d name
  to_touched name h = elim h [
    | inl s ↦ (let r = some_if (same_domain d s.0.domain && list_any flips s.0.bits) s.0.name name s.1.1 in
        let parts = and_parts (same_domain d s.0.domain) (list_any flips s.0.bits) r.0 in
        subst (λ n. TouchedOf cells flips d n) r.1 (by_slice s.0 s.1.0 (sym (same_is d s.0.domain parts.0)) parts.1))
    | inr p ↦ (let r = some_if (same_domain d p.0.domain && list_any flips p.0.bits) p.0.name name p.1.1 in
        let parts = and_parts (same_domain d p.0.domain) (list_any flips p.0.bits) r.0 in
        subst (λ n. TouchedOf cells flips d n) r.1 (by_pad p.0 p.1.0 (sym (same_is d p.0.domain parts.0)) parts.1))
  ]

  -- the lesser of the least slice and the least pad is the least touched cell
  pub least_cell : (slice pad : Option (List ℕ)) → NamesApart cells → LeastOrNone name_cmp (NamesOf (slice_name flips d) cells.slices) slice → LeastOrNone name_cmp (NamesOf (pad_name flips d) cells.pads) pad
      → LeastOrNone name_cmp (TouchedOf cells flips d) (lesser_of slice pad)
  least_cell slice pad apart one two =
      lesser_least (NamesOf (slice_name flips d) cells.slices) (NamesOf (pad_name flips d) cells.pads) (TouchedOf cells flips d) (λ n. (from_touched apart n, to_touched n)) slice pad one two
