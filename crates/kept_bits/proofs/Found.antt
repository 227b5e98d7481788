-- Names that are ignored, and the bits of one arc more.
use Rattle.std.proofs.Common.{◌≡◌, ℕ, ◌+◌, ◌<◌, Bool, true, false, List, ◌++◌, length, drop, get_or, flat_map, refl, sym, ap, ◌∙◌}
use Rattle.std.specs.Prelude.{if◌then◌else◌}
use Rattle.std.proofs.lemmas.List.{drop_more}
use Rattle.patterns.specs.Bits.{DeviceBit}
use Rattle.records.specs.Database.{Arc}
use Rattle.records.specs.Profile.{Rules}
use Rattle.fabric.specs.Wires.{Wire}
use Rattle.fabric.specs.WireNames.{Named, Ignored}
use Rattle.fabric.specs.WireOfName.{wire_of_name}
use Rattle.record_laws.specs.KeptBits.{arc_bits, is_ignored, put_in}
use Rattle.record_laws.proofs.Order.{put_both}

named_by : (b : Bool) (v w : Wire) → Named w ≡ (if b then Ignored else Named v) → false ≡ b
named_by true v w h = let no : ⊥ = cc in absurd no
named_by false v w h = refl

ignored_by : (b : Bool) (v : Wire) → Ignored ≡ (if b then Ignored else Named v) → true ≡ b
ignored_by true v h = refl
ignored_by false v h = let no : ⊥ = cc in absurd no

-- a name that stands for a wire isn't ignored, and one that stands for none is
pub not_ignored : (row column : ℕ) (name : List ℕ) (rules : Rules) (w : Wire) → Named w ≡ wire_of_name (row, column) name rules → false ≡ is_ignored rules name
not_ignored row column name rules w h = named_by (is_ignored rules name) _ w h

pub ignored : (row column : ℕ) (name : List ℕ) (rules : Rules) → Ignored ≡ wire_of_name (row, column) name rules → true ≡ is_ignored rules name
ignored row column name rules h = ignored_by (is_ignored rules name) _ h

-- the bits of one arc more
pub next_arc : (rules : Rules) (arcs : List Arc) (i : ℕ) (arc : Arc) (bits more all : List DeviceBit) → i < length arcs → arc ≡ get_or arcs i arc
    → put_in bits (flat_map (arc_bits rules) (drop i arcs)) ≡ all → more ≡ put_in bits (arc_bits rules arc) → put_in more (flat_map (arc_bits rules) (drop (i + 1) arcs)) ≡ all
next_arc rules arcs i arc bits more all below at left is =
    let rest = flat_map (arc_bits rules) (drop (i + 1) arcs) in
    ap (λ b. put_in b rest) is
    ∙ (sym (put_both bits (arc_bits rules arc) rest)
    ∙ (ap (λ x. put_in bits (arc_bits rules x ++ rest)) at
    ∙ (ap (λ xs. put_in bits (flat_map (arc_bits rules) xs)) (sym (drop_more arcs i arc below)) ∙ left)))
