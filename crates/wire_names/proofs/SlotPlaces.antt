-- What a slot stands for at a place, and what its name does.
use Rattle.std.proofs.Common.{◌≡◌, ℕ, ◌+ℤ◌, pos, Bool, true, false, cond, List, refl, sym, ap, ◌∙◌}
use Rattle.records.specs.Profile.{Rules}
use Rattle.fabric.specs.Wires as wires
use Rattle.fabric.specs.WireNames as names
use Rattle.fabric.specs.WireOfName.{begins_with_one, relative_of, wire_of_relative, wire_of_name, without_chip}
use Rattle.wire_names.specs.declared.relative.Relative.{Relative}
use Rattle.wire_names.specs.Parts.{relative_view}
use Rattle.wire_names.specs.Slots.{slot_at, slot_if}

same_slot : (place : ℕ × ℕ) (b : Bool) (r : Relative)
    → slot_at place (slot_if b r) ≡ names.Named (cond b (wires.Wide r.base.now) (wires.Local (pos place.0 +ℤ r.rows) (pos place.1 +ℤ r.columns) r.base.now))
same_slot place true r = refl
same_slot place false r = refl

pub slot_stands : (place : ℕ × ℕ) (name : List ℕ) (rules : Rules) (b : Bool) (r : Relative) → begins_with_one rules.other_chips name ≡ false
    → relative_view r ≡ relative_of (without_chip rules.chip_prefix name) → b ≡ begins_with_one rules.wide r.base.now → slot_at place (slot_if b r) ≡ wire_of_name place name rules
slot_stands place name rules b r own parts wide =
    let here = λ (w : Bool). names.Named (cond w (wires.Wide r.base.now) (wires.Local (pos place.0 +ℤ r.rows) (pos place.1 +ℤ r.columns) r.base.now)) in
    let whole : wire_of_name place name rules ≡ wire_of_relative place rules (relative_of (without_chip rules.chip_prefix name)) =
    ap (λ (o : Bool). cond o names.Ignored (wire_of_relative place rules (relative_of (without_chip rules.chip_prefix name)))) own in
    same_slot place b r ∙ ap here wide ∙ ap (wire_of_relative place rules) parts ∙ sym whole
