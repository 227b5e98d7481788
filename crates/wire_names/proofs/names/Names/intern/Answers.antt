use Rattle.std.proofs.Common.{◌≡◌, ◌≢◌, ◌∙◌, sym, subst, map, length, ℕ, List, arith}
use Rattle.std.proofs.lemmas.List.{length-map}
use Rattle.records.specs.Limits.{most_wires}
use Rattle.wire_names.specs.Codes.{IsCodeOfName, AreKept}
use Rattle.wire_names.specs.LentNames.{wire_name}
use Rattle.wire_names.proofs.Kept.{number_found, one_more_kept}
use Rattle.wire_names.proofs.names.Names.intern.Goals as goal

pub add_code-requires : goal.add_code-requires
add_code-requires c =
    let is = rw c.unwrap-code.ensures at c.code_of.ensures in
    number_found (wire_name c.args.w.now) c.as_slice.result.now (map (λ key. key.items) c.self.inside.codes.keys) c.args.self.now c.self.invariant c.self.view_is
    (subst (IsCodeOfName (wire_name c.args.w.now)) (sym c.as_slice.ensures.value) is)
    ∙ sym c.in_default.ensures.number

pub invariant_of-self-2 : goal.invariant_of-self-2
invariant_of-self-2 c =
    let codes : List (List ℕ) = map (λ key. key.items) c.self.inside.codes.keys in
    let is = rw c.unwrap-code.ensures at c.code_of.ensures in
    let coded = subst (IsCodeOfName (wire_name c.args.w.now)) (sym c.as_slice.ensures.value) is in
    let absent = number_found (wire_name c.args.w.now) c.as_slice.result.now codes c.args.self.now c.self.invariant c.self.view_is coded ∙ sym c.in_default.ensures.number in
    let count : c.len-count.result ≡ length codes = c.len-count.ensures.len ∙ sym (length-map c.self.inside.codes.keys (λ key. key.items)) in
    let room : length codes ≢ most_wires = (λ (full : length codes ≡ most_wires). let over = c.if-count-ge-MOST_WIRES.false in let no : ⊥ = omega arith in no) in
    subst AreKept (sym c.in_ok-add_code.ensures.ok)
    (one_more_kept (wire_name c.args.w.now) c.as_slice.result.now codes c.self.invariant coded c.requires absent room)
