use Rattle.std.proofs.Common.{◌≡◌, [], ◌∷◌, ◌++◌, length, arith, ap, ◌∙◌}
use Rattle.std.proofs.Common.{w32}
use Rattle.std.proofs.lemmas.Int.{to_z-of_z}
use Rattle.wire_names.specs.Codes.{bytes_of}
use Rattle.wire_names.proofs.Coded.{local_coded, head_length, weaker}
use Rattle.wire_names.proofs.code.local_code.Goals as goal

pub returns : goal.returns
unfolding bytes_of
returns c =
    let row_bytes = c.to_le_bytes.ensures ∙ ap bytes_of (to_z-of_z w32 c.args.row c.ranges.row) in
    let col_bytes = c.to_le_bytes-2.ensures ∙ ap bytes_of (to_z-of_z w32 c.args.col c.ranges.col) in
    let row_is : c.in_ok-with_row.with_row.items ≡ (0 ∷ []) ++ bytes_of c.args.row = c.in_ok-with_row.ensures ∙ (λ i. c.kind.ensures i ++ row_bytes i) in
    let head_is : c.in_ok-with_place.with_place.items ≡ (0 ∷ []) ++ bytes_of c.args.row ++ bytes_of c.args.col = c.in_ok-with_place.ensures ∙ (λ i. row_is i ++ col_bytes i) in
    let nine : length c.in_ok-with_place.with_place.items ≡ 9 = ap length head_is ∙ head_length c.args.row c.args.col in
    weaker c.extended-3.result (λ long. omega arith)
    (λ code e. local_coded c.args.row c.args.col c.args.base.now code.items c.ranges.row c.ranges.col (e ∙ ap (λ head. head ++ c.args.base.now) head_is))
    c.extended-3.ensures
