use Rattle.std.proofs.Common.{◌≡◌, ◌<◌, Some, List, length, get_or, ap, ◌∙◌, subst, arith}
use Rattle.std.specs.Prelude.{slice_get}
use Rattle.std.specs.Ordering.{ordering_index}
use Rattle.std.specs.declared.cmp.Ordering.TheVariants.{Less, Equal, Greater}
use Rattle.std.specs.List.Sorted.{IsNonDecreasingBy, IsPartitionPoint}
use Rattle.patterns.specs.Bits.{DeviceBit}
use Rattle.fabric.specs.MuxBits.{bit_cmp}
use Rattle.bit_rows.specs.MuxBits.{muxes_with}
use Rattle.bit_rows.proofs.Found.{found, not_found}
use Rattle.bit_rows.proofs.bit_table.BitRows.muxes_of_bit.Goals as goal

pub returns-in-Ok : goal.returns-in-Ok
returns-in-Ok c =
    let inside = c.self.inside in
    let bits = inside.bits.items in
    let b = c.args.b in
    let lent : (d : DeviceBit) → bit_cmp (get_or c.deref.result.now c.in-Ok.place d) b ≡ Equal = c.in-Ok.ensures.ok in
    let equal : (d : DeviceBit) → bit_cmp (get_or bits c.in-Ok.place d) b ≡ Equal = subst (λ (bs : List DeviceBit). (d : DeviceBit) → bit_cmp (get_or bs c.in-Ok.place d) b ≡ Equal) c.deref.ensures.value lent in
    let below : c.in-Ok.place < length bits = omega (arith, c.in-Ok.ensures.bound, ap length c.deref.ensures.value) in
    let here = found inside.by_mux bits inside.by_bit c.self.invariant b c.in-Ok.place below equal in
    let row : Some c.row.result.now ≡ Some (muxes_with inside.by_mux b) = c.row.ensures ∙ ap (slice_get inside.by_bit) c.from_u32.ensures ∙ here in
    let same : c.row.result.now ≡ muxes_with inside.by_mux b = cc in
    same ∙ ap (λ rows. muxes_with rows b) c.self.view_is

pub returns-in-Err : goal.returns-in-Err
returns-in-Err c =
    let inside = c.self.inside in
    let bits = inside.bits.items in
    let b = c.args.b in
    let lent : IsNonDecreasingBy (λ y. ordering_index (bit_cmp y b)) c.deref.result.now → IsPartitionPoint (λ y. bit_cmp y b ≡ Less) (λ y. bit_cmp y b ≡ Greater) c.deref.result.now c.in-Err.field-0 = c.in-Err.ensures.position in
    let split : IsNonDecreasingBy (λ y. ordering_index (bit_cmp y b)) bits → IsPartitionPoint (λ y. bit_cmp y b ≡ Less) (λ y. bit_cmp y b ≡ Greater) bits c.in-Err.field-0 =
    subst (λ (bs : List DeviceBit). IsNonDecreasingBy (λ y. ordering_index (bit_cmp y b)) bs → IsPartitionPoint (λ y. bit_cmp y b ≡ Less) (λ y. bit_cmp y b ≡ Greater) bs c.in-Err.field-0) c.deref.ensures.value lent in
    not_found inside.by_mux bits inside.by_bit c.self.invariant b c.in-Err.field-0 split ∙ ap (λ rows. muxes_with rows b) c.self.view_is
