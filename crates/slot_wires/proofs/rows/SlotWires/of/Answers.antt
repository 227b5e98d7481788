use Rattle.std.proofs.Common.{◌≡◌, ◌<◌, ◌∷◌, ◌++◌, [], length, map, get_or, ap, sym, subst, ◌∙◌, arith}
use Rattle.std.proofs.lemmas.List.{length-append, map_more}
use Rattle.records.specs.Grid.{Grid}
use Rattle.fabric.specs.Device.{Device}
use Rattle.fabric.specs.GraphOf.{number_in}
use Rattle.grouped.specs.Rows.{AreEnds, rows_from}
use Rattle.tile_types.specs.Types.{tile_of_kind, type_in, type_of_tile}
use Rattle.tile_types.proofs.Borrowed.{is_lent, lent_type, what_is_lent}
use Rattle.slot_wires.specs.Numbers.{slot_numbers}
use Rattle.slot_wires.proofs.RowsMore.{ends_more, rows_more}
use Rattle.slot_wires.proofs.rows.SlotWires.of.Goals as goal

pub unwrap-kind-requires : goal.unwrap-kind-requires
unwrap-kind-requires c =
    let device = c.args.device.now in
    let tiles = c.as_slice-tiles.result.now in
    let i = c.loop-number.number in
    let d = tile_of_kind [] in
    let all : tiles ≡ device.grid.tiles = c.as_slice-tiles.ensures ∙ ap (λ (g : Grid). g.tiles) c.grid.view_is ∙ ap (λ (d : Device). d.grid.tiles) c.device.view_is in
    let below : i < length tiles = (let n = c.loop-number-test.true in let m = c.len-number-end.ensures in let e = ap length c.as_slice-tiles.ensures in omega arith) in
    is_lent c.of_tile.result (type_in device (get_or tiles i d))
    (lent_type device c.args.types.now tiles i d c.of_tile.result c.requires all below (c.of_tile.ensures ∙ ap (type_of_tile c.args.types.now) c.from_u32.ensures))

pub loop-number-preserved : goal.loop-number-preserved
loop-number-preserved c =
    let device = c.args.device.now in
    let wires = c.args.wires.now in
    let tiles = c.as_slice-tiles.result.now in
    let i = c.loop-number.number in
    let d = c.index-tiles-number.result in
    let all : tiles ≡ device.grid.tiles = c.as_slice-tiles.ensures ∙ ap (λ (g : Grid). g.tiles) c.grid.view_is ∙ ap (λ (d : Device). d.grid.tiles) c.device.view_is in
    let below : i < length tiles = (let n = c.loop-number-test.true in let m = c.len-number-end.ensures in let e = ap length c.as_slice-tiles.ensures in omega arith) in
    let lent = lent_type device c.args.types.now tiles i d c.of_tile.result c.requires all below (c.of_tile.ensures ∙ ap (type_of_tile c.args.types.now) c.from_u32.ensures) in
    let kind = what_is_lent c.of_tile.result c.unwrap-kind.result (type_in device (get_or tiles i d)) lent c.unwrap-kind.ensures in
    let tile : d ≡ get_or tiles i d = c.index-tiles-number.is in
    let ends = c.loop-number.ends.items in
    let numbers = c.loop-number.numbers.items in
    let row = slot_numbers device wires (get_or tiles i d) in
    let row_is : c.add_tile.new.numbers.items ≡ numbers ++ row = c.in_ok-add_tile.ensures ∙ (λ j. numbers ++ map (number_in wires (kind j).rules (tile j)) (kind j).names) in
    let ends_is : c.push.new.self.items ≡ ends ++ length (numbers ++ row) ∷ [] = c.in_ok-push.ensures.items ∙ ap (λ xs. ends ++ length xs ∷ []) (c.as_slice.ensures.value ∙ row_is) in
    let long = length-append numbers row in
    record {
      ends = subst (λ es. AreEnds 0 es (length c.add_tile.new.numbers.items)) (sym ends_is)
          (subst (λ xs. AreEnds 0 (ends ++ length (numbers ++ row) ∷ []) (length xs)) (sym row_is) (ends_more 0 ends (length numbers) (length (numbers ++ row)) c.loop-number.invariant.ends (omega arith)));
      rows = (λ j. rows_from 0 (ends_is j) (row_is j))
          ∙ rows_more 0 ends numbers row c.loop-number.invariant.ends
          ∙ ap (λ rows. rows ++ row ∷ []) c.loop-number.invariant.rows
          ∙ sym (map_more (slot_numbers device wires) tiles i d below);
    }
