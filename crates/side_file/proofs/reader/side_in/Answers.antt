-- The first fault of the lists in turn.
use Rattle.std.proofs.Common.{codes, refl}
use Rattle.std.proofs.lemmas.Result.{err_from_is_err_and}
use Rattle.serde_json.specs.View.{view}
use Rattle.json_forms.specs.Lists.{list_read, any_form}
use Rattle.side_form.specs.Placings.{placed_in, names_in, voter_in}
use Rattle.side_form.specs.Side.{side_in, clocks_read}
use Rattle.side_file.proofs.InTurn.{fails_at_once, fails_later, reads_then}
use Rattle.side_file.proofs.reader.side_in.Goals as goal

pub returns-in_err-cells : goal.returns-in_err-cells
unfolding side_in
returns-in_err-cells c =
    let file = view c.args.file.now in
    let p = err_from_is_err_and c.from_residual.result c.from_residual.ensures.1 in
    rw (p.1, p.2)
    (fails_at_once _ (list_read (codes "slices") placed_in any_form file) _ c.in_err-cells.ensures)

pub returns-in_err-cells-2 : goal.returns-in_err-cells-2
unfolding side_in
returns-in_err-cells-2 c =
    let file = view c.args.file.now in
    let p = err_from_is_err_and c.from_residual-in_err-cells-2.result c.from_residual-in_err-cells-2.ensures.1 in
    rw (p.1, p.2)
    (fails_later _ (list_read (codes "slices") placed_in any_form file) _ _ c.in_ok-cells.ensures
    (fails_at_once _ (list_read (codes "pads") placed_in any_form file) _ c.in_err-cells-2.ensures))

pub returns-in_err-triples : goal.returns-in_err-triples
unfolding side_in
returns-in_err-triples c =
    let file = view c.args.file.now in
    let p = err_from_is_err_and c.from_residual-in_err-triples.result c.from_residual-in_err-triples.ensures.1 in
    rw (p.1, p.2)
    (fails_later _ (list_read (codes "slices") placed_in any_form file) _ _ c.in_ok-cells.ensures
    (fails_later _ (list_read (codes "pads") placed_in any_form file) _ _ c.in_ok-cells-2.ensures
    (fails_at_once _ (list_read (codes "triples") names_in any_form file) _ c.in_err-triples.ensures)))

pub returns-in_err-triples-2 : goal.returns-in_err-triples-2
unfolding side_in
returns-in_err-triples-2 c =
    let file = view c.args.file.now in
    let p = err_from_is_err_and c.from_residual-in_err-triples-2.result c.from_residual-in_err-triples-2.ensures.1 in
    rw (p.1, p.2)
    (fails_later _ (list_read (codes "slices") placed_in any_form file) _ _ c.in_ok-cells.ensures
    (fails_later _ (list_read (codes "pads") placed_in any_form file) _ _ c.in_ok-cells-2.ensures
    (fails_later _ (list_read (codes "triples") names_in any_form file) _ _ c.in_ok-triples.ensures
    (fails_at_once _ (list_read (codes "inputs") names_in any_form file) _ c.in_err-triples-2.ensures))))

pub returns-in_err-triples-3 : goal.returns-in_err-triples-3
unfolding side_in
returns-in_err-triples-3 c =
    let file = view c.args.file.now in
    let p = err_from_is_err_and c.from_residual-in_err-triples-3.result c.from_residual-in_err-triples-3.ensures.1 in
    rw (p.1, p.2)
    (fails_later _ (list_read (codes "slices") placed_in any_form file) _ _ c.in_ok-cells.ensures
    (fails_later _ (list_read (codes "pads") placed_in any_form file) _ _ c.in_ok-cells-2.ensures
    (fails_later _ (list_read (codes "triples") names_in any_form file) _ _ c.in_ok-triples.ensures
    (fails_later _ (list_read (codes "inputs") names_in any_form file) _ _ c.in_ok-triples-2.ensures
    (fails_at_once _ (list_read (codes "outputs") names_in any_form file) _ c.in_err-triples-3.ensures)))))

pub returns-in_err-clocks : goal.returns-in_err-clocks
unfolding side_in
returns-in_err-clocks c =
    let file = view c.args.file.now in
    let p = err_from_is_err_and c.from_residual-in_err-clocks.result c.from_residual-in_err-clocks.ensures.1 in
    rw (p.1, p.2)
    (fails_later _ (list_read (codes "slices") placed_in any_form file) _ _ c.in_ok-cells.ensures
    (fails_later _ (list_read (codes "pads") placed_in any_form file) _ _ c.in_ok-cells-2.ensures
    (fails_later _ (list_read (codes "triples") names_in any_form file) _ _ c.in_ok-triples.ensures
    (fails_later _ (list_read (codes "inputs") names_in any_form file) _ _ c.in_ok-triples-2.ensures
    (fails_later _ (list_read (codes "outputs") names_in any_form file) _ _ c.in_ok-triples-3.ensures
    (fails_at_once _ (clocks_read file) _ c.in_err-clocks.ensures))))))

pub returns-in_err-voters : goal.returns-in_err-voters
unfolding side_in
returns-in_err-voters c =
    let file = view c.args.file.now in
    let p = err_from_is_err_and c.from_residual-in_err-voters.result c.from_residual-in_err-voters.ensures.1 in
    rw (p.1, p.2)
    (fails_later _ (list_read (codes "slices") placed_in any_form file) _ _ c.in_ok-cells.ensures
    (fails_later _ (list_read (codes "pads") placed_in any_form file) _ _ c.in_ok-cells-2.ensures
    (fails_later _ (list_read (codes "triples") names_in any_form file) _ _ c.in_ok-triples.ensures
    (fails_later _ (list_read (codes "inputs") names_in any_form file) _ _ c.in_ok-triples-2.ensures
    (fails_later _ (list_read (codes "outputs") names_in any_form file) _ _ c.in_ok-triples-3.ensures
    (fails_later _ (clocks_read file) _ _ c.in_ok-clocks.ensures
    (fails_at_once _ (list_read (codes "voters") voter_in any_form file) _ c.in_err-voters.ensures)))))))

pub returns : goal.returns
unfolding side_in
returns c =
    let file = view c.args.file.now in
    reads_then (list_read (codes "slices") placed_in any_form file) _ _ _ c.in_ok-cells.ensures
    (reads_then (list_read (codes "pads") placed_in any_form file) _ _ _ c.in_ok-cells-2.ensures
    (reads_then (list_read (codes "triples") names_in any_form file) _ _ _ c.in_ok-triples.ensures
    (reads_then (list_read (codes "inputs") names_in any_form file) _ _ _ c.in_ok-triples-2.ensures
    (reads_then (list_read (codes "outputs") names_in any_form file) _ _ _ c.in_ok-triples-3.ensures
    (reads_then (clocks_read file) _ _ _ c.in_ok-clocks.ensures
    (reads_then (list_read (codes "voters") voter_in any_form file) _ _ _ c.in_ok-voters.ensures
    refl))))))
