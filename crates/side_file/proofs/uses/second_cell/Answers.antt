use Rattle.std.proofs.Common.{◌≡◌, map, take, inl, inr, ap, sym, ◌∙◌, Some}
use Rattle.records.specs.Side.{Placed}
use Rattle.side_form.specs.Side.{DuplicateName, cell_fault}
use Rattle.side_file.specs.Digest.{digest_of}
use Rattle.side_file.proofs.Again.{cell_named_before, cell_sited_before, cell_is_new}
use Rattle.side_file.proofs.Sets.{one_more_cell, one_more_site}
use Rattle.side_file.proofs.Walks.{so_far, left, faulty, faultless}
use Rattle.side_file.proofs.uses.second_cell.Goals as goal

pub returns-then-not-is_new : goal.returns-then-not-is_new
returns-then-not-is_new c =
    let cell = c.cell-item.result.now in
    let name : c.cell.inside.name ≡ cell.name = ap (λ (p : Placed). p.name) c.cell.view_is in
    let tile : c.cell.inside.tile ≡ cell.tile = ap (λ (p : Placed). p.tile) c.cell.view_is in
    let kind : c.cell.inside.kind ≡ cell.kind = ap (λ (p : Placed). p.kind) c.cell.view_is in
    let named = rw (c.digest.ensures, name) at c.in_ok-is_new.ensures.added in
    let sited = rw (c.digest-in-loop-cell.ensures, tile, kind) at c.in_ok-is_free.ensures.added in
    let before = map (λ p. p.now) (take c.loop-cell.cell-index c.args.cells.now) in
    let again : cell_fault before cell ≡ Some (DuplicateName cell.name) = elim c.then-not-is_new.either [
      | inl is ↦ cell_named_before before cell c.loop-cell.names c.loop-cell.sites c.loop-cell.invariant.names c.loop-cell.invariant.sites (sym named ∙ is)
      | inr is ↦ cell_sited_before before cell c.loop-cell.names c.loop-cell.sites c.loop-cell.invariant.names c.loop-cell.invariant.sites (sym sited ∙ is.1)
    ] in
    rw name
    (faulty cell_fault before _ _ cell _ (DuplicateName cell.name) c.loop-cell.invariant.rest
    (left (λ p. p.now) c.args.cells.now c.loop-cell.cell-index c.cell-item.result c.loop-cell-test.true c.cell-item.is) again)

pub loop-cell-preserved : goal.loop-cell-preserved
loop-cell-preserved c =
    let cell = c.cell-item.result.now in
    let name : c.cell.inside.name ≡ cell.name = ap (λ (p : Placed). p.name) c.cell.view_is in
    let tile : c.cell.inside.tile ≡ cell.tile = ap (λ (p : Placed). p.tile) c.cell.view_is in
    let kind : c.cell.inside.kind ≡ cell.kind = ap (λ (p : Placed). p.kind) c.cell.view_is in
    let named = rw (c.digest.ensures, name) at c.in_ok-is_new.ensures.added in
    let sited = rw (c.digest-in-loop-cell.ensures, tile, kind) at c.in_ok-is_free.ensures.added in
    rw (so_far (λ p. p.now) c.args.cells.now c.loop-cell.cell-index c.cell-item.result c.loop-cell-test.true c.cell-item.is)
    (record {
      names = one_more_cell _ cell (c.digest.result, c.cell.inside.name) c.loop-cell.names c.insert.new.self (c.digest.ensures ∙ ap digest_of name) name c.loop-cell.invariant.names c.in_ok-is_new.ensures.updates.0;
      sites = one_more_site _ cell (c.digest-in-loop-cell.result, (c.cell.inside.tile, c.cell.inside.kind)) c.loop-cell.sites c.insert-in-loop-cell.new.self (c.digest-in-loop-cell.ensures ∙ ap digest_of tile) tile kind c.loop-cell.invariant.sites c.in_ok-is_free.ensures.updates.0;
      rest =
          faultless cell_fault _ _ _ cell _ c.loop-cell.invariant.rest
          (left (λ p. p.now) c.args.cells.now c.loop-cell.cell-index c.cell-item.result c.loop-cell-test.true c.cell-item.is)
          (cell_is_new _ cell c.loop-cell.names c.loop-cell.sites c.loop-cell.invariant.names c.loop-cell.invariant.sites (sym named ∙ c.if-not-is_new.false) (sym sited ∙ c.if-not-is_free.false));
    })
