-- The first fault in turn.
use Rattle.std.proofs.lemmas.Result.{err_from_is_err_and}
use Rattle.side_form.specs.Side as side_form
use Rattle.side_file.proofs.InTurn.{at_once, then_one, then_none}
use Rattle.side_file.proofs.checks.checked.Goals as goal

pub returns-in_err-is_small : goal.returns-in_err-is_small
returns-in_err-is_small c =
    let side = c.args.side in
    let p = err_from_is_err_and c.from_residual.result c.from_residual.ensures.1 in
    rw (p.1, p.2)
    (at_once _ (side_form.size_fault side) _ side c.in_err-is_small.ensures)

pub returns-in_err-is_used_once : goal.returns-in_err-is_used_once
returns-in_err-is_used_once c =
    let side = c.args.side in
    let p = err_from_is_err_and c.from_residual-in_err-is_used_once.result c.from_residual-in_err-is_used_once.ensures.1 in
    rw (p.1, p.2)
    (then_one _ (side_form.size_fault side) _ side c.in_ok-is_small.ensures
    (at_once _ (side_form.second_use side) _ side c.in_err-is_used_once.ensures))

pub returns-in_err-is_listed : goal.returns-in_err-is_listed
returns-in_err-is_listed c =
    let side = c.args.side in
    let p = err_from_is_err_and c.from_residual-in_err-is_listed.result c.from_residual-in_err-is_listed.ensures.1 in
    rw (p.1, p.2)
    (then_one _ (side_form.size_fault side) _ side c.in_ok-is_small.ensures
    (then_one _ (side_form.second_use side) _ side c.in_ok-is_used_once.ensures
    (at_once _ (side_form.unknown_name side) _ side c.in_err-is_listed.ensures)))

pub returns-in_err-is_paired : goal.returns-in_err-is_paired
returns-in_err-is_paired c =
    let side = c.args.side in
    let p = err_from_is_err_and c.from_residual-in_err-is_paired.result c.from_residual-in_err-is_paired.ensures.1 in
    rw (p.1, p.2)
    (then_one _ (side_form.size_fault side) _ side c.in_ok-is_small.ensures
    (then_one _ (side_form.second_use side) _ side c.in_ok-is_used_once.ensures
    (then_one _ (side_form.unknown_name side) _ side c.in_ok-is_listed.ensures
    (at_once _ (side_form.unpaired side) _ side c.in_err-is_paired.ensures))))

pub returns-in_err-is_in_domains : goal.returns-in_err-is_in_domains
returns-in_err-is_in_domains c =
    let side = c.args.side in
    let p = err_from_is_err_and c.from_residual-in_err-is_in_domains.result c.from_residual-in_err-is_in_domains.ensures.1 in
    rw (p.1, p.2)
    (then_one _ (side_form.size_fault side) _ side c.in_ok-is_small.ensures
    (then_one _ (side_form.second_use side) _ side c.in_ok-is_used_once.ensures
    (then_one _ (side_form.unknown_name side) _ side c.in_ok-is_listed.ensures
    (then_one _ (side_form.unpaired side) _ side c.in_ok-is_paired.ensures
    c.in_err-is_in_domains.ensures))))

pub returns : goal.returns
returns c =
    let side = c.args.side in
    then_none (side_form.size_fault side) _ side c.in_ok-is_small.ensures
    (then_none (side_form.second_use side) _ side c.in_ok-is_used_once.ensures
    (then_none (side_form.unknown_name side) _ side c.in_ok-is_listed.ensures
    (then_none (side_form.unpaired side) _ side c.in_ok-is_paired.ensures
    c.in_ok-is_in_domains.ensures)))
