use Rattle.std.proofs.Common.{◌≡◌, refl, subst}
use Rattle.link_rows.specs.Kept.{IsFirstTwice}
use Rattle.link_rows.proofs.Outputs.{count_of_rows, counted_once, first_twice, in_order, output_rows}
use Rattle.link_rows.proofs.cells.CellOutputs.new.Goals as goal

pub first_of_two-requires : goal.first_of_two-requires
first_of_two-requires c = count_of_rows c.args.outputs.now c.args.wires c.in_ok-rows.rows c.in_ok-rows.ensures c.requires.within

pub returns-in-Some-clause-twice : goal.returns-in-Some-clause-twice
returns-in-Some-clause-twice c =
    let found = first_twice c.args.outputs.now c.args.wires c.in_ok-rows.rows c.in_ok-rows.ensures c.requires.within c.in-Some.w c.in-Some.ensures.found c.in-Some.ensures.two c.in-Some.ensures.first in
    λ w e. (let same : c.in-Some.w ≡ w = cc in subst (IsFirstTwice c.args.outputs.now) same found)

pub invariant_of-result : goal.invariant_of-result
invariant_of-result c = output_rows c.args.outputs.now c.args.wires c.in_ok-rows.rows c.in_ok-rows.ensures c.requires.within

pub returns-clause-outputs : goal.returns-clause-outputs
returns-clause-outputs c =
    in_order c.args.outputs.now c.args.wires c.in_ok-rows.rows c.in_ok-rows.ensures c.requires.within (c.in_default.ensures.none refl)

pub returns-clause-wires : goal.returns-clause-wires
returns-clause-wires c = count_of_rows c.args.outputs.now c.args.wires c.in_ok-rows.rows c.in_ok-rows.ensures c.requires.within

pub returns-clause-once : goal.returns-clause-once
returns-clause-once c =
    counted_once c.args.outputs.now c.args.wires c.in_ok-rows.rows c.in_ok-rows.ensures c.requires.within (c.in_default.ensures.none refl)
