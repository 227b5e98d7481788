use Rattle.std.proofs.Common.{◌<◌, ◌^◌, arith}
use Rattle.cell_readings.proofs.Passing.{few_pins, many_pins}
use Rattle.cell_readings.proofs.faults.has_each_assignment.Goals as goal

pub returns-then-pins-ge64 : goal.returns-then-pins-ge64
returns-then-pins-ge64 c = let below : c.args.bits < 2 ^ 64 = omega (arith, c.ranges.bits) in many_pins c.args.bits c.args.pins below c.if-pins-ge64.true

pub returns : goal.returns
returns c = few_pins c.args.bits c.args.pins c.if-pins-ge64.false
