use Rattle.std.proofs.Common.{◌-◌, ◌^◌, arith}
use Rattle.texts.proofs.Printed.{number_of_decimal}
use Rattle.texts.proofs.printed_number_is_read.Goals as goal

pub returns : goal.returns
returns c = λ n small. number_of_decimal (2 ^ 32 - 1) n (omega arith) small
