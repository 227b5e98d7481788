use Rattle.patterns.specs.Bits.{bits_of_list}
use Rattle.top_call.proofs.Chosen.{done_report}
use Rattle.top_call.proofs.top.report.Goals as goal

pub returns : goal.returns
returns c = done_report _ _ (bits_of_list c.args.bits.now) c.args.muxes.now c.in_ok-text.ensures c.in_ok-image.ensures
