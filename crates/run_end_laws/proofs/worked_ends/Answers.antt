use Rattle.run_end_laws.proofs.Worked.{answered_end, unread_end, cut_end, memory_end}
use Rattle.run_end_laws.proofs.worked_ends.Goals as goal

pub returns : goal.returns
returns c = record { answered = answered_end; unread = unread_end; cut_short = cut_end; memory = memory_end }
