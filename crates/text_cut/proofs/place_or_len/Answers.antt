use Rattle.std.proofs.Common.{◌∙◌}
use Rattle.memchr.specs.Find.{is_byte}
use Rattle.text_cut.proofs.Places.{place_of_first}
use Rattle.text_cut.proofs.place_or_len.Goals as goal

pub returns-clause-place : goal.returns-clause-place
returns-clause-place c =
    c.unwrap_or.ensures ∙ place_of_first (is_byte c.args.byte) c.args.text.now c.memchr.result c.memchr.ensures
