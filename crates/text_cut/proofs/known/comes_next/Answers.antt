use Rattle.text_cut.proofs.KnownTexts.{none_there}
use Rattle.text_cut.proofs.known.comes_next.Goals as goal

pub returns : goal.returns
returns c = λ h. record { none = none_there c.args.others.now.keys (c.is_empty.ensures.0 c.if-not-is_empty.false); below = c.comes_last.ensures h }
