use Rattle.std.proofs.Common.{Bool, if◌then◌else◌, ap, reverse, ◌∙◌}
use Rattle.config_text.proofs.Bits.{reversed_map}
use Rattle.config_text.proofs.printer.digits_of.Goals as goal

pub returns : goal.returns
returns c = c.reverse.ensures.items ∙ ap reverse c.in_ok-digits.ensures ∙ reversed_map (λ (b : Bool). if b then 49 else 48) c.args.bits.now
