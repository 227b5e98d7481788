use Rattle.std.proofs.Common.{◌==◌, ℕ, ap, reverse, ◌∙◌}
use Rattle.config_text.proofs.Bits.{reversed_map}
use Rattle.config_text.proofs.sections.bits_of.Goals as goal

pub returns : goal.returns
returns c = c.from_vec.ensures ∙ c.reverse.ensures.items ∙ ap reverse c.in_ok-bits.ensures ∙ reversed_map (λ (d : ℕ). d == 49) c.args.digits.now
