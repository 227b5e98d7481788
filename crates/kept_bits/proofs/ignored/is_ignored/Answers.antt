use Rattle.std.proofs.Common.{ap, ◌∙◌}
use Rattle.record_laws.specs.KeptBits.{is_ignored}
use Rattle.kept_bits.proofs.Found.{ignored, not_ignored}
use Rattle.kept_bits.proofs.ignored.is_ignored.Goals as goal

pub returns-in-Ignored : goal.returns-in-Ignored
returns-in-Ignored c = ignored 0 0 c.bytes.result.now c.args.rules.now (c.in-Ignored.ensures.stands 0 0) ∙ ap (is_ignored c.args.rules.now) c.bytes.ensures.same

pub returns-in-Local : goal.returns-in-Local
returns-in-Local c = not_ignored 0 0 c.bytes.result.now c.args.rules.now _ (c.in-Local.ensures.stands 0 0) ∙ ap (is_ignored c.args.rules.now) c.bytes.ensures.same

pub returns-in-Wide : goal.returns-in-Wide
returns-in-Wide c = not_ignored 0 0 c.bytes.result.now c.args.rules.now _ (c.in-Wide.ensures.stands 0 0) ∙ ap (is_ignored c.args.rules.now) c.bytes.ensures.same
