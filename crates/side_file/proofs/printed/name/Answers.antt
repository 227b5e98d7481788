use Rattle.std.proofs.Common.{◌∙◌}
use Rattle.std.proofs.lemmas.Result.{IfOk-weaker}
use Rattle.side_file.proofs.Floatless.{name_is_text}
use Rattle.side_file.proofs.printed.name.Goals as goal

pub returns : goal.returns
returns c =
    IfOk-weaker c.from_utf8_lossy.result _ _ (λ text kept. kept (rw c.bytes.ensures.same (name_is_text c.args.name.now c.bytes.ensures.name)) ∙ c.bytes.ensures.same) c.from_utf8_lossy.ensures.ok
