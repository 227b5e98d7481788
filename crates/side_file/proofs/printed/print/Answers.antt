use Rattle.std.proofs.Common.{◌≡◌, ◌∷◌, [], ◌++◌, false, ap, ◌∙◌}
use Rattle.serde_json.specs.View.{view}
use Rattle.serde_json.specs.Written.{has_float, compact_text}
use Rattle.side_form.specs.SidePrint.{side_value}
use Rattle.side_file.proofs.Floatless.{side_floatless}
use Rattle.side_file.proofs.printed.print.Goals as goal

pub returns : goal.returns
returns c =
    let whole : view c.in_ok-object.field-0 ≡ side_value c.args.side.now = c.in_ok-object.ensures in
    let floatless : has_float (view c.in_ok-object.field-0) ≡ false = ap has_float whole ∙ side_floatless c.args.side.now in
    let text = c.in_ok-to_string.ensures.text floatless ∙ ap compact_text whole in
    c.in_ok-push.ensures.items ∙ ap (λ t. t ++ 10 ∷ []) (ap (λ v. v.items) c.into_bytes-text.ensures.value ∙ text)
