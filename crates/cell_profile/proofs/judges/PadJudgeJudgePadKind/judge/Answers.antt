use Rattle.std.proofs.Common.{◌≡◌, map, ap}
use Rattle.records.specs.Profile.{PadKind}
use Rattle.json_forms.specs.KindRules.{KindName, slice_name, pad_name}
use Rattle.cell_profile.proofs.KindNames.{pads_more}
use Rattle.cell_profile.proofs.judges.PadJudgeJudgePadKind.judge.Goals as goal

pub returns-clause-knows : goal.returns-clause-knows
returns-clause-knows c = λ _.
    let name : ◌≡◌ {A = KindName} (c.element.inside.tile, c.element.inside.name) (pad_name c.args.element.now) = ap (λ (k : PadKind). pad_name k) c.element.view_is in
    rw (← pads_more (map slice_name c.args.self.now.slices.now) c.args._earlier.now c.args.element.now, ← name) (c.in_ok-add_name.ensures.known _ c.requires)
