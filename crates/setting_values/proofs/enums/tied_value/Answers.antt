use Rattle.std.proofs.Common.{sym, ◌∙◌}
use Rattle.std.specs.Option.{option_copied}
use Rattle.records.specs.Grid.{origin_of}
use Rattle.cram_image.specs.Image.{bits}
use Rattle.setting_values.specs.Tied.{fits_with}
use Rattle.setting_values.proofs.Tied.{few_tied}
use Rattle.setting_values.proofs.enums.tied_value.Goals as goal

pub returns-then-tied_count-le1 : goal.returns-then-tied_count-le1
returns-then-tied_count-le1 c =
    c.first_value.ensures ∙ sym (few_tied (fits_with (bits c.args.image.now) (origin_of c.args.tile.now) c.args.longest) c.args.options.now (option_copied c.args.default) c.tied_count.result c.tied_count.ensures c.if-tied_count-le1.true)
