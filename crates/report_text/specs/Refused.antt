-- The refusal that a value of the program's enum is.
use Rattle.records.specs.Limits.{limit_name}
use Rattle.answers.specs.Refusals as answers
use Rattle.rr_ids.specs.Limits.{limit_of}
use Rattle.report_text.specs.Names.{wire_view, part_view, pin_view}
use Rattle.report_text.specs.declared.refusal.Refusal.{Refusal}
use Rattle.report_text.specs.declared.refusal.Refusal.TheVariants.{Missing, TooLong, BadLine, OutsideBlock, NoDevice, TooLarge, NotJson, BadShape, DuplicateName, UnknownName, Unpaired, WrongDomain, OverlapShape, UnknownTile, NoPlace, UnknownSink, UnknownSource, UnknownSetting, UnknownValue, WordLength, OutsideTile, ArcDiffers, Contested, UnknownSite, ShapeDiffers, Unmodelled, UnnamedPad, UnnamedSource, Loop, OpenPin, ClockAsData, NotClocked, ForeignRead, NotMasking, CopiesDiffer, NoOutputs}

abbrev pub refusal_view : Refusal → answers.Refusal
refusal_view (Missing file) = answers.Missing file.now
refusal_view (TooLong file) = answers.TooLong file.now
refusal_view (BadLine file line) = answers.BadLine file.now line
refusal_view (OutsideBlock file line) = answers.OutsideBlock file.now line
refusal_view (NoDevice file) = answers.NoDevice file.now
refusal_view (TooLarge file limit) = answers.TooLarge file.now (limit_name (limit_of limit))
refusal_view (NotJson file) = answers.NotJson file.now
refusal_view (BadShape file key) = answers.BadShape file.now key.now
refusal_view (DuplicateName cell) = answers.DuplicateName cell.now
refusal_view (UnknownName cell) = answers.UnknownName cell.now
refusal_view (Unpaired cell) = answers.Unpaired cell.now
refusal_view (WrongDomain cell) = answers.WrongDomain cell.now
refusal_view (OverlapShape wire) = answers.OverlapShape (wire_view wire)
refusal_view (UnknownTile line) = answers.UnknownTile line
refusal_view (NoPlace line) = answers.NoPlace line
refusal_view (UnknownSink line) = answers.UnknownSink line
refusal_view (UnknownSource line) = answers.UnknownSource line
refusal_view (UnknownSetting line) = answers.UnknownSetting line
refusal_view (UnknownValue line) = answers.UnknownValue line
refusal_view (WordLength line) = answers.WordLength line
refusal_view (OutsideTile line) = answers.OutsideTile line
refusal_view (ArcDiffers tile sink) = answers.ArcDiffers tile.now sink.now
refusal_view (Contested wire first second) = answers.Contested (wire_view wire) (wire_view first) (wire_view second)
refusal_view (UnknownSite cell) = answers.UnknownSite cell.now
refusal_view (ShapeDiffers cell) = answers.ShapeDiffers cell.now
refusal_view (Unmodelled cell setting value) = answers.Unmodelled cell.now setting.now value.now
refusal_view (UnnamedPad tile kind) = answers.UnnamedPad tile.now kind.now
refusal_view (UnnamedSource pin wire) = answers.UnnamedSource (pin_view pin) (wire_view wire)
refusal_view (Loop part) = answers.Loop (part_view part)
refusal_view (OpenPin pin) = answers.OpenPin (pin_view pin)
refusal_view (ClockAsData pin) = answers.ClockAsData (pin_view pin)
refusal_view (NotClocked part) = answers.NotClocked (part_view part)
refusal_view (ForeignRead pin) = answers.ForeignRead (pin_view pin)
refusal_view (NotMasking part address) = answers.NotMasking (part_view part) address
refusal_view (CopiesDiffer part what) = answers.CopiesDiffer (part_view part) what.now
refusal_view NoOutputs = answers.NoOutputs
