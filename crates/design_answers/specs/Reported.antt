-- What is reported of attempts, by the names of wires. (Our own.)
use Rattle.std.specs.Prelude.{ℕ, ◌+◌, List, [], ◌∷◌, length, map, unwrap_or, slice_get}
use Rattle.fabric.specs.Wires.{Wire, Wide}
use Rattle.fabric.specs.Graph.{Graph}
use Rattle.records.specs.Side.{Side}
use Rattle.attempts.specs.Turns.{Cut}
use Rattle.attempts.specs.Attempts as attempts
use Rattle.reports.specs.Reports as report

-- the wire of a number (each that is reported is one of the graph)
abbrev pub wire_of : Graph → ℕ → Wire
wire_of g w = unwrap_or (slice_get g.wires w) (Wide [])

abbrev pub log_line : Graph → attempts.Event → report.LogLine
log_line g (attempts.AttemptBlocked net pin) = report.Blocked (wire_of g net) (wire_of g pin)
log_line g (attempts.Moved m) = report.Moved m.slice m.tile m.kind
log_line g attempts.AttemptComplete = report.Complete

abbrev pub log_lines : Graph → List attempts.Event → List report.LogLine
log_lines g log = map (log_line g) log

abbrev pub end_word : attempts.End → report.EndWord
end_word attempts.EndRounds = report.EndRounds
end_word attempts.EndPad = report.EndPad
end_word attempts.EndSite = report.EndSite

-- the cut file: the net and the pin that it parts, the wires inside and the rim
abbrev pub cut_report : Graph → ℕ → ℕ → Cut → report.CutReport
cut_report g net pin cut = record { net = wire_of g net; pin = wire_of g pin; inside = map (wire_of g) cut.inside; rim = map (wire_of g) cut.rim }

-- what `check` counts
abbrev pub counts_of : Side → report.Counts
counts_of side = record { slices = length side.slices; pads = length side.pads; outputs = length side.outputs; voters = length side.voters }

-- the attempts that a log tells of
abbrev pub attempt_count : List attempts.Event → ℕ
attempt_count [] = 0
attempt_count (attempts.AttemptBlocked net pin ∷ log) = 1 + attempt_count log
attempt_count (attempts.Moved m ∷ log) = attempt_count log
attempt_count (attempts.AttemptComplete ∷ log) = 1 + attempt_count log
