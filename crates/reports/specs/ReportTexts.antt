-- The texts of reports: lines of words with a space between two, each ended by a line feed. (Our own.)
use Rattle.std.specs.Prelude.{ℕ, ◌+◌, List, [], ◌∷◌, ◌++◌, length, codes}
use Rattle.std.specs.List.{flat_map}
use Rattle.std.specs.Fmt.{decimal}
use Rattle.texts.specs.Printing.{line_of}
use Rattle.records.specs.Side.{Domain, D0, D1, D2}
use Rattle.fabric.specs.Wires.{Wire, wire_text}
use Rattle.fabric.specs.MuxBits.{bit_text}
use Rattle.reports.specs.Reports.{Place, AtWire, InCell, BadPlace, LogLine, Blocked, Moved, Complete, EndWord, EndRounds, EndPad, EndSite, RunWord, RunHardened, RunNoRoute, RunStanding, RunReport, Report, Checked, Safe, Unsafe, Standing, Hardened, NoRoute, CutFile, Ran}

abbrev pub counted : List ℕ → ℕ → List ℕ
counted word n = line_of word (decimal n ∷ [])

abbrev pub domain_text : Domain → List ℕ
domain_text D0 = codes "D0"
domain_text D1 = codes "D1"
domain_text D2 = codes "D2"

-- a wire, or `@` and the name of a cell
abbrev pub place_text : Place → List ℕ
place_text (AtWire wire) = wire_text wire
place_text (InCell name) = codes "@" ++ name

-- `BIT D<i> PLACE D<j> PLACE`
abbrev pub bad_line : BadPlace → List ℕ
bad_line b = line_of (bit_text b.bit) (domain_text b.first ∷ place_text b.first_at ∷ domain_text b.second ∷ place_text b.second_at ∷ [])

abbrev pub bad_lines : List ℕ → List BadPlace → List ℕ
bad_lines word bad = counted word (length bad) ++ flat_map bad_line bad

-- The lines of a log, where the attempt under way has this number: `attempt I blocked NET PIN`, `move SLICE TILE
-- KIND`, `attempt I complete`. The number of an attempt is one more than that of the blocked ones before it.
abbrev pub log_from : ℕ → List LogLine → List ℕ
log_from attempt [] = []
log_from attempt (Blocked net pin ∷ log) = line_of (codes "attempt") (decimal attempt ∷ codes "blocked" ∷ wire_text net ∷ wire_text pin ∷ []) ++ log_from (attempt + 1) log
log_from attempt (Moved slice tile kind ∷ log) = line_of (codes "move") (slice ∷ tile ∷ kind ∷ []) ++ log_from attempt log
log_from attempt (Complete ∷ log) = line_of (codes "attempt") (decimal attempt ∷ codes "complete" ∷ []) ++ log_from attempt log

abbrev pub log_text : List LogLine → List ℕ
log_text log = log_from 1 log

abbrev pub end_word : EndWord → List ℕ
end_word EndRounds = codes "rounds"
end_word EndPad = codes "pad"
end_word EndSite = codes "site"

abbrev pub run_word : RunWord → List ℕ
run_word RunHardened = codes "hardened"
run_word RunNoRoute = codes "noroute"
run_word RunStanding = codes "standing"

abbrev pub wire_lines : List ℕ → List Wire → List ℕ
wire_lines word wires = flat_map (λ wire. line_of word (wire_text wire ∷ [])) wires

abbrev pub run_text : RunReport → List ℕ
run_text r =
    counted (codes "run") r.blocks ++ counted (codes "tiles") r.tiles ++ counted (codes "slices") r.slices ++ counted (codes "pads") r.pads
    ++ counted (codes "bits") r.bits ++ line_of (run_word r.answer) [] ++ counted (codes "attempts") r.attempts ++ counted (codes "connections") r.connections

-- the text of a report
abbrev pub report_text : Report → List ℕ
report_text (Checked c) =
    line_of (codes "triplicated") []
    ++ line_of (codes "slices") (decimal c.slices ∷ codes "pads" ∷ decimal c.pads ∷ codes "outputs" ∷ decimal c.outputs ∷ codes "voters" ∷ decimal c.voters ∷ [])
report_text (Safe bits) = line_of (codes "safe") [] ++ counted (codes "bits") bits
report_text (Unsafe bad) = bad_lines (codes "unsafe") bad
report_text (Standing bad) = bad_lines (codes "standing") bad
report_text (Hardened log connections) = line_of (codes "hardened") [] ++ log_text log ++ counted (codes "connections") connections
report_text (NoRoute log end) = line_of (codes "noroute") [] ++ log_text log ++ line_of (codes "end") (end_word end ∷ [])
report_text (CutFile cut) =
    line_of (codes "net") (wire_text cut.net ∷ []) ++ line_of (codes "pin") (wire_text cut.pin ∷ []) ++ wire_lines (codes "inside") cut.inside ++ wire_lines (codes "rim") cut.rim
report_text (Ran r) = run_text r
