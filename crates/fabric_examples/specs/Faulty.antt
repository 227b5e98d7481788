-- Texts on MINI-A in which something is wrong.
use Rattle.std.specs.Prelude.{[], ◌∷◌, codes}
use Rattle.records.specs.Config.{Config}
use Rattle.mini.specs.Toggle.{line, slice_text, toggle_with, first_lines, second_lines, third_lines}

-- the toggle with a bit set that no line explains: it makes an arc of H5 that has no arc line
abbrev pub stray_bit : Config
stray_bit = toggle_with
    (record (slice_text (codes "R1C1:MLC") first_lines) { unknowns = record { frame = 10; bit = 2; line = 0 } ∷ [] })
    (slice_text (codes "R1C2:MLC") second_lines) (slice_text (codes "R1C3:MLC") third_lines)

-- pin A of the third slice driven from two tracks, both of which the register feeds
abbrev pub contested : Config
contested = toggle_with (slice_text (codes "R1C1:MLC") first_lines) (slice_text (codes "R1C2:MLC") second_lines)
    (slice_text (codes "R1C3:MLC") (line (codes "A") (codes "H3") ∷ line (codes "H3") (codes "Q") ∷ third_lines))
