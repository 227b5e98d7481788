use Rattle.std.proofs.Common.{◌≡◌, ◌++◌, ◌||◌, drop}
use Rattle.cram_image.specs.Image.{bits}
use Rattle.texts.specs.Printing.{spaced}
use Rattle.top_call.specs.Longest.{sources_of, has_any}
use Rattle.top_call.proofs.drivers.push_chosen.Given as goal

-- what is written so far, and the sources of the arcs that are left, are those of all arcs
abbrev pub invariant-loop-arc : goal.invariant-loop-arc
invariant-loop-arc l =
    let left = sources_of (bits l.image) l.longest (drop l.arc-index l.arcs) in
    let all = sources_of (bits l.image) l.longest l.arcs in
    record {
      written : l.text.items ++ spaced left ≡ l.fn.text.items ++ spaced all;
      any : l.some || has_any left ≡ has_any all;
    }
