use Rattle.std.proofs.Common.{◌≡◌, drop, max}
use Rattle.cram_image.specs.Image.{bits}
use Rattle.answers.specs.Drivers.{no_origin}
use Rattle.top_call.specs.Longest.{longest_fit}
use Rattle.top_call.proofs.drivers.longest_fit.Given as goal

-- the longest so far and the longest of the arcs that are left give the longest of all
abbrev pub invariant-loop-arc : goal.invariant-loop-arc
invariant-loop-arc l =
    max l.longest (longest_fit (bits l.image) no_origin (drop l.arc-index l.arcs)) ≡ longest_fit (bits l.image) no_origin l.arcs
