use Rattle.std.proofs.Common.{length, take}
use Rattle.patterns.specs.Fits.{fits}
use Rattle.records.specs.Database.{Arc}
use Rattle.records.specs.Grid.{origin_of}
use Rattle.cram_image.specs.Image.{bits}
use Rattle.chosen_arcs.specs.Places.{IsMost}
use Rattle.chosen_arcs.proofs.best.longest_fit.Given as goal

-- the most bits so far
abbrev pub invariant-loop-arc : goal.invariant-loop-arc
invariant-loop-arc l = IsMost (λ (a : Arc). fits (bits l.image) (origin_of l.tile) a.bits) (λ (a : Arc). length a.bits) (take l.arc-index l.arcs) l.longest
