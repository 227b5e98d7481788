use Rattle.std.proofs.Common.{◌≡◌, ◌++◌, length, drop}
use Rattle.std.specs.Prelude.{nat_le, ◌&&◌}
use Rattle.patterns.specs.Fits.{fits}
use Rattle.records.specs.Database.{Arc}
use Rattle.records.specs.Grid.{origin_of}
use Rattle.cram_image.specs.Image.{bits}
use Rattle.chosen_arcs.specs.Places.{places_where}
use Rattle.chosen_arcs.proofs.best.places_with.Given as goal

-- the places so far, and those of the arcs that are left
abbrev pub invariant-loop-place : goal.invariant-loop-place
invariant-loop-place l =
    l.places.items ++ places_where (λ (a : Arc). nat_le l.longest (length a.bits) && fits (bits l.image) (origin_of l.tile) a.bits) l.place (drop l.place l.arcs)
    ≡ places_where (λ (a : Arc). nat_le l.longest (length a.bits) && fits (bits l.image) (origin_of l.tile) a.bits) 0 l.arcs
