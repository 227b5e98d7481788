use Rattle.std.proofs.Common.{◌≡◌, ◌++◌, drop}
use Rattle.patterns.specs.Bits.{bits_of_list, flipped}
use Rattle.patterns.specs.Fits.{present}
use Rattle.records.specs.Database.{Arc}
use Rattle.records.specs.Grid.{origin_of}
use Rattle.cram_image.specs.Image.{bits}
use Rattle.chosen_arcs.specs.Places.{places_where}
use Rattle.chosen_arcs.proofs.flips.conducting.Given as goal

-- the places so far, and those of the arcs that are left
abbrev pub invariant-loop-place : goal.invariant-loop-place
invariant-loop-place l =
    l.places.items ++ places_where (λ (a : Arc). present (flipped (bits_of_list l.flips) (bits l.image)) (origin_of l.tile) a.bits) l.place (drop l.place l.arcs)
    ≡ places_where (λ (a : Arc). present (flipped (bits_of_list l.flips) (bits l.image)) (origin_of l.tile) a.bits) 0 l.arcs
