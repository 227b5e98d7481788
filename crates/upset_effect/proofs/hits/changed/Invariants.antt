use Rattle.patterns.specs.Bits.{bits_of_list}
use Rattle.cram_image.specs.Image.{bits}
use Rattle.upset_effect.specs.Reach.{IsChanged}
use Rattle.upset_effect.proofs.Kept.{Keeps}
use Rattle.upset_effect.proofs.hits.changed.Given as goal

-- the wires that are hit so far
abbrev pub invariant-loop-w : goal.invariant-loop-w
invariant-loop-w g l = Keeps (IsChanged l.live.graph (bits l.live.image) (bits_of_list l.flips)) l.wires l.w-index l.hit.items
