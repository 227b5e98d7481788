use Rattle.std.proofs.Common.{◌↔◌, ℕ, take}
use Rattle.words.specs.Members.{In}
use Rattle.patterns.specs.Bits.{bits_of_list}
use Rattle.cram_image.specs.Image.{bits}
use Rattle.upset_effect.specs.Reach.{IsAfter, IsJoined}
use Rattle.upset_effect.proofs.Joining.{Shorts}
use Rattle.upset_effect.proofs.shorts.short_sources.Given as goal

-- the sources of the wires so far
abbrev pub invariant-loop-w : goal.invariant-loop-w
invariant-loop-w g l = (x : ℕ) → In l.sources.items x
    ↔ Shorts (IsJoined l.live.graph (bits l.live.image) (bits_of_list l.flips)) (IsAfter l.live.graph (bits l.live.image) (bits_of_list l.flips)) (take l.w-index l.hit) x
