use Rattle.std.proofs.Common.{◌≡◌, drop}
use Rattle.cram_image.specs.Image.{bits}
use Rattle.fabric.specs.Image.{tile_writes}
use Rattle.text_image.specs.Written.{after_all}
use Rattle.text_image.proofs.writes.write_sections.Given as goal

-- what is written so far, and what is left
abbrev pub invariant-loop-text : goal.invariant-loop-text
invariant-loop-text g l = after_all (tile_writes (g.G.NamedGraph.graph l.graph)) (bits l.image) (drop l.text-index l.sections) ≡ after_all (tile_writes (g.G.NamedGraph.graph l.graph)) (bits l.fn.image) l.sections
