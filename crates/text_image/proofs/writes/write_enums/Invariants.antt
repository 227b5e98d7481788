use Rattle.std.proofs.Common.{◌≡◌, drop}
use Rattle.cram_image.specs.Image.{bits}
use Rattle.fabric.specs.Image.{enum_writes}
use Rattle.named_graph.specs.Standing.{settings_at}
use Rattle.records.specs.Grid.{origin_of}
use Rattle.text_image.specs.Written.{after_all}
use Rattle.text_image.proofs.writes.write_enums.Given as goal

-- what is written so far, and what is left
abbrev pub invariant-loop-line : goal.invariant-loop-line
invariant-loop-line g l = after_all (enum_writes (origin_of l.tile) (settings_at (g.G.NamedGraph.graph l.graph) l.t)) (bits l.image) (drop l.line-index l.enums) ≡ after_all (enum_writes (origin_of l.tile) (settings_at (g.G.NamedGraph.graph l.graph) l.t)) (bits l.fn.image) l.enums
