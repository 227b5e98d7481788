use Rattle.std.proofs.Common.{◌≡◌, drop}
use Rattle.cram_image.specs.Image.{bits}
use Rattle.fabric.specs.Image.{word_writes}
use Rattle.named_graph.specs.Standing.{settings_at}
use Rattle.records.specs.Grid.{origin_of}
use Rattle.text_image.specs.Written.{after_all}
use Rattle.text_image.proofs.writes.write_words.Given as goal

-- what is written so far, and what is left
abbrev pub invariant-loop-word : goal.invariant-loop-word
invariant-loop-word g l = after_all (word_writes (origin_of l.tile) (settings_at (g.G.NamedGraph.graph l.graph) l.t)) (bits l.image) (drop l.word-index l.words) ≡ after_all (word_writes (origin_of l.tile) (settings_at (g.G.NamedGraph.graph l.graph) l.t)) (bits l.fn.image) l.words
