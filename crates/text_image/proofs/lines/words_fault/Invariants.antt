use Rattle.std.proofs.Common.{◌≡◌, None, option_map, drop}
use Rattle.design_checks.specs.LineChecks.{word_faults}
use Rattle.named_graph.specs.Standing.{settings_at}
use Rattle.text_image.specs.Faults.{fault_view, first_behind}
use Rattle.text_image.proofs.lines.words_fault.Given as goal

-- the first so far, and what is left
abbrev pub invariant-loop-word : goal.invariant-loop-word
invariant-loop-word g l = first_behind (word_faults (settings_at (g.G.NamedGraph.graph l.graph) l.t)) (option_map fault_view l.found) (drop l.word-index l.words) ≡ first_behind (word_faults (settings_at (g.G.NamedGraph.graph l.graph) l.t)) None l.words
