use Rattle.std.proofs.Common.{option_map}
use Rattle.std.proofs.lemmas.List.{drop_all}
use Rattle.design_checks.specs.LineChecks.{word_faults}
use Rattle.named_graph.specs.Standing.{settings_at}
use Rattle.text_image.specs.Faults.{fault_view}
use Rattle.text_image.proofs.First.{at_end}
use Rattle.text_image.proofs.lines.words_fault.Goals as goal

pub returns : goal.returns
returns g c = at_end (word_faults (settings_at (g.G.NamedGraph.graph c.args.graph.now) c.args.t)) (option_map fault_view c.loop-word.found) c.args.words.now c.loop-word.word-index (drop_all c.loop-word.word-index c.args.words.now c.loop-word-test.false) c.loop-word.invariant
