use Rattle.net_search.proofs.Cleared.{cleared}
use Rattle.net_search.proofs.clear.clear_all.Goals as goal

pub returns : goal.returns
returns c = cleared c.args.inside.now c.args.edge.now c.args.marks.now c.clear_marks.new.marks c.clear_marks-2.new.marks c.clear_marks.ensures c.clear_marks-2.ensures c.requires.known
