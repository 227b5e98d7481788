use Rattle.route_graph.proofs.made.overlap_of.Goals as goal

pub overlap-requires-clause-known : goal.overlap-requires-clause-known
overlap-requires-clause-known c = c.requires.known c.in-Twice.w c.in-Twice.is

pub overlap-requires-clause-first : goal.overlap-requires-clause-first
overlap-requires-clause-first c = c.requires.first c.in-Twice.w c.in-Twice.is
