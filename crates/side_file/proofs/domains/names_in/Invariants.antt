use Rattle.std.proofs.Common.{take}
use Rattle.rr_ids.specs.Domains.{domain_of}
use Rattle.side_file.specs.Known.{KnowsDomain}
use Rattle.side_file.proofs.domains.names_in.Given as goal

-- the names so far
abbrev pub invariant-loop-cell : goal.invariant-loop-cell
invariant-loop-cell l = KnowsDomain (domain_of l.domain) l.names (take l.cell-index l.cells)
