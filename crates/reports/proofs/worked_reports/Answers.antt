use Rattle.std.proofs.Common.{refl}
use Rattle.std.specs.Fmt.{digits}
use Rattle.reports.proofs.worked_reports.Goals as goal

pub returns : goal.returns
unfolding digits
returns c = record { checked = refl; safe = refl; unsafe_one = refl; hardened = refl; no_route = refl; moved = refl; standing = refl; no_site = refl; cut_file = refl; run = refl }
