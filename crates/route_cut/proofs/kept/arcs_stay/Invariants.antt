use Rattle.std.proofs.Common.{ℕ, ◌<◌, get_or}
use Rattle.route_cut.specs.Checked.{LeadsWithin}
use Rattle.route_cut.proofs.kept.arcs_stay.Given as goal

abbrev pub invariant-loop-a : goal.invariant-loop-a
invariant-loop-a g l = (k : ℕ) → k < l.a-index → LeadsWithin (g.R.Links.network l.rules).wiring l.inside l.rim (get_or l.arcs k 0)
