use Rattle.std.proofs.Common.{ℕ, ◌<◌, get_or}
use Rattle.route_cut.specs.Checked.{StaysWithin}
use Rattle.route_cut.proofs.kept.all_stay.Given as goal

abbrev pub invariant-loop-w : goal.invariant-loop-w
invariant-loop-w g l = (k : ℕ) → k < l.w-index → StaysWithin (g.R.Links.network l.rules).wiring (g.R.PathRules.rules l.rules) l.inside l.rim (get_or l.inside k 0)
