use Rattle.std.proofs.Common.{ℕ, ◌≡◌, ◌<◌, true, get_or}
use Rattle.words.specs.Members.{In}
use Rattle.route_cut.proofs.edges.none_leads_out.Given as goal

abbrev pub invariant-loop-a : goal.invariant-loop-a
invariant-loop-a g l = (k : ℕ) → k < l.a-index → In l.inside ((g.R.Links.network l.rules).wiring.source (get_or l.arcs k 0)) × ((g.R.PathRules.rules l.rules).takes (get_or l.arcs k 0) ≡ true) → ⊥
