-- What a search answers.
use Rattle.std.specs.Prelude.{◌≡◌, ℕ}
use Rattle.words.specs.Members.{In}
use Rattle.paths.specs.Wiring.{roads_of}
use Rattle.paths.specs.Paths.{IsThePath, weight_of}
use Rattle.paths.specs.Cuts.{IsBlockedBy}
use Rattle.net_links.specs.Nets.{Network, NetRules, rules_of}
use Rattle.net_search.specs.declared.search.PathAnswer.{PathAnswer}
use Rattle.net_search.specs.declared.search.PathAnswer.TheVariants.{Found, Blocked}

-- the path and its weight, or the least cut and its rim
abbrev pub Answers : Network → NetRules → ℕ → PathAnswer → Type 0
Answers g n pin (Found arcs weight) = IsThePath (roads_of g.wiring (rules_of g n)) n.weight (In n.tree) arcs.items pin
    × (weight ≡ weight_of (roads_of g.wiring (rules_of g n)) n.weight arcs.items)
Answers g n pin (Blocked cut) = IsBlockedBy (roads_of g.wiring (rules_of g n)) (In n.tree) cut.inside cut.rim pin
