-- Placed cells at their sites. (Our own.)
use Rattle.std.specs.Prelude.{List, filter_map, Option, option_map}
use Rattle.records.specs.Side.{Placed}
use Rattle.cells.specs.Sites.{Site}

-- the placed cells that have a site, each with it
abbrev pub standing : {K : Type 0} → (Placed → Option (Site K)) → List Placed → List (Placed × Site K)
standing site_of ps = filter_map (λ p. option_map (λ s. (p, s)) (site_of p)) ps
