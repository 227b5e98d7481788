-- Why links aren't joined.
use Rattle.std.specs.Prelude.{ℕ, List}
use Rattle.links.specs.Links.{Link, Routing}
use Rattle.wire_contests.specs.Contests.{IsContest}
use Rattle.wire_links.specs.declared.error.LinksError.{LinksError}
use Rattle.wire_links.specs.declared.error.LinksError.TheVariants.{Contested, Memory}

-- links and cell outputs
abbrev pub as_routing : List Link → List ℕ → Routing
as_routing links outputs = record { links = links; outputs = outputs }

-- an error names what contests the routing; want of memory says nothing of it
abbrev pub Refuses : Routing → LinksError → Type 0
Refuses r (Contested c) = IsContest r c
Refuses r Memory = Unit {0}
