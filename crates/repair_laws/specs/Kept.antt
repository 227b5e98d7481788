-- What holds once arcs were added.
use Rattle.std.specs.Prelude.{◌≡◌, ℕ, List, ◌↔◌, ◌⊎◌}
use Rattle.words.specs.Members.{In}
use Rattle.records.specs.Config.{Config}
use Rattle.records.specs.Side.{Domain}
use Rattle.links.specs.Links.{Below, Feeds, IsClean}
use Rattle.fabric.specs.Graph.{GraphArc}
use Rattle.fabric.specs.Agree.{HasLine, ArcsAgree}
use Rattle.circuit.specs.Domains.{HasDomain}
use Rattle.upset.specs.Configured.{circuit_of}
use Rattle.upset.specs.Safe.{IsSafe}
use Rattle.repair.specs.Added.{added_all}
use Rattle.repair.specs.Turns.{Turn, routing}

-- w is below the sink of one of the arcs
abbrev pub IsBelowOne : Turn → List GraphArc → ℕ → Type 0
IsBelowOne t arcs w = (a : GraphArc) × (In arcs a × Below (routing t.now) a.sink w)

-- the second text has the lines of the first and of the arcs, and no others
abbrev pub HasLinesOf : Turn → List GraphArc → Config → Config → Type 0
HasLinesOf t arcs text more = (a : GraphArc) → HasLine t.now.graph more a ↔ (HasLine t.now.graph text a ⊎ In arcs a)

-- The routing is clean and the image safe. The wires below the sinks of the arcs are fed by the net, and have its
-- domain; all other feeds and domains are as before. The arcs agree where they did, with the lines of the arcs.
pub record AreKept (t : Turn) (arcs : List GraphArc) : Type 0 where
  pub clean : IsClean (routing (added_all t.now arcs))
  pub safe : IsSafe (added_all t.now arcs)
  pub feeds : (c w : ℕ) → Feeds (routing (added_all t.now arcs)) c w ↔ (Feeds (routing t.now) c w ⊎ ((c ≡ t.net.out) × IsBelowOne t arcs w))
  pub below : (w : ℕ) → IsBelowOne t arcs w → HasDomain (circuit_of (added_all t.now arcs)) w t.net.domain
  pub others : (w : ℕ) → (IsBelowOne t arcs w → ⊥) → (d : Domain) → HasDomain (circuit_of (added_all t.now arcs)) w d ↔ HasDomain (circuit_of t.now) w d
  pub agree : (text more : Config) → HasLinesOf t arcs text more → ArcsAgree t.now.graph t.now.image text → ArcsAgree t.now.graph (added_all t.now arcs).image more
