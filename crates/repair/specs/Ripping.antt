-- A configuration without the routes of ripped nets, and the connections that are lost with them. (Our own.)
use Rattle.std.specs.Prelude.{◌≡◌, ℕ, List, Some, option_and_then}
use Rattle.records.specs.Config.{ArcLine, Config}
use Rattle.links.specs.Links.{Feeds}
use Rattle.fabric.specs.Graph.{GraphArc}
use Rattle.fabric.specs.Image.{tile_named, arc_of_line}
use Rattle.upset.specs.Configured.{Configured}
use Rattle.repair.specs.Plain.{IsPlain}
use Rattle.repair.specs.Lines.{WithoutArcLines}
use Rattle.repair.specs.Turns.{routing}

-- an arc line of a plain mux whose sink a net feeds, one of those that are ripped
pub record IsRippedLine (Ripped : ℕ → Type 0) (config : Config) (k : Configured) (tile : List ℕ) (line : ArcLine) : Type 0 where
  pub arc : GraphArc
  pub named : option_and_then (λ number. arc_of_line k.graph number line) (tile_named k.graph tile) ≡ Some arc
  pub plain : IsPlain k.graph config arc.mux
  pub net : ℕ
  pub ripped : Ripped net
  pub feeds : Feeds (routing k) net arc.sink

-- R0: the configuration without the arc lines of plain muxes whose sink a ripped net feeds
abbrev pub IsRest : (ℕ → Type 0) → Config → Configured → Config → Type 0
IsRest Ripped config k rest = WithoutArcLines (IsRippedLine Ripped config k) config rest
