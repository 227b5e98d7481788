-- What holds once paths of nets were added to a text.
use Rattle.std.specs.Prelude.{◌≡◌, ℕ, List, ◌↔◌}
use Rattle.words.specs.Members.{In}
use Rattle.records.specs.Side.{Domain}
use Rattle.links.specs.Links.{Below, Feeds, IsClean}
use Rattle.fabric.specs.Graph.{GraphArc}
use Rattle.fabric.specs.Image.{image_of}
use Rattle.fabric.specs.Agree.{ArcsAgree}
use Rattle.fabric.specs.Values.{word_at, value_at}
use Rattle.circuit.specs.Domains.{HasDomain}
use Rattle.upset.specs.Configured.{circuit_of}
use Rattle.upset.specs.Safe.{IsSafe}
use Rattle.repair.specs.Turns.{routing}
use Rattle.repair.specs.Layouts.{Layout, configured, NetPath, with_paths}

-- w is below the sink of an arc of one of the paths
abbrev pub IsBelowPaths : Layout → List NetPath → ℕ → Type 0
IsBelowPaths y paths w = (p : NetPath) × (In paths p × ((a : GraphArc) × (In p.path a × Below (routing (configured y)) a.sink w)))

-- The image is clean and safe, and the arcs agree. Each net feeds its pin, the wires below the sinks of its path have
-- its domain, and all other domains are as before; so are the settings.
pub record PathsKept (y : Layout) (paths : List NetPath) : Type 0 where
  pub clean : IsClean (routing (configured (with_paths y paths)))
  pub safe : IsSafe (configured (with_paths y paths))
  pub agree : ArcsAgree y.graph (image_of y.graph (with_paths y paths).config) (with_paths y paths).config
  pub connected : (p : NetPath) → In paths p → Feeds (routing (configured (with_paths y paths))) p.net.out p.pin
  pub below : (p : NetPath) → In paths p → (a : GraphArc) → In p.path a → (w : ℕ) → Below (routing (configured (with_paths y paths))) a.sink w
      → HasDomain (circuit_of (configured (with_paths y paths))) w p.net.domain
  pub others : (w : ℕ) → (IsBelowPaths (with_paths y paths) paths w → ⊥) → (d : Domain) → HasDomain (circuit_of (configured (with_paths y paths))) w d ↔ HasDomain (circuit_of (configured y)) w d
  pub words : (tile : ℕ) (name : List ℕ) → word_at y.graph (configured (with_paths y paths)).image tile name ≡ word_at y.graph (configured y).image tile name
  pub enums : (tile : ℕ) (name : List ℕ) → value_at y.graph (configured (with_paths y paths)).image tile name ≡ value_at y.graph (configured y).image tile name
