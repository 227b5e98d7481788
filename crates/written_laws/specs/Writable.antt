-- Texts that a router may write over a graph. (Our own.)
use Rattle.std.specs.Prelude.{◌≡◌, ◌<◌, ℕ, List, [], length, map, Some, slice_get}
use Rattle.words.specs.Members.{In}
use Rattle.records.specs.Grid.{Tile}
use Rattle.records.specs.Config.{ArcLine, WordLine, EnumLine, UnknownLine, TileText, Config}
use Rattle.config_grammar.specs.ConfigLines.{UnknownOf}
use Rattle.config_grammar.specs.ConfigText.{arc_key}
use Rattle.fabric.specs.InOrder.{IsRising}
use Rattle.fabric.specs.Wires.{name_cmp}
use Rattle.fabric.specs.Settings.{Settings}
use Rattle.fabric.specs.Graph.{Graph}
use Rattle.fabric.specs.Image.{tile_named}
use Rattle.design_checks.specs.LineChecks.{arc_faults, word_faults, enum_faults, unknown_faults}
use Rattle.text_laws.specs.Formed.{CanStand}

-- the place in the grid of a tile of a name, with its settings
pub record TilePlace (g : Graph) (name : List ℕ) : Type 0 where
  pub number : ℕ
  pub tile : Tile
  pub settings : Settings
  pub named : tile_named g name ≡ Some number
  pub there : slice_get g.grid.tiles number ≡ Some tile
  pub set : slice_get g.settings number ≡ Some settings

-- A section is that of a tile of the grid. Each of its lines names what is there, its arcs are in order, its words have
-- bits, and the numbers of its raw bits are small enough.
pub record SectionStands (g : Graph) (t : TileText) : Type 0 where
  pub place : TilePlace g t.tile
  pub arcs : (a : ArcLine) → In t.arcs a → arc_faults g place.number place.tile a ≡ []
  pub words : (w : WordLine) → In t.words w → (word_faults place.settings w ≡ []) × (0 < length w.bits)
  pub enums : (e : EnumLine) → In t.enums e → enum_faults place.settings e ≡ []
  pub unknowns : (u : UnknownLine) → In t.unknowns u → (unknown_faults place.tile u ≡ []) × CanStand (UnknownOf u.frame u.bit)
  pub order : IsRising name_cmp (map arc_key t.arcs)

-- A configuration that a router may write over a graph for one that was read: of the same device and with the same
-- heads, its tiles in order, and each section names what is there.
pub record IsWritable (g : Graph) (read c : Config) : Type 0 where
  pub device : c.device ≡ read.device
  pub heads : c.heads ≡ read.heads
  pub tiles : IsRising name_cmp (map (λ t. t.tile) c.tiles)
  pub sections : (t : TileText) → In c.tiles t → SectionStands g t
