-- The order of a configuration. (Our own.)
use Rattle.std.specs.Prelude.{map}
use Rattle.words.specs.Members.{In}
use Rattle.records.specs.Config.{TileText, Config}
use Rattle.fabric.specs.InOrder.{IsRising}
use Rattle.fabric.specs.Wires.{name_cmp}
use Rattle.config_grammar.specs.ConfigText.{arc_key}

-- tiles stand in byte order of their names, and the arcs of each in byte order of their lines, none twice
pub record IsInOrder (c : Config) : Type 0 where
  pub tiles : IsRising name_cmp (map (λ t. t.tile) c.tiles)
  pub arcs : (t : TileText) → In c.tiles t → IsRising name_cmp (map arc_key t.arcs)
