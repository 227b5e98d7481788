-- When the arcs that are chosen are those of the text. (Our own.)
use Rattle.std.specs.Prelude.{◌≡◌, true, Some}
use Rattle.std.specs.Option.{option_and_then}
use Rattle.words.specs.Members.{In}
use Rattle.patterns.specs.Bits.{Bits}
use Rattle.patterns.specs.Fits.{has_plain_bit}
use Rattle.records.specs.Config.{ArcLine, TileText, Config}
use Rattle.fabric.specs.Graph.{GraphArc, Graph}
use Rattle.fabric.specs.Links.{is_chosen}
use Rattle.fabric.specs.Image.{tile_named, arc_of_line}

-- an arc has a line in the section of its tile
pub record HasLine (g : Graph) (config : Config) (arc : GraphArc) : Type 0 where
  pub text : TileText
  pub line : ArcLine
  pub section : In config.tiles text
  pub listed : In text.arcs line
  pub is : option_and_then (λ tile. arc_of_line g tile line) (tile_named g text.tile) ≡ Some arc

-- The arcs agree: each chosen arc with a plain bit has an arc line, and the arc of each arc line is chosen.
pub record ArcsAgree (g : Graph) (image : Bits) (config : Config) : Type 0 where
  pub chosen_has_line : (arc : GraphArc) → In g.arcs arc → is_chosen g image arc ≡ true → has_plain_bit arc.arc.bits ≡ true → HasLine g config arc
  pub line_is_chosen : (arc : GraphArc) → HasLine g config arc → is_chosen g image arc ≡ true
