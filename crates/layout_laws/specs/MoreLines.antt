-- A text with one more arc line, wherever the line stands.
use Rattle.std.specs.Prelude.{◌≡◌, List, ◌∷◌, ◌++◌, Some, option_and_then}
use Rattle.records.specs.Config.{ArcLine, TileText}
use Rattle.fabric.specs.Graph.{GraphArc, Graph}
use Rattle.fabric.specs.Image.{tile_named, arc_of_line}
use Rattle.repair.specs.Lines.{TileLine, text_of_line}

-- a line of a tile's section stands for an arc
abbrev pub StandsForArc : Graph → TileLine → GraphArc → Type 0
StandsForArc g l a = option_and_then (λ tile. arc_of_line g tile l.line) (tile_named g l.tile) ≡ Some a

-- the second list is the first with one more element, somewhere
pub record IsOneMore {X : Type 0} (x : X) (xs more : List X) : Type 0 where
  pub front : List X
  pub back : List X
  pub without : xs ≡ front ++ back
  pub within : more ≡ front ++ x ∷ back

-- the section with other arc lines
abbrev pub with_arcs_of : TileText → List ArcLine → TileText
with_arcs_of text arcs = record { tile = text.tile; line = text.line; arcs = arcs; words = text.words; enums = text.enums; unknowns = text.unknowns }

-- The second list of sections is the first with one more arc line: somewhere in a section of its tile, or in a
-- section of its own, which stands somewhere.
pub data HasOneLineMore (l : TileLine) : List TileText → List TileText → Type 0 where
  in_section : {text : TileText} {texts : List TileText} {arcs : List ArcLine} → text.tile ≡ l.tile → IsOneMore l.line text.arcs arcs
      → HasOneLineMore l (text ∷ texts) (with_arcs_of text arcs ∷ texts)
  own_section : {texts : List TileText} → HasOneLineMore l texts (text_of_line l ∷ texts)
  further : {text : TileText} {texts more : List TileText} → HasOneLineMore l texts more → HasOneLineMore l (text ∷ texts) (text ∷ more)
