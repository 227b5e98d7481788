-- The tiles that a reader knows already, by names lent from the source, and what it has read.
use Rattle.std.specs.Prelude.{◌≡◌, ℕ, List, [], ◌∷◌, false}
use Rattle.std.specs.Option.{option_to_list}
use denote.Ref.{Bor}
use Rattle.text_cut.specs.Known.{knows}
use Rattle.records.specs.Config.{TileText}
use Rattle.config_grammar.specs.ConfigText.{has_tile}
use Rattle.config_text.specs.declared.sections.Sections.{Sections}
use Rattle.config_text.specs.declared.reader.Reader.{Reader}
use Rattle.config_text.specs.LineByLine.{Reading}

-- the known names are just those of the tiles of these sections
abbrev pub HoldsTiles : List TileText → List (Bor (List ℕ)) → Type 0
HoldsTiles sections tiles = (q : List ℕ) → knows tiles q ≡ has_tile sections q

-- no section is of the tile of another
abbrev pub NoTileTwice : List TileText → Type 0
NoTileTwice [] = Unit {0}
NoTileTwice (t ∷ ts) = (has_tile ts t.tile ≡ false) × NoTileTwice ts

-- the known names are in step with the sections
pub record KnowsTiles (sections : List TileText) (tiles : List (Bor (List ℕ))) : Type 0 where
  pub names : HoldsTiles sections tiles
  pub once : NoTileTwice sections

abbrev pub KnowsItsTiles : Sections → Type 0
KnowsItsTiles s = KnowsTiles s.sections s.tiles

-- what a reader has read
abbrev pub reading_view : Reader → Reading
reading_view r = record { devices = option_to_list r.device; heads = r.heads; sections = r.sections.sections }
