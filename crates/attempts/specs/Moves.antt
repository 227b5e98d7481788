-- The move of a slice: its settings are written at another site of equal shape. (Our own.)
use Rattle.std.specs.Prelude.{◌≡◌, ℕ, Bool, not, List, [], ◌∷◌, ◌++◌, map, filter, filter_map, Option, Some, None, option_map, if◌then◌else◌, ◌&&◌}
use Rattle.std.specs.Option.{is_some}
use Rattle.std.specs.Ordering.{match_ordering}
use Rattle.std.specs.Str.{bytes_eq}
use Rattle.records.specs.Config.{WordLine, EnumLine, TileText, Config}
use Rattle.records.specs.Profile.{SliceKind}
use Rattle.records.specs.Side.{Placed, Side}
use Rattle.fabric.specs.Wires.{name_cmp}
use Rattle.cells.specs.Sites.{Site}
use Rattle.repair.specs.Lines.{with_texts}

-- a slice, and the tile and the kind of its new site
pub record Move : Type 0 where
  pub slice : List ℕ
  pub tile : List ℕ
  pub kind : List ℕ

-- the name at the position that a name has among others; of a name that stands twice the first position counts
abbrev pub renamed : List (List ℕ) → List (List ℕ) → List ℕ → Option (List ℕ)
renamed (old ∷ olds) (new ∷ news) name = if bytes_eq old name then Some new else renamed olds news name
renamed _ _ name = None

-- the lines of a slice under their new names
abbrev pub moved_words : (List ℕ → Option (List ℕ)) → List WordLine → List WordLine
moved_words rename lines = filter_map (λ l. option_map (λ name. record { name = name; bits = l.bits; line = l.line }) (rename l.name)) lines

abbrev pub moved_enums : (List ℕ → Option (List ℕ)) → List EnumLine → List EnumLine
moved_enums rename lines = filter_map (λ l. option_map (λ name. record { name = name; value = l.value; line = l.line }) (rename l.name)) lines

-- the section of a tile without the lines of a slice
abbrev pub without_slice : (List ℕ → Option (List ℕ)) → TileText → TileText
without_slice rename text = record {
  tile = text.tile;
  line = text.line;
  arcs = text.arcs;
  words = filter (λ l. not (is_some (rename l.name))) text.words;
  enums = filter (λ l. not (is_some (rename l.name))) text.enums;
  unknowns = text.unknowns;
}

-- a section with more words and enums at its end
abbrev pub with_settings : List WordLine → List EnumLine → TileText → TileText
with_settings words enums text = record { tile = text.tile; line = text.line; arcs = text.arcs; words = text.words ++ words; enums = text.enums ++ enums; unknowns = text.unknowns }

-- sections in order of tiles with more words and enums at the end of a tile's; where it has none, one is made
abbrev pub texts_with : List ℕ → List WordLine → List EnumLine → List TileText → List TileText
texts_with tile words enums [] = record { tile = tile; line = 0; arcs = []; words = words; enums = enums; unknowns = [] } ∷ []
texts_with tile words enums (text ∷ texts) =
    match_ordering (name_cmp tile text.tile)
    (record { tile = tile; line = 0; arcs = []; words = words; enums = enums; unknowns = [] } ∷ text ∷ texts)
    (with_settings words enums text ∷ texts)
    (text ∷ texts_with tile words enums texts)

abbrev pub at_tile : List ℕ → (TileText → TileText) → List TileText → List TileText
at_tile tile change texts = map (λ text. if bytes_eq text.tile tile then change text else text) texts

-- the sections of a tile
abbrev pub texts_of : List ℕ → List TileText → List TileText
texts_of tile texts = filter (λ text. bytes_eq text.tile tile) texts

abbrev pub words_of : List TileText → List WordLine
words_of [] = []
words_of (text ∷ texts) = text.words ++ words_of texts

abbrev pub enums_of : List TileText → List EnumLine
enums_of [] = []
enums_of (text ∷ texts) = text.enums ++ enums_of texts

-- The configuration with the settings of a slice taken from one site and written at another: the word and enum lines
-- of the kind's settings go from the old tile to the end of the new one, under the names at the same positions.
abbrev pub moved_config : Site SliceKind → Site SliceKind → Config → Config
moved_config old new config =
    let rename = renamed old.kind.settings new.kind.settings in
    let from = texts_of old.tile.name config.tiles in
    with_texts config (texts_with new.tile.name (moved_words rename (words_of from)) (moved_enums rename (enums_of from)) (at_tile old.tile.name (without_slice rename) config.tiles))

-- the placed slice at the new site
abbrev pub placed_anew : Move → Placed → Placed
placed_anew m p = if bytes_eq p.name m.slice then record { name = p.name; tile = m.tile; kind = m.kind; domain = p.domain } else p

-- the side file with the slice at its new site
abbrev pub moved_side : Move → Side → Side
moved_side m side = record {
  slices = map (placed_anew m) side.slices;
  pads = side.pads;
  triples = side.triples;
  inputs = side.inputs;
  outputs = side.outputs;
  clocks = side.clocks;
  voters = side.voters;
}
