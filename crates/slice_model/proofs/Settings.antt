-- The settings of a tile, and the bits of its words.
use Rattle.std.proofs.Common.{◌≡◌, ℕ, ◌≤◌, Bool, List, [], length, Option, None, Some, option_map, refl, sym, ap, ap₂, subst, ◌∙◌}
use Rattle.std.specs.Prelude.{slice_get, option_and_then, unwrap_or}
use Rattle.std.specs.Option.{option_map_or}
use Rattle.patterns.specs.Bits.{Bits}
use Rattle.records.specs.Database.{WordSetting}
use Rattle.records.specs.Grid.{Tile, origin_of}
use Rattle.fabric.specs.Graph.{Graph}
use Rattle.fabric.specs.Settings.{Settings, word_named, word_bits}
use Rattle.fabric.specs.Values.{word_at}
use Rattle.cells.specs.Sites as sites
use Rattle.named_graph.specs.Standing.{settings_at}
use Rattle.cells.specs.Resolved.{word_of}
use Rattle.circuit.specs.Cells.{TableCell}
use Rattle.circuit.specs.Worlds.{address}
use Rattle.patterns.specs.Fits.{fits}
use Rattle.std.proofs.lemmas.List.{length-map}
use Rattle.slice_model.specs.Grid.{HasSmallWord, table_word}

-- both words for the settings of a tile mean the same
pub same_settings : {K : Type 0} (g : Graph) (s : sites.Site K) → settings_at g s.number ≡ sites.settings_at g s
same_settings g s = go (slice_get g.settings s.number)
  where
    go : (o : Option Settings) → option_map_or (λ settings. settings) o (record { words = []; enums = [] }) ≡ unwrap_or o (record { words = []; enums = [] })
    go None = refl
    go (Some settings) = refl

-- the bits of the word of a name in a tile
pub word_is : (g : Graph) (image : Bits) (t : ℕ) (name : List ℕ) (tile : Tile) → slice_get g.grid.tiles t ≡ Some tile
    → word_at g image t name ≡ option_map (word_bits image (origin_of tile)) (word_named (settings_at g t) name)
word_is g image t name tile e =
    ap (λ o. option_and_then (λ u. option_and_then (λ settings. option_map (word_bits image (origin_of u)) (word_named settings name)) (slice_get g.settings t)) o) e ∙ go (slice_get g.settings t)
  where
    go : (o : Option Settings) → option_and_then (λ settings. option_map (word_bits image (origin_of tile)) (word_named settings name)) o
        ≡ option_map (word_bits image (origin_of tile)) (word_named (option_map_or (λ settings. settings) o (record { words = []; enums = [] })) name)
    go None = refl
    go (Some s) = refl

word_there : (g : Graph) (image : Bits) (t : ℕ) (name : List ℕ) (tile : Tile) (w : WordSetting) → slice_get g.grid.tiles t ≡ Some tile → Some w ≡ word_named (settings_at g t) name
    → word_at g image t name ≡ Some (word_bits image (origin_of tile) w)
word_there g image t name tile w at e = word_is g image t name tile at ∙ ap (option_map (word_bits image (origin_of tile))) (sym e)

-- the patterns of a word that is small
pub small_found : (g : Graph) (image : Bits) (t : ℕ) (name : List ℕ) (tile : Tile) (w : WordSetting) → slice_get g.grid.tiles t ≡ Some tile → Some w ≡ word_named (settings_at g t) name
    → HasSmallWord g image t name → length w.bits ≤ 16
small_found g image t name tile w at e small =
    subst (λ n. n ≤ 16) (length-map w.bits (fits image (origin_of tile))) (subst (λ o. length (unwrap_or o []) ≤ 16) (word_there g image t name tile w at e) small.few)

-- the word of a table, where it is there and where it isn't
pub word_found : (g : Graph) (image : Bits) (t : ℕ) (name : List ℕ) (tile : Tile) (w : WordSetting) → slice_get g.grid.tiles t ≡ Some tile → Some w ≡ word_named (settings_at g t) name
    → table_word g image t name ≡ address (word_bits image (origin_of tile) w)
word_found g image t name tile w at e = ap (λ o. word_of (unwrap_or o [])) (word_there g image t name tile w at e)

pub word_missing : (g : Graph) (image : Bits) (t : ℕ) (name : List ℕ) (tile : Tile) → slice_get g.grid.tiles t ≡ Some tile → None ≡ word_named (settings_at g t) name
    → table_word g image t name ≡ 0
word_missing g image t name tile at e = ap (λ o. word_of (unwrap_or o [])) (word_is g image t name tile at ∙ ap (option_map (word_bits image (origin_of tile))) (sym e))

abbrev pub table_of : ℕ → List ℕ → ℕ → TableCell
table_of word pins out = record { word = word; pins = pins; out = out }

-- a table of its parts
pub table_made : (a b : ℕ) (p q : List ℕ) (o r : ℕ) → a ≡ b → p ≡ q → o ≡ r → table_of a p o ≡ table_of b q r
table_made a b p q o r e f h = ap₂ (λ w ps. table_of w ps o) e f ∙ ap (table_of b q) h
