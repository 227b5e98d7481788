-- Lines of a configuration that are printed. (After Project Trellis.)
use Rattle.std.specs.Prelude.{◌≡◌, ℕ, false, List, [], ◌∷◌, ◌++◌, map, flat_map, codes, true, Ok}
use Rattle.std.specs.List.{list_any}
use Rattle.std.specs.Fmt.{decimal}
use Rattle.words.specs.Members.{In}
use Rattle.texts.specs.Parts.{no_line_feed}
use Rattle.texts.specs.Printing.{spaced}
use Rattle.config_grammar.specs.ConfigLines.{ConfigLine, DeviceLine, HeadLine, TileLine, ArcOf, WordOf, EnumOf, UnknownOf, OutsideLine, is_return}
use Rattle.config_grammar.specs.ConfigPrint.{word_digits}
use Rattle.config_grammar.specs.ConfigText.{configuration_of}
use Rattle.records.specs.Config.{TileText, Config}

-- texts, each with a line feed behind it
abbrev pub lined : List (List ℕ) → List ℕ
lined texts = flat_map (λ text. text ++ 10 ∷ []) texts

-- each of some texts is free of line feeds and carriage returns
abbrev pub AreOneLine : List (List ℕ) → Type 0
AreOneLine texts = (text : List ℕ) → In texts text → (no_line_feed text ≡ true) × (list_any is_return text ≡ false)

-- a word, and more words with a space before each
abbrev pub words_text : List ℕ → List (List ℕ) → List ℕ
words_text word words = word ++ spaced words

-- how a line that says this is printed, without its line feed; a block that isn't modelled is never printed
abbrev pub printed_line : ConfigLine → List ℕ
printed_line (DeviceLine name) = words_text (codes ".device") (name ∷ [])
printed_line (HeadLine text) = text
printed_line (TileLine name) = words_text (codes ".tile") (name ∷ [])
printed_line (ArcOf sink source) = words_text (codes "arc:") (sink ∷ source ∷ [])
printed_line (WordOf name bits) = words_text (codes "word:") (name ∷ word_digits bits ∷ [])
printed_line (EnumOf name value) = words_text (codes "enum:") (name ∷ value ∷ [])
printed_line (UnknownOf frame bit) = words_text (codes "unknown:") ((codes "F" ++ decimal frame ++ codes "B" ++ decimal bit) ∷ [])
printed_line OutsideLine = []

-- what the lines of a section say
abbrev pub said_in : TileText → List ConfigLine
said_in t =
    map (λ a. ArcOf a.sink a.source) t.arcs ++ map (λ w. WordOf w.name w.bits) t.words ++ map (λ e. EnumOf e.name e.value) t.enums
    ++ map (λ u. UnknownOf u.frame u.bit) t.unknowns

-- what a section says: its tile's line and its lines, or nothing where it has no lines
abbrev pub section_says : List ℕ → List ConfigLine → List ConfigLine
section_says name [] = []
section_says name (line ∷ lines) = TileLine name ∷ line ∷ lines

-- what a configuration says, line by line
abbrev pub said_by : Config → List ConfigLine
said_by c = DeviceLine c.device ∷ (map (λ h. HeadLine h.text) c.heads ++ flat_map (λ t. section_says t.tile (said_in t)) c.tiles)

-- some bytes are read as this configuration
abbrev pub IsReadConfig : Config → Type 0
IsReadConfig c = (bytes : List ℕ) × (configuration_of bytes ≡ Ok c)
