-- Configurations that are the same but for the numbers of lines and sections without lines print the same.
use Rattle.std.proofs.Common.{◌≡◌, ℕ, Bool, true, false, List, [], ◌∷◌, ◌++◌, map, filter, cond, codes, refl, sym, ap, ap₂, ◌∙◌}
use Rattle.std.specs.List.{flat_map}
use Rattle.records.specs.Config.{Head, ArcLine, WordLine, EnumLine, UnknownLine, TileText, Config}
use Rattle.config_grammar.specs.ConfigPrint.{arc_text, word_text, enum_text, unknown_text, lines_text, section_with, section_text, head_text, config_text}
use Rattle.texts.specs.Printing.{line_of}
use Rattle.text_laws.specs.SameButLines.{unnumbered_arc, unnumbered_word, unnumbered_enum, unnumbered_unknown, unnumbered, has_lines, SameButLines}

-- lines print without their numbers
arcs_print : (xs : List ArcLine) → flat_map arc_text (map unnumbered_arc xs) ≡ flat_map arc_text xs
arcs_print [] = refl
arcs_print (x ∷ xs) = ap (λ t. arc_text x ++ t) (arcs_print xs)

words_print : (xs : List WordLine) → flat_map word_text (map unnumbered_word xs) ≡ flat_map word_text xs
words_print [] = refl
words_print (x ∷ xs) = ap (λ t. word_text x ++ t) (words_print xs)

enums_print : (xs : List EnumLine) → flat_map enum_text (map unnumbered_enum xs) ≡ flat_map enum_text xs
enums_print [] = refl
enums_print (x ∷ xs) = ap (λ t. enum_text x ++ t) (enums_print xs)

unknowns_print : (xs : List UnknownLine) → flat_map unknown_text (map unnumbered_unknown xs) ≡ flat_map unknown_text xs
unknowns_print [] = refl
unknowns_print (x ∷ xs) = ap (λ t. unknown_text x ++ t) (unknowns_print xs)

lines_print : (t : TileText) → lines_text (unnumbered t) ≡ lines_text t
lines_print t =
    ap₂ (λ (a b : List ℕ). a ++ b)
    (ap₂ (λ (a b : List ℕ). a ++ b) (ap₂ (λ (a b : List ℕ). a ++ b) (arcs_print t.arcs) (words_print t.words)) (enums_print t.enums)) (unknowns_print t.unknowns)

section_prints : (t : TileText) → section_text (unnumbered t) ≡ section_text t
section_prints t = ap (section_with t.tile) (lines_print t)

-- a section without lines prints nothing
no_text : (arcs : List ArcLine) (words : List WordLine) (enums : List EnumLine) (unknowns : List UnknownLine) (tile : List ℕ) (line : ℕ)
    → let t : TileText = record { tile = tile; line = line; arcs = arcs; words = words; enums = enums; unknowns = unknowns } in has_lines t ≡ false → section_text t ≡ []
no_text (a ∷ more) words enums unknowns tile line e = absurd (let no : ⊥ = cc in no)
no_text [] (w ∷ more) enums unknowns tile line e = absurd (let no : ⊥ = cc in no)
no_text [] [] (x ∷ more) unknowns tile line e = absurd (let no : ⊥ = cc in no)
no_text [] [] [] (u ∷ more) tile line e = absurd (let no : ⊥ = cc in no)
no_text [] [] [] [] tile line e = refl

-- so sections print as those with lines, without their numbers
sections_print : (ts : List TileText) → flat_map section_text ts ≡ flat_map section_text (map unnumbered (filter has_lines ts))
sections_print [] = refl
sections_print (t ∷ ts) = go (has_lines t) refl (sections_print ts)
  where
    go : (b : Bool) → has_lines t ≡ b → flat_map section_text ts ≡ flat_map section_text (map unnumbered (filter has_lines ts))
        → section_text t ++ flat_map section_text ts ≡ flat_map section_text (map unnumbered (cond b (t ∷ filter has_lines ts) (filter has_lines ts)))
    go true e later = ap₂ (λ (a b : List ℕ). a ++ b) (sym (section_prints t)) later
    go false e later = ap₂ (λ (a b : List ℕ). a ++ b) (no_text t.arcs t.words t.enums t.unknowns t.tile t.line e) later

pub same_print : (c d : Config) → SameButLines c d → config_text d ≡ config_text c
same_print c d same =
    let sections : flat_map section_text d.tiles ≡ flat_map section_text c.tiles = sections_print d.tiles ∙ ap (flat_map section_text) same.sections ∙ sym (sections_print c.tiles) in
    ap₂ (λ (a b : List ℕ). a ++ b)
    (ap₂ (λ (a b : List ℕ). a ++ b) (ap (λ name. line_of (codes ".device") (name ∷ [])) same.device) (ap (flat_map head_text) same.heads)) sections
