-- Configurations that are the same but for the numbers of lines and sections without lines leave the same image, and have
-- lines for the same arcs.
use Rattle.std.proofs.Common.{◌≡◌, ◌↔◌, ℕ, Bool, true, false, List, [], ◌∷◌, ◌++◌, map, flat_map, filter, cond, Option, Some, None, refl, sym, ap, ap₂, subst, ◌∙◌}
use Rattle.std.specs.Prelude.{slice_get}
use Rattle.std.specs.Option.{option_and_then, option_map_or}
use Rattle.std.proofs.lemmas.Bool.{false≢true}
use Rattle.std.proofs.lemmas.List.Folds.{flat_map-map}
use Rattle.words.specs.Members.{In}
use Rattle.patterns.specs.Bits.{Bits}
use Rattle.records.specs.Grid.{Tile, origin_of}
use Rattle.records.specs.Config.{ArcLine, WordLine, EnumLine, UnknownLine, TileText, Config}
use Rattle.links.proofs.Members.{in_map, of_map}
use Rattle.fabric.specs.Agree.{HasLine, ArcsAgree}
use Rattle.fabric.specs.Graph.{GraphArc, Graph}
use Rattle.fabric.specs.Image.{Write, no_bits, after_writes, tile_named, arc_of_line, arc_writes, word_writes, enum_writes, unknown_writes, section_writes, tile_writes, image_of}
use Rattle.fabric.specs.Settings.{Settings}
use Rattle.fabric_laws.proofs.Members.{in_filter_from, in_filter_to}
use Rattle.text_laws.specs.SameButLines.{unnumbered_arc, unnumbered_word, unnumbered_enum, unnumbered_unknown, unnumbered, has_lines, SameButLines}

-- ---- writes don't tell the numbers of lines

found_alike : {X Y : Type 0} (f h : X → List Y) (o : Option X) → ((x : X) → f x ≡ h x) → option_map_or f o [] ≡ option_map_or h o []
found_alike f h None same = refl
found_alike f h (Some x) same = same x

found_none : {X Y : Type 0} (f : X → List Y) (o : Option X) → ((x : X) → f x ≡ []) → option_map_or f o [] ≡ []
found_none f None none = refl
found_none f (Some x) none = none x

section_alike : (g : Graph) (t : TileText) (number : ℕ) (tile : Tile) (settings : Settings) → section_writes g (unnumbered t) number tile settings ≡ section_writes g t number tile settings
section_alike g t number tile settings =
    ap₂ (λ (x y : List Write). x ++ y)
    (ap₂ (λ (x y : List Write). x ++ y)
    (ap₂ (λ (x y : List Write). x ++ y) (flat_map-map (arc_writes g number) unnumbered_arc t.arcs) (flat_map-map (word_writes (origin_of tile) settings) unnumbered_word t.words))
    (flat_map-map (enum_writes (origin_of tile) settings) unnumbered_enum t.enums)) (flat_map-map (unknown_writes (origin_of tile)) unnumbered_unknown t.unknowns)

-- what is written in the tile that a section names
abbrev written_in : Graph → TileText → ℕ → List Write
written_in g t number = option_map_or (λ tile. option_map_or (section_writes g t number tile) (slice_get g.settings number) []) (slice_get g.grid.tiles number) []

tile_alike : (g : Graph) (t : TileText) → tile_writes g (unnumbered t) ≡ tile_writes g t
tile_alike g t =
    found_alike (written_in g (unnumbered t)) (written_in g t) (tile_named g t.tile)
    (λ number. found_alike (λ tile. option_map_or (section_writes g (unnumbered t) number tile) (slice_get g.settings number) []) (λ tile. option_map_or (section_writes g t number tile) (slice_get g.settings number) []) (slice_get g.grid.tiles number)
    (λ tile. found_alike (section_writes g (unnumbered t) number tile) (section_writes g t number tile) (slice_get g.settings number) (section_alike g t number tile)))

-- ---- a section without lines writes nothing

none_written : (g : Graph) (number : ℕ) (tile : Tile) (settings : Settings) (arcs : List ArcLine) (words : List WordLine) (enums : List EnumLine) (unknowns : List UnknownLine) (name : List ℕ) (line : ℕ)
    → let t : TileText = record { tile = name; line = line; arcs = arcs; words = words; enums = enums; unknowns = unknowns } in has_lines t ≡ false → section_writes g t number tile settings ≡ []
none_written g number tile settings (a ∷ more) words enums unknowns name line h = absurd (false≢true (sym h))
none_written g number tile settings [] (w ∷ more) enums unknowns name line h = absurd (false≢true (sym h))
none_written g number tile settings [] [] (e ∷ more) unknowns name line h = absurd (false≢true (sym h))
none_written g number tile settings [] [] [] (u ∷ more) name line h = absurd (false≢true (sym h))
none_written g number tile settings [] [] [] [] name line h = refl

tile_writes_none : (g : Graph) (t : TileText) → has_lines t ≡ false → tile_writes g t ≡ []
tile_writes_none g t h =
    found_none (written_in g t) (tile_named g t.tile)
    (λ number. found_none (λ tile. option_map_or (section_writes g t number tile) (slice_get g.settings number) []) (slice_get g.grid.tiles number)
    (λ tile. found_none (section_writes g t number tile) (slice_get g.settings number) (λ settings. none_written g number tile settings t.arcs t.words t.enums t.unknowns t.tile t.line h)))

-- ---- the image

tiles_write : (g : Graph) (ts : List TileText) → flat_map (tile_writes g) ts ≡ flat_map (tile_writes g) (map unnumbered (filter has_lines ts))
tiles_write g [] = refl
tiles_write g (t ∷ ts) = go (has_lines t) refl (tiles_write g ts)
  where
    go : (b : Bool) → has_lines t ≡ b → flat_map (tile_writes g) ts ≡ flat_map (tile_writes g) (map unnumbered (filter has_lines ts))
        → tile_writes g t ++ flat_map (tile_writes g) ts ≡ flat_map (tile_writes g) (map unnumbered (cond b (t ∷ filter has_lines ts) (filter has_lines ts)))
    go true h ih = ap₂ (λ (x y : List Write). x ++ y) (sym (tile_alike g t)) ih
    go false h ih = ap (λ ws. ws ++ flat_map (tile_writes g) ts) (tile_writes_none g t h) ∙ ih

-- they leave the same image
pub same_image : (g : Graph) (c d : Config) → SameButLines c d → image_of g c ≡ image_of g d
same_image g c d same = ap (after_writes no_bits) (tiles_write g c.tiles ∙ ap (flat_map (tile_writes g)) (sym same.sections) ∙ sym (tiles_write g d.tiles))

-- ---- lines of arcs

has_arc : (arcs : List ArcLine) (words : List WordLine) (enums : List EnumLine) (unknowns : List UnknownLine) (name : List ℕ) (line : ℕ) (a : ArcLine) → In arcs a
    → let t : TileText = record { tile = name; line = line; arcs = arcs; words = words; enums = enums; unknowns = unknowns } in has_lines t ≡ true
has_arc [] words enums unknowns name line a i = absurd i
has_arc (b ∷ more) words enums unknowns name line a i = refl

-- a section with lines has one in the other configuration that is the same but for numbers
pub its_like : (c d : Config) → SameButLines c d → (t : TileText) → In c.tiles t → has_lines t ≡ true → (u : TileText) × (In d.tiles u × (unnumbered u ≡ unnumbered t))
its_like c d same t i has =
    let m = of_map unnumbered (filter has_lines d.tiles) (unnumbered t) (subst (λ ts. In ts (unnumbered t)) (sym same.sections) (in_map unnumbered (filter has_lines c.tiles) t (in_filter_to has_lines c.tiles t i has))) in
    (m.0, ((in_filter_from has_lines d.tiles m.0 m.1.0).0, m.1.1))

-- the arc of a line in the section of a tile
abbrev arc_in : Graph → List ℕ → ArcLine → Option GraphArc
arc_in g name line = option_and_then (λ tile. arc_of_line g tile line) (tile_named g name)

line_there : (g : Graph) (c d : Config) (a : GraphArc) → SameButLines c d → HasLine g c a → HasLine g d a
line_there g c d a same h =
    let t = h.text in
    let u = its_like c d same t h.section (has_arc t.arcs t.words t.enums t.unknowns t.tile t.line h.line h.listed) in
    let listed : In (map unnumbered_arc u.0.arcs) (unnumbered_arc h.line) = subst (λ (v : TileText). In v.arcs (unnumbered_arc h.line)) (sym u.1.1) (in_map unnumbered_arc t.arcs h.line h.listed) in
    let l = of_map unnumbered_arc u.0.arcs (unnumbered_arc h.line) listed in
    record { text = u.0; line = l.0; section = u.1.0; listed = l.1.0; is = ap₂ (λ (v : TileText) (b : ArcLine). arc_in g v.tile b) u.1.1 l.1.1 ∙ h.is }

pub turned : (c d : Config) → SameButLines c d → SameButLines d c
turned c d same = record { device = sym same.device; heads = sym same.heads; sections = sym same.sections }

-- they have lines for the same arcs
pub same_lines : (g : Graph) (c d : Config) (a : GraphArc) → SameButLines c d → HasLine g c a ↔ HasLine g d a
same_lines g c d a same = (line_there g c d a same, line_there g d c a (turned c d same))

agree_there : (g : Graph) (image : Bits) (c d : Config) → SameButLines c d → ArcsAgree g image c → ArcsAgree g image d
agree_there g image c d same agree = record {
  chosen_has_line = λ a i chosen plain. line_there g c d a same (agree.chosen_has_line a i chosen plain);
  line_is_chosen = λ a line. agree.line_is_chosen a (line_there g d c a (turned c d same) line);
}

-- and their arcs agree with the same images
pub same_agreeing : (g : Graph) (image : Bits) (c d : Config) → SameButLines c d → ArcsAgree g image c ↔ ArcsAgree g image d
same_agreeing g image c d same = (agree_there g image c d same, agree_there g image d c (turned c d same))
