-- Texts without numbers of lines: the same image and the same bits of `unknown` lines, and lines are added alike.
use Rattle.std.proofs.Common.{◌≡◌, ℕ, Bool, true, false, List, [], ◌∷◌, ◌++◌, map, flat_map, filter, cond, Option, Some, None, option_map, refl, sym, ap, ap₂, subst, ◌∙◌}
use Rattle.std.specs.Prelude.{slice_get, not, ◌&&◌, option_and_then}
use Rattle.std.specs.Option.{option_map_or}
use Rattle.std.specs.declared.cmp.Ordering.{Ordering}
use Rattle.std.specs.declared.cmp.Ordering.TheVariants.{Less, Equal, Greater}
use Rattle.std.specs.Ordering.{match_ordering}
use Rattle.words.specs.Members.{In}
use Rattle.patterns.specs.Bits.{DeviceBit}
use Rattle.records.specs.Grid.{Tile}
use Rattle.records.specs.Config.{ArcLine, TileText, Config}
use Rattle.fabric.specs.Wires.{name_cmp}
use Rattle.fabric.specs.Graph.{GraphMux, GraphArc, Graph}
use Rattle.fabric.specs.Image.{tile_named}
use Rattle.fabric_laws.proofs.Graphs.{some_same}
use Rattle.config_grammar.specs.ConfigText.{is_none_yet}
use Rattle.repair.specs.Plain.{unknown_bit, unknown_bits_in, IsPlain}
use Rattle.repair.specs.Lines.{TileLine, line_of_arc, arc_line_cmp, with_line, text_with_line, text_of_line, texts_with_line, with_texts, with_arc_line, with_arc_lines}
use Rattle.repair.specs.Layouts.{Layout, configured, with_path}
use Rattle.text_laws.specs.SameButLines.{unnumbered_arc, unnumbered_word, unnumbered_enum, unnumbered_unknown, unnumbered, has_lines, SameButLines}
use Rattle.text_laws.proofs.SameWrites.{same_image}
use Rattle.line_laws.specs.Plain.{plain_config, plain_layout}

-- ---- the image

none_same : {X : Type 0} (f : X → X) (xs : List X) → is_none_yet (map f xs) ≡ is_none_yet xs
none_same f [] = refl
none_same f (x ∷ xs) = refl

has_same : (t : TileText) → has_lines (unnumbered t) ≡ has_lines t
has_same t = λ i. not (none_same unnumbered_arc t.arcs i && none_same unnumbered_word t.words i && none_same unnumbered_enum t.enums i && none_same unnumbered_unknown t.unknowns i)

map_twice : {X : Type 0} (f : X → X) → ((x : X) → f (f x) ≡ f x) → (xs : List X) → map f (map f xs) ≡ map f xs
map_twice f same [] = refl
map_twice f same (x ∷ xs) = ap₂ (λ y ys. y ∷ ys) (same x) (map_twice f same xs)

twice : (t : TileText) → unnumbered (unnumbered t) ≡ unnumbered t
twice t = λ i. record {
  tile = t.tile;
  line = 0;
  arcs = map_twice unnumbered_arc (λ a. refl) t.arcs i;
  words = map_twice unnumbered_word (λ w. refl) t.words i;
  enums = map_twice unnumbered_enum (λ e. refl) t.enums i;
  unknowns = map_twice unnumbered_unknown (λ u. refl) t.unknowns i;
}

pub config_twice : (c : Config) → plain_config (plain_config c) ≡ plain_config c
config_twice c = λ i. record { device = c.device; heads = c.heads; tiles = map_twice unnumbered twice c.tiles i }

abbrev kept : Bool → TileText → List TileText → List TileText
kept b t ts = cond b (t ∷ ts) ts

sections_step : (t : TileText) (ts us : List TileText) (b c : Bool) → c ≡ b → map unnumbered us ≡ map unnumbered ts → map unnumbered (kept c (unnumbered t) us) ≡ map unnumbered (kept b t ts)
sections_step t ts us true true e ih = ap₂ (λ x xs. x ∷ xs) (twice t) ih
sections_step t ts us false false e ih = ih
sections_step t ts us true false e ih = absurd (let no : ⊥ = cc in no)
sections_step t ts us false true e ih = absurd (let no : ⊥ = cc in no)

sections_same : (ts : List TileText) → map unnumbered (filter has_lines (map unnumbered ts)) ≡ map unnumbered (filter has_lines ts)
sections_same [] = refl
sections_same (t ∷ ts) = sections_step t (filter has_lines ts) (filter has_lines (map unnumbered ts)) (has_lines t) (has_lines (unnumbered t)) (has_same t) (sections_same ts)

pub same_but : (c : Config) → SameButLines c (plain_config c)
same_but c = record { device = refl; heads = refl; sections = sections_same c.tiles }

pub now_same : (y : Layout) → configured y ≡ configured (plain_layout y)
now_same y = λ i. record { graph = y.graph; image = same_image y.graph y.config (plain_config y.config) (same_but y.config) i; cells = y.cells; side = y.side }

-- ---- plain muxes

map_after : {X Y : Type 0} (f : X → Y) (h : X → X) → ((x : X) → f (h x) ≡ f x) → (xs : List X) → map f (map h xs) ≡ map f xs
map_after f h same [] = refl
map_after f h same (x ∷ xs) = ap₂ (λ y ys. y ∷ ys) (same x) (map_after f h same xs)

bits_in : (t : TileText) (o : Option Tile) → option_map_or (λ tile. map (unknown_bit tile) (map unnumbered_unknown t.unknowns)) o [] ≡ option_map_or (λ tile. map (unknown_bit tile) t.unknowns) o []
bits_in t None = refl
bits_in t (Some tile) = map_after (unknown_bit tile) unnumbered_unknown (λ u. refl) t.unknowns

bits_of : (g : Graph) (ts : List TileText) → flat_map (unknown_bits_in g) (map unnumbered ts) ≡ flat_map (unknown_bits_in g) ts
bits_of g [] = refl
bits_of g (t ∷ ts) = ap₂ (λ (x : List DeviceBit) (y : List DeviceBit). x ++ y) (bits_in t (option_and_then (slice_get g.grid.tiles) (tile_named g t.tile))) (bits_of g ts)

pub plain_to : (g : Graph) (c : Config) (mux : ℕ) → IsPlain g c mux → IsPlain g (plain_config c) mux
plain_to g c mux p = record {
  alone = p.alone;
  no_setting = p.no_setting;
  no_unknown = λ b i u. p.no_unknown b i (subst (λ bits. In bits b) (bits_of g c.tiles) u);
  has_plain_bits = p.has_plain_bits;
}

pub plain_from : (g : Graph) (c : Config) (mux : ℕ) → IsPlain g (plain_config c) mux → IsPlain g c mux
plain_from g c mux p = record {
  alone = p.alone;
  no_setting = p.no_setting;
  no_unknown = λ b i u. p.no_unknown b i (subst (λ bits. In bits b) (sym (bits_of g c.tiles)) u);
  has_plain_bits = p.has_plain_bits;
}

-- ---- lines that are added

line_step : (l next : ArcLine) (lines : List ArcLine) (o : Ordering) → with_line (unnumbered_arc l) (map unnumbered_arc lines) ≡ map unnumbered_arc (with_line l lines)
    → match_ordering o (unnumbered_arc l ∷ unnumbered_arc next ∷ map unnumbered_arc lines) (unnumbered_arc next ∷ map unnumbered_arc lines) (unnumbered_arc next ∷ with_line (unnumbered_arc l) (map unnumbered_arc lines))
    ≡ map unnumbered_arc (match_ordering o (l ∷ next ∷ lines) (next ∷ lines) (next ∷ with_line l lines))
line_step l next lines Less ih = refl
line_step l next lines Equal ih = refl
line_step l next lines Greater ih = ap (λ ls. unnumbered_arc next ∷ ls) ih

line_same : (l : ArcLine) (lines : List ArcLine) → with_line (unnumbered_arc l) (map unnumbered_arc lines) ≡ map unnumbered_arc (with_line l lines)
line_same l [] = refl
line_same l (next ∷ lines) = line_step l next lines (arc_line_cmp l next) (line_same l lines)

abbrev plain_line : TileLine → TileLine
plain_line l = record { tile = l.tile; line = unnumbered_arc l.line }

text_same : (l : ArcLine) (t : TileText) → text_with_line (unnumbered_arc l) (unnumbered t) ≡ unnumbered (text_with_line l t)
text_same l t = λ i. record {
  tile = t.tile;
  line = 0;
  arcs = line_same l t.arcs i;
  words = map unnumbered_word t.words;
  enums = map unnumbered_enum t.enums;
  unknowns = map unnumbered_unknown t.unknowns;
}

texts_step : (l : TileLine) (t : TileText) (ts : List TileText) (o : Ordering) → texts_with_line (plain_line l) (map unnumbered ts) ≡ map unnumbered (texts_with_line l ts)
    → match_ordering o (text_of_line (plain_line l) ∷ unnumbered t ∷ map unnumbered ts) (text_with_line (unnumbered_arc l.line) (unnumbered t) ∷ map unnumbered ts) (unnumbered t ∷ texts_with_line (plain_line l) (map unnumbered ts))
    ≡ map unnumbered (match_ordering o (text_of_line l ∷ t ∷ ts) (text_with_line l.line t ∷ ts) (t ∷ texts_with_line l ts))
texts_step l t ts Less ih = refl
texts_step l t ts Equal ih = ap (λ u. u ∷ map unnumbered ts) (text_same l.line t)
texts_step l t ts Greater ih = ap (λ us. unnumbered t ∷ us) ih

texts_same : (l : TileLine) (ts : List TileText) → texts_with_line (plain_line l) (map unnumbered ts) ≡ map unnumbered (texts_with_line l ts)
texts_same l [] = refl
texts_same l (t ∷ ts) = texts_step l t ts (name_cmp l.tile t.tile) (texts_same l ts)

-- a line that is made has the number 0
abbrev line_in : GraphMux → GraphArc → Tile → TileLine
line_in mux a tile = record { tile = tile.name; line = record { sink = mux.mux.sink; source = a.arc.source; line = 0 } }

in_tile : (mux : GraphMux) (a : GraphArc) (o : Option Tile) → option_map plain_line (option_map (line_in mux a) o) ≡ option_map (line_in mux a) o
in_tile mux a None = refl
in_tile mux a (Some tile) = refl

of_mux : (g : Graph) (a : GraphArc) (o : Option GraphMux)
    → option_map plain_line (option_and_then (λ mux. option_map (line_in mux a) (slice_get g.grid.tiles mux.tile)) o) ≡ option_and_then (λ mux. option_map (line_in mux a) (slice_get g.grid.tiles mux.tile)) o
of_mux g a None = refl
of_mux g a (Some mux) = in_tile mux a (slice_get g.grid.tiles mux.tile)

lines_plain : (g : Graph) (a : GraphArc) → option_map plain_line (line_of_arc g a) ≡ line_of_arc g a
lines_plain g a = of_mux g a (slice_get g.muxes a.mux)

added_line : (c : Config) (o : Option TileLine) → option_map plain_line o ≡ o
    → option_map_or (λ l. with_texts (plain_config c) (texts_with_line l (map unnumbered c.tiles))) o (plain_config c) ≡ plain_config (option_map_or (λ l. with_texts c (texts_with_line l c.tiles)) o c)
added_line c None e = refl
added_line c (Some l) e =
    (λ i. with_texts (plain_config c) (texts_with_line (sym (some_same e) i) (map unnumbered c.tiles))) ∙ (λ i. with_texts (plain_config c) (texts_same l c.tiles i))

arc_line_same : (g : Graph) (c : Config) (a : GraphArc) → with_arc_line g (plain_config c) a ≡ plain_config (with_arc_line g c a)
arc_line_same g c a = added_line c (line_of_arc g a) (lines_plain g a)

arc_lines_same : (g : Graph) (path : List GraphArc) (c : Config) → with_arc_lines g (plain_config c) path ≡ plain_config (with_arc_lines g c path)
arc_lines_same g [] c = refl
arc_lines_same g (a ∷ path) c = ap (λ d. with_arc_lines g d path) (arc_line_same g c a) ∙ arc_lines_same g path (with_arc_line g c a)

pub path_same : (y : Layout) (path : List GraphArc) → with_path (plain_layout y) path ≡ plain_layout (with_path y path)
path_same y path = λ i. record { graph = y.graph; config = arc_lines_same y.graph path y.config i; cells = y.cells; side = y.side }
