-- A move writes the settings of a slice alike, whatever the numbers of lines.
use Rattle.std.proofs.Common.{◌≡◌, ℕ, Bool, true, false, List, [], ◌∷◌, ◌++◌, map, filter, filter_map, cond, Option, Some, None, option_map, refl, sym, ap, ap₂, ◌∙◌}
use Rattle.std.specs.Prelude.{not, if◌then◌else◌}
use Rattle.std.specs.List.{cons_option}
use Rattle.std.specs.Option.{is_some}
use Rattle.std.specs.Str.{bytes_eq}
use Rattle.std.specs.declared.cmp.Ordering.{Ordering}
use Rattle.std.specs.declared.cmp.Ordering.TheVariants.{Less, Equal, Greater}
use Rattle.std.specs.Ordering.{match_ordering}
use Rattle.std.proofs.lemmas.List.{map-append}
use Rattle.records.specs.Config.{WordLine, EnumLine, TileText, Config}
use Rattle.records.specs.Profile.{SliceKind}
use Rattle.fabric.specs.Wires.{name_cmp}
use Rattle.cells.specs.Sites.{Site}
use Rattle.attempts.specs.Moves.{renamed, moved_words, moved_enums, without_slice, with_settings, texts_with, at_tile, texts_of, words_of, enums_of, moved_config}
use Rattle.text_laws.specs.SameButLines.{unnumbered_arc, unnumbered_word, unnumbered_enum, unnumbered_unknown, unnumbered}
use Rattle.line_laws.specs.Plain.{plain_config}

-- what a test keeps that doesn't look at numbers
filter_step : {X : Type 0} (f : X → X) (x : X) (xs ys : List X) (b : Bool) → ys ≡ map f xs → cond b (f x ∷ ys) ys ≡ map f (cond b (x ∷ xs) xs)
filter_step f x xs ys true e = ap (λ zs. f x ∷ zs) e
filter_step f x xs ys false e = e

filter_same : {X : Type 0} (test : X → Bool) (f : X → X) → ((x : X) → test (f x) ≡ test x) → (xs : List X) → filter test (map f xs) ≡ map f (filter test xs)
filter_same test f same [] = refl
filter_same test f same (x ∷ xs) =
    ap (λ b. cond b (f x ∷ filter test (map f xs)) (filter test (map f xs))) (same x) ∙ filter_step f x (filter test xs) (filter test (map f xs)) (test x) (filter_same test f same xs)

pub texts_of_same : (tile : List ℕ) (ts : List TileText) → texts_of tile (map unnumbered ts) ≡ map unnumbered (texts_of tile ts)
texts_of_same tile ts = filter_same (λ (t : TileText). bytes_eq t.tile tile) unnumbered (λ t. refl) ts

words_of_same : (ts : List TileText) → words_of (map unnumbered ts) ≡ map unnumbered_word (words_of ts)
words_of_same [] = refl
words_of_same (t ∷ ts) = ap (λ ws. map unnumbered_word t.words ++ ws) (words_of_same ts) ∙ sym (map-append unnumbered_word t.words (words_of ts))

enums_of_same : (ts : List TileText) → enums_of (map unnumbered ts) ≡ map unnumbered_enum (enums_of ts)
enums_of_same [] = refl
enums_of_same (t ∷ ts) = ap (λ es. map unnumbered_enum t.enums ++ es) (enums_of_same ts) ∙ sym (map-append unnumbered_enum t.enums (enums_of ts))

-- what is made of the elements, number or not
cons_step : {Y : Type 0} (u : Y → Y) (o : Option Y) (ys zs : List Y) → zs ≡ map u ys → cons_option (option_map u o) zs ≡ map u (cons_option o ys)
cons_step u None ys zs e = e
cons_step u (Some y) ys zs e = ap (λ xs. u y ∷ xs) e

made_same : {X Y : Type 0} (h : X → Option Y) (f : X → X) (u : Y → Y) → ((x : X) → h (f x) ≡ option_map u (h x)) → (xs : List X) → filter_map h (map f xs) ≡ map u (filter_map h xs)
made_same h f u same [] = refl
made_same h f u same (x ∷ xs) =
    ap (λ o. cons_option o (filter_map h (map f xs))) (same x) ∙ cons_step u (h x) (filter_map h xs) (filter_map h (map f xs)) (made_same h f u same xs)

word_step : (w : WordLine) (o : Option (List ℕ))
    → option_map (λ (name : List ℕ). let l : WordLine = record { name = name; bits = w.bits; line = 0 } in l) o
    ≡ option_map unnumbered_word (option_map (λ (name : List ℕ). let l : WordLine = record { name = name; bits = w.bits; line = w.line } in l) o)
word_step w None = refl
word_step w (Some name) = refl

enum_step : (e : EnumLine) (o : Option (List ℕ))
    → option_map (λ (name : List ℕ). let l : EnumLine = record { name = name; value = e.value; line = 0 } in l) o
    ≡ option_map unnumbered_enum (option_map (λ (name : List ℕ). let l : EnumLine = record { name = name; value = e.value; line = e.line } in l) o)
enum_step e None = refl
enum_step e (Some name) = refl

if_same : (b : Bool) (t c d : TileText) → c ≡ unnumbered d → (if b then c else unnumbered t) ≡ unnumbered (if b then d else t)
if_same true t c d e = e
if_same false t c d e = refl

at_same : (tile : List ℕ) (change : TileText → TileText) → ((t : TileText) → change (unnumbered t) ≡ unnumbered (change t)) → (ts : List TileText)
    → at_tile tile change (map unnumbered ts) ≡ map unnumbered (at_tile tile change ts)
at_same tile change same [] = refl
at_same tile change same (t ∷ ts) = ap₂ (λ u us. u ∷ us) (if_same (bytes_eq t.tile tile) t (change (unnumbered t)) (change t) (same t)) (at_same tile change same ts)

settings_same : (ws : List WordLine) (es : List EnumLine) (t : TileText) → with_settings (map unnumbered_word ws) (map unnumbered_enum es) (unnumbered t) ≡ unnumbered (with_settings ws es t)
settings_same ws es t = λ i. record {
  tile = t.tile;
  line = 0;
  arcs = map unnumbered_arc t.arcs;
  words = sym (map-append unnumbered_word t.words ws) i;
  enums = sym (map-append unnumbered_enum t.enums es) i;
  unknowns = map unnumbered_unknown t.unknowns;
}

abbrev made : List ℕ → List WordLine → List EnumLine → TileText
made tile ws es = record { tile = tile; line = 0; arcs = []; words = ws; enums = es; unknowns = [] }

with_step : (tile : List ℕ) (ws : List WordLine) (es : List EnumLine) (t : TileText) (ts us vs : List TileText) (o : Ordering) → us ≡ map unnumbered vs
    → match_ordering o (made tile (map unnumbered_word ws) (map unnumbered_enum es) ∷ unnumbered t ∷ map unnumbered ts) (with_settings (map unnumbered_word ws) (map unnumbered_enum es) (unnumbered t) ∷ map unnumbered ts) (unnumbered t ∷ us)
    ≡ map unnumbered (match_ordering o (made tile ws es ∷ t ∷ ts) (with_settings ws es t ∷ ts) (t ∷ vs))
with_step tile ws es t ts us vs Less e = refl
with_step tile ws es t ts us vs Equal e = ap (λ u. u ∷ map unnumbered ts) (settings_same ws es t)
with_step tile ws es t ts us vs Greater e = ap (λ zs. unnumbered t ∷ zs) e

with_same : (tile : List ℕ) (ws : List WordLine) (es : List EnumLine) (ts : List TileText) → texts_with tile (map unnumbered_word ws) (map unnumbered_enum es) (map unnumbered ts) ≡ map unnumbered (texts_with tile ws es ts)
with_same tile ws es [] = refl
with_same tile ws es (t ∷ ts) = with_step tile ws es t ts (texts_with tile (map unnumbered_word ws) (map unnumbered_enum es) (map unnumbered ts)) (texts_with tile ws es ts) (name_cmp tile t.tile) (with_same tile ws es ts)

module _ (rename : List ℕ → Option (List ℕ)) where
  words_same : (ws : List WordLine) → moved_words rename (map unnumbered_word ws) ≡ map unnumbered_word (moved_words rename ws)
  words_same ws = made_same (λ (l : WordLine). option_map (λ (name : List ℕ). let w : WordLine = record { name = name; bits = l.bits; line = l.line } in w) (rename l.name)) unnumbered_word unnumbered_word
      (λ w. word_step w (rename w.name)) ws

  enums_same : (es : List EnumLine) → moved_enums rename (map unnumbered_enum es) ≡ map unnumbered_enum (moved_enums rename es)
  enums_same es = made_same (λ (l : EnumLine). option_map (λ (name : List ℕ). let e : EnumLine = record { name = name; value = l.value; line = l.line } in e) (rename l.name)) unnumbered_enum unnumbered_enum
      (λ e. enum_step e (rename e.name)) es

  left_same : (t : TileText) → without_slice rename (unnumbered t) ≡ unnumbered (without_slice rename t)
  left_same t = λ i. record {
    tile = t.tile;
    line = 0;
    arcs = map unnumbered_arc t.arcs;
    words = filter_same (λ (l : WordLine). not (is_some (rename l.name))) unnumbered_word (λ w. refl) t.words i;
    enums = filter_same (λ (l : EnumLine). not (is_some (rename l.name))) unnumbered_enum (λ e. refl) t.enums i;
    unknowns = map unnumbered_unknown t.unknowns;
  }

  module _ (from to : List ℕ) (ts : List TileText) where
    from_words : moved_words rename (words_of (texts_of from (map unnumbered ts))) ≡ map unnumbered_word (moved_words rename (words_of (texts_of from ts)))
    from_words = ap (λ us. moved_words rename (words_of us)) (texts_of_same from ts) ∙ ap (moved_words rename) (words_of_same (texts_of from ts)) ∙ words_same (words_of (texts_of from ts))

    from_enums : moved_enums rename (enums_of (texts_of from (map unnumbered ts))) ≡ map unnumbered_enum (moved_enums rename (enums_of (texts_of from ts)))
    from_enums = ap (λ us. moved_enums rename (enums_of us)) (texts_of_same from ts) ∙ ap (moved_enums rename) (enums_of_same (texts_of from ts)) ∙ enums_same (enums_of (texts_of from ts))

    tiles_same : texts_with to (moved_words rename (words_of (texts_of from (map unnumbered ts)))) (moved_enums rename (enums_of (texts_of from (map unnumbered ts)))) (at_tile from (without_slice rename) (map unnumbered ts))
        ≡ map unnumbered (texts_with to (moved_words rename (words_of (texts_of from ts))) (moved_enums rename (enums_of (texts_of from ts))) (at_tile from (without_slice rename) ts))
    tiles_same =
        (λ i. texts_with to (from_words i) (from_enums i) (at_same from (without_slice rename) left_same ts i))
        ∙ with_same to (moved_words rename (words_of (texts_of from ts))) (moved_enums rename (enums_of (texts_of from ts))) (at_tile from (without_slice rename) ts)

pub moved_same : (old new : Site SliceKind) (c : Config) → moved_config old new (plain_config c) ≡ plain_config (moved_config old new c)
moved_same old new c = λ i. record { device = c.device; heads = c.heads; tiles = tiles_same (renamed old.kind.settings new.kind.settings) old.tile.name new.tile.name c.tiles i }
