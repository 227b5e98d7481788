-- Sections in order of tiles, with one that is put in its place or changed.
use Rattle.std.proofs.Common.{◌≡◌, ℕ, inl, inr, List, [], ◌∷◌, map, refl, sym, ap, subst}
use Rattle.std.specs.declared.cmp.Ordering.{Ordering}
use Rattle.std.specs.declared.cmp.Ordering.TheVariants.{Less, Equal, Greater}
use Rattle.std.specs.Ordering.{match_ordering}
use Rattle.std.specs.Cmp.Lexicographic.{nat_list_cmp_total}
use Rattle.words.specs.Members.{In}
use Rattle.records.specs.Config.{WordLine, EnumLine, TileText}
use Rattle.fabric.specs.InOrder.{IsRising}
use Rattle.fabric.specs.Wires.{name_cmp}
use Rattle.fabric_laws.specs.Insertion.{inserted}
use Rattle.fabric_laws.proofs.Orders.{name_same}
use Rattle.fabric_laws.proofs.Sorted.{inserted_rising}
use Rattle.repair.specs.Lines.{TileLine, text_with_line, text_of_line, texts_with_line}
use Rattle.attempts.specs.Moves.{with_settings, texts_with}

abbrev pub tiles_of : List TileText → List (List ℕ)
tiles_of texts = map (λ (t : TileText). t.tile) texts

module _ (tile : List ℕ) (fresh : TileText) (change : TileText → TileText) where
  -- sections where that of a tile is changed, or a fresh one is put in its place
  abbrev placed : List TileText → List TileText
  placed [] = fresh ∷ []
  placed (text ∷ texts) = match_ordering (name_cmp tile text.tile) (fresh ∷ text ∷ texts) (change text ∷ texts) (text ∷ placed texts)

  module _ (of_tile : fresh.tile ≡ tile) (keeps_tile : (t : TileText) → (change t).tile ≡ t.tile) where
    tiles_are : (texts : List TileText) → tiles_of (placed texts) ≡ inserted name_cmp tile (tiles_of texts)
    tiles_are [] = ap (λ n. n ∷ []) of_tile
    tiles_are (text ∷ texts) = go (name_cmp tile text.tile) (tiles_are texts)
      where
        go : (o : Ordering) → tiles_of (placed texts) ≡ inserted name_cmp tile (tiles_of texts)
            → tiles_of (match_ordering o (fresh ∷ text ∷ texts) (change text ∷ texts) (text ∷ placed texts))
            ≡ match_ordering o (tile ∷ text.tile ∷ tiles_of texts) (text.tile ∷ tiles_of texts) (text.tile ∷ inserted name_cmp tile (tiles_of texts))
        go Less ih = ap (λ n. n ∷ text.tile ∷ tiles_of texts) of_tile
        go Equal ih = ap (λ n. n ∷ tiles_of texts) (keeps_tile text)
        go Greater ih = ap (λ ns. text.tile ∷ ns) ih

    placed_rising : (texts : List TileText) → IsRising name_cmp (tiles_of texts) → IsRising name_cmp (tiles_of (placed texts))
    placed_rising texts r = subst (IsRising name_cmp) (sym (tiles_are texts)) (inserted_rising name_cmp nat_list_cmp_total tile (tiles_of texts) r)

  -- what holds of each section, of the fresh one and of one that is changed holds of each after
  module _ (Good : TileText → Type 0) (good_fresh : Good fresh) (good_change : (t : TileText) → tile ≡ t.tile → Good t → Good (change t)) where
    placed_good : (texts : List TileText) → ((t : TileText) → In texts t → Good t) → (t : TileText) → In (placed texts) t → Good t
    placed_good [] all t i = elim i [ inl e ↦ subst Good e good_fresh | inr none ↦ absurd none ]
    placed_good (text ∷ texts) all t i = go (name_cmp tile text.tile) refl i (placed_good texts (λ u j. all u (inr j)) t)
      where
        go : (o : Ordering) → name_cmp tile text.tile ≡ o → In (match_ordering o (fresh ∷ text ∷ texts) (change text ∷ texts) (text ∷ placed texts)) t → (In (placed texts) t → Good t) → Good t
        go Less e j ih = elim j [ inl s ↦ subst Good s good_fresh | inr k ↦ all t k ]
        go Equal e j ih = elim j [ inl s ↦ subst Good s (good_change text (name_same tile text.tile e) (all text (inl refl))) | inr k ↦ all t (inr k) ]
        go Greater e j ih = elim j [ inl s ↦ all t (inl s) | inr k ↦ ih k ]

-- ---- an arc line more

abbrev line_placed : TileLine → List TileText → List TileText
line_placed l = placed l.tile (text_of_line l) (text_with_line l.line)

line_is_placed : (l : TileLine) (texts : List TileText) → line_placed l texts ≡ texts_with_line l texts
line_is_placed l [] = refl
line_is_placed l (text ∷ texts) = ap (λ rest. match_ordering (name_cmp l.tile text.tile) (text_of_line l ∷ text ∷ texts) (text_with_line l.line text ∷ texts) (text ∷ rest)) (line_is_placed l texts)

pub line_rising : (l : TileLine) (texts : List TileText) → IsRising name_cmp (tiles_of texts) → IsRising name_cmp (tiles_of (texts_with_line l texts))
line_rising l texts r = subst (λ ts. IsRising name_cmp (tiles_of ts)) (line_is_placed l texts) (placed_rising l.tile (text_of_line l) (text_with_line l.line) refl (λ t. refl) texts r)

pub line_good : (Good : TileText → Type 0) (l : TileLine) → Good (text_of_line l) → ((t : TileText) → l.tile ≡ t.tile → Good t → Good (text_with_line l.line t))
    → (texts : List TileText) → ((t : TileText) → In texts t → Good t) → (t : TileText) → In (texts_with_line l texts) t → Good t
line_good Good l fresh change texts all t i =
    placed_good l.tile (text_of_line l) (text_with_line l.line) Good fresh change texts all t (subst (λ ts. In ts t) (sym (line_is_placed l texts)) i)

-- ---- more words and enums

abbrev pub of_settings : List ℕ → List WordLine → List EnumLine → TileText
of_settings tile words enums = record { tile = tile; line = 0; arcs = []; words = words; enums = enums; unknowns = [] }

abbrev settings_placed : List ℕ → List WordLine → List EnumLine → List TileText → List TileText
settings_placed tile words enums = placed tile (of_settings tile words enums) (with_settings words enums)

settings_are_placed : (tile : List ℕ) (words : List WordLine) (enums : List EnumLine) (texts : List TileText) → settings_placed tile words enums texts ≡ texts_with tile words enums texts
settings_are_placed tile words enums [] = refl
settings_are_placed tile words enums (text ∷ texts) =
    ap (λ rest. match_ordering (name_cmp tile text.tile) (of_settings tile words enums ∷ text ∷ texts) (with_settings words enums text ∷ texts) (text ∷ rest)) (settings_are_placed tile words enums texts)

pub settings_rising : (tile : List ℕ) (words : List WordLine) (enums : List EnumLine) (texts : List TileText) → IsRising name_cmp (tiles_of texts)
    → IsRising name_cmp (tiles_of (texts_with tile words enums texts))
settings_rising tile words enums texts r =
    subst (λ ts. IsRising name_cmp (tiles_of ts)) (settings_are_placed tile words enums texts) (placed_rising tile (of_settings tile words enums) (with_settings words enums) refl (λ t. refl) texts r)

pub settings_good : (Good : TileText → Type 0) (tile : List ℕ) (words : List WordLine) (enums : List EnumLine) → Good (of_settings tile words enums)
    → ((t : TileText) → tile ≡ t.tile → Good t → Good (with_settings words enums t))
    → (texts : List TileText) → ((t : TileText) → In texts t → Good t) → (t : TileText) → In (texts_with tile words enums texts) t → Good t
settings_good Good tile words enums fresh change texts all t i =
    placed_good tile (of_settings tile words enums) (with_settings words enums) Good fresh change texts all t (subst (λ ts. In ts t) (sym (settings_are_placed tile words enums texts)) i)
