-- Sections that are put in order, from the last to the first.
use Rattle.std.proofs.Common.{◌≡◌, ℕ, List, [], ◌∷◌, ◌++◌, Bool, true, false, ◌||◌, map, refl, ap, ◌∙◌}
use Rattle.std.specs.declared.cmp.Ordering.{Ordering}
use Rattle.std.specs.declared.cmp.Ordering.TheVariants.{Less, Equal, Greater}
use Rattle.std.specs.Ordering.{nat_cmp, match_ordering, is_eq}
use Rattle.std.specs.BTreeMap.{insert_entry}
use Rattle.std.specs.Cmp.Lexicographic.{slice_cmp, texts_ties, nat_list_eq_equiv}
use Rattle.std.specs.Str.{bytes_eq}
use Rattle.words.specs.Ordered.{put_in_order, in_order}
use Rattle.records.specs.Config.{TileText}
use Rattle.config_grammar.specs.ConfigText.{has_tile, section_in_order}
use Rattle.config_text.specs.Entries.{tile_entries}
use Rattle.config_text.specs.Known.{NoTileTwice}
use Rattle.config_text.proofs.Tiles.{first_false, second_false}

-- the sections under the names of their tiles are themselves
pub values_of_tiles : (ts : List TileText) → map (λ e. e.1) (tile_entries ts) ≡ ts
values_of_tiles [] = refl
values_of_tiles (t ∷ ts) = ap (λ us. t ∷ us) (values_of_tiles ts)

-- ---- sections in order are of the same tiles

or_swap : (a b c : Bool) → a || (b || c) ≡ b || (a || c)
or_swap true true c = refl
or_swap true false c = refl
or_swap false b c = refl

tiles_with : (x : TileText) (ys : List TileText) (q : List ℕ) → has_tile (put_in_order (λ t. t.tile) x ys) q ≡ has_tile (x ∷ ys) q
tiles_with x [] q = refl
tiles_with x (y ∷ ys) q = go (slice_cmp nat_cmp x.tile y.tile) (tiles_with x ys q)
  where
    go : (o : Ordering) → has_tile (put_in_order (λ t. t.tile) x ys) q ≡ has_tile (x ∷ ys) q
        → has_tile (match_ordering o (x ∷ y ∷ ys) (x ∷ y ∷ ys) (y ∷ put_in_order (λ t. t.tile) x ys)) q ≡ has_tile (x ∷ y ∷ ys) q
    go Less ih = refl
    go Equal ih = refl
    go Greater ih = ap (λ b. bytes_eq y.tile q || b) ih ∙ or_swap (bytes_eq y.tile q) (bytes_eq x.tile q) (has_tile ys q)

pub tiles_in_order : (ts : List TileText) (q : List ℕ) → has_tile (in_order (λ t. t.tile) (map section_in_order ts)) q ≡ has_tile ts q
tiles_in_order [] q = refl
tiles_in_order (t ∷ ts) q = tiles_with (section_in_order t) (in_order (λ t. t.tile) (map section_in_order ts)) q ∙ ap (λ b. bytes_eq t.tile q || b) (tiles_in_order ts q)

-- a section is of another tile than those behind it
pub other_tile : (front : List TileText) (t : TileText) (done : List TileText) → NoTileTwice (front ++ t ∷ done) → has_tile done t.tile ≡ false
other_tile [] t done once = once.0
other_tile (u ∷ front) t done once = other_tile front t done once.1

-- a section of another tile goes to its place
pub section_put : (x : TileText) (ts : List TileText) → has_tile ts x.tile ≡ false → insert_entry (slice_cmp nat_cmp) (tile_entries ts) x.tile x ≡ tile_entries (put_in_order (λ t. t.tile) x ts)
section_put x [] new = refl
section_put x (t ∷ ts) new = go (slice_cmp nat_cmp x.tile t.tile) refl (section_put x ts (second_false (bytes_eq t.tile x.tile) (has_tile ts x.tile) new))
  where
    go : (o : Ordering) → slice_cmp nat_cmp x.tile t.tile ≡ o → insert_entry (slice_cmp nat_cmp) (tile_entries ts) x.tile x ≡ tile_entries (put_in_order (λ t. t.tile) x ts)
        → match_ordering o ((x.tile, x) ∷ (t.tile, t) ∷ tile_entries ts) ((t.tile, x) ∷ tile_entries ts) ((t.tile, t) ∷ insert_entry (slice_cmp nat_cmp) (tile_entries ts) x.tile x)
        ≡ tile_entries (match_ordering o (x ∷ t ∷ ts) (x ∷ t ∷ ts) (t ∷ put_in_order (λ t. t.tile) x ts))
    go Less same ih = refl
    go Equal same ih =
        let equal : bytes_eq t.tile x.tile ≡ true = nat_list_eq_equiv.symm t.tile x.tile ∙ texts_ties x.tile t.tile ∙ ap is_eq same in
        let other : bytes_eq t.tile x.tile ≡ false = first_false (bytes_eq t.tile x.tile) (has_tile ts x.tile) new in
        absurd (let no : ⊥ = cc in no)
    go Greater same ih = ap (λ es. (t.tile, t) ∷ es) ih
