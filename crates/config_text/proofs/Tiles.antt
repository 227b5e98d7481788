-- The tiles that are known, as sections are begun and get lines.
use Rattle.std.proofs.Common.{◌≡◌, ℕ, List, [], ◌∷◌, ◌++◌, Bool, true, false, not, ◌||◌, Ok, refl, sym, ap, ◌∙◌, Bor}
use Rattle.std.specs.Cmp.Lexicographic.{nat_list_eq_equiv}
use Rattle.std.specs.Str.{bytes_eq}
use Rattle.std.proofs.lemmas.List.Folds.{list_any-append}
use Rattle.text_cut.specs.Known.{knows}
use Rattle.records.specs.Config.{TileText}
use Rattle.config_grammar.specs.ConfigLines.{ConfigLine, DeviceLine, HeadLine, TileLine, ArcOf, WordOf, EnumOf, UnknownOf, OutsideLine}
use Rattle.config_grammar.specs.ConfigText.{bad_if, is_none_yet, has_tile}
use Rattle.config_text.specs.LineByLine.{with_last, line_behind, or_fault}
use Rattle.config_text.specs.Known.{HoldsTiles, NoTileTwice, KnowsTiles}

or_last : (a b : Bool) → a || b ≡ b || (a || false)
or_last true true = refl
or_last true false = refl
or_last false true = refl
or_last false false = refl

pub first_false : (a b : Bool) → a || b ≡ false → a ≡ false
first_false true b h = absurd (let no : ⊥ = cc in no)
first_false false b h = refl

pub second_false : (a b : Bool) → a || b ≡ false → b ≡ false
second_false true b h = absurd (let no : ⊥ = cc in no)
second_false false b h = h

both_false : (a b : Bool) → a ≡ false → b ≡ false → a || (b || false) ≡ false
both_false a b h k = ap (λ x. x || (b || false)) h ∙ ap (λ x. x || false) k

-- ---- a section that is begun

-- the known names with one more tile
tiles_with_one : (ts : List TileText) (t : TileText) (old new : List (Bor (List ℕ))) (key : Bor (List ℕ)) → t.tile ≡ key.now → HoldsTiles ts old
    → ((q : List ℕ) → knows new q ≡ bytes_eq key.now q || knows old q)
    → HoldsTiles (ts ++ t ∷ []) new
tiles_with_one ts t old new key same held updated q =
    updated q
    ∙ ap (λ b. bytes_eq key.now q || b) (held q)
    ∙ or_last (bytes_eq key.now q) (has_tile ts q)
    ∙ ap (λ n. has_tile ts q || (bytes_eq n q || false)) (sym same)
    ∙ sym (list_any-append (λ (u : TileText). bytes_eq u.tile q) ts (t ∷ []))

once_more : (ts : List TileText) (t : TileText) → NoTileTwice ts → has_tile ts t.tile ≡ false → NoTileTwice (ts ++ t ∷ [])
once_more [] t once new = (refl, tt)
once_more (u ∷ us) t once new = (
  list_any-append (λ (v : TileText). bytes_eq v.tile u.tile) us (t ∷ [])
      ∙ both_false (has_tile us u.tile) (bytes_eq t.tile u.tile) once.0 (nat_list_eq_equiv.symm t.tile u.tile ∙ first_false (bytes_eq u.tile t.tile) (has_tile us t.tile) new),
  once_more us t once.1 (second_false (bytes_eq u.tile t.tile) (has_tile us t.tile) new),
)

-- the section of a new tile is begun
pub known_with_one : (ts : List TileText) (t : TileText) (old new : List (Bor (List ℕ))) (key : Bor (List ℕ)) → t.tile ≡ key.now → KnowsTiles ts old
    → knows old key.now ≡ false
    → ((q : List ℕ) → knows new q ≡ bytes_eq key.now q || knows old q)
    → KnowsTiles (ts ++ t ∷ []) new
known_with_one ts t old new key same known fresh updated = record {
  names = tiles_with_one ts t old new key same known.names updated;
  once = once_more ts t known.once (ap (has_tile ts) same ∙ sym (known.names key.now) ∙ fresh);
}

-- ---- a line that is added to the last section

pub with_last_pushed : {X : Type 0} (change : X → X) (xs : List X) (x : X) → with_last change (xs ++ x ∷ []) ≡ xs ++ change x ∷ []
with_last_pushed change [] x = refl
with_last_pushed change (y ∷ []) x = refl
with_last_pushed change (y ∷ z ∷ zs) x = ap (λ more. y ∷ more) (with_last_pushed change (z ∷ zs) x)

some_pushed : {X : Type 0} (xs : List X) (x : X) → is_none_yet (xs ++ x ∷ []) ≡ false
some_pushed [] x = refl
some_pushed (y ∷ ys) x = refl

-- where there is a last section, a line has its place
pub has_place : (n : ℕ) (change : TileText → TileText) (ts front : List TileText) (t : TileText) → ts ≡ front ++ t ∷ []
    → or_fault (bad_if (is_none_yet ts) n) (with_last change ts) ≡ Ok (front ++ change t ∷ [])
has_place n change ts front t split =
    ap (λ us. or_fault (bad_if (is_none_yet us) n) (with_last change us)) split
    ∙ ap (λ none. or_fault (bad_if none n) (with_last change (front ++ t ∷ []))) (some_pushed front t)
    ∙ ap (λ (us : List TileText). Ok us) (with_last_pushed change front t)

-- a line doesn't change the tile of its section
same_tile : (n : ℕ) (line : ConfigLine) (t : TileText) → (line_behind n line t).tile ≡ t.tile
same_tile n (DeviceLine name) t = refl
same_tile n (HeadLine text) t = refl
same_tile n (TileLine name) t = refl
same_tile n (ArcOf sink source) t = refl
same_tile n (WordOf name bits) t = refl
same_tile n (EnumOf name value) t = refl
same_tile n (UnknownOf frame bit) t = refl
same_tile n OutsideLine t = refl

tiles_with_last : (n : ℕ) (line : ConfigLine) (ts : List TileText) (q : List ℕ) → has_tile (with_last (line_behind n line) ts) q ≡ has_tile ts q
tiles_with_last n line [] q = refl
tiles_with_last n line (t ∷ []) q = ap (λ name. bytes_eq name q || false) (same_tile n line t)
tiles_with_last n line (t ∷ u ∷ us) q = ap (λ b. bytes_eq t.tile q || b) (tiles_with_last n line (u ∷ us) q)

once_with_last : (n : ℕ) (line : ConfigLine) (ts : List TileText) → NoTileTwice ts → NoTileTwice (with_last (line_behind n line) ts)
once_with_last n line [] once = tt
once_with_last n line (t ∷ []) once = (refl, tt)
once_with_last n line (t ∷ u ∷ us) once = (tiles_with_last n line (u ∷ us) t.tile ∙ once.0, once_with_last n line (u ∷ us) once.1)

-- the tiles that are known stay known
pub known_with_last : (n : ℕ) (line : ConfigLine) (ts : List TileText) (tiles : List (Bor (List ℕ))) → KnowsTiles ts tiles → KnowsTiles (with_last (line_behind n line) ts) tiles
known_with_last n line ts tiles known = record {
  names = λ q. known.names q ∙ sym (tiles_with_last n line ts q);
  once = once_with_last n line ts known.once;
}

pub not_true : (b : Bool) → not b ≡ true → b ≡ false
not_true true h = absurd (let no : ⊥ = cc in no)
not_true false h = refl
