-- Types of tiles that are put in order, from the last to the first.
use Rattle.std.proofs.Common.{◌≡◌, ℕ, List, [], ◌∷◌, ◌++◌, map, nat_cmp, refl, sym, ap, ◌∙◌}
use Rattle.std.specs.declared.cmp.Ordering.{Ordering}
use Rattle.std.specs.declared.cmp.Ordering.TheVariants.{Less, Equal, Greater}
use Rattle.std.specs.Ordering.{match_ordering}
use Rattle.std.specs.BTreeSet.{insert_key}
use Rattle.std.specs.Cmp.Lexicographic.{slice_cmp}
use denote.Ref.{Bor}
use Rattle.words.specs.Ordered.{put_once, in_order_once}
use Rattle.records.specs.Grid.{Tile}
use Rattle.fabric_laws.proofs.Orders.{name_same}

-- the types of tiles, put in their places among others, from the last to the first
abbrev pub put_kinds : List Tile → List (List ℕ) → List (List ℕ)
put_kinds [] kinds = kinds
put_kinds (tile ∷ tiles) kinds = put_once (λ kind. kind) tile.kind (put_kinds tiles kinds)

put_behind : (front : List Tile) (tile : Tile) (kinds : List (List ℕ)) → put_kinds (front ++ tile ∷ []) kinds ≡ put_kinds front (put_once (λ kind. kind) tile.kind kinds)
put_behind [] tile kinds = refl
put_behind (t ∷ front) tile kinds = ap (put_once (λ kind. kind) t.kind) (put_behind front tile kinds)

all_in_order : (tiles : List Tile) → put_kinds tiles [] ≡ in_order_once (λ kind. kind) (map (λ tile. tile.kind) tiles)
all_in_order [] = refl
all_in_order (tile ∷ tiles) = ap (put_once (λ kind. kind) tile.kind) (all_in_order tiles)

-- the order of lent names
abbrev pub lent_cmp : Bor (List ℕ) → Bor (List ℕ) → Ordering
lent_cmp a b = slice_cmp nat_cmp a.now b.now

-- a key that is put in is a name that is put in
key_put : (keys : List (Bor (List ℕ))) (key : Bor (List ℕ)) → map (λ kind. kind.now) (insert_key lent_cmp keys key) ≡ put_once (λ kind. kind) key.now (map (λ kind. kind.now) keys)
key_put [] key = refl
key_put (k ∷ keys) key = go (slice_cmp nat_cmp key.now k.now) refl (key_put keys key)
  where
    go : (o : Ordering) → slice_cmp nat_cmp key.now k.now ≡ o
        → map (λ kind. kind.now) (insert_key lent_cmp keys key) ≡ put_once (λ kind. kind) key.now (map (λ kind. kind.now) keys)
        → map (λ kind. kind.now) (match_ordering o (key ∷ k ∷ keys) (k ∷ keys) (k ∷ insert_key lent_cmp keys key))
        ≡ match_ordering o (key.now ∷ k.now ∷ map (λ kind. kind.now) keys) (key.now ∷ map (λ kind. kind.now) keys) (k.now ∷ put_once (λ kind. kind) key.now (map (λ kind. kind.now) keys))
    go Less e ih = refl
    go Equal e ih = ap (λ (n : List ℕ). n ∷ map (λ (kind : Bor (List ℕ)). kind.now) keys) (sym (name_same key.now k.now e))
    go Greater e ih = ap (λ ks. k.now ∷ ks) ih

-- one tile less is left, and its type is put in
pub put_last : (left front : List Tile) (tile : Tile) (keys more : List (Bor (List ℕ))) (key : Bor (List ℕ)) (whole : List (List ℕ)) → left ≡ front ++ tile ∷ [] → key.now ≡ tile.kind
    → more ≡ insert_key lent_cmp keys key → put_kinds left (map (λ kind. kind.now) keys) ≡ whole → put_kinds front (map (λ kind. kind.now) more) ≡ whole
put_last left front tile keys more key whole parts is_kind put before =
    ap (λ (ks : List (Bor (List ℕ))). put_kinds front (map (λ kind. kind.now) ks)) put
    ∙ ap (put_kinds front) (key_put keys key)
    ∙ ap (λ (k : List ℕ). put_kinds front (put_once (λ kind. kind) k (map (λ kind. kind.now) keys))) is_kind
    ∙ sym (put_behind front tile (map (λ kind. kind.now) keys))
    ∙ ap (λ (tiles : List Tile). put_kinds tiles (map (λ kind. kind.now) keys)) (sym parts)
    ∙ before

pub all_put : (tiles : List Tile) → put_kinds tiles [] ≡ in_order_once (λ kind. kind) (map (λ tile. tile.kind) tiles)
all_put tiles = all_in_order tiles
