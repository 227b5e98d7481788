-- Records that a map holds in rows by their first names. (Our own.)
use Rattle.std.specs.Prelude.{◌≡◌, ℕ, List, [], filter, map, Option, None, Some}
use Rattle.std.specs.Ordering.{nat_cmp}
use Rattle.std.specs.BTreeMap.{BTreeMap, get}
use Rattle.std.specs.Cmp.Lexicographic.{slice_cmp}
use Rattle.std.specs.Str.{bytes_eq}
use Rattle.words.specs.Ordered.{in_order}
use Rattle.records.specs.Profile.{PadKind, Profile}
use denote.Ref.{Bor}

-- the records of a row, where there is one
abbrev pub row_items : {X : Type 0} → Option (List (Bor X)) → List X
row_items None = []
row_items (Some row) = map (λ item. item.now) row

-- the map has, for each first name, the records of a list with it
pub record HoldsRows {X : Type 0} (first : X → List ℕ) (items : List X) (map : BTreeMap (Bor (List ℕ)) (List (Bor X))) : Type 0 where
  pub found : (q : Bor (List ℕ)) → row_items (get (λ a b. slice_cmp nat_cmp a.now b.now) map q) ≡ filter (λ x. bytes_eq (first x) q.now) items

-- the map has the kinds of pads of a profile by type of tile, in byte order of names
pub record HoldsPadRows (profile : Profile) (rows : BTreeMap (Bor (List ℕ)) (List (Bor PadKind))) : Type 0 where
  pub held : HoldsRows (λ k. k.tile) (in_order (λ k. k.name) profile.pads) rows
