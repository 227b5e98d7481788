-- Records that a map finds by two names. (Our own.)
use Rattle.std.specs.Prelude.{◌≡◌, ℕ, List, find, ◌&&◌}
use Rattle.std.specs.Option.{option_copied}
use Rattle.std.specs.declared.cmp.Ordering.{Ordering}
use Rattle.std.specs.Ordering.{nat_cmp, ordering_then}
use Rattle.std.specs.BTreeMap.{BTreeMap, get}
use Rattle.std.specs.Cmp.Lexicographic.{slice_cmp}
use Rattle.std.specs.Str.{bytes_eq}
use Rattle.records.specs.Profile.{SliceKind, PadKind, Profile}
use denote.Ref.{Bor}

-- two lent names
abbrev pub Pair : Type 0
Pair = Bor (List ℕ) × Bor (List ℕ)

abbrev pub pair_cmp : Pair → Pair → Ordering
pair_cmp p q = ordering_then (slice_cmp nat_cmp p.0.now q.0.now) (slice_cmp nat_cmp p.1.now q.1.now)

-- the map has, for each two names, the first record of a list with them, and nothing else
pub record HoldsPairs {X : Type 0} (first second : X → List ℕ) (items : List X) (map : BTreeMap Pair (Bor X)) : Type 0 where
  pub found : (q : Pair) → option_copied (get pair_cmp map q) ≡ find (λ x. bytes_eq (first x) q.0.now && bytes_eq (second x) q.1.now) items

-- maps have the kinds of a profile
pub record HoldsKinds (profile : Profile) (of_slices : BTreeMap Pair (Bor SliceKind)) (of_pads : BTreeMap Pair (Bor PadKind)) : Type 0 where
  pub slices : HoldsPairs (λ k. k.tile) (λ k. k.name) profile.slices of_slices
  pub pads : HoldsPairs (λ k. k.tile) (λ k. k.name) profile.pads of_pads
