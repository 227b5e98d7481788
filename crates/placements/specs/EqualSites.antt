-- The sites to which a slice may move. (Our own.)
use Rattle.std.specs.Prelude.{◌≡◌, ℕ, true, List, map, Some, ◌↔◌}
use Rattle.words.specs.Members.{In}
use Rattle.records.specs.Profile.{SliceKind, Profile}
use Rattle.fabric.specs.InOrder.{IsRising}
use Rattle.fabric.specs.Graph.{Graph}
use Rattle.cells.specs.Sites.{Site, settings_at}
use Rattle.cells.specs.Shapes.{equal_shape}
use Rattle.attempts.specs.Moves.{Move}
use Rattle.attempts.specs.Candidates.{site_named, site_cmp}

-- a site of the grid and of a kind of slices: the one of its names
abbrev pub IsSliceSite : Graph → Profile → Site SliceKind → Type 0
IsSliceSite g profile s = site_named g profile s.tile.name s.kind.name ≡ Some s

-- the same tile and the same kind
abbrev pub IsSameSite : Site SliceKind → Site SliceKind → Type 0
IsSameSite a b = (a.tile.name ≡ b.tile.name) × (a.kind.name ≡ b.kind.name)

-- another site than the present one, of equal shape
pub record IsEqualSite (g : Graph) (profile : Profile) (from s : Site SliceKind) : Type 0 where
  pub site : IsSliceSite g profile s
  pub shape : equal_shape (settings_at g from) from.kind (settings_at g s) s.kind ≡ true
  pub other : IsSameSite from s → ⊥

-- The sites of equal shape in candidate order, each once, without the present one.
pub record AreEqualSites (g : Graph) (profile : Profile) (from : Site SliceKind) (list : List (Site SliceKind)) : Type 0 where
  pub rising : IsRising (site_cmp from) list
  pub members : (s : Site SliceKind) → In list s ↔ IsEqualSite g profile from s

-- the move of a slice to a site
abbrev pub move_to : List ℕ → Site SliceKind → Move
move_to slice s = record { slice = slice; tile = s.tile.name; kind = s.kind.name }

-- the moves of a slice to sites
abbrev pub moves_to : List ℕ → List (Site SliceKind) → List Move
moves_to slice list = map (move_to slice) list
