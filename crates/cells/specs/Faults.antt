-- What is refused of the cells of an image, and which fault comes first. (Our own.)
use Rattle.std.specs.Prelude.{ℕ, Bool, false, List, find, codes, Option, Some, None, option_and_then, unwrap_or, if◌then◌else◌, ◌&&◌}
use Rattle.std.specs.Option.{option_map_or}
use Rattle.std.specs.Str.{bytes_eq}
use Rattle.words.specs.Firsts.{or_else, first_fault}
use Rattle.patterns.specs.Bits.{Bits}
use Rattle.records.specs.Profile.{SliceKind, PadKind, Profile}
use Rattle.records.specs.Side.{Triple, Side}
use Rattle.fabric.specs.Graph.{Graph}
use Rattle.cells.specs.Sites.{Site, slice_site, pad_site, settings_at, unnamed_pads}
use Rattle.cells.specs.Takes.{take_at, takes_out}
use Rattle.cells.specs.Shapes.{equal_shape}
use Rattle.cells.specs.Readings.{Reading, slices_of, pads_of, readings}

pub data CellFault : Type 0 where
  -- the name of a cell whose tile or kind isn't there, or whose tile has no row and column
  UnknownSite : List ℕ → CellFault
  -- the first name of a triple of slices of unequal shape
  ShapeDiffers : List ℕ → CellFault
  -- a cell, one of its settings and its value, which isn't modelled
  Unmodelled : List ℕ → List ℕ → List ℕ → CellFault
  -- the tile and the kind of a pad without a name that drives out of the fabric
  UnnamedPad : List ℕ → List ℕ → CellFault

-- a placed cell of a name has a site
abbrev pub site_fault : {K : Type 0} → List ℕ → Option (Site K) → Option CellFault
site_fault name None = Some (UnknownSite name)
site_fault name (Some s) = None

-- the site of the slice of a name
abbrev pub site_of_slice : Graph → Profile → Side → List ℕ → Option (Site SliceKind)
site_of_slice g profile side name = option_and_then (slice_site g profile) (find (λ p. bytes_eq p.name name) side.slices)

-- two sites have equal shape
abbrev pub shaped_alike : Graph → Option (Site SliceKind) → Option (Site SliceKind) → Bool
shaped_alike g (Some s) (Some t) = equal_shape (settings_at g s) s.kind (settings_at g t) t.kind
shaped_alike g _ _ = false

-- the slices of a triple stand at sites of equal shape
abbrev pub shape_fault : Graph → Profile → Side → Triple → Option CellFault
shape_fault g profile side t =
    let first = site_of_slice g profile side t.first in
    if shaped_alike g first (site_of_slice g profile side t.second) && shaped_alike g first (site_of_slice g profile side t.third) then None else Some (ShapeDiffers t.first)

-- a value is modelled; `?` stands for a value that isn't there
abbrev pub value_fault : Reading → Option CellFault
value_fault r = if r.modelled then None else Some (Unmodelled r.cell r.setting (unwrap_or r.value (codes "?")))

-- an unnamed pad doesn't drive out of the fabric
abbrev pub unnamed_fault : Graph → Bits → Site PadKind → Option CellFault
unnamed_fault g image s = if option_map_or takes_out (take_at g image s.number s.kind.mode) false then Some (UnnamedPad s.tile.name s.kind.name) else None

-- The fault of the cells, where they have one. Sites come before shapes, these before values, and these before
-- unnamed pads; slices come before named pads, each in byte order of names, and triples come in file order.
abbrev pub cell_fault : Graph → Profile → Bits → Side → Option CellFault
cell_fault g profile image side =
    or_else (first_fault (λ before p. site_fault p.name (slice_site g profile p)) (slices_of side))
    (or_else (first_fault (λ before p. site_fault p.name (pad_site g profile p)) (pads_of side))
    (or_else (first_fault (λ before t. shape_fault g profile side t) side.triples)
    (or_else (first_fault (λ before r. value_fault r) (readings g profile image side))
    (first_fault (λ before s. unnamed_fault g image s) (unnamed_pads g profile side)))))
