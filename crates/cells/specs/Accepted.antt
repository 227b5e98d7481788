-- What the cells of an image meet where nothing is refused, and what is wrong where something is. (Our own.)
use Rattle.std.specs.Prelude.{◌≡◌, ◌≢◌, ◌^◌, Bool, true, false, List, length, codes, Some, None, unwrap_or, ◌⊎◌}
use Rattle.words.specs.Members.{In}
use Rattle.patterns.specs.Bits.{Bits}
use Rattle.records.specs.Profile.{Take, TakeOut, Choice, Require, TableKind, RegisterKind, SliceKind, PadKind, Profile}
use Rattle.records.specs.Side.{Placed, Triple, Side}
use Rattle.fabric.specs.Graph.{Graph}
use Rattle.fabric.specs.Values.{word_at, value_at}
use Rattle.cells.specs.Sites.{Site, slice_site, pad_site, settings_at, unnamed_pads}
use Rattle.cells.specs.Takes.{take_at, suits}
use Rattle.cells.specs.Resolved.{role_of}
use Rattle.cells.specs.Shapes.{HaveEqualShape}
use Rattle.cells.specs.Readings.{Reading, choices_of, readings}
use Rattle.cells.specs.Faults.{CellFault, UnknownSite, ShapeDiffers, Unmodelled, UnnamedPad, site_of_slice}

-- The settings of a slice are modelled: each enum that is required has its value, each word has a bit for each
-- assignment of bits to the pins of its table, and each choice of a register takes something.
pub record SliceModelled (g : Graph) (image : Bits) (s : Site SliceKind) : Type 0 where
  pub required : (r : Require) → In s.kind.require r → value_at g image s.number r.setting ≡ Some r.value
  pub words : (t : TableKind) → In s.kind.tables t → (bits : List Bool) × ((word_at g image s.number t.word ≡ Some bits) × (length bits ≡ 2 ^ length t.pins))
  pub choices : (r : RegisterKind) (c : Choice) → In s.kind.registers r → In (choices_of r) c → (t : Take) × (take_at g image s.number c ≡ Some t)

-- a slice stands at a site, and its settings are modelled
abbrev pub SliceStands : Graph → Profile → Bits → Placed → Type 0
SliceStands g profile image p = (s : Site SliceKind) × ((slice_site g profile p ≡ Some s) × SliceModelled g image s)

-- a pad stands at a site and has the mode of its role
abbrev pub PadStands : Graph → Profile → Bits → Side → Placed → Type 0
PadStands g profile image side p =
    (s : Site PadKind) × ((pad_site g profile p ≡ Some s) × ((t : Take) × ((take_at g image s.number s.kind.mode ≡ Some t) × (suits (role_of side p.name) t ≡ true))))

-- two sites have equal shape
abbrev pub ShapedAlike : Graph → Site SliceKind → Site SliceKind → Type 0
ShapedAlike g s t = HaveEqualShape (settings_at g s) s.kind (settings_at g t) t.kind

-- the slices of a triple stand at sites of equal shape
pub record TripleAlike (g : Graph) (profile : Profile) (side : Side) (t : Triple) : Type 0 where
  pub first : Site SliceKind
  pub second : Site SliceKind
  pub third : Site SliceKind
  pub at_first : site_of_slice g profile side t.first ≡ Some first
  pub at_second : site_of_slice g profile side t.second ≡ Some second
  pub at_third : site_of_slice g profile side t.third ≡ Some third
  pub second_alike : ShapedAlike g first second
  pub third_alike : ShapedAlike g first third

-- an unnamed pad has a mode, which doesn't drive out of the fabric
abbrev pub PadIsQuiet : Graph → Bits → Site PadKind → Type 0
PadIsQuiet g image s = (t : Take) × ((take_at g image s.number s.kind.mode ≡ Some t) × (t ≢ TakeOut))

-- nothing is refused
pub record CellsAreAccepted (g : Graph) (profile : Profile) (image : Bits) (side : Side) : Type 0 where
  pub slices : (p : Placed) → In side.slices p → SliceStands g profile image p
  pub pads : (p : Placed) → In side.pads p → PadStands g profile image side p
  pub shapes : (t : Triple) → In side.triples t → TripleAlike g profile side t
  pub unnamed : (s : Site PadKind) → In (unnamed_pads g profile side) s → PadIsQuiet g image s

-- what is wrong, by the fault that is named
abbrev pub IsRefused : Graph → Profile → Bits → Side → CellFault → Type 0
IsRefused g profile image side (UnknownSite name) =
    (p : Placed) × ((p.name ≡ name) × ((In side.slices p × (slice_site g profile p ≡ None)) ⊎ (In side.pads p × (pad_site g profile p ≡ None))))
IsRefused g profile image side (ShapeDiffers name) = (t : Triple) × (In side.triples t × ((t.first ≡ name) × (TripleAlike g profile side t → ⊥)))
IsRefused g profile image side (Unmodelled cell setting value) =
    (r : Reading) × (In (readings g profile image side) r × ((r.modelled ≡ false) × ((r.cell ≡ cell) × ((r.setting ≡ setting) × (unwrap_or r.value (codes "?") ≡ value)))))
IsRefused g profile image side (UnnamedPad tile kind) =
    (s : Site PadKind) × (In (unnamed_pads g profile side) s × ((s.tile.name ≡ tile) × ((s.kind.name ≡ kind) × (take_at g image s.number s.kind.mode ≡ Some TakeOut))))
