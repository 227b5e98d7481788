-- What a move asks of its new site, and what speaks against it. (Our own.)
use Rattle.std.specs.Prelude.{◌≡◌, ◌≢◌, ℕ, true, false, List, find, Option, Some, None, ◌&&◌}
use Rattle.std.specs.Str.{bytes_eq}
use Rattle.std.specs.declared.cmp.Ordering.TheVariants.{Greater}
use Rattle.words.specs.Members.{In}
use Rattle.patterns.specs.Bits.{DeviceBit, Bits}
use Rattle.records.specs.Profile.{SliceKind}
use Rattle.records.specs.Side.{Placed, Side}
use Rattle.fabric.specs.Graph.{Graph}
use Rattle.fabric.specs.MuxBits.{bit_cmp}
use Rattle.cells.specs.Sites.{Site, settings_at}
use Rattle.cells.specs.Shapes.{equal_shape}
use Rattle.cells.specs.Resolved.{site_bits}
use Rattle.attempts.specs.Moves.{Move}

pub data MoveFault : Type 0 where
  -- the names of the present and the new kind, which have unequal shape
  ShapeDiffers : List ℕ → List ℕ → MoveFault
  -- the slice that stands at the new site
  SiteTaken : List ℕ → MoveFault
  -- a bit of the settings there that is set
  StandingBit : DeviceBit → MoveFault

-- the slice that stands at the site of a move
abbrev pub holder : Side → Move → Option Placed
holder side m = find (λ p. bytes_eq p.tile m.tile && bytes_eq p.kind m.kind) side.slices

-- the bits of the settings of a kind at its site
abbrev pub bits_there : Graph → Site SliceKind → List DeviceBit
bits_there g new = site_bits g new new.kind.settings

-- the least bit of a list that is set
pub record IsLeastSet (image : Bits) (bits : List DeviceBit) (b : DeviceBit) : Type 0 where
  pub listed : In bits b
  pub is_set : image b ≡ true
  pub least : (c : DeviceBit) → In bits c → image c ≡ true → bit_cmp b c ≢ Greater

-- Nothing speaks against a move: the kinds have equal shape, no named slice stands there, and no bit of the settings
-- there is set.
pub record MayMove (g : Graph) (side : Side) (image : Bits) (m : Move) (old new : Site SliceKind) : Type 0 where
  pub shape : equal_shape (settings_at g old) old.kind (settings_at g new) new.kind ≡ true
  pub free : holder side m ≡ None
  pub clear : (b : DeviceBit) → In (bits_there g new) b → image b ≡ false

-- What speaks against a move first: unequal shape, then a slice that stands there, then a bit that is set.
pub data IsMoveFault (g : Graph) (side : Side) (image : Bits) (m : Move) (old new : Site SliceKind) : MoveFault → Type 0 where
  shape_differs : equal_shape (settings_at g old) old.kind (settings_at g new) new.kind ≡ false → IsMoveFault g side image m old new (ShapeDiffers old.kind.name new.kind.name)
  site_taken : (p : Placed) → equal_shape (settings_at g old) old.kind (settings_at g new) new.kind ≡ true → holder side m ≡ Some p
      → IsMoveFault g side image m old new (SiteTaken p.name)
  standing_bit : (b : DeviceBit) → equal_shape (settings_at g old) old.kind (settings_at g new) new.kind ≡ true → holder side m ≡ None
      → IsLeastSet image (bits_there g new) b → IsMoveFault g side image m old new (StandingBit b)
