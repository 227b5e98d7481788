-- The type of a tile that is lent.
use Rattle.std.proofs.Common.{◌≡◌, ◌<◌, ℕ, List, length, get_or, Option, Some, None, refl, sym, ap, subst, ◌∙◌, Bor}
use Rattle.std.specs.Option.{IsSome, option_copied}
use Rattle.records.specs.Grid.{Tile}
use Rattle.fabric.specs.Device.{Device}
use Rattle.tile_types.specs.Slots.{TypeSlots}
use Rattle.tile_types.specs.Types.{AreTypesOf, Types, type_in, type_of_tile}
use Rattle.tile_types.proofs.OfTiles.{has_type}

-- the type that is lent for a tile's number is that of the tile
pub lent_type : (device : Device) (t : Types) (tiles : List Tile) (i : ℕ) (d : Tile) (lent : Option (Bor TypeSlots)) → AreTypesOf device t → tiles ≡ device.grid.tiles
    → i < length tiles → option_copied lent ≡ type_of_tile t i → option_copied lent ≡ Some (type_in device (get_or tiles i d))
lent_type device t tiles i d lent are all below is =
    is ∙ has_type device t i d are (subst (λ ts. i < length ts) all below) ∙ ap (λ ts. Some (type_in device (get_or ts i d))) (sym all)

pub is_lent : (lent : Option (Bor TypeSlots)) (t : TypeSlots) → option_copied lent ≡ Some t → IsSome lent
is_lent None t h = absurd (let no : ⊥ = cc in no)
is_lent (Some k) t h = refl

pub what_is_lent : (lent : Option (Bor TypeSlots)) (k : Bor TypeSlots) (t : TypeSlots) → option_copied lent ≡ Some t → lent ≡ Some k → k.now ≡ t
what_is_lent lent k t h is =
    let same : Some k.now ≡ Some t = ap option_copied (sym is) ∙ h in
    let e : k.now ≡ t = cc in e
