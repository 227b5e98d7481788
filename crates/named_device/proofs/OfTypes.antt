-- What is kept for the types of a device is what its tiles have.
use Rattle.std.proofs.Common.{◌≡◌, ℕ, zero, suc, List, [], ◌∷◌, map, Option, None, Some, option_map, option_and_then, refl, sym, ap, ◌∙◌}
use Rattle.std.specs.Prelude.{slice_get}
use Rattle.std.proofs.lemmas.Option.{slice_get-map}
use Rattle.records.specs.Database.{TileDb}
use Rattle.records.specs.Grid.{Tile}
use Rattle.fabric.specs.Device.{Device}
use Rattle.record_laws.specs.Records.{db_at, db_of}
use Rattle.tile_types.specs.Slots.{TypeSlots}
use Rattle.tile_types.specs.Types.{Types, AreTypesOf, type_in, type_of_tile}
use Rattle.named_device.specs.Kept.{kept_at, type_dbs}

type_there : {X Y : Type 0} (f : X → Y) (ts : List Y) (ns : List ℕ) (xs : List X) (i : ℕ) → map (slice_get ts) ns ≡ map (λ x. Some (f x)) xs → option_and_then (slice_get ts) (slice_get ns i) ≡ option_map f (slice_get xs i)
type_there f ts [] [] i h = refl
type_there f ts [] (x ∷ xs) i h = absurd (let no : ⊥ = cc in no)
type_there f ts (n ∷ ns) [] i h = absurd (let no : ⊥ = cc in no)
type_there f ts (n ∷ ns) (x ∷ xs) zero h = let here : slice_get ts n ≡ Some (f x) = cc in here
type_there f ts (n ∷ ns) (x ∷ xs) (suc i) h = (let rest : map (slice_get ts) ns ≡ map (λ x. Some (f x)) xs = cc in type_there f ts ns xs i rest)

-- the type of each tile, where there is a tile
pub type_is : (device : Device) (t : Types) (i : ℕ) → AreTypesOf device t → type_of_tile t i ≡ option_map (type_in device) (slice_get device.grid.tiles i)
type_is device t i are = type_there (type_in device) t.types t.tiles device.grid.tiles i are.of_tiles

-- what is kept for each type, of a tile by its type
pub by_number : {X : Type 0} (f : TypeSlots → X) (ts : List TypeSlots) (o : Option ℕ) → option_and_then (slice_get (map f ts)) o ≡ option_map f (option_and_then (slice_get ts) o)
by_number f ts None = refl
by_number f ts (Some n) = slice_get-map f ts n

inner : (dbs : List (Option TileDb)) (o : Option ℕ) → option_and_then (λ n. option_and_then (λ db. db) (slice_get dbs n)) o ≡ option_and_then (λ db. db) (option_and_then (slice_get dbs) o)
inner dbs None = refl
inner dbs (Some n) = refl

of_tile : (device : Device) (o : Option Tile) → option_and_then (λ db. db) (option_map (λ t. t.db) (option_map (type_in device) o)) ≡ option_and_then (db_of device) o
of_tile device None = refl
of_tile device (Some tile) = refl

kept_is : (device : Device) (types : Types) (dbs : List (Option TileDb)) (tile : ℕ) → AreTypesOf device types → dbs ≡ map (λ t. t.db) types.types → kept_at dbs types tile ≡ db_at device tile
kept_is device types dbs tile are e =
    ap (λ ds. kept_at ds types tile) e
    ∙ (inner (map (λ t. t.db) types.types) (slice_get types.tiles tile)
    ∙ (ap (option_and_then (λ db. db)) (by_number (λ (t : TypeSlots). t.db) types.types (slice_get types.tiles tile) ∙ ap (option_map (λ (t : TypeSlots). t.db)) (type_is device types tile are))
    ∙ of_tile device (slice_get device.grid.tiles tile)))

-- the databases of the types of a device
pub dbs_of_types : (device : Device) (types : Types) (dbs : List (Option TileDb)) → AreTypesOf device types → dbs ≡ map (λ t. t.db) types.types → dbs ≡ type_dbs device
dbs_of_types device types dbs are e = e ∙ ap (map (λ (t : TypeSlots). t.db)) are.once

-- the database that is kept for a tile is its own
pub names_are : (device : Device) (types : Types) (dbs : List (Option TileDb)) (tile : ℕ) (o : Option TileDb) → AreTypesOf device types → dbs ≡ type_dbs device → o ≡ kept_at dbs types tile → o ≡ db_at device tile
names_are device types dbs tile o are e h = h ∙ kept_is device types dbs tile are (e ∙ sym (ap (map (λ (t : TypeSlots). t.db)) are.once))
