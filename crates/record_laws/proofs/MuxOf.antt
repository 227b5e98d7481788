-- What a mux by numbers is of.
use Rattle.std.proofs.Common.{◌≡◌, ℕ, zero, suc, ◌<◌, List, [], ◌∷◌, length, Option, None, Some, option_map, refl, subst, arith}
use Rattle.std.specs.Prelude.{slice_get}
use Rattle.std.specs.List.{enumerate_from}
use Rattle.words.specs.Members.{In}
use Rattle.links.proofs.Members.{of_flat_map}
use Rattle.records.specs.Database.{Mux}
use Rattle.records.specs.Grid.{Tile}
use Rattle.fabric.specs.Wires.{Wire}
use Rattle.fabric.specs.Device.{Device, database_at}
use Rattle.fabric.specs.GraphOf.{number_in}
use Rattle.fabric_laws.proofs.Graphs.{some_same}
use Rattle.fabric_laws.proofs.Members.{in_filter_map_from}
use Rattle.fabric_laws.proofs.Numbered.{entry_is}
use Rattle.mux_rows.specs.MuxTable.{MuxNumbers}
use Rattle.graph_numbers.specs.Numbers.{mux_in, tile_mux_numbers, mux_numbers}

pub below_of : {X : Type 0} (xs : List X) (i : ℕ) (x : X) → slice_get xs i ≡ Some x → i < length xs
below_of [] i x h = absurd (let no : ⊥ = cc in no)
below_of (y ∷ ys) zero x h = omega arith
below_of (y ∷ ys) (suc i) x h = (let k = below_of ys i x h in omega arith)

-- a device with its wires
pub record Numbered : Type 0 where
  pub device : Device
  pub wires : List Wire

-- what a mux by numbers is of: its tile, its place in the database, and the wire of its sink
pub record MuxOf (n : Numbered) (m : MuxNumbers) : Type 0 where
  pub tile : Tile
  pub mux : Mux
  pub in_tile : slice_get n.device.grid.tiles m.tile ≡ Some tile
  pub at_place : slice_get (database_at n.device.types tile).muxes m.place ≡ Some mux
  pub sink : number_in n.wires n.device.profile.rules tile mux.sink ≡ Some m.sink

mux_made : (n : Numbered) (number place : ℕ) (tile : Tile) (mux : Mux) (m : MuxNumbers) (o : Option ℕ) → number_in n.wires n.device.profile.rules tile mux.sink ≡ o
    → slice_get n.device.grid.tiles number ≡ Some tile → slice_get (database_at n.device.types tile).muxes place ≡ Some mux
    → option_map (λ s. let x : MuxNumbers = record { tile = number; place = place; sink = s } in x) o ≡ Some m → MuxOf n m
mux_made n number place tile mux m None e at there h = absurd (let no : ⊥ = cc in no)
mux_made n number place tile mux m (Some s) e at there h =
    subst (MuxOf n) (some_same h) (record { tile = tile; mux = mux; in_tile = at; at_place = there; sink = e })

pub what_it_is : (n : Numbered) (m : MuxNumbers) → In (mux_numbers n.device n.wires) m → MuxOf n m
what_it_is n m i =
    let t = of_flat_map (λ (t : ℕ × Tile). tile_mux_numbers n.device n.wires t.0 t.1) (enumerate_from 0 n.device.grid.tiles) m i in
    let muxes = (database_at n.device.types t.0.1).muxes in
    let p = in_filter_map_from (λ (x : ℕ × Mux). mux_in n.device n.wires t.0.0 t.0.1 x.0 x.1) (enumerate_from 0 muxes) m t.1.1 in
    mux_made n t.0.0 p.0.0 t.0.1 p.0.1 m (number_in n.wires n.device.profile.rules t.0.1 p.0.1.sink) refl (entry_is n.device.grid.tiles t.0.0 t.0.1 t.1.0) (entry_is muxes p.0.0 p.0.1 p.1) p.2
