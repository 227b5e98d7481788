-- The numbers of arcs, and what tells the arc of a name. (Our own.)
use Rattle.std.specs.Prelude.{◌≡◌, ℕ, List, position, Option, Some, None, option_map, option_and_then, slice_get}
use Rattle.std.specs.Str.{bytes_eq}
use Rattle.words.specs.Members.{In}
use Rattle.fabric.specs.Wires.{Wire}
use Rattle.fabric.specs.Device.{Device}
use Rattle.fabric.specs.GraphOf.{number_in}
use Rattle.graph_lists.specs.ArcLists.{ArcNumbers}
use Rattle.mux_rows.specs.MuxTable.{MuxNumbers}
use Rattle.record_laws.specs.Records.{mux_record}

-- the number of an arc in a list is a place where it stands; none where it stands nowhere
abbrev pub IsNumberOf : List ArcNumbers → ArcNumbers → Option ℕ → Type 0
IsNumberOf arcs a None = In arcs a → ⊥
IsNumberOf arcs a (Some number) = slice_get arcs number ≡ Some a

-- the place of the first arc of a mux from a source in the database
abbrev pub place_from : Device → List ℕ → MuxNumbers → Option ℕ
place_from device source m = option_and_then (λ mux. position (λ a. bytes_eq a.source source) mux.arcs) (mux_record device m)

-- the wire that a name stands for in the tile of a number
abbrev pub wire_at : Device → List Wire → ℕ → List ℕ → Option ℕ
wire_at device wires tile name = option_and_then (λ t. number_in wires device.profile.rules t name) (slice_get device.grid.tiles tile)

-- the numbers of the first arc of a mux from a source in the database; none where there is no such record, or the name stands for no
-- wire
abbrev pub key_in : Device → List Wire → ℕ → List ℕ → MuxNumbers → Option ArcNumbers
key_in device wires number source m =
    option_and_then (λ place. option_map (λ wire. record { mux = number; place = place; source = wire; sink = m.sink }) (wire_at device wires m.tile source)) (place_from device source m)

-- the same by the number of the mux
abbrev pub key_named : Device → List Wire → List MuxNumbers → ℕ → List ℕ → Option ArcNumbers
key_named device wires muxes number source = option_and_then (key_in device wires number source) (slice_get muxes number)
