-- Nets: the outputs of named cells. (Our own.)
use Rattle.std.specs.Prelude.{◌≡◌, ℕ, Bool, true, false, List, [], ◌++◌, map, filter, flat_map, filter_map, slice_get, option_and_then, option_to_list}
use Rattle.std.specs.Option.{option_map_or}
use Rattle.std.specs.Str.{bytes_eq}
use Rattle.words.specs.Members.{In}
use Rattle.records.specs.Grid.{Tile}
use Rattle.records.specs.Profile.{SliceKind}
use Rattle.records.specs.Side.{Placed, Side}
use Rattle.links.specs.Links.{Feeds}
use Rattle.fabric.specs.MuxBits.{is_mux_bit}
use Rattle.fabric.specs.Device.{Device, slices_at, pads_at}
use Rattle.fabric.specs.Graph.{Graph}
use Rattle.fabric.specs.GraphOf.{number_in}
use Rattle.fabric.specs.Image.{tile_named}
use Rattle.patterns.specs.Bits.{DeviceBit}
use Rattle.records.specs.Ripping.{Rip, RipUnsafe, RipAll}
use Rattle.circuit.specs.Cells.{Role, InputPad, OutputPad, ClockPad, Cells}
use Rattle.upset.specs.Configured.{Configured}
use Rattle.upset.specs.Effect.{IsDisturbed}
use Rattle.upset.specs.Safe.{IsBad, only}
use Rattle.repair.specs.Turns.{routing}

-- the names of the outputs of a slice
abbrev pub slice_outputs : SliceKind → List (List ℕ)
slice_outputs kind = map (λ t. t.out) kind.tables ++ map (λ r. r.out) kind.registers

-- the names, in its tile, of the outputs of a named slice, and of a named pad
abbrev pub slice_output_names : Device → Placed → Tile → List (List ℕ)
slice_output_names device cell tile = flat_map slice_outputs (filter (λ k. bytes_eq k.name cell.kind) (slices_at device tile))

abbrev pub pad_output_names : Device → Placed → Tile → List (List ℕ)
pad_output_names device cell tile = flat_map (λ k. option_to_list k.in_wire) (filter (λ k. bytes_eq k.name cell.kind) (pads_at device tile))

-- the outputs of a named cell
abbrev pub outputs_of_cell : Device → Graph → (Placed → Tile → List (List ℕ)) → Placed → List ℕ
outputs_of_cell device g names cell =
    option_map_or (λ tile. filter_map (number_in g.wires device.profile.rules tile) (names cell tile)) (option_and_then (slice_get g.grid.tiles) (tile_named g cell.tile)) []

-- the nets: the cell outputs of the named cells
abbrev pub nets : Device → Graph → Side → List ℕ
nets device g side =
    flat_map (outputs_of_cell device g (slice_output_names device)) side.slices
    ++ flat_map (outputs_of_cell device g (pad_output_names device)) side.pads

abbrev pub is_clock : Role → Bool
is_clock InputPad = false
is_clock OutputPad = false
is_clock ClockPad = true

-- the clock nets: the outputs of clock pads
abbrev pub clock_nets : Cells → List ℕ
clock_nets cells = map (λ p. p.wire) (filter (λ p. is_clock p.role) cells.pads)

-- a net feeds a wire that a bad bit disturbs
pub record IsReached (k : Configured) (net : ℕ) : Type 0 where
  pub bit : DeviceBit
  pub mux_bit : is_mux_bit k.graph bit ≡ true
  pub bad : IsBad k (only bit)
  pub wire : ℕ
  pub disturbed : IsDisturbed k (only bit) wire
  pub feeds : Feeds (routing k) net wire

abbrev pub IsChosenToRip : Rip → Configured → ℕ → Type 0
IsChosenToRip RipUnsafe k net = IsReached k net
IsChosenToRip RipAll k net = Unit {0}

-- a net that is ripped at the start; clock nets never are
pub record IsRipped (rip : Rip) (device : Device) (k : Configured) (net : ℕ) : Type 0 where
  pub is_net : In (nets device k.graph k.side) net
  pub no_clock : In (clock_nets k.cells) net → ⊥
  pub chosen : IsChosenToRip rip k net
