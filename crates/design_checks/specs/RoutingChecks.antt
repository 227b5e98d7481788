-- Arc lines that differ from the chosen arcs, and wires with two drivers. (Our own.)
use Rattle.std.specs.Prelude.{◌≡◌, ◌≢◌, ℕ, true, false, List, Some, slice_get, ◌⊎◌}
use Rattle.std.specs.declared.cmp.Ordering.{Ordering}
use Rattle.std.specs.Ordering.{nat_cmp, ordering_then}
use Rattle.words.specs.Members.{In}
use Rattle.patterns.specs.Bits.{Bits}
use Rattle.patterns.specs.Fits.{has_plain_bit}
use Rattle.records.specs.Grid.{Tile}
use Rattle.records.specs.Config.{Config}
use Rattle.links.specs.Links.{Routing, Counting}
use Rattle.fabric.specs.Wires.{Wire, name_cmp}
use Rattle.fabric.specs.Graph.{GraphMux, GraphArc, Graph}
use Rattle.fabric.specs.Links.{is_chosen, routing_of}
use Rattle.fabric.specs.Agree.{HasLine}
use Rattle.answers.specs.Refusals.{Refusal, ArcDiffers, Contested}
use Rattle.design_checks.specs.Checks.{IsLeast}

-- ---- arcs that differ

-- a mux by the name of its tile, and that of its sink in the database
pub record MuxName : Type 0 where
  pub tile : List ℕ
  pub sink : List ℕ

abbrev pub mux_name_cmp : MuxName → MuxName → Ordering
mux_name_cmp a b = ordering_then (name_cmp a.tile b.tile) (name_cmp a.sink b.sink)

-- an arc of a mux of this name differs: it is chosen, has a plain bit and no line, or it has a line and isn't chosen
pub record Differs (g : Graph) (image : Bits) (config : Config) (name : MuxName) : Type 0 where
  pub arc : GraphArc
  pub mux : GraphMux
  pub tile : Tile
  pub listed : In g.arcs arc
  pub of_mux : slice_get g.muxes arc.mux ≡ Some mux
  pub in_tile : slice_get g.grid.tiles mux.tile ≡ Some tile
  pub named : name ≡ record { tile = tile.name; sink = mux.mux.sink }
  pub differs : ((is_chosen g image arc ≡ true) × ((has_plain_bit arc.arc.bits ≡ true) × (HasLine g config arc → ⊥)))
      ⊎ (HasLine g config arc × (is_chosen g image arc ≡ false))

-- 22: the least mux at which an arc differs
pub data ArcsDiffer (g : Graph) (image : Bits) (config : Config) : Refusal → Type 0 where
  differ : (name : MuxName) → IsLeast mux_name_cmp (Differs g image config) name → ArcsDiffer g image config (ArcDiffers name.tile name.sink)

-- ---- contested wires

-- a wire isn't clean: two counting drivers lead into it, or one into a cell output
abbrev pub IsContested : Routing → ℕ → Type 0
IsContested r w = ((x : ℕ) × ((y : ℕ) × (Counting r x w × (Counting r y w × (x ≢ y))))) ⊎ (In r.outputs w × ((x : ℕ) × Counting r x w))

-- what drives a wire: counting drivers, and a cell output itself
abbrev pub Asserts : Routing → ℕ → ℕ → Type 0
Asserts r w x = Counting r x w ⊎ (In r.outputs w × (x ≡ w))

-- another wire than this one drives it
abbrev pub AssertsBeside : Routing → ℕ → ℕ → ℕ → Type 0
AssertsBeside r w x y = Asserts r w y × (y ≢ x)

-- the two least that drive a wire, or twice the same where only one does
pub data AreTwoLeast (r : Routing) (w : ℕ) : ℕ → ℕ → Type 0 where
  two : {x y : ℕ} → IsLeast nat_cmp (Asserts r w) x → IsLeast nat_cmp (AssertsBeside r w x) y → AreTwoLeast r w x y
  alone : {x : ℕ} → IsLeast nat_cmp (Asserts r w) x → ((y : ℕ) → AssertsBeside r w x y → ⊥) → AreTwoLeast r w x x

-- 23: the least wire that isn't clean, with the two least that drive it
pub data AreContested (g : Graph) (image : Bits) : Refusal → Type 0 where
  contested : (w x y : ℕ) (wire first second : Wire) → IsLeast nat_cmp (IsContested (routing_of g image)) w → AreTwoLeast (routing_of g image) w x y
      → slice_get g.wires w ≡ Some wire → slice_get g.wires x ≡ Some first → slice_get g.wires y ≡ Some second → AreContested g image (Contested wire first second)
