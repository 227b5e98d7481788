-- Arcs at which lines differ from what is chosen, and the least mux of one. (Our own.)
use Rattle.std.specs.Prelude.{◌≡◌, ℕ, ◌<◌, ◌&&◌, Bool, true, false, not, List, [], Option, Some, None, get_or, slice_get, if◌then◌else◌}
use Rattle.std.specs.Ordering.{is_gt}
use Rattle.std.specs.Option.{option_map_or}
use Rattle.patterns.specs.Bits.{Bits}
use Rattle.patterns.specs.Fits.{has_plain_bit}
use Rattle.records.specs.Config.{Config}
use Rattle.fabric.specs.Graph.{GraphMux, GraphArc, Graph}
use Rattle.answers.specs.Refusals.{ArcDiffers}
use Rattle.design_checks.specs.RoutingChecks.{MuxName, mux_name_cmp, ArcsDiffer}

-- an arc that is chosen, or not, that has a line, or none, and some plain bit, or none, differs
abbrev pub differs_by : Bool → Bool → Bool → Bool
differs_by chosen lined plain = if lined then not chosen else (chosen && plain)

-- the name of the mux of a number; where there is none, or its tile isn't there, empty names
abbrev pub mux_name : Graph → GraphMux → MuxName
mux_name g mux = record { tile = option_map_or (λ t. t.name) (slice_get g.grid.tiles mux.tile) []; sink = mux.mux.sink }

abbrev pub name_at : Graph → ℕ → MuxName
name_at g m = option_map_or (mux_name g) (slice_get g.muxes m) (record { tile = []; sink = [] })

-- a mux has an arc that differs, among the arcs whose numbers are below `upto`; `chosen` and `lined` say of each arc whether it is
-- chosen and whether it has a line
pub record DiffersBelow (g : Graph) (chosen lined : List Bool) (upto m : ℕ) : Type 0 where
  pub place : ℕ
  pub arc : GraphArc
  pub below : place < upto
  pub at : slice_get g.arcs place ≡ Some arc
  pub of_mux : arc.mux ≡ m
  pub differs : differs_by (get_or chosen place false) (get_or lined place false) (has_plain_bit arc.arc.bits) ≡ true

-- the mux of the least name of those with a property, or none where none has it
abbrev pub IsLeastMux : Graph → (ℕ → Type 0) → Option ℕ → Type 0
IsLeastMux g Has None = (m : ℕ) → Has m → ⊥
IsLeastMux g Has (Some least) = Has least × ((m : ℕ) → Has m → is_gt (mux_name_cmp (name_at g least) (name_at g m)) ≡ false)

-- of a mux that may be there and another one that of the lower name, and where both have one name the first
abbrev pub lower_mux : Graph → Option ℕ → ℕ → ℕ
lower_mux g None m = m
lower_mux g (Some least) m = if is_gt (mux_name_cmp (name_at g least) (name_at g m)) then m else least

-- the check of arcs that differ refuses the mux of this number, by its name
pub record IsRefusedMux (g : Graph) (image : Bits) (config : Config) (m : ℕ) : Type 0 where
  pub mux : GraphMux
  pub is : slice_get g.muxes m ≡ Some mux
  pub refused : ArcsDiffer g image config (ArcDiffers (mux_name g mux).tile (mux_name g mux).sink)
