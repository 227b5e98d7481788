-- The circuit of a design that was read.
use Rattle.std.proofs.Common.{◌≡◌, ◌<◌, ℕ, List, length, Option, Ok, refl, sym, subst}
use Rattle.words.specs.Members.{In}
use Rattle.links.specs.Links.{IsClean}
use Rattle.fabric.specs.Graph.{Graph}
use Rattle.fabric.specs.GraphOf.{IsGraph}
use Rattle.fabric.specs.Image.{image_of}
use Rattle.fabric.specs.Links.{routing_of}
use Rattle.circuit.specs.Cells.{Cells}
use Rattle.circuit.specs.Circuits.{Circuit}
use Rattle.circuit.specs.Sound.{IsSoundCircuit}
use Rattle.circuit.specs.Triplicated.{IsTriplicated}
use Rattle.cells.specs.CellsOf.{cells_of}
use Rattle.upset.specs.Configured.{circuit_of}
use Rattle.design_files.specs.Designs.{Design}
use Rattle.design_checks.specs.Checks.{Passes}
use Rattle.design_checks.specs.DesignChecks.{CircuitRefused, configured_as}
use Rattle.formed_laws.specs.DatabaseRead.{IsReadDevice}
use Rattle.formed_laws.specs.Designs.{IsReadDesign}
use Rattle.formed_laws.specs.Readers.{IsReadProfile, IsReadSide}
use Rattle.size_laws.specs.Sizes.{OverlapsNowhere}
use Rattle.wire_feeds.specs.Rows.{AreFeeds}
use Rattle.check_laws.proofs.Overlaps.{no_overlap}
use Rattle.check_laws.proofs.RoutingRules.{output_wire}
use Rattle.rule_laws.proofs.Checked.{circuits_are}
use Rattle.live_routing.proofs.Standing.{outputs_within}
use Rattle.circuit_checks.specs.Lists.{IsFormed}
use Rattle.cram_image.specs.Image.{bits}
use Rattle.harden_core.specs.Loaded.{IsLoaded}
use Rattle.live_routing.specs.Live.{LiveRouting, live_routing}
use Rattle.patterns.specs.Bits.{Bits}
use Rattle.pin_feeds.specs.PinFeeds.{ArePinFeeds}
use Rattle.formed_laws.proofs.Formed.{read_entries, read_well_formed}
use Rattle.formed_laws.proofs.ProfileRead.{read_fit}
use Rattle.net_order.specs.Orders.{AreInNameOrder}
use Rattle.part_copies.specs.Numbered.{AreNumberedOnce}
use Rattle.records.specs.Profile.{Profile}
use Rattle.slice_model.specs.Grid.{HasFewPins}

module _ (design : Design) (g : Graph) (cells : Cells) (is : IsGraph design.device g) (device : IsReadDevice design.device) (side : IsReadSide design.side) (apart : OverlapsNowhere design.device)
    (its : cells_of g design.device.profile (image_of g design.config) design.side ≡ Ok cells) where
  abbrev c : Circuit
  c = circuit_of (configured_as design g cells)

  read : IsReadDesign design.device (configured_as design g cells)
  read = record { profile = device.profile; side = side; graph = is; outputs = no_overlap design.device g is (apart g is); cells = its }

  pub formed : (feeds : List (Option ℕ)) → AreInNameOrder cells → AreNumberedOnce cells → IsClean (routing_of g (image_of g design.config)) → AreFeeds (routing_of g (image_of g design.config)) feeds
      → IsFormed c cells design.side feeds
  formed feeds ordered once clean fed = record {
    its_cells = refl;
    its_side = refl;
    clean = clean;
    fed = fed;
    formed = read_well_formed design.device (configured_as design g cells) read;
    ordered = ordered;
    once = once;
  }

  pub outputs_are : (o : ℕ) → In c.routing.outputs o → o < length g.wires
  outputs_are o i = outputs_within design.device g is o i

  triplicated : IsClean (routing_of g (image_of g design.config)) → Passes (CircuitRefused g c) → IsTriplicated c
  triplicated clean passes =
      ((circuits_are g c clean (read_well_formed design.device (configured_as design g cells) read) (read_entries design.device (configured_as design g cells) read) (output_wire design.device g is)).holds passes).1

  pub sound : IsClean (routing_of g (image_of g design.config)) → Passes (CircuitRefused g c) → IsSoundCircuit c
  sound clean passes = record {
    clean = clean;
    formed = read_well_formed design.device (configured_as design g cells) read;
    triplicated = triplicated clean passes;
  }

-- a profile that is read has few pins at each table
pub few_pins : (profile : Profile) → IsReadProfile profile → HasFewPins profile
few_pins profile read = record { few = (read_fit profile read).few_pins }

-- what conducts in a live routing
pub clean_in : (live : LiveRouting) (g : Graph) (image : Bits) → live.graph ≡ g → bits live.image ≡ image → IsClean (live_routing live) → IsClean (routing_of g image)
clean_in live g image over same clean = subst (λ (x : Graph). IsClean (routing_of x image)) over (subst (λ (x : Bits). IsClean (routing_of live.graph x)) same clean)

pub fed_in : (live : LiveRouting) (g : Graph) (image : Bits) (feeds : List (Option ℕ)) → live.graph ≡ g → bits live.image ≡ image → AreFeeds (live_routing live) feeds → AreFeeds (routing_of g image) feeds
fed_in live g image feeds over same fed = subst (λ (x : Graph). AreFeeds (routing_of x image) feeds) over (subst (λ (x : Bits). AreFeeds (routing_of live.graph x) feeds) same fed)

-- what is kept of a design that no check refuses
pub loaded : (design : Design) (live : LiveRouting) (cells : Cells) (feeds : List (Option ℕ)) (g : Graph) → live.graph ≡ g → bits live.image ≡ image_of g design.config
    → IsGraph design.device g → IsReadDevice design.device → IsReadSide design.side → OverlapsNowhere design.device
    → cells_of g design.device.profile (image_of g design.config) design.side ≡ Ok cells → IsClean (routing_of g (image_of g design.config))
    → ArePinFeeds (circuit_of (configured_as design g cells)) feeds → Passes (CircuitRefused g (circuit_of (configured_as design g cells))) → IsLoaded design live cells feeds
loaded design live cells feeds g over image is device side apart its clean are passes = record {
  graph = subst (λ (x : Graph). IsGraph design.device x) (sym over) is;
  image = subst (λ (x : Graph). bits live.image ≡ image_of x design.config) (sym over) image;
  its_cells = subst (λ (x : Graph). cells_of x design.device.profile (image_of x design.config) design.side ≡ Ok cells) (sym over) its;
  its_feeds = subst (λ (x : Graph). ArePinFeeds (circuit_of (configured_as design x cells)) feeds) (sym over) are;
  sound = subst (λ (x : Graph). IsSoundCircuit (circuit_of (configured_as design x cells))) (sym over) (sound design g cells is device side apart its clean passes);
}
