-- The cells of a design that fits are well formed, and a design that is read fits.
use Rattle.std.proofs.Common.{◌≡◌, ap₂, sym, subst}
use Rattle.words.specs.Members.{In}
use Rattle.patterns.specs.Bits.{DeviceBit, Bits}
use Rattle.records.specs.Side.{Domain, Side}
use Rattle.links.specs.Links.{Routing, IsClean}
use Rattle.fabric.specs.Device.{Device}
use Rattle.fabric.specs.Graph.{Graph}
use Rattle.fabric.specs.GraphOf.{IsGraph}
use Rattle.circuit.specs.Circuits.{Circuit}
use Rattle.circuit.specs.Faults.{Fault}
use Rattle.circuit.specs.Right.{RightOutside, TwoAreRight}
use Rattle.circuit.specs.Cells.{SliceCell, PadCell}
use Rattle.circuit.specs.Triplicated.{EntriesInDomain, IsTriplicated}
use Rattle.circuit.specs.WellFormed.{NamesApart, OutputsApart, TriplesFit, SizesFit, IsWellFormed}
use Rattle.cells.specs.CellsOf.{IsCircuitOf}
use Rattle.upset.specs.Effect.{IsEffect}
use Rattle.upset.specs.Safe.{IsBad, IsSafe, IsMuxFault}
use Rattle.upset_laws.specs.PlainUpset.{OutputsListed}
use Rattle.upset_laws.proofs.Masked.{flips_masked, mux_bits_masked}
use Rattle.upset.specs.Configured.{Configured, circuit_of}
use Rattle.repair.specs.Plain.{setting_bits}
use Rattle.repair.specs.Turns.{routing}
use Rattle.repair_laws.specs.Ready.{BitsAreSettings, IsReady}
use Rattle.cells_laws.proofs.Sites.{site_stands}
use Rattle.formed_laws.specs.Readers.{IsReadProfile, IsReadSide}
use Rattle.formed_laws.specs.Designs.{NoOverlap, IsReadDesign, IsFitDesign}
use Rattle.formed_laws.proofs.SideRead.{read_apart}
use Rattle.formed_laws.proofs.ProfileRead.{read_fit}
use Rattle.formed_laws.proofs.Placed as placed
use Rattle.formed_laws.proofs.Sizes as sizes
use Rattle.formed_laws.proofs.Outputs as outputs
use Rattle.formed_laws.proofs.Settings.{site_bits_are}

module _ (device : Device) (k : Configured) (r : IsFitDesign device k) where
  pub names_apart : NamesApart k.cells
  names_apart = placed.names_apart device k r.side r.cells

  pub triples_fit : TriplesFit (circuit_of k)
  triples_fit = placed.triples_fit device k r.side r.cells

  pub sizes_fit : SizesFit (circuit_of k)
  sizes_fit = sizes.sizes_fit device k r.side r.profile r.cells

  pub outputs_apart : OutputsApart (circuit_of k)
  outputs_apart = outputs.outputs_apart device k r.side r.profile r.graph r.outputs r.cells

  pub outputs_listed : OutputsListed k
  outputs_listed s i = outputs_apart.listed s i

  pub well_formed : IsWellFormed (circuit_of k)
  well_formed = record { names = names_apart; outputs = outputs_apart; triples = triples_fit; sizes = sizes_fit }

  -- other routing between the same cells changes none of it
  pub formed_in_any_image : (image : Bits) → IsWellFormed (circuit_of (record k { image = image }))
  formed_in_any_image image =
      let t = triples_fit in
      let z = sizes_fit in
      record {
        names = names_apart;
        outputs = record { listed = outputs_apart.listed; alone = outputs_apart.alone };
        triples = record { slices = t.slices; inputs = t.inputs; outputs = t.outputs; clocks = t.clocks; paired = t.paired; once = t.once };
        sizes = record { tables = z.tables; registers = z.registers; some_pins = z.some_pins; few_pins = z.few_pins };
      }

  pub bits_are_settings : BitsAreSettings k
  bits_are_settings = record { slices = of_slice; pads = of_pad }
    where
      of_slice : (s : SliceCell) → In k.cells.slices s → (b : DeviceBit) → In s.bits b → In (setting_bits k.graph) b
      of_slice s i b j =
          let a = placed.of_slice device k r.side r.cells s i in
          let st = site_stands k.graph device.profile.slices (λ q. q.tile) (λ q. q.name) a.placed a.site a.stands in
          site_bits_are k.graph a.site a.site.kind.settings st.in_grid b (subst (λ (c : SliceCell). In c.bits b) (sym a.cell) j)

      of_pad : (p : PadCell) → In k.cells.pads p → (b : DeviceBit) → In p.bits b → In (setting_bits k.graph) b
      of_pad p i b j =
          let a = placed.of_pad device k r.side r.cells p i in
          let st = site_stands k.graph device.profile.pads (λ q. q.tile) (λ q. q.name) a.placed a.site a.stands in
          site_bits_are k.graph a.site a.site.kind.settings st.in_grid b (subst (λ (c : PadCell). In c.bits b) (sym a.cell) j)

  pub ready : IsClean (routing k) → IsReady device k
  ready clean = record { graph = r.graph; clean = clean; outputs = outputs_apart; settings = bits_are_settings }

  pub entries_in_domain : EntriesInDomain (circuit_of k)
  entries_in_domain = placed.entries_in_domain device k r.side r.cells

-- a design that is read fits
pub read_fits : (device : Device) (k : Configured) → IsReadDesign device k → IsFitDesign device k
read_fits device k r = record {
  profile = read_fit device.profile r.profile;
  side = read_apart k.side r.side;
  graph = r.graph;
  outputs = r.outputs;
  cells = r.cells;
}

module _ (device : Device) (k : Configured) (r : IsReadDesign device k) where
  fits : IsFitDesign device k
  fits = read_fits device k r

  pub read_well_formed : IsWellFormed (circuit_of k)
  read_well_formed = well_formed device k fits

  pub read_entries : EntriesInDomain (circuit_of k)
  read_entries = entries_in_domain device k fits

  pub read_listed : OutputsListed k
  read_listed = outputs_listed device k fits

  pub read_ready : IsClean (routing k) → IsReady device k
  read_ready = ready device k fits

  -- flips that aren't bad are masked, and so is each routing-mux bit where the image is safe
  pub read_flips_masked : IsClean (routing k) → IsTriplicated (circuit_of k) → (flips : Bits) (f : Fault) → IsEffect k flips f → (IsBad k flips → ⊥)
      → ((d : Domain) × RightOutside (circuit_of k) f d) × TwoAreRight (circuit_of k) f
  read_flips_masked clean triplicated = flips_masked k clean read_well_formed triplicated

  pub read_mux_bits_masked : IsClean (routing k) → IsTriplicated (circuit_of k) → IsSafe k → (f : Fault) → IsMuxFault k f
      → ((d : Domain) × RightOutside (circuit_of k) f d) × TwoAreRight (circuit_of k) f
  read_mux_bits_masked clean triplicated = mux_bits_masked k clean read_well_formed triplicated

-- the circuit that an image makes, with its parts put together
module _ (device : Device) (g : Graph) (image : Bits) (side : Side) (c : Circuit) (profile : IsReadProfile device.profile) (read : IsReadSide side)
    (graph : IsGraph device g) (overlap : NoOverlap device g) (made : IsCircuitOf g device.profile image side c) where
  abbrev configured : Configured
  configured = record { graph = g; image = image; cells = c.cells; side = side }

  same_circuit : circuit_of configured ≡ c
  same_circuit = ap₂ (λ (r : Routing) (s : Side). let d : Circuit = record { routing = r; cells = c.cells; side = s } in d) (sym made.routing) (sym made.same_side)

  design : IsReadDesign device configured
  design = record { profile = profile; side = read; graph = graph; outputs = overlap; cells = made.cells }

  pub circuit_formed : IsWellFormed c × EntriesInDomain c
  circuit_formed = (subst IsWellFormed same_circuit (read_well_formed device configured design), subst EntriesInDomain same_circuit (read_entries device configured design))
