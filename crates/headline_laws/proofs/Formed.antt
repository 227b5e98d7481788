-- Cells are well formed whatever image stands with them, and where the side file keeps its cells apart.
use Rattle.std.proofs.Common.{◌≡◌, sym, subst}
use Rattle.std.specs.Prelude.{Ok}
use Rattle.words.specs.Members.{In}
use Rattle.patterns.specs.Bits.{DeviceBit, Bits}
use Rattle.links.specs.Links.{IsClean}
use Rattle.fabric.specs.Device.{Device}
use Rattle.fabric.specs.GraphOf.{IsGraph}
use Rattle.circuit.specs.Cells.{SliceCell, PadCell}
use Rattle.circuit.specs.WellFormed.{IsWellFormed}
use Rattle.cells.specs.CellsOf.{cells_of}
use Rattle.upset.specs.Configured.{Configured, circuit_of}
use Rattle.repair.specs.Added.{with_image}
use Rattle.repair.specs.Plain.{setting_bits}
use Rattle.repair.specs.Turns.{routing}
use Rattle.repair_laws.specs.Ready.{BitsAreSettings, IsReady}
use Rattle.cells_laws.proofs.Sites.{site_stands}
use Rattle.formed_laws.specs.SideRead.{IsApart}
use Rattle.formed_laws.specs.ProfileRead.{IsFit}
use Rattle.formed_laws.specs.Designs.{NoOverlap}
use Rattle.formed_laws.proofs.Placed as placed
use Rattle.formed_laws.proofs.Sizes as sizes
use Rattle.formed_laws.proofs.Outputs as outputs
use Rattle.formed_laws.proofs.Settings.{site_bits_are}

module _ (k : Configured) (image : Bits) where
  pub formed_over : IsWellFormed (circuit_of k) → IsWellFormed (circuit_of (with_image k image))
  formed_over f = record {
    names = f.names;
    outputs = record { listed = f.outputs.listed; alone = f.outputs.alone };
    triples = record { slices = f.triples.slices; inputs = f.triples.inputs; outputs = f.triples.outputs; clocks = f.triples.clocks; paired = f.triples.paired; once = f.triples.once };
    sizes = record { tables = f.sizes.tables; registers = f.sizes.registers; some_pins = f.sizes.some_pins; few_pins = f.sizes.few_pins };
  }

  pub ready_over : (device : Device) → IsReady device k → IsClean (routing (with_image k image)) → IsReady device (with_image k image)
  ready_over device r clean = record {
    graph = r.graph;
    clean = clean;
    outputs = record { listed = r.outputs.listed; alone = r.outputs.alone };
    settings = record { slices = r.settings.slices; pads = r.settings.pads };
  }

module _ (device : Device) (k : Configured) (apart : IsApart k.side) (fit : IsFit device.profile) (is : IsGraph device k.graph)
    (overlap : NoOverlap device k.graph) (made : cells_of k.graph device.profile k.image k.side ≡ Ok k.cells) where
  pub well_formed : IsWellFormed (circuit_of k)
  well_formed = record {
    names = placed.names_apart device k apart made;
    outputs = outputs.outputs_apart device k apart fit is overlap made;
    triples = placed.triples_fit device k apart made;
    sizes = sizes.sizes_fit device k apart fit made;
  }

  bits_are_settings : BitsAreSettings k
  bits_are_settings = record { slices = of_slice; pads = of_pad }
    where
      of_slice : (s : SliceCell) → In k.cells.slices s → (b : DeviceBit) → In s.bits b → In (setting_bits k.graph) b
      of_slice s i b j =
          let a = placed.of_slice device k apart made s i in
          let st = site_stands k.graph device.profile.slices (λ q. q.tile) (λ q. q.name) a.placed a.site a.stands in
          site_bits_are k.graph a.site a.site.kind.settings st.in_grid b (subst (λ (c : SliceCell). In c.bits b) (sym a.cell) j)

      of_pad : (p : PadCell) → In k.cells.pads p → (b : DeviceBit) → In p.bits b → In (setting_bits k.graph) b
      of_pad p i b j =
          let a = placed.of_pad device k apart made p i in
          let st = site_stands k.graph device.profile.pads (λ q. q.tile) (λ q. q.name) a.placed a.site a.stands in
          site_bits_are k.graph a.site a.site.kind.settings st.in_grid b (subst (λ (c : PadCell). In c.bits b) (sym a.cell) j)

  pub ready : IsClean (routing k) → IsReady device k
  ready clean = record { graph = is; clean = clean; outputs = well_formed.outputs; settings = bits_are_settings }
