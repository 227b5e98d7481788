-- What a check refuses is refused of the whole design, where the checks before it pass.
use Rattle.std.proofs.Common.{◌≡◌, Bool, true, false, not, map, inl, inr, Option, None, Ok, ap}
use Rattle.std.specs.List.{list_all, flat_map}
use Rattle.patterns.specs.Bits.{Bits}
use Rattle.links.specs.Links.{IsClean}
use Rattle.fabric.specs.Graph.{Graph}
use Rattle.fabric.specs.Image.{image_of}
use Rattle.fabric.specs.Links.{is_chosen, routing_of}
use Rattle.fabric.specs.Agree.{ArcsAgree}
use Rattle.circuit.specs.Cells.{Cells}
use Rattle.circuit.specs.Parts.{Kind, OfClock, Source, sources, output_pads}
use Rattle.circuit.specs.Pins.{Pin, PinRef, bit_pins, pad_pin, pins}
use Rattle.circuit.specs.Circuits.{Circuit}
use Rattle.circuit.specs.Triplicated.{OpenPinsIgnored, FedByClock, ClocksAreClocks, ReadsOwnDomain, TablesMask, NoTableLoop}
use Rattle.cells.specs.CellsOf.{cells_of}
use Rattle.upset.specs.Configured.{circuit_of}
use Rattle.answers.specs.Refusals.{Refusal}
use Rattle.design_files.specs.Designs.{Design}
use Rattle.formed_laws.specs.Designs.{NoOverlap}
use Rattle.design_checks.specs.Checks.{Passes, ◌before◌, Computed}
use Rattle.design_checks.specs.GraphChecks.{graph_size_refusal, Overlap}
use Rattle.design_checks.specs.LineChecks.{line_refusal}
use Rattle.design_checks.specs.RoutingChecks.{ArcsDiffer, differ, AreContested, contested}
use Rattle.design_checks.specs.CellChecks.{cell_refusal}
use Rattle.design_checks.specs.PinChecks.{SourceUnnamed, unnamed, TablesLoop, loop, IsOpen, of_part, of_pad, PinsOpen, open_pin, TakesClock, ClocksAsData, clock, RegistersUnclocked, unclocked, ReadsForeign, PinsForeign, foreign}
use Rattle.design_checks.specs.MaskChecks.{TablesFail, fails}
use Rattle.design_checks.specs.CopyChecks.{CopiesUnlike}
use Rattle.design_checks.specs.DesignChecks.{GraphRefused, TextRefused, CircuitRefused, configured_as, in_circuit, DesignRefused}
use Rattle.check_laws.proofs.Passing.{both_pass}
use Rattle.check_laws.proofs.Overlaps.{overlap_passes}
use Rattle.circuit_examples.proofs.Tests.{all_in, clash, implies, implied}
use Rattle.circuit_examples.proofs.Feeding.{feeds, is_feeds}
use Rattle.circuit_laws.proofs.Sound.{at_pin}
use Rattle.links.proofs.Members.{in_left, in_right, in_map, in_flat_map}
use Rattle.check_examples.proofs.Parts.{bits_and_pads}
use Rattle.check_examples.proofs.Loops.{is_fed_unnamed, unnamed_told, reads_table, loop_told}

no_refusal : (o : Option Refusal) → o ≡ None → Passes (Computed o)
no_refusal o e r h = (let wrong : ⊥ = cc in wrong)

-- the graph is within its limits, and no output stands twice
pub graph_passes : (design : Design) (g : Graph) → graph_size_refusal g ≡ None → NoOverlap design.device g → Passes (GraphRefused design g)
graph_passes design g small apart = both_pass (Computed (graph_size_refusal g)) (Overlap design.device g) (no_refusal (graph_size_refusal g) small) (overlap_passes design.device g apart)

true_false : (b : Bool) → b ≡ true → b ≡ false → ⊥
true_false b e f = (let wrong : ⊥ = cc in wrong)

-- what the checks of a text pass
pub record TextPasses (design : Design) (g : Graph) : Type 0 where
  pub lines : line_refusal g design.config ≡ None
  pub agree : ArcsAgree g (image_of g design.config) design.config
  pub clean : IsClean (routing_of g (image_of g design.config))
  pub no_cell : cell_refusal g design.device.profile (image_of g design.config) design.side ≡ None

module _ (design : Design) (g : Graph) where
  abbrev image : Bits
  image = image_of g design.config

  arcs_pass : ArcsAgree g image design.config → Passes (ArcsDiffer g image design.config)
  arcs_pass agree _ (differ name l) = elim l.has.differs [
    | inl h ↦ h.1.1 (agree.chosen_has_line l.has.arc l.has.listed h.0 h.1.0)
    | inr h ↦ true_false (is_chosen g image l.has.arc) (agree.line_is_chosen l.has.arc h.0) h.1
  ]

  clean_passes : IsClean (routing_of g image) → Passes (AreContested g image)
  clean_passes clean _ (contested w x y wire first second l are e f s) = elim l.has [
    | inl h ↦ h.1.1.1.1 (clean.one_driver w h.0 h.1.0 h.1.1.0 h.1.1.1.0)
    | inr h ↦ clean.outputs_undriven w h.1.0 h.0 h.1.1
  ]

  text_passes : TextPasses design g → Passes (TextRefused design g)
  text_passes p =
      both_pass (Computed (line_refusal g design.config)) (ArcsDiffer g image design.config before AreContested g image before Computed (cell_refusal g design.device.profile image design.side))
      (no_refusal (line_refusal g design.config) p.lines)
      (both_pass (ArcsDiffer g image design.config) (AreContested g image before Computed (cell_refusal g design.device.profile image design.side)) (arcs_pass p.agree)
      (both_pass (AreContested g image) (Computed (cell_refusal g design.device.profile image design.side)) (clean_passes p.clean)
      (no_refusal (cell_refusal g design.device.profile image design.side) p.no_cell)))

  module _ (graph : Passes (GraphRefused design g)) where
    pub refused_at_arcs : line_refusal g design.config ≡ None → (r : Refusal) → ArcsDiffer g (image_of g design.config) design.config r → DesignRefused design g r
    refused_at_arcs lines r h = inr (graph, inl (inr (no_refusal (line_refusal g design.config) lines, inl h)))

    pub refused_at_drivers : line_refusal g design.config ≡ None → ArcsAgree g (image_of g design.config) design.config → (r : Refusal) → AreContested g (image_of g design.config) r → DesignRefused design g r
    refused_at_drivers lines agree r h = inr (graph, inl (inr (no_refusal (line_refusal g design.config) lines, inr (arcs_pass agree, inl h))))

    pub refused_in_circuit : (cells : Cells) → TextPasses design g → cells_of g design.device.profile (image_of g design.config) design.side ≡ Ok cells → (r : Refusal)
        → CircuitRefused g (circuit_of (configured_as design g cells)) r → DesignRefused design g r
    refused_in_circuit cells passes are r h = inr (graph, inr (text_passes passes, in_circuit cells are h))

-- ---- the circuit

module _ (c : Circuit) where
  pub named_pass : (g : Graph) → list_all (λ p. not (is_fed_unnamed c p)) (pins c.cells) ≡ true → Passes (SourceUnnamed g c)
  named_pass g h _ (unnamed ref o wire l k e) = (let t = unnamed_told c ref (o, k) in
      clash (is_fed_unnamed c t.0) t.1.1.1 (all_in (λ (p : Pin). not (is_fed_unnamed c p)) (pins c.cells) t.0 h t.1.0))

  pub loops_pass : list_all (λ s. not (reads_table c s)) (sources c.cells) ≡ true → Passes (TablesLoop c)
  loops_pass h _ (loop part l) = (let t = loop_told c part l.has in
      clash (reads_table c t.0) t.1.1.1 (all_in (λ (s : Source). not (reads_table c s)) (sources c.cells) t.0 h t.1.0))

  pub no_loop_passes : NoTableLoop c → Passes (TablesLoop c)
  no_loop_passes free _ (loop part l) = free l.has.source l.has.next l.has.reads l.has.back

  none_open : OpenPinsIgnored c → (ref : PinRef) → IsOpen c ref → ⊥
  none_open ignored _ (of_part s p rs ip h) = h.1 (ignored.parts s p rs ip h.0)
  none_open ignored _ (of_pad p jp h) = h (ignored.pads p jp)

  pub open_pass : OpenPinsIgnored c → Passes (PinsOpen c)
  open_pass ignored _ (open_pin ref l) = none_open ignored ref l.has

  none_takes_clock : ClocksAreClocks c → (ref : PinRef) → TakesClock c ref → ⊥
  none_takes_clock clocks _ (of_part s p rs ip h) = clocks.parts s p rs ip h
  none_takes_clock clocks _ (of_pad p jp h) = clocks.pads p jp h

  pub data_pass : ClocksAreClocks c → Passes (ClocksAsData c)
  data_pass clocks _ (clock ref l) = none_takes_clock clocks ref l.has

  pub clocked_pass : ClocksAreClocks c → Passes (RegistersUnclocked c)
  clocked_pass clocks _ (unclocked part l) = (let p = clocks.clocked l.has.source l.has.register l.has.read l.has.is_register in l.has.unclocked p.0 p.1.0 p.1.1)

  none_foreign : ReadsOwnDomain c → (ref : PinRef) → ReadsForeign c ref → ⊥
  none_foreign own _ (of_part s p rs ip h) = elim (own.parts s p rs ip h.0) [ inl d ↦ h.1.0 d | inr v ↦ h.1.1 v ]
  none_foreign own _ (of_pad p jp h) = h.1 (own.pads p jp h.0)

  pub own_pass : ReadsOwnDomain c → Passes (PinsForeign c)
  own_pass own _ (foreign ref l) = none_foreign own ref l.has

  pub masks_pass : TablesMask c → Passes (TablesFail c)
  masks_pass masks _ (fails part n l k) = (let h = k.has in h.differs (masks h.source h.table h.read h.is_table h.other h.bits h.before h.after h.foreign h.assigned h.same))

  -- a source without a name, a loop, an open pin, a table that doesn't mask, and copies that differ are refused where all
  -- checks before pass
  pub refused_at_sources : (g : Graph) (r : Refusal) → SourceUnnamed g c r → CircuitRefused g c r
  refused_at_sources g r h = inl h

  pub refused_at_loops : (g : Graph) → Passes (SourceUnnamed g c) → (r : Refusal) → TablesLoop c r → CircuitRefused g c r
  refused_at_loops g named r h = inr (named, inl h)

  pub refused_at_open : (g : Graph) → Passes (SourceUnnamed g c) → Passes (TablesLoop c) → (r : Refusal) → PinsOpen c r → CircuitRefused g c r
  refused_at_open g named flat r h = inr (named, inr (flat, inl h))

  pub refused_at_tables : (g : Graph) → Passes (SourceUnnamed g c) → Passes (TablesLoop c) → OpenPinsIgnored c → ClocksAreClocks c → ReadsOwnDomain c → (r : Refusal) → TablesFail c r → CircuitRefused g c r
  refused_at_tables g named flat ignored clocks own r h =
      inr (named, inr (flat, inr (open_pass ignored, inr (data_pass clocks, inr (clocked_pass clocks, inr (own_pass own, inl h))))))

  pub refused_at_copies : (g : Graph) → Passes (SourceUnnamed g c) → Passes (TablesLoop c) → OpenPinsIgnored c → ClocksAreClocks c → ReadsOwnDomain c → TablesMask c → (r : Refusal) → CopiesUnlike c r
      → CircuitRefused g c r
  refused_at_copies g named flat ignored clocks own masks r h =
      inr (named, inr (flat, inr (open_pass ignored, inr (data_pass clocks, inr (clocked_pass clocks, inr (own_pass own, inr (masks_pass masks, inl h)))))))

  -- a clock pad feeds no pin that counts as a bit
  abbrev is_clock : Kind → Bool
  is_clock OfClock = true
  is_clock _ = false

  abbrev clockless : Pin → Bool
  clockless p = list_all (λ a. implies (is_clock a.kind) (not (feeds c a p.wire))) (sources c.cells)

  no_clock : (p : Pin) → clockless p ≡ true → FedByClock c p → ⊥
  no_clock p h f = clash (feeds c f.0 p.wire) (is_feeds c f.0 p.wire (at_pin c f.0 p f.1.0))
      (implied (is_clock f.0.kind) (not (feeds c f.0 p.wire)) (all_in (λ (a : Source). implies (is_clock a.kind) (not (feeds c a p.wire))) (sources c.cells) f.0 h f.1.0.source) (ap is_clock f.1.1))

  none_is_clock : list_all clockless (bits_and_pads c) ≡ true → (ref : PinRef) → TakesClock c ref → ⊥
  none_is_clock all _ (of_part s p rs ip h) =
      no_clock p (all_in clockless (bits_and_pads c) p all (in_left (flat_map bit_pins (sources c.cells)) (map pad_pin (output_pads c.cells)) p (in_flat_map bit_pins (sources c.cells) s p rs.listed ip))) h
  none_is_clock all _ (of_pad p jp h) =
      no_clock (pad_pin p) (all_in clockless (bits_and_pads c) (pad_pin p) all (in_right (flat_map bit_pins (sources c.cells)) (map pad_pin (output_pads c.cells)) (pad_pin p) (in_map pad_pin (output_pads c.cells) p jp))) h

  dataless : list_all clockless (bits_and_pads c) ≡ true → Passes (ClocksAsData c)
  dataless all _ (clock ref l) = none_is_clock all ref l.has

  -- and so is a register without a clock
  pub refused_at_clocks : (g : Graph) → Passes (SourceUnnamed g c) → Passes (TablesLoop c) → OpenPinsIgnored c → list_all clockless (bits_and_pads c) ≡ true → (r : Refusal) → RegistersUnclocked c r → CircuitRefused g c r
  refused_at_clocks g named flat ignored all r h = inr (named, inr (flat, inr (open_pass ignored, inr (dataless all, inl h))))
