-- What a candidate is asked can be decided.
use Rattle.std.proofs.Common.{◌≡◌, ◌≢◌, ℕ, true, ◌⊎◌, inl, inr, List, map, Option, Some, None, refl, sym, subst, ◌∙◌}
use Rattle.std.specs.Prelude.{option_and_then}
use Rattle.words.specs.Members.{In}
use Rattle.records.specs.Config.{ArcLine, TileText, Config}
use Rattle.links.specs.Links.{Link, Routing, Feeds, Fed, Counting, IsClean}
use Rattle.links.proofs.Members.{in_map, is_in, same_number}
use Rattle.links.proofs.Feeds.{is_output, is_fed}
use Rattle.patterns.specs.Bits.{Bits}
use Rattle.patterns.specs.Fits.{has_plain_bit}
use Rattle.fabric.specs.Graph.{GraphArc, Graph}
use Rattle.fabric.specs.Links.{is_chosen}
use Rattle.fabric.specs.Agree.{HasLine, ArcsAgree}
use Rattle.fabric_laws.proofs.Agreeing.{line_listed}
use Rattle.fabric_laws.proofs.Graphs.{some_same}
use Rattle.fabric.specs.Image.{tile_named, arc_of_line}
use Rattle.circuit.specs.Parts.{OfClock, Source, sources}
use Rattle.circuit.specs.Pins.{Pin, pins}
use Rattle.circuit.specs.Circuits.{Circuit, Connection, IsConnection}
use Rattle.repair.specs.Layouts.{configured}
use Rattle.repair.specs.Plain.{IsPlain}
use Rattle.repair.specs.Ripping.{IsRippedLine}
use Rattle.repair.specs.Turns.{routing}
use Rattle.attempts.specs.Jobs.{Job, State, read_of, IsRippedBy, IsRippedPart}
use Rattle.attempts.specs.Candidates.{IsNewWire, IsClockLine, IsRemoved, IsClockRipped, BecomesRipped}
use Rattle.words.proofs.Decided.{Decided, both, either, never, decided_by, is_true, some_in}
use Rattle.route_laws.proofs.Same.{names, arcs, parts, pin_refs}
use Rattle.route_laws.proofs.Usable.{all_in, if_then, is_feed, is_connection, is_plain}
use Rattle.answer_laws.proofs.Ripped.{some_of, connections, is_clock, is_ripped_line, is_ripped_by, is_ripped_part}

-- ---- routings

pub is_clean : (r : Routing) → Decided (IsClean r)
is_clean r = decided_by
    (λ h. record {
      one_driver = λ w x y c d. h.0 (record { source = x; sink = w }) c.0 (record { source = y; sink = w }) d.0 refl c.1 d.1;
      outputs_undriven = λ w x i c. h.1 (record { source = x; sink = w }) c.0 i c.1;
    })
    (λ clean. (
      (λ l i m j e f g. clean.one_driver l.sink l.source m.source (i, f) (subst (λ z. In r.links (record { source = m.source; sink = z })) (sym e) j, g)),
      (λ l i o f. clean.outputs_undriven l.sink l.source o (i, f)),
    ))
    (both (all_in (λ l. (m : Link) → In r.links m → l.sink ≡ m.sink → Fed r l.source → Fed r m.source → l.source ≡ m.source)
    (λ l. all_in (λ m. l.sink ≡ m.sink → Fed r l.source → Fed r m.source → l.source ≡ m.source)
    (λ m. if_then (same_number l.sink m.sink) (if_then (is_fed r l.source) (if_then (is_fed r m.source) (same_number l.source m.source)))) r.links) r.links)
    (all_in (λ l. In r.outputs l.sink → Fed r l.source → ⊥) (λ l. if_then (is_output r l.sink) (never (is_fed r l.source))) r.links))

-- an optional value is this one
is_value : {X : Type 0} → ((a b : X) → (a ≡ b) ⊎ (a ≢ b)) → (o : Option X) (x : X) → Decided (o ≡ Some x)
is_value told None x = inr (λ e. let no : ⊥ = cc in no)
is_value told (Some y) x = elim (told y x) [ inl e ↦ inl (λ i. Some (e i)) | inr n ↦ inr (λ e. n (some_same e)) ]

module _ (g : Graph) (image : Bits) (config : Config) where
  pub has_line : (arc : GraphArc) → Decided (HasLine g config arc)
  has_line arc = decided_by
      (λ h. record { text = h.0; line = h.1.1.0; section = h.1.0; listed = h.1.1.1.0; is = h.1.1.1.1 })
      (λ r. (r.text, (r.section, (r.line, (r.listed, r.is)))))
      (some_in (λ text. (line : ArcLine) × (In text.arcs line × (option_and_then (λ tile. arc_of_line g tile line) (tile_named g text.tile) ≡ Some arc)))
      (λ text. some_in (λ line. option_and_then (λ tile. arc_of_line g tile line) (tile_named g text.tile) ≡ Some arc)
      (λ line. is_value arcs (option_and_then (λ tile. arc_of_line g tile line) (tile_named g text.tile)) arc) text.arcs) config.tiles)

  pub arcs_agree : Decided (ArcsAgree g image config)
  arcs_agree = decided_by
      (λ h. record { chosen_has_line = h.0; line_is_chosen = λ arc l. h.1 arc (line_listed g config arc l) l })
      (λ a. (a.chosen_has_line, (λ arc i l. a.line_is_chosen arc l)))
      (both (all_in (λ arc. is_chosen g image arc ≡ true → has_plain_bit arc.arc.bits ≡ true → HasLine g config arc)
      (λ arc. if_then (is_true (is_chosen g image arc)) (if_then (is_true (has_plain_bit arc.arc.bits)) (has_line arc))) g.arcs)
      (all_in (λ arc. HasLine g config arc → is_chosen g image arc ≡ true) (λ arc. if_then (has_line arc) (is_true (is_chosen g image arc))) g.arcs))

-- each feed of a pin is a modelled output
pub is_modelled : (c : Circuit) → Decided ((p : Pin) (o : ℕ) → In (pins c.cells) p → Feeds c.routing o p.wire → (s : Source) × (In (sources c.cells) s × (s.out ≡ o)))
is_modelled c = decided_by (λ h p o i f. h p i o f.output f) (λ h p i o j f. h p o i f)
    (all_in (λ p. (o : ℕ) → In c.routing.outputs o → Feeds c.routing o p.wire → (s : Source) × (In (sources c.cells) s × (s.out ≡ o)))
    (λ p. all_in (λ o. Feeds c.routing o p.wire → (s : Source) × (In (sources c.cells) s × (s.out ≡ o)))
    (λ o. if_then (is_feed c.routing o p.wire) (some_in (λ s. s.out ≡ o) (λ s. same_number s.out o) (sources c.cells))) c.routing.outputs) (pins c.cells))

-- ---- what a move removes

module _ (job : Job) (state : State) (slice : List ℕ) where
  is_new_wire : (w : ℕ) → Decided (IsNewWire job state slice w)
  is_new_wire w = decided_by (λ h. (h.0, ((h.1.0, h.1.1.0), h.1.1.1))) (λ h. (h.0, (h.1.0.0, (h.1.0.1, h.1.1))))
      (some_in (λ s. (IsRippedBy job slice s.part × (IsRippedPart job state.moved s.part → ⊥)) × (s.out ≡ w))
      (λ s. both (both (is_ripped_by job slice s.part) (never (is_ripped_part job state.moved s.part))) (same_number s.out w)) (sources state.layout.cells))

  new_wire_listed : (w : ℕ) → IsNewWire job state slice w → In (map (λ s. s.out) (sources state.layout.cells)) w
  new_wire_listed w h = subst (In (map (λ s. s.out) (sources state.layout.cells))) h.1.1 (in_map (λ s. s.out) (sources state.layout.cells) h.0 h.1.0.0)

  module _ (Also : Pin → Source → Type 0) (test : (p : Pin) (s : Source) → Decided (Also p s)) where
    -- a clock line with its pin and its net
    abbrev pub ClockLineWith : List ℕ → ArcLine → Type 0
    ClockLineWith tile line = (c : IsClockLine state slice tile line) × Also c.pin c.net

    abbrev OfNet : GraphArc → Pin → Source → Type 0
    OfNet arc p s = (s.kind ≡ OfClock) × (Feeds (routing (configured state.layout)) s.out arc.sink × Also p s)

    abbrev OfPin : GraphArc → Pin → Type 0
    OfPin arc p = (p.ref.part.cell ≡ slice) × ((p.wire ≡ arc.sink) × ((s : Source) × (In (sources state.layout.cells) s × OfNet arc p s)))

    abbrev OfArc : GraphArc → Type 0
    OfArc arc = IsPlain state.layout.graph state.layout.config arc.mux × ((p : Pin) × (In (pins state.layout.cells) p × OfPin arc p))

    of_net : (arc : GraphArc) (p : Pin) (s : Source) → Decided (OfNet arc p s)
    of_net arc p s = both (is_clock s.kind) (both (is_feed (routing (configured state.layout)) s.out arc.sink) (test p s))

    of_pin : (arc : GraphArc) (p : Pin) → Decided (OfPin arc p)
    of_pin arc p = both (names p.ref.part.cell slice) (both (same_number p.wire arc.sink) (some_in (OfNet arc p) (of_net arc p) (sources state.layout.cells)))

    of_arc : (arc : GraphArc) → Decided (OfArc arc)
    of_arc arc = both (is_plain state.layout.graph state.layout.config arc.mux) (some_in (OfPin arc) (of_pin arc) (pins state.layout.cells))

    abbrev Clocked : List ℕ → ArcLine → Type 0
    Clocked tile line = (arc : GraphArc) × ((option_and_then (λ number. arc_of_line state.layout.graph number line) (tile_named state.layout.graph tile) ≡ Some arc) × OfArc arc)

    clocked_from : (tile : List ℕ) (line : ArcLine) → Clocked tile line → ClockLineWith tile line
    clocked_from tile line h =
        let at = h.1.1.1 in
        let net = at.1.1.1.1 in (
          record {
            arc = h.0;
            named = h.1.0;
            plain = h.1.1.0;
            pin = at.0;
            listed = at.1.0;
            of_slice = at.1.1.0;
            at_pin = at.1.1.1.0;
            net = net.0;
            is_net = net.1.0;
            is_clock = net.1.1.0;
            feeds = net.1.1.1.0;
          },
          net.1.1.1.1,
        )

    clocked_to : (tile : List ℕ) (line : ArcLine) → ClockLineWith tile line → Clocked tile line
    clocked_to tile line h = let c = h.0 in (c.arc, (c.named, (c.plain, (c.pin, (c.listed, (c.of_slice, (c.at_pin, (c.net, (c.is_net, (c.is_clock, (c.feeds, h.1)))))))))))

    pub clock_line_with : (tile : List ℕ) (line : ArcLine) → Decided (ClockLineWith tile line)
    clock_line_with tile line = decided_by (clocked_from tile line) (clocked_to tile line)
        (some_of (option_and_then (λ number. arc_of_line state.layout.graph number line) (tile_named state.layout.graph tile)) OfArc of_arc)

  abbrev Any : Pin → Source → Type 0
  Any p s = Unit {0}

  is_clock_line : (tile : List ℕ) (line : ArcLine) → Decided (IsClockLine state slice tile line)
  is_clock_line tile line = decided_by (λ h. h.0) (λ c. (c, tt)) (clock_line_with Any (λ p s. inl tt) tile line)

  pub is_removed : (tile : List ℕ) (line : ArcLine) → Decided (IsRemoved job state slice tile line)
  is_removed tile line = either
      (is_ripped_line (IsNewWire job state slice) is_new_wire (map (λ s. s.out) (sources state.layout.cells)) new_wire_listed state.layout.config (configured state.layout) tile line)
      (is_clock_line tile line)

  -- ---- what a move rips

  abbrev Joins : Connection → Pin → Source → Type 0
  Joins x p s = (x.source ≡ s.part) × (x.pin ≡ p.ref)

  abbrev AtLine : Connection → TileText → ArcLine → Type 0
  AtLine x text line = (c : IsClockLine state slice text.tile line) × Joins x c.pin c.net

  is_clock_ripped : (x : Connection) → Decided (IsClockRipped state slice x)
  is_clock_ripped x = decided_by
      (λ h. record { text = h.0; line = h.1.1.0; section = h.1.0; listed = h.1.1.1.0; clock = h.1.1.1.1.0; from = h.1.1.1.1.1.0; to = h.1.1.1.1.1.1 })
      (λ r. (r.text, (r.section, (r.line, (r.listed, (r.clock, (r.from, r.to)))))))
      (some_in (λ text. (line : ArcLine) × (In text.arcs line × AtLine x text line))
      (λ text. some_in (AtLine x text) (λ line. clock_line_with (Joins x) (λ p s. both (parts x.source s.part) (pin_refs x.pin p.ref)) text.tile line) text.arcs)
      state.layout.config.tiles)

  pub becomes_ripped : (x : Connection) → Decided (BecomesRipped job state slice x)
  becomes_ripped x = decided_by
      (λ h. record { connects = h.0; new = h.1.0; lost = h.1.1 })
      (λ r. (r.connects, (r.new, r.lost)))
      (both (is_connection (read_of job) x) (both (never (is_in connections state.order x))
      (either (both (is_ripped_by job slice x.source) (never (is_ripped_part job state.moved x.source))) (is_clock_ripped x))))
