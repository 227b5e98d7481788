-- The plain lists of ripped nets and connections, the text without routes and the test of an order are exact.
use Rattle.std.proofs.Common.{◌≡◌, ℕ, Bool, true, false, ◌↔◌, inl, inr, List, [], ◌∷◌, ◌++◌, map, filter, Option, Some, None, cond, refl, sym, subst}
use Rattle.std.specs.Prelude.{not, ◌&&◌, option_and_then}
use Rattle.std.specs.List.{list_any}
use Rattle.std.specs.Option.{option_map_or}
use Rattle.std.specs.Ordering.{is_lt}
use Rattle.std.specs.declared.cmp.Ordering.{Ordering}
use Rattle.std.specs.declared.cmp.Ordering.TheVariants.{Less, Equal, Greater}
use Rattle.std.proofs.lemmas.Bool.{false≢true}
use Rattle.words.specs.Members.{In}
use Rattle.patterns.specs.Bits.{DeviceBit}
use Rattle.records.specs.Config.{ArcLine, TileText, Config}
use Rattle.records.specs.Ripping.{Rip, RipUnsafe, RipAll}
use Rattle.links.specs.Links.{Routing, here, onto, Feeds, Upstream}
use Rattle.links.proofs.Members.{in_left, in_right, in_either, in_flat_map, of_flat_map}
use Rattle.links.proofs.Below.{below_sound, below_complete}
use Rattle.links.proofs.Feeds.{feeds_on}
use Rattle.links.specs.Below.{below, has}
use Rattle.fabric.specs.Device.{Device}
use Rattle.fabric.specs.Graph.{GraphArc}
use Rattle.fabric.specs.InOrder.{IsRising}
use Rattle.fabric.specs.Image.{tile_named, arc_of_line}
use Rattle.fabric.specs.MuxBits.{mux_bits, is_mux_bit}
use Rattle.circuit.specs.Cells.{Cells}
use Rattle.circuit.specs.Parts.{Source, sources}
use Rattle.circuit.specs.Circuits.{Connection}
use Rattle.upset.specs.Configured.{Configured}
use Rattle.upset.specs.Safe.{IsBad, only}
use Rattle.upset_laws.specs.PlainUpset.{hit_wires, short_sources, is_bad}
use Rattle.upset_laws.proofs.PlainDomains.{hits_law, shorts_law, bad_law}
use Rattle.repair.specs.Layouts.{configured}
use Rattle.repair.specs.Lines.{WithoutLines, no_lines, keeps, drops, WithoutArcLines, TextsWithout, no_texts, next_text}
use Rattle.repair.specs.Nets.{nets, clock_nets, IsReached, IsChosenToRip, IsRipped}
use Rattle.repair.specs.Plain.{IsPlain}
use Rattle.repair.specs.Ripping.{IsRippedLine, IsRest}
use Rattle.repair.specs.Turns.{routing}
use Rattle.attempts.specs.Jobs.{Job, State, read_of, IsRippedPart}
use Rattle.attempts.specs.Starts.{IsRippedAtStart, IsFirstState}
use Rattle.attempts.specs.Wires.{connection_cmp}
use Rattle.route_laws.specs.PlainParts.{same_part, connections, is_listed}
use Rattle.route_laws.specs.PlainUsable.{is_plain}
use Rattle.route_laws.specs.PlainStarts.{bad_wires, chosen_nets, ripped_nets, wires_of, is_ripped_line, section_without, without_lines, rest_of, ripped_connections, rises, is_order}
use Rattle.route_laws.proofs.Tests.{Tells, tells_as, tells_and, tells_not, tells_all, tells_any, filtered, tells_has, tells_bit}
use Rattle.route_laws.proofs.Parts.{tells_part, tells_listed, connections_law}
use Rattle.route_laws.proofs.Rules.{IsToldBy, tells_plain}

-- the lines of a section that don't pass a test
lines_without : (test : ArcLine → Bool) (Dropped : ArcLine → Type 0) → ((line : ArcLine) → Tells (test line) (Dropped line)) → (lines : List ArcLine)
    → WithoutLines Dropped lines (filter (λ line. not (test line)) lines)
lines_without test Dropped tells [] = no_lines
lines_without test Dropped tells (line ∷ lines) = go (test line) (tells line) (lines_without test Dropped tells lines)
  where
    go : (b : Bool) → Tells b (Dropped line) → WithoutLines Dropped lines (filter (λ l. not (test l)) lines)
        → WithoutLines Dropped (line ∷ lines) (cond (not b) (line ∷ filter (λ l. not (test l)) lines) (filter (λ l. not (test l)) lines))
    go true t rest = drops (t.from refl) rest
    go false t rest = keeps (λ d. false≢true (t.to d)) rest

texts_without : (test : List ℕ → ArcLine → Bool) (Dropped : List ℕ → ArcLine → Type 0) → ((tile : List ℕ) (line : ArcLine) → Tells (test tile line) (Dropped tile line))
    → (texts : List TileText) → TextsWithout Dropped texts (map (section_without test) texts)
texts_without test Dropped tells [] = no_texts
texts_without test Dropped tells (text ∷ texts) =
    next_text (record { arcs = lines_without (test text.tile) (Dropped text.tile) (tells text.tile) text.arcs; others = refl }) (texts_without test Dropped tells texts)

pub without_law : (test : List ℕ → ArcLine → Bool) (Dropped : List ℕ → ArcLine → Type 0) → ((tile : List ℕ) (line : ArcLine) → Tells (test tile line) (Dropped tile line))
    → (config : Config) → WithoutArcLines Dropped config (without_lines test config)
without_law test Dropped tells config = record { texts = texts_without test Dropped tells config.tiles; others = refl }

-- what feeds a wire feeds the wires that it stands on
feeds_back : (r : Routing) (c x w : ℕ) → Upstream r x w → Feeds r c w → Feeds r c x
feeds_back r c x w here f = f
feeds_back r c x w (onto {b} q s) f = feeds_back r c x b q (feeds_on r c w b f s.0)

module _ (device : Device) (k : Configured) (p : IsToldBy device k) where
  begins : DeviceBit → List ℕ
  begins b = hit_wires k (only b) ++ short_sources k (only b)

  bad_bits : List DeviceBit
  bad_bits = filter (λ b. is_bad k (only b)) (mux_bits k.graph)

  bad_bit : (b : DeviceBit) → In bad_bits b ↔ (In (mux_bits k.graph) b × IsBad k (only b))
  unfolding bad_bits
  bad_bit b = filtered (λ b. is_bad k (only b)) (λ b. IsBad k (only b)) (mux_bits k.graph)
      (λ x i. record { from = (bad_law device k p.graph p.clean p.outputs (only x)).0; to = (bad_law device k p.graph p.clean p.outputs (only x)).1 }) b

  -- a net feeds a wire where a bad bit begins to disturb
  FeedsBad : ℕ → Type 0
  FeedsBad net = (w : ℕ) × (In (bad_wires k) w × Feeds (routing k) net w)

  reached_from : (net : ℕ) → FeedsBad net → IsReached k net
  unfolding FeedsBad begins bad_bits
  reached_from net h =
      let r = of_flat_map begins bad_bits h.0 h.1.0 in
      let b = (bad_bit r.0).0 r.1.0 in
      record {
        bit = r.0;
        mux_bit = (tells_bit (mux_bits k.graph) r.0).to b.0;
        bad = b.1;
        wire = h.0;
        disturbed = elim (in_either (hit_wires k (only r.0)) (short_sources k (only r.0)) h.0 r.1.1) [
          | inl i ↦ inl ((hits_law device k p.graph (only r.0) h.0).0 i)
          | inr i ↦ inr (h.0, ((shorts_law device k p.graph (only r.0) h.0).0 i, here))
        ];
        feeds = h.1.1;
      }

  bad_begin : (b : DeviceBit) (w : ℕ) → is_mux_bit k.graph b ≡ true → IsBad k (only b) → In (begins b) w → In (bad_wires k) w
  unfolding begins bad_bits
  bad_begin b w m bad i = in_flat_map begins bad_bits b w ((bad_bit b).1 ((tells_bit (mux_bits k.graph) b).from m, bad)) i

  reached_to : (net : ℕ) → IsReached k net → FeedsBad net
  unfolding FeedsBad begins
  reached_to net r = elim r.disturbed [
    | inl hit ↦ (r.wire, (bad_begin r.bit r.wire r.mux_bit r.bad (in_left (hit_wires k (only r.bit)) (short_sources k (only r.bit)) r.wire ((hits_law device k p.graph (only r.bit) r.wire).1 hit)), r.feeds))
    | inr x ↦ (
      x.0,
      (
        bad_begin r.bit x.0 r.mux_bit r.bad (in_right (hit_wires k (only r.bit)) (short_sources k (only r.bit)) x.0 ((shorts_law device k p.graph (only r.bit) x.0).1 x.1.0)),
        feeds_back (routing k) net x.0 r.wire x.1.1 r.feeds,
      ),
    )
  ]

  tells_reached : (net : ℕ) → Tells (has k.graph.outputs net && list_any (has (below (routing k).links net)) (bad_wires k)) (IsReached k net)
  unfolding FeedsBad
  tells_reached net = tells_as
      (λ h. reached_from net (h.1.0, (h.1.1.0, record { output = h.0; reach = below_sound (routing k).links net h.1.0 h.1.1.1 })))
      (λ r. let f = reached_to net r in (f.1.1.output, (f.0, (f.1.0, below_complete (routing k).links f.1.1.reach))))
      (tells_and (tells_has k.graph.outputs net) (tells_any (has (below (routing k).links net)) (In (below (routing k).links net)) (tells_has (below (routing k).links net)) (bad_wires k)))

  chosen_law : (rip : Rip) (ns : List ℕ) (net : ℕ) → In (chosen_nets rip k ns) net ↔ (In ns net × IsChosenToRip rip k net)
  chosen_law RipUnsafe ns net = filtered (λ n. has k.graph.outputs n && list_any (has (below (routing k).links n)) (bad_wires k)) (IsReached k) ns (λ n i. tells_reached n) net
  chosen_law RipAll ns net = ((λ i. (i, tt)), (λ h. h.0))

  module _ (rip : Rip) where
    pub ripped_law : (net : ℕ) → In (ripped_nets rip device k) net ↔ IsRipped rip device k net
    ripped_law net =
        let chosen = chosen_law rip (filter (λ n. not (has (clock_nets k.cells) n)) (nets device k.graph k.side)) net in
        let free = filtered (λ n. not (has (clock_nets k.cells) n)) (λ n. In (clock_nets k.cells) n → ⊥) (nets device k.graph k.side) (λ n i. tells_not (tells_has (clock_nets k.cells) n)) net in (
          (λ i. let c = chosen.0 i in let f = free.0 c.0 in record { is_net = f.0; no_clock = f.1; chosen = c.1 }),
          (λ r. chosen.1 (free.1 (r.is_net, r.no_clock), r.chosen)),
        )

    -- the wires that ripped nets feed
    abbrev wires : List ℕ
    wires = wires_of (routing k) (ripped_nets rip device k)

    IsRippedWire : ℕ → Type 0
    IsRippedWire w = (net : ℕ) × (IsRipped rip device k net × Feeds (routing k) net w)

    tells_ripped_wire : (w : ℕ) → Tells (has wires w) (IsRippedWire w)
    unfolding IsRippedWire
    tells_ripped_wire w = tells_as
        (λ i. let r = of_flat_map (below (routing k).links) (filter (has k.graph.outputs) (ripped_nets rip device k)) w i in
        let f = (filtered (has k.graph.outputs) (In k.graph.outputs) (ripped_nets rip device k) (λ n j. tells_has k.graph.outputs n) r.0).0 r.1.0 in
        (r.0, ((ripped_law r.0).0 f.0, record { output = f.1; reach = below_sound (routing k).links r.0 w r.1.1 })))
        (λ h. in_flat_map (below (routing k).links) (filter (has k.graph.outputs) (ripped_nets rip device k)) h.0 w
        ((filtered (has k.graph.outputs) (In k.graph.outputs) (ripped_nets rip device k) (λ n j. tells_has k.graph.outputs n) h.0).1 ((ripped_law h.0).1 h.1.0, h.1.1.output))
        (below_complete (routing k).links h.1.1.reach))
        (tells_has wires w)

    module _ (config : Config) where
      -- a line's arc, where it has one
      abbrev OfArc : Option GraphArc → Type 0
      OfArc o = (a : GraphArc) × ((o ≡ Some a) × (IsRippedWire a.sink × IsPlain k.graph config a.mux))

      tells_of_arc : (o : Option GraphArc) → Tells (option_map_or (λ a. has wires a.sink && is_plain k.graph config a.mux) o false) (OfArc o)
      tells_of_arc None = record { from = λ h. absurd (false≢true h); to = λ h. absurd (let e : None ≡ Some h.0 = h.1.0 in let no : ⊥ = cc in no) }
      tells_of_arc (Some b) = tells_as (λ h. (b, (refl, h)))
          (λ h. let e : b ≡ h.0 = (let s : Some b ≡ Some h.0 = h.1.0 in cc) in subst (λ a. IsRippedWire a.sink × IsPlain k.graph config a.mux) (sym e) h.1.1)
          (tells_and (tells_ripped_wire b.sink) (tells_plain k.graph config b.mux))

      tells_line : (tile : List ℕ) (line : ArcLine) → Tells (is_ripped_line k config wires tile line) (IsRippedLine (IsRipped rip device k) config k tile line)
      unfolding IsRippedWire
      tells_line tile line = tells_as
          (λ h. record { arc = h.0; named = h.1.0; plain = h.1.1.1; net = h.1.1.0.0; ripped = h.1.1.0.1.0; feeds = h.1.1.0.1.1 })
          (λ r. (r.arc, (r.named, ((r.net, (r.ripped, r.feeds)), r.plain))))
          (tells_of_arc (option_and_then (λ number. arc_of_line k.graph number line) (tile_named k.graph tile)))

      pub rest_law : IsRest (IsRipped rip device k) config k (rest_of rip device config k)
      rest_law = without_law (is_ripped_line k config wires) (IsRippedLine (IsRipped rip device k) config k) tells_line config

-- a test that one stands before another
lt_from : (o : Ordering) → is_lt o ≡ true → o ≡ Less
lt_from Less h = refl
lt_from Equal h = absurd (false≢true h)
lt_from Greater h = absurd (false≢true h)

tells_rises : {X : Type 0} (cmp : X → X → Ordering) (xs : List X) → Tells (rises cmp xs) (IsRising cmp xs)
tells_rises cmp [] = record { from = λ h. tt; to = λ h. refl }
tells_rises cmp (x ∷ xs) = tells_and (tells_all (λ y. is_lt (cmp x y)) (λ y. cmp x y ≡ Less) (λ y. record { from = lt_from (cmp x y); to = λ e. subst (λ o. is_lt o ≡ true) (sym e) refl }) xs) (tells_rises cmp xs)

pub order_law : (cells : Cells) (named list : List Connection) → (is_order cells named list ≡ true) ↔ (IsRising (connection_cmp cells) list × ((x : Connection) → In list x ↔ In named x))
order_law cells named list = (test.from, test.to)
  where
    test : Tells (is_order cells named list) (IsRising (connection_cmp cells) list × ((x : Connection) → In list x ↔ In named x))
    test = tells_as (λ h. (h.0.0, λ x. (h.1 x, h.0.1 x))) (λ h. ((h.0, λ x i. (h.1 x).1 i), λ x i. (h.1 x).0 i))
        (tells_and (tells_and (tells_rises (connection_cmp cells) list) (tells_all (is_listed list) (In list) (tells_listed list) named)) (tells_all (is_listed named) (In named) (tells_listed named) list))

module _ (job : Job) (p : IsToldBy job.device (configured job.design)) where
  abbrev ripped : List ℕ
  ripped = ripped_nets job.rip job.device (configured job.design)

  -- the parts whose net is ripped
  abbrev named : List Source
  named = filter (λ s. has ripped s.out) (sources job.design.cells)

  named_law : (s : Source) → In named s ↔ (In (sources job.design.cells) s × IsRipped job.rip job.device (configured job.design) s.out)
  named_law s = filtered (λ s. has ripped s.out) (λ s. IsRipped job.rip job.device (configured job.design) s.out) (sources job.design.cells)
      (λ x i. let law = ripped_law job.device (configured job.design) p job.rip x.out in tells_as law.0 law.1 (tells_has ripped x.out)) s

  part_from : (x : Connection) → ((s : Source) × (In named s × (s.part ≡ x.source))) → IsRippedPart job [] x.source
  part_from x h = let n = (named_law h.0).0 h.1.0 in inl (record { source = h.0; listed = n.0; is = h.1.1; ripped = n.1 })

  part_to : (x : Connection) → IsRippedPart job [] x.source → (s : Source) × (In named s × (s.part ≡ x.source))
  part_to x h = elim h [ inl f ↦ (f.source, ((named_law f.source).1 (f.listed, f.ripped), f.is)) | inr n ↦ absurd n.1.0 ]

  pub ripped_connections_law : (x : Connection) → In (ripped_connections job) x ↔ IsRippedAtStart job x
  ripped_connections_law x =
      let law = connections_law (read_of job) x in
      let left = filtered (λ x. list_any (λ s. same_part s.part x.source) named) (λ x. IsRippedPart job [] x.source) (connections (read_of job))
      (λ y i. tells_as (part_from y) (part_to y) (tells_any (λ s. same_part s.part y.source) (λ s. s.part ≡ y.source) (λ s. tells_part s.part y.source) named)) x in
      ((λ i. (law.0 (left.0 i).0, (left.0 i).1)), (λ h. left.1 (law.1 h.0, h.1)))

  -- a state with the text without routes, and the ripped connections in order, is a start
  pub start_law : (state : State) → state.layout.graph ≡ job.design.graph → rest_of job.rip job.device job.design.config (configured job.design) ≡ state.layout.config
      → state.layout.cells ≡ job.design.cells → state.layout.side ≡ job.design.side → is_order state.layout.cells (ripped_connections job) state.order ≡ true
      → state.rims ≡ [] → state.moved ≡ [] → state.sides ≡ job.design.side ∷ [] → IsFirstState job state
  start_law state graph text cells side order rims moved sides = record {
    graph = graph;
    text = subst (IsRest (IsRipped job.rip job.device (configured job.design)) job.design.config (configured job.design)) text (rest_law job.device (configured job.design) p job.rip job.design.config);
    cells = cells;
    side = side;
    order = (let law = (order_law state.layout.cells (ripped_connections job) state.order).0 order in
        record { rising = law.0; members = λ x. ((λ i. (ripped_connections_law x).0 ((law.1 x).0 i)), (λ h. (law.1 x).1 ((ripped_connections_law x).1 h))) });
    no_rims = rims;
    none_moved = moved;
    sides = sides;
  }
