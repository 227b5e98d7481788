-- Jobs and states that are the same but for the numbers of lines: the same nets are ripped, the same lines removed and the
-- same connections lost.
use Rattle.std.proofs.Common.{◌≡◌, ℕ, inl, inr, List, Option, refl, sym, ap, subst, ◌∙◌}
use Rattle.std.specs.Prelude.{option_and_then}
use Rattle.words.specs.Members.{In}
use Rattle.records.specs.Config.{ArcLine, TileText, Config}
use Rattle.records.specs.Ripping.{Rip}
use Rattle.links.specs.Links.{Feeds}
use Rattle.links.proofs.Members.{in_map, of_map}
use Rattle.fabric.specs.Device.{Device}
use Rattle.fabric.specs.Graph.{GraphArc, Graph}
use Rattle.fabric.specs.Image.{tile_named, arc_of_line}
use Rattle.circuit.specs.Parts.{PartRef, Source, sources}
use Rattle.circuit.specs.Pins.{pins}
use Rattle.circuit.specs.Circuits.{Connection, IsConnection}
use Rattle.upset.specs.Configured.{Configured, circuit_of}
use Rattle.repair.specs.Layouts.{Layout, configured}
use Rattle.repair.specs.Nets.{IsRipped}
use Rattle.repair.specs.Plain.{IsPlain}
use Rattle.repair.specs.Ripping.{IsRippedLine}
use Rattle.repair.specs.Turns.{routing}
use Rattle.attempts.specs.Jobs.{Job, State, read_of, Touches, IsRippedBy, IsRippedFirst, IsRippedPart}
use Rattle.attempts.specs.Candidates.{IsNewWire, IsClockLine, IsRemoved, IsClockRipped, BecomesRipped}
use Rattle.text_laws.specs.SameButLines.{unnumbered_arc, unnumbered}
use Rattle.line_laws.specs.Plain.{plain_config, plain_layout, plain_job}
use Rattle.line_laws.proofs.Texts.{now_same, plain_to, plain_from}

-- ---- jobs

pub record AlikeJobs (j k : Job) : Type 0 where
  pub device : j.device ≡ k.device
  pub rip : j.rip ≡ k.rip
  pub now : configured j.design ≡ configured k.design

pub turned_jobs : (j k : Job) → AlikeJobs j k → AlikeJobs k j
turned_jobs j k a = record { device = sym a.device; rip = sym a.rip; now = sym a.now }

pub plain_alike : (job : Job) → AlikeJobs job (plain_job job)
plain_alike job = record { device = refl; rip = refl; now = now_same job.design }

module _ (j k : Job) (a : AlikeJobs j k) where
  pub reads : read_of j ≡ read_of k
  reads = ap circuit_of a.now

  pub connection : (x : Connection) → IsConnection (read_of j) x → IsConnection (read_of k) x
  connection x c = subst (λ r. IsConnection r x) reads c

  source_listed : (s : Source) → In (sources j.design.cells) s → In (sources k.design.cells) s
  source_listed s i = subst (λ (z : Configured). In (sources z.cells) s) a.now i

  touches : (slice : List ℕ) (s : Source) → Touches j slice s → Touches k slice s
  touches slice s h = elim h [ inl e ↦ inl e | inr x ↦ inr (x.0, (connection x.0 x.1.0, x.1.1)) ]

  pub ripped_by : (slice : List ℕ) (part : PartRef) → IsRippedBy j slice part → IsRippedBy k slice part
  ripped_by slice part r = record { source = r.source; listed = source_listed r.source r.listed; is = r.is; touched = touches slice r.source r.touched; no_clock = r.no_clock }

  pub ripped_net : (net : ℕ) → IsRipped j.rip j.device (configured j.design) net → IsRipped k.rip k.device (configured k.design) net
  ripped_net net r =
      subst (λ z. IsRipped k.rip k.device z net) a.now
      (subst (λ (d : Device). IsRipped k.rip d (configured j.design) net) a.device
      (subst (λ (rip : Rip). IsRipped rip j.device (configured j.design) net) a.rip r))

  ripped_first : (part : PartRef) → IsRippedFirst j part → IsRippedFirst k part
  ripped_first part r = record { source = r.source; listed = source_listed r.source r.listed; is = r.is; ripped = ripped_net r.source.out r.ripped }

  pub ripped_part : (moved : List (List ℕ)) (part : PartRef) → IsRippedPart j moved part → IsRippedPart k moved part
  ripped_part moved part h = elim h [ inl f ↦ inl (ripped_first part f) | inr m ↦ inr (m.0, (m.1.0, ripped_by m.0 part m.1.1)) ]

-- ---- lines

-- the arc of a line, by its names
abbrev arc_by : Graph → List ℕ → ArcLine → Option GraphArc
arc_by g tile line = option_and_then (λ number. arc_of_line g number line) (tile_named g tile)

-- plain muxes of one layout are those of another
abbrev pub PlainAlong : Layout → Layout → Type 0
PlainAlong y z = (mux : ℕ) → IsPlain y.graph y.config mux → IsPlain z.graph z.config mux

pub ripped_line : (R S : ℕ → Type 0) → ((net : ℕ) → R net → S net) → (y z : Layout) → configured y ≡ configured z → PlainAlong y z
    → (tile : List ℕ) (line other : ArcLine) → unnumbered_arc line ≡ unnumbered_arc other
    → IsRippedLine R y.config (configured y) tile line → IsRippedLine S z.config (configured z) tile other
ripped_line R S along y z now plain tile line other same r =
    let arcs : arc_by z.graph tile other ≡ arc_by y.graph tile line = (λ i. arc_by (sym now i).graph tile (sym same i)) in
    record {
      arc = r.arc;
      named = arcs ∙ r.named;
      plain = plain r.arc.mux r.plain;
      net = r.net;
      ripped = along r.net r.ripped;
      feeds = subst (λ k. Feeds (routing k) r.net r.arc.sink) now r.feeds;
    }

-- ---- states

-- a line of a section, with its like in another text
pub record Line (c : Config) : Type 0 where
  pub text : TileText
  pub line : ArcLine
  pub section : In c.tiles text
  pub listed : In text.arcs line

pub record LikeLine (c d : Config) (l : Line c) : Type 0 where
  pub its : Line d
  pub tile : l.text.tile ≡ its.text.tile
  pub same : unnumbered_arc l.line ≡ unnumbered_arc its.line

pub record AlikeStates (s t : State) : Type 0 where
  pub order : s.order ≡ t.order
  pub moved : s.moved ≡ t.moved
  pub now : configured s.layout ≡ configured t.layout
  pub plain : PlainAlong s.layout t.layout
  pub back : PlainAlong t.layout s.layout
  pub lines : (l : Line s.layout.config) → LikeLine s.layout.config t.layout.config l
  pub others : (l : Line t.layout.config) → LikeLine t.layout.config s.layout.config l

pub turned_states : (s t : State) → AlikeStates s t → AlikeStates t s
turned_states s t b = record { order = sym b.order; moved = sym b.moved; now = sym b.now; plain = b.back; back = b.plain; lines = b.others; others = b.lines }

abbrev pub plain_state : State → State
plain_state s = record { layout = plain_layout s.layout; order = s.order; rims = s.rims; moved = s.moved; sides = s.sides }

plain_line : (c : Config) (l : Line c) → LikeLine c (plain_config c) l
plain_line c l = record {
  its = record { text = unnumbered l.text; line = unnumbered_arc l.line; section = in_map unnumbered c.tiles l.text l.section; listed = in_map unnumbered_arc l.text.arcs l.line l.listed };
  tile = refl;
  same = refl;
}

line_back : (c : Config) (l : Line (plain_config c)) → LikeLine (plain_config c) c l
line_back c l =
    let t = of_map unnumbered c.tiles l.text l.section in
    let a = of_map unnumbered_arc t.0.arcs l.line (subst (λ (u : TileText). In u.arcs l.line) (sym t.1.1) l.listed) in
    record {
      its = record { text = t.0; line = a.0; section = t.1.0; listed = a.1.0 };
      tile = ap (λ (u : TileText). u.tile) (sym t.1.1);
      same = ap unnumbered_arc (sym a.1.1);
    }

pub plain_states : (s : State) → AlikeStates s (plain_state s)
plain_states s = record {
  order = refl;
  moved = refl;
  now = now_same s.layout;
  plain = plain_to s.layout.graph s.layout.config;
  back = plain_from s.layout.graph s.layout.config;
  lines = plain_line s.layout.config;
  others = line_back s.layout.config;
}

module _ (j k : Job) (a : AlikeJobs j k) (s t : State) (b : AlikeStates s t) (slice : List ℕ) where
  lost : (part : PartRef) → IsRippedBy j slice part × (IsRippedPart j s.moved part → ⊥) → IsRippedBy k slice part × (IsRippedPart k t.moved part → ⊥)
  lost part h = (ripped_by j k a slice part h.0, λ r. h.1 (ripped_part k j (turned_jobs j k a) s.moved part (subst (λ m. IsRippedPart k m part) (sym b.moved) r)))

  new_wire : (w : ℕ) → IsNewWire j s slice w → IsNewWire k t slice w
  new_wire w h = (h.0, ((subst (λ (z : Configured). In (sources z.cells) h.0) b.now h.1.0.0, lost h.0.part h.1.0.1), h.1.1))

  -- a clock line with its pin and its net
  abbrev clock_line : (tile there : List ℕ) (line other : ArcLine) → tile ≡ there → unnumbered_arc line ≡ unnumbered_arc other → IsClockLine s slice tile line → IsClockLine t slice there other
  clock_line tile there line other at same c =
      let arcs : arc_by t.layout.graph there other ≡ arc_by s.layout.graph tile line = (λ i. arc_by (sym b.now i).graph (sym at i) (sym same i)) in
      record {
        arc = c.arc;
        named = arcs ∙ c.named;
        plain = b.plain c.arc.mux c.plain;
        pin = c.pin;
        listed = subst (λ (z : Configured). In (pins z.cells) c.pin) b.now c.listed;
        of_slice = c.of_slice;
        at_pin = c.at_pin;
        net = c.net;
        is_net = subst (λ (z : Configured). In (sources z.cells) c.net) b.now c.is_net;
        is_clock = c.is_clock;
        feeds = subst (λ z. Feeds (routing z) c.net.out c.arc.sink) b.now c.feeds;
      }

  pub removed : (tile : List ℕ) (line other : ArcLine) → unnumbered_arc line ≡ unnumbered_arc other → IsRemoved j s slice tile line → IsRemoved k t slice tile other
  removed tile line other same h = elim h [
    | inl r ↦ inl (ripped_line (IsNewWire j s slice) (IsNewWire k t slice) new_wire s.layout t.layout b.now b.plain tile line other same r)
    | inr c ↦ inr (clock_line tile tile line other refl same c)
  ]

  clock_ripped : (x : Connection) → IsClockRipped s slice x → IsClockRipped t slice x
  clock_ripped x r =
      let l = b.lines (record { text = r.text; line = r.line; section = r.section; listed = r.listed }) in
      record {
        text = l.its.text;
        line = l.its.line;
        section = l.its.section;
        listed = l.its.listed;
        clock = clock_line r.text.tile l.its.text.tile r.line l.its.line l.tile l.same r.clock;
        from = r.from;
        to = r.to;
      }

  pub becomes_ripped : (x : Connection) → BecomesRipped j s slice x → BecomesRipped k t slice x
  becomes_ripped x r = record {
    connects = connection j k a x r.connects;
    new = λ i. r.new (subst (λ order. In order x) (sym b.order) i);
    lost = elim r.lost [ inl h ↦ inl (lost x.source h) | inr c ↦ inr (clock_ripped x c) ];
  }
