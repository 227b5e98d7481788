-- One path keeps the design, and makes its connection.
use Rattle.std.proofs.Common.{◌≡◌, ℕ, ◌⊎◌, inl, inr, List, [], ◌∷◌, refl, sym, ap, subst, ◌∙◌}
use Rattle.words.specs.Members.{In}
use Rattle.links.specs.Links.{Feeds}
use Rattle.fabric.specs.Graph.{GraphArc}
use Rattle.circuit.specs.Parts.{Source, sources}
use Rattle.circuit.specs.Circuits.{Circuit, Connection, IsConnection}
use Rattle.upset.specs.Configured.{circuit_of}
use Rattle.paths.specs.Paths.{LeadsOn, HasNoSinkTwice}
use Rattle.repair.specs.Added.{with_image, added_all}
use Rattle.repair.specs.Turns.{Turn, routing}
use Rattle.repair.specs.Usable.{IsUsable}
use Rattle.repair.specs.Routes.{roads_for, IsRoute}
use Rattle.repair.specs.Layouts.{Layout, configured, with_path, turn_over, NetPath, ArePaths}
use Rattle.repair_laws.specs.Kept.{IsBelowOne}
use Rattle.repair_laws.proofs.Numbers.{numbered}
use Rattle.repair_laws.proofs.Path.{Sound, Grows, path_grows, path_feeds}
use Rattle.layout_laws.specs.PathsKept.{PathsKept}
use Rattle.layout_laws.proofs.TextPath.{Lined, lined}
use Rattle.layout_laws.proofs.Many.{paths_kept, ready_after, safe_after, agree_after}
use Rattle.attempts.specs.Jobs.{Job, read_of}
use Rattle.attempts.specs.Wires.{pin_wire}
use Rattle.check_laws.specs.Accepted.{FeedsAreModelled}
use Rattle.headline_laws.specs.Sound.{IsSoundJob}
use Rattle.headline_laws.specs.Kept.{KeepsDesign}
use Rattle.headline_laws.proofs.Twins.{twin_pin}
use Rattle.headline_laws.proofs.Formed.{formed_over}
use Rattle.headline_laws.proofs.SameCells.{cells_same}
use Rattle.headline_laws.proofs.Named.{pin_found}

-- the arcs of a path are usable
lead_usable : (t : Turn) (w : ℕ) (path : List GraphArc) (pin : ℕ) → LeadsOn (roads_for t) w path pin → (b : GraphArc) → In path b → IsUsable t b
lead_usable t w [] pin p b i = absurd i
lead_usable t w (a ∷ rest) pin p b i = elim i [ inl e ↦ subst (IsUsable t) e p.1 | inr j ↦ lead_usable t a.sink rest pin p.2 b j ]

pub arcs_usable : (t : Turn) (path : List GraphArc) (pin : ℕ) → IsRoute t path pin → (b : GraphArc) → In path b → IsUsable t b
arcs_usable t [] pin p b i = absurd i
arcs_usable t (a ∷ rest) pin p b i = elim i [ inl e ↦ subst (IsUsable t) e p.1 | inr j ↦ lead_usable t a.sink rest pin p.2 b j ]

module _ (job : Job) (sound : IsSoundJob job) (y : Layout) (k : KeepsDesign job y) (net : Source) (listed : In (sources y.cells) net)
    (path : List GraphArc) (pin : ℕ) (route : IsRoute (turn_over (read_of job) y net) path pin) (once : HasNoSinkTwice (roads_for (turn_over (read_of job) y net)) path) where
  abbrev read : Circuit
  read = read_of job

  abbrev turn : Turn
  turn = turn_over read y net

  abbrev there : Layout
  there = with_path y path

  abbrev net_path : NetPath
  net_path = record { net = net; path = path; pin = pin }

  ok : ArePaths read y (net_path ∷ [])
  ok = (listed, route, once, tt)

  turn_sound : Sound turn
  turn_sound = record { numbers = numbered job.device y.graph k.ready.graph; clean = k.ready.clean; outputs = k.ready.outputs; settings = k.ready.settings; net = listed }

  grows : Grows turn path
  grows = path_grows turn turn_sound k.safe path pin route once

  line : Lined turn path
  line = lined job.device sound.names turn k.ready.graph turn_sound refl k.agree path pin route once

  same : configured there ≡ added_all (configured y) path
  same = ap (with_image (configured y)) line.image

  feeds_to : (c w : ℕ) → Feeds (routing (configured there)) c w → Feeds (routing (configured y)) c w ⊎ ((c ≡ net.out) × IsBelowOne turn path w)
  feeds_to c w f = (grows.feeds c w).0 (subst (λ q. Feeds (routing q) c w) same f)

  feeds_from : (c w : ℕ) → Feeds (routing (configured y)) c w → Feeds (routing (configured there)) c w
  feeds_from c w f = subst (λ q. Feeds (routing q) c w) (sym same) ((grows.feeds c w).1 (inl f))

  pin_fed : Feeds (routing (configured there)) net.out pin
  pin_fed = subst (λ q. Feeds (routing q) net.out pin) (sym same) (path_feeds turn path pin route grows)

  modelled : FeedsAreModelled (circuit_of (configured there))
  modelled p o i f = elim (feeds_to o p.wire f) [
    | inl old ↦ k.modelled p o i old
    | inr new ↦ (net, (listed, sym new.0))
  ]

  -- what the path makes is a connection of the circuit that was read
  none_new : (x : Connection) → IsConnection (circuit_of (configured there)) x → IsConnection read x
  none_new x c = elim (feeds_to c.source.out c.pin.wire c.connects.feeds) [
    | inl old ↦ k.none_new x (record { source = c.source; pin = c.pin; connects = record { source = c.connects.source; pin = c.connects.pin; feeds = old }; from = c.from; to = c.to })
    | inr new ↦ (let one : c.source ≡ net = k.formed.outputs.alone c.source net c.connects.source listed new.0 in
        let use_a = arcs_usable turn path pin route new.1.0 new.1.1.0 in
        let r = use_a.own_pins c.pin.wire new.1.1.1 c.pin c.connects.pin refl in
        record { source = r.source; pin = r.pin; connects = r.connects; from = r.from ∙ ap (λ z. z.part) (sym one) ∙ c.from; to = r.to ∙ c.to })
  ]

  -- settings read the same
  added : PathsKept y (net_path ∷ [])
  added = (paths_kept job.device sound.names read y k.ready k.safe k.agree (net_path ∷ []) ok).kept

  -- the design is kept
  pub path_keeps : KeepsDesign job there
  path_keeps = record {
    graph = k.graph;
    side = k.side;
    apart = k.apart;
    parts = k.parts;
    cells = cells_same y.graph job.device.profile (configured there).image (configured y).image added.words added.enums y.side ∙ k.cells;
    formed = formed_over (configured y) (configured there).image k.formed;
    ready = ready_after job.device sound.names read y k.ready k.safe k.agree net_path [] ok;
    safe = safe_after job.device sound.names read y k.ready k.safe k.agree net_path [] ok;
    agree = agree_after job.device sound.names read y k.ready k.safe k.agree net_path [] ok;
    modelled = modelled;
    none_new = none_new;
  }

  -- what was connected is, and so is the pin
  pub stays_connected : (x : Connection) → IsConnection (circuit_of (configured y)) x → IsConnection (circuit_of (configured there)) x
  stays_connected x c = record {
    source = c.source;
    pin = c.pin;
    connects = record { source = c.connects.source; pin = c.connects.pin; feeds = feeds_from c.source.out c.pin.wire c.connects.feeds };
    from = c.from;
    to = c.to;
  }

  pub gets_connected : (x : Connection) → net.part ≡ x.source → pin ≡ pin_wire y.cells x → IsConnection read x → IsConnection (circuit_of (configured there)) x
  gets_connected x from at c =
      let p = twin_pin job.design.cells y.cells k.parts c.pin c.connects.pin in
      let q = pin_found y.cells x p.0 p.1.0 (p.1.1 ∙ c.to) in
      record {
        source = net;
        pin = q.0;
        connects = record { source = listed; pin = q.1.0; feeds = subst (Feeds (routing (configured there)) net.out) (at ∙ q.1.1.1) pin_fed };
        from = from;
        to = q.1.1.0;
      }
