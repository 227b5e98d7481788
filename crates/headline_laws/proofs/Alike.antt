-- What goes along from one circuit to another of its design: parts, pins, what feeds them, and their domains.
use Rattle.std.proofs.Common.{◌≡◌, ℕ, List, ◌++◌, refl, sym, ap, subst, ◌∙◌}
use Rattle.std.specs.Prelude.{find, unwrap_or}
use Rattle.words.specs.Members.{In}
use Rattle.links.specs.Links.{Feeds, Fed}
use Rattle.records.specs.Side.{Domain, Side}
use Rattle.circuit.specs.Cells.{PadCell}
use Rattle.circuit.specs.Parts.{Pad, PartRef, Source, sources, output_pads}
use Rattle.circuit.specs.Pins.{PinRef, Pin, pad_pin, pins}
use Rattle.circuit.specs.Triples.{is_entry, all_triples, PartTriple, triple_with, triple_of, LiesIn}
use Rattle.circuit.specs.Circuits.{Circuit, Connects, Connection}
use Rattle.circuit.specs.Domains.{HasDomain}
use Rattle.circuit.specs.Triplicated.{ReadPart, IsVoter}
use Rattle.circuit.specs.Designs.{SameSide, SameDesign}
use Rattle.circuit_laws.proofs.Parts.{pad_lies, of_output_pads, pad_pin_listed}
use Rattle.circuit_laws.proofs.Refs.{part_same, pin_same}
use Rattle.circuit_laws.proofs.Domains.{cell_domain}
use Rattle.circuit_laws.proofs.Sound.{Sound, at_pin, has_domain}
use Rattle.circuit_laws.proofs.Shapes.{source_shape, twin_source, twin_pad}
use Rattle.check_laws.specs.Accepted.{FeedsAreModelled}
use Rattle.headline_laws.proofs.Twins.{twin_pin, lies_along}

-- two circuits of one design, each with pins that named cells alone feed
pub record Alike (c e : Circuit) : Type 0 where
  pub sound : Sound c
  pub also : Sound e
  pub modelled : FeedsAreModelled c
  pub also_modelled : FeedsAreModelled e
  pub same : SameDesign c e

turned_side : (a b : Side) → SameSide a b → SameSide b a
turned_side a b s = record {
  slices = sym s.slices;
  pads = sym s.pads;
  triples = sym s.triples;
  inputs = sym s.inputs;
  outputs = sym s.outputs;
  clocks = sym s.clocks;
  voters = sym s.voters;
}

pub turned : {c e : Circuit} → Alike c e → Alike e c
turned {c} {e} a = record {
  sound = a.also;
  also = a.sound;
  modelled = a.also_modelled;
  also_modelled = a.modelled;
  same = record { sides = turned_side c.side e.side a.same.sides; parts = sym a.same.parts; connections = λ x. ((a.same.connections x).1, (a.same.connections x).0) };
}

-- side files that are the same but for tiles and kinds have the same triples
pub triples_same : (a b : Side) → SameSide a b → all_triples a ≡ all_triples b
triples_same a b s =
    ap (λ z. z ++ a.inputs ++ a.outputs ++ a.clocks) s.triples ∙ (ap (λ z. b.triples ++ z ++ a.outputs ++ a.clocks) s.inputs
    ∙ (ap (λ z. b.triples ++ b.inputs ++ z ++ a.clocks) s.outputs ∙ ap (λ z. b.triples ++ b.inputs ++ b.outputs ++ z) s.clocks))

-- parts of one name have one triple
pub group_same : (a b : Side) → SameSide a b → (p q : PartRef) → p ≡ q → triple_of a p ≡ triple_of b q
group_same a b s p q e =
    let first : triple_with a p.cell ≡ triple_with b p.cell = ap (λ z. unwrap_or (find (is_entry p.cell) z) (record { first = p.cell; second = p.cell; third = p.cell })) (triples_same a b s) in
    (λ i. let r : PartTriple = record { cells = first i; part = p.part } in r) ∙ ap (triple_of b) e

module _ {c e : Circuit} (al : Alike c e) where
  -- a part and the one of its name
  pub twin_part : (s : Source) → In (sources c.cells) s → (u : Source) × (In (sources e.cells) u × (source_shape u ≡ source_shape s))
  twin_part s i = twin_source c.cells e.cells al.same.parts s i

  -- parts of one name have one shape
  pub one_shape : (s u : Source) → In (sources c.cells) s → In (sources e.cells) u → u.part ≡ s.part → source_shape u ≡ source_shape s
  one_shape s u i j h =
      let g = twin_part s i in
      let same : u ≡ g.0 = part_same e.cells al.also.formed.names u g.0 j g.1.0 (h ∙ ap (λ z. z.part) (sym g.1.1)) in
      ap source_shape same ∙ g.1.1

  -- what feeds a pin, and what feeds the pin of its name
  pub cross : (a : Source) (p q : Pin) → Connects c a p → In (pins e.cells) q → q.ref ≡ p.ref → (b : Source) × (Connects e b q × (source_shape b ≡ source_shape a))
  cross a p q cn j h =
      let x : Connection = record { source = a.part; pin = p.ref } in
      let g = (al.same.connections x).0 (record { source = a; pin = p; connects = cn; from = refl; to = refl }) in
      let at_q : g.pin ≡ q = pin_same e.cells al.also.formed.names g.pin q g.connects.pin j (g.to ∙ sym h) in
      (g.source, (subst (Connects e g.source) at_q g.connects, one_shape a g.source cn.source g.connects.source g.from))

  -- a pin that has a feed has a part that feeds it, and so has the pin of its name
  pub feeder_of : (p : Pin) → In (pins c.cells) p → Fed c.routing p.wire → (a : Source) × Connects c a p
  feeder_of p i f =
      let s = al.modelled p f.0 i f.1 in
      (s.0, record { source = s.1.0; pin = i; feeds = subst (λ o. Feeds c.routing o p.wire) (sym s.1.1) f.1 })

  pub fed_cross : (p q : Pin) → In (pins c.cells) p → In (pins e.cells) q → q.ref ≡ p.ref → Fed c.routing p.wire → Fed e.routing q.wire
  fed_cross p q i j h f =
      let a = feeder_of p i f in
      let b = cross a.0 p q a.1 j h in
      (b.0.out, b.1.0.feeds)

  -- pins of one name have one domain
  pub domain_cross : (p q : Pin) → In (pins c.cells) p → In (pins e.cells) q → q.ref ≡ p.ref → (d : Domain) → HasDomain c p.wire d → HasDomain e q.wire d
  domain_cross p q i j h d k =
      let b = cross k.source p q (record { source = k.listed; pin = i; feeds = k.feeds }) j h in
      subst (HasDomain e q.wire) (ap (λ z. z.domain) b.1.1 ∙ k.domain) (has_domain e al.also b.0 q.wire (at_pin e b.0 q b.1.0))

  -- a part is read where the one of its name is
  pub read_cross : (s u : Source) → ReadPart c s → In (sources e.cells) u → u.part ≡ s.part → ReadPart e u
  read_cross s u r j h =
      let p = r.read.0 in
      let cn = r.read.1 in
      let q = twin_pin c.cells e.cells al.same.parts p cn.pin in
      let b = cross s p q.0 cn q.1.0 q.1.1 in
      let same : b.0 ≡ u = part_same e.cells al.also.formed.names b.0 u b.1.0.source j (ap (λ z. z.part) b.1.1 ∙ sym h) in
      record { listed = j; read = (q.0, subst (λ z. Connects e z q.0) same b.1.0) }

  -- voters are listed under the same names
  pub voter_cross : (s u : PartRef) → u ≡ s → IsVoter c s → IsVoter e u
  voter_cross s u h v = (
    v.0,
    (
      ap (λ z. z.part) h ∙ v.1.0,
      subst (λ vs. In vs (record { slice = u.cell; table = v.0 })) al.same.sides.voters
          (subst (λ n. In c.side.voters (record { slice = n; table = v.0 })) (ap (λ z. z.cell) (sym h)) v.1.1),
    ),
  )

  -- cells of one name lie in one domain
  pub lies_cross : (name : List ℕ) (d : Domain) → LiesIn c.cells name d → LiesIn e.cells name d
  lies_cross name d i = lies_along c.cells e.cells al.same.parts name d i

  -- an output pad and the one of its name
  pub twin_out : (p : PadCell) → In (output_pads c.cells) p → (q : PadCell) × (In (output_pads e.cells) q × ((q.name ≡ p.name) × ((q.domain ≡ p.domain) × ((pad_pin q).ref ≡ (pad_pin p).ref))))
  twin_out p i =
      let q = twin_pad c.cells e.cells al.same.parts p i in
      let there : LiesIn e.cells p.name p.domain = lies_along c.cells e.cells al.same.parts p.name p.domain (pad_lies c.cells p (of_output_pads c.cells p i)) in
      let here : LiesIn e.cells p.name q.0.domain = subst (λ n. LiesIn e.cells n q.0.domain) q.1.1 (pad_lies e.cells q.0 (of_output_pads e.cells q.0 q.1.0)) in (
        q.0,
        (
          q.1.0,
          (
            q.1.1,
            (
              cell_domain e.cells al.also.formed.names p.name q.0.domain p.domain here there,
              ap (λ z. let r : PinRef = record { part = record { cell = z; part = Pad }; pin = 0 } in r) q.1.1,
            ),
          ),
        ),
      )

  -- the pins of output pads of one name
  pub pad_fed : (p q : PadCell) → In (output_pads c.cells) p → In (output_pads e.cells) q → (pad_pin q).ref ≡ (pad_pin p).ref → Fed c.routing p.wire → Fed e.routing q.wire
  pad_fed p q i j h f = fed_cross (pad_pin p) (pad_pin q) (pad_pin_listed c.cells p i) (pad_pin_listed e.cells q j) h f
