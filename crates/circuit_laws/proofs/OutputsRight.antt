-- Masking: a fault of one domain at most leaves each output pad outside that domain right, and so at least two of each
-- three.
use Rattle.std.proofs.Common.{◌≡◌, ℕ, ◌<◌, Bool, List, ◌++◌, ◌⊎◌, inl, inr, refl, sym, ap, subst, ◌∙◌}
use Rattle.words.specs.Members.{In}
use Rattle.records.specs.Side.{Domain, D0, D1, D2, Triple}
use Rattle.circuit.specs.Cells.{PadCell, OutputPad, Cells}
use Rattle.circuit.specs.Parts.{Source, output_pads}
use Rattle.circuit.specs.Pins.{pad_pin}
use Rattle.circuit.specs.Triples.{PartTriple, IsEntry, all_triples, Member, members, LiesIn}
use Rattle.circuit.specs.Circuits.{Circuit}
use Rattle.circuit.specs.WellFormed.{IsPad}
use Rattle.circuit.specs.Worlds.{World}
use Rattle.circuit.specs.Faults.{Fault, no_fault, FaultHas, WithinOneDomain}
use Rattle.circuit.specs.Runs.{IsRun}
use Rattle.circuit.specs.Right.{IsRight, KeepsOutside, RightOutside, TwoOfThree, TwoAreRight}
use Rattle.circuit.specs.Triplicated.{IsTriplicated}
use Rattle.links.proofs.Members.{any_of, in_left, in_right, in_either, of_map}
use Rattle.circuit_laws.proofs.Same.{same_name}
use Rattle.circuit_laws.proofs.Parts.{in_output_pads}
use Rattle.circuit_laws.proofs.Sound.{Sound, FeedsFrom, at_pin, feed_at, has_domain}
use Rattle.circuit_laws.proofs.Depth.{plus, deep_left, deep_right, ordered}
use Rattle.circuit_laws.proofs.Cycle.{NoClock, steady}
use Rattle.circuit_laws.proofs.Copies.{copies}
use Rattle.circuit_laws.proofs.Steps.{copies_always, pad_reads, shows_always}

-- a cell with this name and its domain, or that there is none
lies : (cells : Cells) (name : List ℕ) → ((d : Domain) × LiesIn cells name d) ⊎ ((d : Domain) → LiesIn cells name d → ⊥)
lies cells name = elim (any_of (λ m. m.name ≡ name) (λ m. same_name m.name name) (members cells)) [
  | inl x ↦ inl (x.0.domain, subst (λ n. In (members cells) (record { name = n; domain = x.0.domain })) x.1.1 x.1.0)
  | inr h ↦ inr (λ d i. h (record { name = name; domain = d }) i refl)
]

module _ (c : Circuit) (ok : Sound c) (f : Fault) where
  fed_at : (a : ℕ) → ((s : Source) × FeedsFrom c s a) ⊎ (((s : Source) × FeedsFrom c s a) → ⊥)
  fed_at a = elim (feed_at c ok a) [ inl x ↦ inl x | inr h ↦ inr (λ x. h x.0 x.1) ]

  lies_at : (name : List ℕ) → ((d : Domain) × LiesIn c.cells name d) ⊎ (((d : Domain) × LiesIn c.cells name d) → ⊥)
  lies_at name = elim (lies c.cells name) [ inl x ↦ inl x | inr h ↦ inr (λ x. h x.0 x.1) ]

  -- the fault has a domain, or none
  some_domain : ((d : Domain) × FaultHas c f d) ⊎ ((d : Domain) → FaultHas c f d → ⊥)
  some_domain = elim (any_of (λ a. (s : Source) × FeedsFrom c s a) fed_at f.disturbed) [
    | inl x ↦ inl (x.1.1.0.domain, inl (x.0, (x.1.0, has_domain c ok x.1.1.0 x.0 x.1.1.1)))
    | inr g ↦ elim (any_of (λ name. (d : Domain) × LiesIn c.cells name d) lies_at f.touched) [
      | inl x ↦ inl (x.1.1.0, inr (x.0, (x.1.0, x.1.1.1)))
      | inr h ↦ inr (λ d has. elim has [
        | inl y ↦ (let k = y.1.1 in g y.0 y.1.0 (k.source, record { source = k.listed; feeds = k.feeds }))
        | inr y ↦ h y.0 y.1.0 (d, y.1.1)
      ])
    ]
  ]

  -- all domains of a fault within one domain are that one
  one_domain : WithinOneDomain c f → (d : Domain) × ((e : Domain) → FaultHas c f e → e ≡ d)
  one_domain within = elim some_domain [
    | inl x ↦ (x.0, λ e h. within e x.0 h x.1)
    | inr none ↦ (D0, λ e h. absurd (none e h))
  ]

pub masked : (c : Circuit) → Sound c → IsTriplicated c → (f : Fault) → WithinOneDomain c f → (d : Domain) × RightOutside c f d
masked c ok tri f within =
    let g = one_domain c ok f within in
    (g.0, λ start input n faulty is t lt p jp out. λ m right ir lm. shows_always c ok tri f g.0 g.1 start input m n right faulty ir is t lm lt p jp out)

-- a cell with the name of a pad has the pad's domain
pad_of : (c : Circuit) → Sound c → (name : List ℕ) (d : Domain) → LiesIn c.cells name d → IsPad c.cells OutputPad name
    → (p : PadCell) × (In (output_pads c.cells) p × ((p.name ≡ name) × (p.domain ≡ d)))
pad_of c ok name d i pad = elim (in_either _ _ _ i) [
  | inl j ↦ (let s = of_map (λ z. let m : Member = record { name = z.name; domain = z.domain } in m) c.cells.slices (record { name = name; domain = d }) j in
      absurd (ok.formed.names.kinds s.0 pad.0 s.1.0 pad.1.0 (ap (λ z. z.name) s.1.1 ∙ sym pad.1.1)))
  | inr j ↦ (let q = of_map (λ z. let m : Member = record { name = z.name; domain = z.domain } in m) c.cells.pads (record { name = name; domain = d }) j in
      let same : q.0 ≡ pad.0 = ok.formed.names.pads q.0 pad.0 q.1.0 pad.1.0 (ap (λ z. z.name) q.1.1 ∙ sym pad.1.1) in
      (pad.0, (in_output_pads c.cells pad.0 pad.1.0 pad.1.2, (pad.1.1, ap (λ z. z.domain) (sym same) ∙ ap (λ z. z.domain) q.1.1))))
]

module _ (c : Circuit) (ok : Sound c) (tri : IsTriplicated c) (o : Triple) (jo : In c.side.outputs o) where
  listed : In (all_triples c.side) o
  listed = in_left _ c.side.clocks o (in_right (c.side.triples ++ c.side.inputs) c.side.outputs o jo)

  pub first_pad : (p : PadCell) × (In (output_pads c.cells) p × ((p.name ≡ o.first) × (p.domain ≡ D0)))
  first_pad = pad_of c ok o.first D0 (tri.entries.first o listed) (ok.formed.triples.outputs o o.first jo (inl refl))

  pub second_pad : (p : PadCell) × (In (output_pads c.cells) p × ((p.name ≡ o.second) × (p.domain ≡ D1)))
  second_pad = pad_of c ok o.second D1 (tri.entries.second o listed) (ok.formed.triples.outputs o o.second jo (inr (inl refl)))

  pub third_pad : (p : PadCell) × (In (output_pads c.cells) p × ((p.name ≡ o.third) × (p.domain ≡ D2)))
  third_pad = pad_of c ok o.third D2 (tri.entries.third o listed) (ok.formed.triples.outputs o o.third jo (inr (inr (inl refl))))

  module _ (f : Fault) (start : PartTriple → Bool) (input : ℕ → Triple → Bool) (n : ℕ) (run : ℕ → World) (is : IsRun c f start input n run) (t : ℕ) (lt : t < n) (by : Circuit) where
    right_at : (d e : Domain) (name : List ℕ) → KeepsOutside by c f d
        → (p : PadCell) × (In (output_pads c.cells) p × ((p.name ≡ name) × (p.domain ≡ e))) → (e ≡ d → ⊥) → IsRight by start input t (run t) name
    right_at d e name right p away = subst (IsRight by start input t (run t)) p.1.1.0 (right start input n run is t lt p.0 p.1.0 (λ h. away (sym p.1.1.1 ∙ h)))

    pub two_right : (d : Domain) → KeepsOutside by c f d
        → TwoOfThree (IsRight by start input t (run t) o.first) (IsRight by start input t (run t) o.second) (IsRight by start input t (run t) o.third)
    two_right D0 right = inr (inr (right_at D0 D1 o.second right second_pad (λ e. (let no : ⊥ = cc in no)), right_at D0 D2 o.third right third_pad (λ e. (let no : ⊥ = cc in no))))
    two_right D1 right = inr (inl (right_at D1 D0 o.first right first_pad (λ e. (let no : ⊥ = cc in no)), right_at D1 D2 o.third right third_pad (λ e. (let no : ⊥ = cc in no))))
    two_right D2 right = inl (right_at D2 D0 o.first right first_pad (λ e. (let no : ⊥ = cc in no)), right_at D2 D1 o.second right second_pad (λ e. (let no : ⊥ = cc in no)))

pub two_of_three : (c : Circuit) → Sound c → IsTriplicated c → (f : Fault) → WithinOneDomain c f → TwoAreRight c f
two_of_three c ok tri f within = λ start input n run is t lt o jo. (let g = masked c ok tri f within in two_right c ok tri o jo f start input n run is t lt c g.0 g.1)

-- undisturbed, the pads of an output triple show the same
module _ (c : Circuit) (ok : Sound c) (tri : IsTriplicated c) (start : PartTriple → Bool) (input : ℕ → Triple → Bool) (n : ℕ) (run : ℕ → World) (is : IsRun c no_fault start input n run) (t : ℕ) (lt : t < n) where
  pads_agree : (o : Triple) (p q : PadCell) → In c.side.outputs o → In (output_pads c.cells) p → In (output_pads c.cells) q
      → IsEntry o p.name → IsEntry o q.name → (run t).shown p.name ≡ (run t).shown q.name
  pads_agree o p q jo jp jq ep eq =
      let g = tri.copies.outputs o p q jo jp jq ep eq in
      let a = g.first in
      let b = g.second in
      let fa = at_pin c a (pad_pin p) g.feeds_first in
      let fb = at_pin c b (pad_pin q) g.feeds_second in
      let da = ordered c ok tri.no_loop a fa.source in
      let db = ordered c ok tri.no_loop b fb.source in
      let na : NoClock a.kind = λ e. tri.clocks.pads p jp (a, (g.feeds_first, e)) in
      let nb : NoClock b.kind = λ e. tri.clocks.pads q jq (b, (g.feeds_second, e)) in
      (is.cycles t lt).shows p jp (λ h. h) ∙ (steady c ok (input t) (run t) (is.cycles t lt) a p.wire fa
      ∙ (copies c ok tri (input t) (run t) (is.cycles t lt) (plus da.0 db.0) (copies_always c ok tri start input n run is t lt) a b (pad_reads c ok tri p a jp fa) (pad_reads c ok tri q b jq fb) g.same na nb
      (deep_right c da.0 db.0 a da.1) (deep_left c da.0 db.0 b db.1)
      ∙ (sym (steady c ok (input t) (run t) (is.cycles t lt) b q.wire fb) ∙ sym ((is.cycles t lt).shows q jq (λ h. h)))))

  pub outputs_agree : (o : Triple) (x y : List ℕ) → In c.side.outputs o → IsEntry o x → IsEntry o y → (run t).shown x ≡ (run t).shown y
  outputs_agree o x y jo ex ey =
      let p = ok.formed.triples.outputs o x jo ex in
      let q = ok.formed.triples.outputs o y jo ey in
      subst (λ z. (run t).shown z ≡ (run t).shown y) p.1.1 (subst (λ z. (run t).shown p.0.name ≡ (run t).shown z) q.1.1
      (pads_agree o p.0 q.0 jo (in_output_pads c.cells p.0 p.1.0 p.1.2) (in_output_pads c.cells q.0 q.1.0 q.1.2) (subst (IsEntry o) (sym p.1.1) ex) (subst (IsEntry o) (sym q.1.1) ey)))
