-- Outputs that stand twice, arcs that differ and contested wires are decided.
use Rattle.std.proofs.Common.{◌≡◌, ◌≢◌, ℕ, ◌≤◌, Bool, true, false, ◌⊎◌, inl, inr, List, ◌∷◌, map, filter_map, option_map, Some, refl, sym, ap, subst, ◌∙◌, arith}
use Rattle.std.specs.Prelude.{slice_get}
use Rattle.std.specs.Ordering.{nat_cmp}
use Rattle.std.specs.Cmp.{nat_cmp_total}
use Rattle.std.proofs.lemmas.Bool.{cases_lt}
use Rattle.words.specs.Members.{In}
use Rattle.words.proofs.Decided.{Decided, both, either, never, decided_by, is_true, some_in, some}
use Rattle.patterns.specs.Bits.{Bits}
use Rattle.patterns.specs.Fits.{has_plain_bit}
use Rattle.records.specs.Grid.{Tile}
use Rattle.records.specs.Config.{Config}
use Rattle.links.specs.Links.{Link, Routing, Counting}
use Rattle.links.proofs.Members.{in_map, of_flat_map, is_in, same_number}
use Rattle.links.proofs.Feeds.{is_counting}
use Rattle.fabric.specs.Device.{Device, fixed_at}
use Rattle.fabric.specs.Graph.{GraphMux, GraphArc, Graph}
use Rattle.fabric.specs.GraphOf.{number_in, link_in, outputs_of, IsGraph}
use Rattle.fabric.specs.Links.{is_chosen, links_of, routing_of}
use Rattle.fabric.specs.Agree.{HasLine}
use Rattle.fabric_laws.proofs.Chosen.{links_law}
use Rattle.fabric_laws.proofs.Graphs.{some_same}
use Rattle.fabric_laws.proofs.Members.{in_filter_map_from}
use Rattle.fabric_laws.proofs.Standing.{stands, arc_stands}
use Rattle.cells_laws.proofs.Options.{mapped_from, then_from}
use Rattle.route_laws.proofs.Same.{names}
use Rattle.answers.specs.Refusals.{Refusal, OverlapShape, ArcDiffers, Contested}
use Rattle.design_checks.specs.GraphChecks.{IsOutputTwice, Overlap, overlap}
use Rattle.design_checks.specs.RoutingChecks.{MuxName, mux_name_cmp, Differs, ArcsDiffer, differ, IsContested, Asserts, AssertsBeside, AreTwoLeast, two, alone, AreContested, contested}
use Rattle.check_laws.proofs.Orders.{mux_total}
use Rattle.check_laws.proofs.Overlaps.{counted_in}
use Rattle.check_laws.proofs.RoutingRules.{HasWire, site_output_wire, output_wire}
use Rattle.answer_laws.proofs.Lists.{least_or_none, gathered}
use Rattle.answer_laws.proofs.Ripped.{some_of}
use Rattle.answer_laws.proofs.Tests.{has_line}
use Rattle.answer_laws.proofs.BadPlaces.{link_sink}
use Rattle.decided_laws.specs.Statements.{IsDecided}

at_least : (m n : ℕ) → Decided (m ≤ n)
at_least m n = elim (cases_lt n m) as (λ _. Decided (m ≤ n)) [ inl l ↦ inr (λ h. let no : ⊥ = omega arith in no) | inr l ↦ inl l ]

is_false : (b : Bool) → Decided (b ≡ false)
is_false true = inr (λ e. let no : ⊥ = cc in no)
is_false false = inl refl

-- ---- outputs

pub overlap_decided : (device : Device) (g : Graph) → IsGraph device g → IsDecided (Overlap device g)
overlap_decided device g is = elim (least_or_none nat_cmp nat_cmp_total (IsOutputTwice device g) (λ w. at_least 2 _) (outputs_of device g.wires) listed) [
  | inl l ↦ (let wire = site_output_wire device g is l.0 (listed l.0 l.1.has) in inl (OverlapShape wire.0, overlap l.0 wire.0 l.1 wire.1))
  | inr n ↦ inr (λ r h. none r h n)
]
  where
    listed : (w : ℕ) → IsOutputTwice device g w → In (outputs_of device g.wires) w
    listed w h = counted_in (outputs_of device g.wires) w (omega arith)

    none : (r : Refusal) → Overlap device g r → ((w : ℕ) → IsOutputTwice device g w → ⊥) → ⊥
    none _ (overlap w wire l e) n = n w l.has

-- ---- arcs

module _ (g : Graph) (image : Bits) (config : Config) where
  abbrev Differ : GraphArc → Type 0
  Differ arc = ((is_chosen g image arc ≡ true) × ((has_plain_bit arc.arc.bits ≡ true) × (HasLine g config arc → ⊥))) ⊎ (HasLine g config arc × (is_chosen g image arc ≡ false))

  differs : (arc : GraphArc) → Decided (Differ arc)
  differs arc = either
      (both (is_true (is_chosen g image arc)) (both (is_true (has_plain_bit arc.arc.bits)) (never (has_line g image config arc))))
      (both (has_line g image config arc) (is_false (is_chosen g image arc)))

  -- the mux of an arc, with its tile
  abbrev Placed : GraphArc → Type 0
  Placed arc = (mux : GraphMux) × ((slice_get g.muxes arc.mux ≡ Some mux) × ((tile : Tile) × ((slice_get g.grid.tiles mux.tile ≡ Some tile) × Unit {0})))

  abbrev name_of : (arc : GraphArc) → Placed arc → MuxName
  name_of arc p = record { tile = p.1.1.0.name; sink = p.0.mux.sink }

  placed : (arc : GraphArc) → Decided (Placed arc)
  placed arc = decided_by (λ h. (h.0, h.1)) (λ h. (h.0, h.1))
      (some_of (slice_get g.muxes arc.mux) (λ mux. (tile : Tile) × ((slice_get g.grid.tiles mux.tile ≡ Some tile) × Unit {0})) (λ mux. some_of (slice_get g.grid.tiles mux.tile) (λ tile. Unit {0}) (λ tile. inl tt)))

  -- an arc has one place
  one_name : (arc : GraphArc) (p q : Placed arc) → name_of arc p ≡ name_of arc q
  one_name arc p q =
      let muxes : p.0 ≡ q.0 = some_same (sym p.1.0 ∙ q.1.0) in
      let tiles : p.1.1.0 ≡ q.1.1.0 = some_same (sym p.1.1.1.0 ∙ ap (λ (m : GraphMux). slice_get g.grid.tiles m.tile) muxes ∙ q.1.1.1.0) in
      λ i. record { tile = (tiles i).name; sink = (muxes i).mux.sink }

  told_name : (a b : MuxName) → (a ≡ b) ⊎ (a ≢ b)
  told_name a b = go (names a.tile b.tile) (names a.sink b.sink)
    where
      go : (a.tile ≡ b.tile) ⊎ (a.tile ≢ b.tile) → (a.sink ≡ b.sink) ⊎ (a.sink ≢ b.sink) → (a ≡ b) ⊎ (a ≢ b)
      go (inl p) (inl q) = inl (λ i. record { tile = p i; sink = q i })
      go (inl p) (inr n) = inr (λ e. n (ap (λ m. m.sink) e))
      go (inr n) q = inr (λ e. n (ap (λ m. m.tile) e))

  all_names : (ys : List MuxName) × ((arc : GraphArc) → In g.arcs arc → Placed arc → (p : Placed arc) × In ys (name_of arc p))
  all_names = gathered Placed placed name_of g.arcs

  abbrev Named : MuxName → GraphArc → Type 0
  Named name arc = ((p : Placed arc) × (name ≡ name_of arc p)) × Differ arc

  named : (name : MuxName) (arc : GraphArc) → Decided (Named name arc)
  named name arc = both (at (placed arc)) (differs arc)
    where
      at : Decided (Placed arc) → Decided ((p : Placed arc) × (name ≡ name_of arc p))
      at (inl p) = decided_by (λ e. (p, e)) (λ h. h.1 ∙ one_name arc h.0 p) (told_name name (name_of arc p))
      at (inr n) = inr (λ h. n h.0)

  name_differs : (name : MuxName) → Decided (Differs g image config name)
  name_differs name = decided_by
      (λ h. (let p = h.1.1.0.0 in record { arc = h.0; mux = p.0; tile = p.1.1.0; listed = h.1.0; of_mux = p.1.0; in_tile = p.1.1.1.0; named = h.1.1.0.1; differs = h.1.1.1 }))
      (λ d. (d.arc, (d.listed, (((d.mux, (d.of_mux, (d.tile, (d.in_tile, tt)))), d.named), d.differs))))
      (some_in (Named name) (named name) g.arcs)

  name_listed : (name : MuxName) → Differs g image config name → In all_names.0 name
  name_listed name d =
      let p : Placed d.arc = (d.mux, (d.of_mux, (d.tile, (d.in_tile, tt)))) in
      let q = all_names.1 d.arc d.listed p in
      subst (In all_names.0) (one_name d.arc q.0 p ∙ sym d.named) q.1

  pub arcs_decided : IsDecided (ArcsDiffer g image config)
  arcs_decided = elim (least_or_none mux_name_cmp mux_total (Differs g image config) name_differs all_names.0 name_listed) [
    | inl l ↦ inl (ArcDiffers l.0.tile l.0.sink, differ l.0 l.1)
    | inr n ↦ inr (λ r h. none r h n)
  ]
    where
      none : (r : Refusal) → ArcsDiffer g image config r → ((name : MuxName) → Differs g image config name → ⊥) → ⊥
      none _ (differ name l) n = n name l.has

-- ---- contested wires

module _ (device : Device) (g : Graph) (is : IsGraph device g) (image : Bits) where
  abbrev r : Routing
  r = routing_of g image

  fixed_source : (link : Link) → In g.fixed link → HasWire g link.source
  fixed_source link i =
      let t = of_flat_map (λ tile. filter_map (link_in g.wires device.profile.rules tile) (fixed_at device tile)) device.grid.tiles link ((is.fixed.members link).0 i) in
      let f = in_filter_map_from (link_in g.wires device.profile.rules t.0) (fixed_at device t.0) link t.1.1 in
      let n = then_from (λ n. option_map (λ source. let l : Link = record { source = source; sink = n } in l) (number_in g.wires device.profile.rules t.0 f.0.source)) (number_in g.wires device.profile.rules t.0 f.0.sink) link f.2 in
      let s = mapped_from (λ source. let l : Link = record { source = source; sink = n.0 } in l) (number_in g.wires device.profile.rules t.0 f.0.source) link n.1.1 in
      let w = stands device g t.0 f.0.source s.0 s.1.0 in
      subst (λ (l : Link). HasWire g l.source) s.1.1 (w.wire, w.numbered)

  link_source : (link : Link) → In (links_of g image) link → HasWire g link.source
  link_source link i = elim ((links_law g image link).0 i) [
    | inl a ↦ subst (λ (l : Link). HasWire g l.source) a.1.2 (let s = arc_stands device g is a.0 a.1.0 in (s.source.wire, s.source.numbered))
    | inr j ↦ fixed_source link j
  ]

  abbrev starts : List ℕ
  starts = map (λ l. l.source) r.links

  abbrev ends : List ℕ
  ends = map (λ l. l.sink) r.links

  starts_in : (x w : ℕ) → Counting r x w → In starts x
  starts_in x w c = in_map (λ l. l.source) r.links (record { source = x; sink = w }) c.0

  ends_in : (x w : ℕ) → Counting r x w → In ends w
  ends_in x w c = in_map (λ l. l.sink) r.links (record { source = x; sink = w }) c.0

  abbrev IsTwo : ℕ → ℕ → Type 0
  IsTwo w x = (y : ℕ) × (Counting r x w × (Counting r y w × (x ≢ y)))

  is_two : (w x : ℕ) → Decided (IsTwo w x)
  is_two w x = some (λ y. Counting r x w × (Counting r y w × (x ≢ y))) (λ y. both (is_counting r x w) (both (is_counting r y w) (never (same_number x y)))) starts (λ y h. starts_in y w h.1.0)

  is_contested : (w : ℕ) → Decided (IsContested r w)
  is_contested w = either (some (IsTwo w) (is_two w) starts (λ x h. starts_in x w h.1.0))
      (both (is_in same_number r.outputs w) (some (λ x. Counting r x w) (λ x. is_counting r x w) starts (λ x c. starts_in x w c)))

  contested_in : (w : ℕ) → IsContested r w → In ends w
  contested_in w (inl h) = ends_in h.0 w h.1.1.0
  contested_in w (inr h) = ends_in h.1.0 w h.1.1

  asserts : (w x : ℕ) → Decided (Asserts r w x)
  asserts w x = either (is_counting r x w) (both (is_in same_number r.outputs w) (same_number x w))

  asserts_in : (w x : ℕ) → Asserts r w x → In (w ∷ starts) x
  asserts_in w x (inl c) = inr (starts_in x w c)
  asserts_in w x (inr h) = inl (sym h.1)

  some_asserts : (w : ℕ) → IsContested r w → (x : ℕ) × Asserts r w x
  some_asserts w (inl h) = (h.0, inl h.1.1.0)
  some_asserts w (inr h) = (h.1.0, inl h.1.1)

  asserted : (w x : ℕ) → Asserts r w x → HasWire g x
  asserted w x (inl c) = link_source (record { source = x; sink = w }) c.0
  asserted w x (inr h) = output_wire device g is x (subst (In g.outputs) (sym h.1) h.0)

  contested_wire : (w : ℕ) → IsContested r w → HasWire g w
  contested_wire w (inl h) = link_sink device g is image (record { source = h.0; sink = w }) h.1.1.0.0
  contested_wire w (inr h) = output_wire device g is w h.0

  -- the two least that drive a wire
  record Drivers (w : ℕ) : Type 0 where
    first : ℕ
    second : ℕ
    are : AreTwoLeast r w first second
    first_wire : HasWire g first
    second_wire : HasWire g second

  drivers : (w : ℕ) → IsContested r w → Drivers w
  drivers w h = elim (least_or_none nat_cmp nat_cmp_total (Asserts r w) (asserts w) (w ∷ starts) (asserts_in w)) [
    | inr n ↦ (let a = some_asserts w h in absurd (n a.0 a.1))
    | inl x ↦ elim (least_or_none nat_cmp nat_cmp_total (AssertsBeside r w x.0) (λ y. both (asserts w y) (never (same_number y x.0))) (w ∷ starts) (λ y b. asserts_in w y b.0)) [
      | inl y ↦ record { first = x.0; second = y.0; are = two x.1 y.1; first_wire = asserted w x.0 x.1.has; second_wire = asserted w y.0 y.1.has.0 }
      | inr none ↦ record { first = x.0; second = x.0; are = alone x.1 none; first_wire = asserted w x.0 x.1.has; second_wire = asserted w x.0 x.1.has }
    ]
  ]

  pub contested_decided : IsDecided (AreContested g image)
  contested_decided = elim (least_or_none nat_cmp nat_cmp_total (IsContested r) is_contested ends contested_in) [
    | inl l ↦ (let d = drivers l.0 l.1.has in
        let w = contested_wire l.0 l.1.has in
        inl (Contested w.0 d.first_wire.0 d.second_wire.0, contested l.0 d.first d.second w.0 d.first_wire.0 d.second_wire.0 l.1 d.are w.1 d.first_wire.1 d.second_wire.1))
    | inr n ↦ inr (λ q h. none q h n)
  ]
    where
      none : (q : Refusal) → AreContested g image q → ((w : ℕ) → IsContested r w → ⊥) → ⊥
      none _ (contested w x y wire first second l are e f h) n = n w l.has
