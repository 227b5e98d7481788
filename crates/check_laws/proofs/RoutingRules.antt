-- What the checks of the routing leave: no wire is contested, and the arcs of the text are those that are chosen.
use Rattle.std.proofs.Common.{◌≡◌, ℕ, Bool, true, false, List, filter_map, Option, Some, None, option_map, option_and_then, ◌⊎◌, ◌&&◌, inl, inr, refl, sym, ap, subst, ◌∙◌}
use Rattle.std.specs.Prelude.{slice_get, ◌==◌}
use Rattle.std.specs.Ordering.{nat_cmp}
use Rattle.std.specs.Str.{bytes_eq}
use Rattle.words.specs.Members.{In}
use Rattle.words.proofs.Decided.{Decided}
use Rattle.patterns.specs.Bits.{Bits}
use Rattle.patterns.specs.Fits.{has_plain_bit}
use Rattle.records.specs.Database.{Fixed}
use Rattle.records.specs.Grid.{Tile}
use Rattle.records.specs.Config.{ArcLine, TileText, Config}
use Rattle.links.specs.Links.{Link, Routing, IsClean}
use Rattle.fabric.specs.Wires.{Wire}
use Rattle.fabric.specs.Device.{Device, output_names, fixed_at}
use Rattle.fabric.specs.Graph.{GraphMux, GraphArc, Graph}
use Rattle.fabric.specs.GraphOf.{number_in, link_in, outputs_of, IsGraph}
use Rattle.fabric.specs.Image.{tile_named, mux_named, arc_named, arc_of_line}
use Rattle.fabric.specs.Links.{is_chosen, links_of, routing_of}
use Rattle.fabric.specs.Agree.{HasLine, ArcsAgree}
use Rattle.answers.specs.Refusals.{ArcDiffers, Contested}
use Rattle.design_checks.specs.Checks.{Passes, IsLeast}
use Rattle.design_checks.specs.RoutingChecks.{MuxName, mux_name_cmp, Differs, ArcsDiffer, differ, IsContested, Asserts, AssertsBeside, two, alone, AreContested, contested}
use Rattle.links.proofs.Members.{any_of, same_number, of_flat_map}
use Rattle.fabric_laws.proofs.Members.{in_filter_map_from, in_filter_map_to, find_from}
use Rattle.fabric_laws.proofs.Graphs.{some_same, arc_of, one_arc}
use Rattle.fabric_laws.proofs.Standing.{stands, arc_stands}
use Rattle.fabric_laws.proofs.Chosen.{links_law}
use Rattle.fabric_laws.proofs.Agreeing.{line_listed}
use Rattle.cells_laws.proofs.Options.{mapped_from, mapped_to, then_from, then_to}
use Rattle.check_laws.proofs.Least.{excluded, no_least, no_least_number}
use Rattle.check_laws.proofs.Orders.{mux_total}

-- a number is that of a wire
abbrev pub HasWire : Graph → ℕ → Type 0
HasWire g n = (wire : Wire) × (slice_get g.wires n ≡ Some wire)

module _ (device : Device) (g : Graph) (is : IsGraph device g) where
  named_wire : (tile : Tile) (name : List ℕ) (n : ℕ) → number_in g.wires device.profile.rules tile name ≡ Some n → HasWire g n
  named_wire tile name n e = let s = stands device g tile name n e in (s.wire, s.numbered)

  pub site_output_wire : (o : ℕ) → In (outputs_of device g.wires) o → HasWire g o
  site_output_wire o i =
      let t = of_flat_map (λ tile. filter_map (number_in g.wires device.profile.rules tile) (output_names device tile)) device.grid.tiles o i in
      let n = in_filter_map_from (number_in g.wires device.profile.rules t.0) (output_names device t.0) o t.1.1 in
      named_wire t.0 n.0 o n.2

  pub output_wire : (o : ℕ) → In g.outputs o → HasWire g o
  output_wire o i = site_output_wire o ((is.outputs.members o).0 i)

  link_named : (tile : Tile) (fixed : Fixed) (link : Link) → link_in g.wires device.profile.rules tile fixed ≡ Some link → HasWire g link.source × HasWire g link.sink
  link_named tile fixed link e =
      let sink = then_from (λ n. option_map (λ source. let l : Link = record { source = source; sink = n } in l) (number_in g.wires device.profile.rules tile fixed.source)) (number_in g.wires device.profile.rules tile fixed.sink) link e in
      let source = mapped_from (λ source. let l : Link = record { source = source; sink = sink.0 } in l) (number_in g.wires device.profile.rules tile fixed.source) link sink.1.1 in
      of_ends source.0 sink.0 source.1.1 (named_wire tile fixed.source source.0 source.1.0) (named_wire tile fixed.sink sink.0 sink.1.0)
    where
      of_ends : (a b : ℕ) → (let l : Link = record { source = a; sink = b } in l) ≡ link → HasWire g a → HasWire g b → HasWire g link.source × HasWire g link.sink
      of_ends a b same v w = (subst (HasWire g) (ap (λ l. l.source) same) v, subst (HasWire g) (ap (λ l. l.sink) same) w)

  fixed_wires : (link : Link) → In g.fixed link → HasWire g link.source × HasWire g link.sink
  fixed_wires link i =
      let t = of_flat_map (λ tile. filter_map (link_in g.wires device.profile.rules tile) (fixed_at device tile)) device.grid.tiles link ((is.fixed.members link).0 i) in
      let f = in_filter_map_from (link_in g.wires device.profile.rules t.0) (fixed_at device t.0) link t.1.1 in
      link_named t.0 f.0 link f.2

  arc_wires : (a : GraphArc) → In g.arcs a → HasWire g a.source × HasWire g a.sink
  arc_wires a i = let s = arc_stands device g is a i in ((s.source.wire, s.source.numbered), (s.sink.wire, s.sink.numbered))

  module _ (image : Bits) where
    link_wires : (link : Link) → In (links_of g image) link → HasWire g link.source × HasWire g link.sink
    link_wires link i = elim ((links_law g image link).0 i) [
      | inl a ↦ subst (λ l. HasWire g l.source × HasWire g l.sink) a.1.2 (arc_wires a.0 a.1.0)
      | inr j ↦ fixed_wires link j
    ]

    abbrev r : Routing
    r = routing_of g image

    asserted : (w x : ℕ) → Asserts r w x → HasWire g x
    asserted w x (inl k) = (link_wires (record { source = x; sink = w }) k.0).0
    asserted w x (inr k) = output_wire x (subst (In g.outputs) (sym k.1) k.0)

    contested_wire : (w : ℕ) → IsContested r w → HasWire g w
    contested_wire w (inl k) = (link_wires (record { source = k.0; sink = w }) k.1.1.0.0).1
    contested_wire w (inr k) = output_wire w k.0

    some_asserts : (w : ℕ) → IsContested r w → (x : ℕ) × Asserts r w x
    some_asserts w (inl k) = (k.0, inl k.1.1.0)
    some_asserts w (inr k) = (k.1.0, inl k.1.1)

    none_contested : Passes (AreContested g image) → (w : ℕ) → IsContested r w → ⊥
    none_contested pass w h = no_least_number (IsContested r) at w h
      where
        at : (v : ℕ) → IsLeast nat_cmp (IsContested r) v → ⊥
        at v l = no_least_number (Asserts r v) least (some_asserts v l.has).0 (some_asserts v l.has).1
          where
            wire : HasWire g v
            wire = contested_wire v l.has

            least : (x : ℕ) → IsLeast nat_cmp (Asserts r v) x → ⊥
            least x lx = excluded ((y : ℕ) × AssertsBeside r v x y) (λ e. elim e [
              | inl z ↦ no_least_number (AssertsBeside r v x) (λ y ly. let first = asserted v x lx.has in let second = asserted v y ly.has.0 in
                  pass (Contested wire.0 first.0 second.0) (contested v x y wire.0 first.0 second.0 l (two lx ly) wire.1 first.1 second.1)) z.0 z.1
              | inr n ↦ (let first = asserted v x lx.has in
                  pass (Contested wire.0 first.0 first.0) (contested v x x wire.0 first.0 first.0 l (alone lx (λ y a. n (y, a))) wire.1 first.1 first.1))
            ])

    pub clean : Passes (AreContested g image) → IsClean (routing_of g image)
    clean pass = record {
      one_driver = λ w x y a b. elim (same_number x y) [ inl e ↦ e | inr n ↦ absurd (none_contested pass w (inl (x, (y, (a, (b, n)))))) ];
      outputs_undriven = λ w x i a. none_contested pass w (inr (i, (x, a)));
    }

    -- ---- arcs

    module _ (config : Config) where
      abbrev found : TileText → ArcLine → Option GraphArc
      found text line = option_and_then (λ tile. arc_of_line g tile line) (tile_named g text.tile)

      found_listed : (text : TileText) (line : ArcLine) (b : GraphArc) → found text line ≡ Some b → In g.arcs b
      found_listed text line b e =
          let t = then_from (λ tile. arc_of_line g tile line) (tile_named g text.tile) b e in
          let m = then_from (λ mux. arc_named g mux line.source) (mux_named g t.0 line.sink) b t.1.1 in
          (find_from (λ x. (x.mux == m.0) && bytes_eq x.arc.source line.source) g.arcs b m.1.1).0

      is_found : (a : GraphArc) → In g.arcs a → (text : TileText) (line : ArcLine) (o : Option GraphArc) → found text line ≡ o → Decided (found text line ≡ Some a)
      is_found a i text line None e = inr (λ h. let no : None ≡ Some a = sym e ∙ h in let wrong : ⊥ = cc in wrong)
      is_found a i text line (Some b) e = elim (same_number a.mux b.mux) [
        | inl m ↦ elim (same_number a.place b.place) [
          | inl p ↦ inl (e ∙ ap (λ z. Some z) (one_arc device g.wires a b (arc_of device g.wires a ((is.arcs.members a).0 i))
              (arc_of device g.wires b ((is.arcs.members b).0 (found_listed text line b e))) (record { mux = m; place = p })))
          | inr n ↦ inr (λ h. n (ap (λ z. z.place) (sym (some_same (sym e ∙ h)))))
        ]
        | inr n ↦ inr (λ h. n (ap (λ z. z.mux) (sym (some_same (sym e ∙ h)))))
      ]

      line_decided : (a : GraphArc) → In g.arcs a → Decided (HasLine g config a)
      line_decided a i = elim (any_of (λ text. (line : ArcLine) × (In text.arcs line × (found text line ≡ Some a))) in_text config.tiles) [
        | inl t ↦ inl (record { text = t.0; line = t.1.1.0; section = t.1.0; listed = t.1.1.1.0; is = t.1.1.1.1 })
        | inr n ↦ inr (λ h. n h.text h.section (h.line, (h.listed, h.is)))
      ]
        where
          in_text : (text : TileText) → Decided ((line : ArcLine) × (In text.arcs line × (found text line ≡ Some a)))
          in_text text = elim (any_of (λ line. found text line ≡ Some a) (λ line. is_found a i text line (found text line) refl) text.arcs) [
            | inl l ↦ inl l
            | inr n ↦ inr (λ h. n h.0 h.1.0 h.1.1)
          ]

      abbrev Differ : GraphArc → Type 0
      Differ arc = ((is_chosen g image arc ≡ true) × ((has_plain_bit arc.arc.bits ≡ true) × (HasLine g config arc → ⊥))) ⊎ (HasLine g config arc × (is_chosen g image arc ≡ false))

      abbrev mux_name : Tile → GraphMux → MuxName
      mux_name tile mux = record { tile = tile.name; sink = mux.mux.sink }

      abbrev name_of : GraphArc → Option MuxName
      name_of a = option_and_then (λ mux. option_map (λ tile. mux_name tile mux) (slice_get g.grid.tiles mux.tile)) (slice_get g.muxes a.mux)

      name_listed : (name : MuxName) → Differs g image config name → In (filter_map name_of g.arcs) name
      name_listed name h = in_filter_map_to name_of g.arcs h.arc name h.listed
          (then_to (λ mux. option_map (λ tile. mux_name tile mux) (slice_get g.grid.tiles mux.tile)) (slice_get g.muxes h.arc.mux) h.mux name h.of_mux
          (mapped_to (λ tile. mux_name tile h.mux) (slice_get g.grid.tiles h.mux.tile) h.tile h.in_tile ∙ ap (λ z. Some z) (sym h.named)))

      none_differs : Passes (ArcsDiffer g image config) → (a : GraphArc) → In g.arcs a → Differ a → ⊥
      none_differs pass a i d =
          let s = arc_stands device g is a i in
          no_least mux_name_cmp mux_total (Differs g image config) (filter_map name_of g.arcs) name_listed (λ name l. pass (ArcDiffers name.tile name.sink) (differ name l)) (mux_name s.tile s.mux)
          (record { arc = a; mux = s.mux; tile = s.tile; listed = i; of_mux = s.of_mux; in_tile = ap (λ z. slice_get z.tiles s.mux.tile) is.grid ∙ s.in_tile; named = refl; differs = d })

      true_or_false : (b : Bool) → (b ≡ false → ⊥) → b ≡ true
      true_or_false true n = refl
      true_or_false false n = absurd (n refl)

      pub agree : Passes (ArcsDiffer g image config) → ArcsAgree g image config
      agree pass = record {
        chosen_has_line = λ a i ch plain. elim (line_decided a i) [ inl h ↦ h | inr n ↦ absurd (none_differs pass a i (inl (ch, (plain, n)))) ];
        line_is_chosen = λ a h. true_or_false (is_chosen g image a) (λ e. none_differs pass a (line_listed g config a h) (inr (h, e)));
      }
