-- A test of what the check of the arcs refuses.
use Rattle.std.proofs.Common.{◌≡◌, Bool, true, false, not, Option, Some, None, option_map, option_and_then, inl, inr, refl, sym, ap, subst, ◌∙◌, ◌&&◌, ◌||◌, eq-eqb}
use Rattle.std.specs.Prelude.{◌==◌, slice_get}
use Rattle.std.specs.List.{list_all, list_any}
use Rattle.std.specs.Option.{option_map_or}
use Rattle.std.proofs.lemmas.Bool.{false≢true, and_parts, and_from, eqb-true}
use Rattle.words.specs.Members.{In}
use Rattle.patterns.specs.Bits.{Bits}
use Rattle.patterns.specs.Fits.{has_plain_bit}
use Rattle.records.specs.Grid.{Tile}
use Rattle.records.specs.Config.{ArcLine, TileText, Config}
use Rattle.fabric.specs.Device.{Device}
use Rattle.fabric.specs.Graph.{GraphMux, GraphArc, Graph}
use Rattle.fabric.specs.GraphOf.{IsGraph}
use Rattle.fabric.specs.Image.{tile_named, arc_of_line}
use Rattle.fabric.specs.Links.{is_chosen}
use Rattle.fabric.specs.Agree.{HasLine}
use Rattle.fabric_laws.specs.PlainAgree.{same_arc, has_line}
use Rattle.fabric_laws.proofs.Members.{any_from, any_to, is_false}
use Rattle.fabric_laws.proofs.Graphs.{arc_of, one_arc}
use Rattle.fabric_laws.proofs.Agreeing.{line_listed}
use Rattle.cells_laws.proofs.Options.{mapped_to, then_to}
use Rattle.design_checks.specs.Checks.{IsLeast}
use Rattle.design_checks.specs.RoutingChecks.{MuxName, mux_name_cmp, Differs}
use Rattle.circuit_examples.proofs.Tests.{implies, implied, all_in, and_both, no_false}
use Rattle.check_examples.proofs.Tests.{is_after, not_after}

-- the arc of a line
abbrev found : Graph → TileText → ArcLine → Option GraphArc
found g text line = option_and_then (λ tile. arc_of_line g tile line) (tile_named g text.tile)

-- the name of the mux of an arc
abbrev pub name_of : Graph → GraphArc → Option MuxName
name_of g a = option_and_then (λ (mux : GraphMux). option_map (λ (tile : Tile). let name : MuxName = record { tile = tile.name; sink = mux.mux.sink } in name) (slice_get g.grid.tiles mux.tile)) (slice_get g.muxes a.mux)

abbrev pub differs_at : Graph → Bits → Config → GraphArc → Bool
differs_at g image config a = (is_chosen g image a && (has_plain_bit a.arc.bits && not (has_line g config a))) || (has_line g config a && not (is_chosen g image a))

-- a name isn't before another
abbrev not_before : MuxName → Option MuxName → Bool
not_before name None = true
not_before name (Some other) = not (is_after (mux_name_cmp name other))

module _ (device : Device) (g : Graph) (is : IsGraph device g) (config : Config) where
  line_to : (a : GraphArc) → HasLine g config a → has_line g config a ≡ true
  line_to a h =
      any_to (λ text. list_any (λ line. option_map_or (same_arc a) (found g text line) false) text.arcs) config.tiles h.text h.section
      (any_to (λ line. option_map_or (same_arc a) (found g h.text line) false) h.text.arcs h.line h.listed
      (ap (λ o. option_map_or (same_arc a) o false) h.is ∙ and_from (a.mux == a.mux) (a.place == a.place) (eq-eqb a.mux a.mux refl) (eq-eqb a.place a.place refl)))

  found_so : (a : GraphArc) (text : TileText) (line : ArcLine) → In config.tiles text → In text.arcs line → In g.arcs a
      → (o : Option GraphArc) → found g text line ≡ o → option_map_or (same_arc a) o false ≡ true → HasLine g config a
  found_so a text line i j listed None e h = absurd (false≢true h)
  found_so a text line i j listed (Some b) e h =
      let parts = and_parts (a.mux == b.mux) (a.place == b.place) h in
      let there = line_listed g config b (record { text = text; line = line; section = i; listed = j; is = e }) in
      let same : b ≡ a = one_arc device g.wires a b (arc_of device g.wires a ((is.arcs.members a).0 listed)) (arc_of device g.wires b ((is.arcs.members b).0 there))
      (record { mux = eqb-true a.mux b.mux parts.0; place = eqb-true a.place b.place parts.1 }) in
      record { text = text; line = line; section = i; listed = j; is = e ∙ ap (λ x. Some x) same }

  line_from : (a : GraphArc) → In g.arcs a → has_line g config a ≡ true → HasLine g config a
  line_from a listed h =
      let t = any_from (λ text. list_any (λ line. option_map_or (same_arc a) (found g text line) false) text.arcs) config.tiles h in
      let l = any_from (λ line. option_map_or (same_arc a) (found g t.0 line) false) t.0.arcs t.2 in
      found_so a t.0 l.0 t.1 l.1 listed (found g t.0 l.0) refl l.2

  pub lineless : (a : GraphArc) → not (has_line g config a) ≡ true → HasLine g config a → ⊥
  lineless a e h = no_false (sym (ap not (line_to a h)) ∙ e)

  module _ (image : Bits) where
    or_left : (a b : Bool) → a ≡ true → (a || b) ≡ true
    or_left true b e = refl
    or_left false b e = absurd (no_false e)

    or_right : (a b : Bool) → b ≡ true → (a || b) ≡ true
    or_right true b e = refl
    or_right false b e = e

    -- an arc that differs passes the test
    differs_told : (name : MuxName) (h : Differs g image config name) → differs_at g image config h.arc ≡ true
    differs_told name h = let a = h.arc in elim h.differs [
      | inl d ↦ or_left (is_chosen g image a && (has_plain_bit a.arc.bits && not (has_line g config a))) (has_line g config a && not (is_chosen g image a))
          (and_both (is_chosen g image a) (has_plain_bit a.arc.bits && not (has_line g config a)) d.0
          (and_both (has_plain_bit a.arc.bits) (not (has_line g config a)) d.1.0 (ap not (is_false (has_line g config a) (λ e. d.1.1 (line_from a h.listed e))))))
      | inr d ↦ or_right (is_chosen g image a && (has_plain_bit a.arc.bits && not (has_line g config a))) (has_line g config a && not (is_chosen g image a))
          (and_both (has_line g config a) (not (is_chosen g image a)) (line_to a d.0) (ap not d.1))
    ]

    name_told : (name : MuxName) (h : Differs g image config name) → name_of g h.arc ≡ Some name
    name_told name h = then_to (λ mux. option_map (λ tile. let name : MuxName = record { tile = tile.name; sink = mux.mux.sink } in name) (slice_get g.grid.tiles mux.tile)) (slice_get g.muxes h.arc.mux) h.mux name h.of_mux
        (mapped_to (λ tile. let name : MuxName = record { tile = tile.name; sink = h.mux.mux.sink } in name) (slice_get g.grid.tiles h.mux.tile) h.tile h.in_tile ∙ ap (λ z. Some z) (sym h.named))

    pub least_differs : (name : MuxName) → Differs g image config name → list_all (λ a. implies (differs_at g image config a) (not_before name (name_of g a))) g.arcs ≡ true
        → IsLeast mux_name_cmp (Differs g image config) name
    least_differs name has all = record {
      has = has;
      least = λ other h. not_after (mux_name_cmp name other) (subst (λ o. not_before name o ≡ true) (name_told other h)
          (implied (differs_at g image config h.arc) (not_before name (name_of g h.arc)) (all_in (λ a. implies (differs_at g image config a) (not_before name (name_of g a))) g.arcs h.arc all h.listed) (differs_told other h)));
    }
