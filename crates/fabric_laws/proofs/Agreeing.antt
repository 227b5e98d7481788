-- The test of agreeing arcs is what it should be.
use Rattle.std.proofs.Common.{◌≡◌, ℕ, true, false, ◌↔◌, ◌&&◌, ◌||◌, Option, Some, None, refl, ap, ◌∙◌, eq-eqb}
use Rattle.std.specs.Prelude.{not, ◌==◌}
use Rattle.std.specs.List.{list_any, list_all}
use Rattle.std.specs.Str.{bytes_eq}
use Rattle.std.specs.Option.{option_and_then, option_map_or}
use Rattle.std.proofs.lemmas.Bool.{false≢true, and_parts, and_from, eqb-true}
use Rattle.words.specs.Members.{In}
use Rattle.patterns.specs.Bits.{Bits}
use Rattle.patterns.specs.Fits.{has_plain_bit}
use Rattle.records.specs.Config.{ArcLine, TileText, Config}
use Rattle.fabric.specs.Device.{Device}
use Rattle.fabric.specs.Graph.{GraphArc, Graph}
use Rattle.fabric.specs.GraphOf.{IsGraph}
use Rattle.fabric.specs.Links.{is_chosen}
use Rattle.fabric.specs.Image.{tile_named, mux_named, arc_named, arc_of_line}
use Rattle.fabric.specs.Agree.{HasLine, ArcsAgree}
use Rattle.fabric_laws.specs.PlainAgree.{same_arc, has_line, arcs_agree}
use Rattle.fabric_laws.proofs.Members.{any_from, any_to, all_from, all_to, find_from, imp_from, imp_to}
use Rattle.fabric_laws.proofs.Graphs.{arc_of, one_arc}

-- the arc of a line
abbrev found : Graph → TileText → ArcLine → Option GraphArc
found g text line = option_and_then (λ tile. arc_of_line g tile line) (tile_named g text.tile)

found_in_mux : (g : Graph) (line : ArcLine) (a : GraphArc) (o : Option ℕ) → option_and_then (λ mux. arc_named g mux line.source) o ≡ Some a → In g.arcs a
found_in_mux g line a None h = absurd (let no : ⊥ = cc in no)
found_in_mux g line a (Some mux) h = (find_from (λ x. (x.mux == mux) && bytes_eq x.arc.source line.source) g.arcs a h).0

found_in_tile : (g : Graph) (line : ArcLine) (a : GraphArc) (o : Option ℕ) → option_and_then (λ tile. arc_of_line g tile line) o ≡ Some a → In g.arcs a
found_in_tile g line a None h = absurd (let no : ⊥ = cc in no)
found_in_tile g line a (Some tile) h = found_in_mux g line a (mux_named g tile line.sink) h

-- an arc with a line is one of the graph
pub line_listed : (g : Graph) (config : Config) (a : GraphArc) → HasLine g config a → In g.arcs a
line_listed g config a h = found_in_tile g h.line a (tile_named g h.text.tile) h.is

module _ (device : Device) (g : Graph) (is : IsGraph device g) where
  same_is : (a b : GraphArc) → In g.arcs a → In g.arcs b → same_arc a b ≡ true → b ≡ a
  same_is a b i j h =
      let parts = and_parts (a.mux == b.mux) (a.place == b.place) h in
      one_arc device g.wires a b (arc_of device g.wires a ((is.arcs.members a).0 i)) (arc_of device g.wires b ((is.arcs.members b).0 j))
      (record { mux = eqb-true a.mux b.mux parts.0; place = eqb-true a.place b.place parts.1 })

  is_found : (config : Config) (a : GraphArc) (text : TileText) (line : ArcLine) → In config.tiles text → In text.arcs line → In g.arcs a
      → (o : Option GraphArc) → found g text line ≡ o → option_map_or (same_arc a) o false ≡ true → HasLine g config a
  is_found config a text line i j listed None e h = absurd (false≢true h)
  is_found config a text line i j listed (Some b) e h =
      let there = found_in_tile g line b (tile_named g text.tile) e in
      record { text = text; line = line; section = i; listed = j; is = e ∙ ap (λ x. Some x) (same_is a b listed there h) }

  line_from : (config : Config) (a : GraphArc) → In g.arcs a → has_line g config a ≡ true → HasLine g config a
  line_from config a listed h =
      let t = any_from (λ text. list_any (λ line. option_map_or (same_arc a) (found g text line) false) text.arcs) config.tiles h in
      let l = any_from (λ line. option_map_or (same_arc a) (found g t.0 line) false) t.0.arcs t.2 in
      is_found config a t.0 l.0 t.1 l.1 listed (found g t.0 l.0) refl l.2

  line_to : (config : Config) (a : GraphArc) → HasLine g config a → has_line g config a ≡ true
  line_to config a h =
      any_to (λ text. list_any (λ line. option_map_or (same_arc a) (found g text line) false) text.arcs) config.tiles h.text h.section
      (any_to (λ line. option_map_or (same_arc a) (found g h.text line) false) h.text.arcs h.line h.listed
      (ap (λ o. option_map_or (same_arc a) o false) h.is ∙ and_from (a.mux == a.mux) (a.place == a.place) (eq-eqb a.mux a.mux refl) (eq-eqb a.place a.place refl)))

  pub agreeing : (image : Bits) (config : Config) → (arcs_agree g image config ≡ true) ↔ ArcsAgree g image config
  agreeing image config = (
    (λ h. let parts = and_parts (list_all (λ a. not (is_chosen g image a && has_plain_bit a.arc.bits) || has_line g config a) g.arcs) (list_all (λ a. not (has_line g config a) || is_chosen g image a) g.arcs) h in
        record {
          chosen_has_line = λ a i c p. line_from config a i (imp_from (is_chosen g image a && has_plain_bit a.arc.bits) (has_line g config a)
              (all_from (λ x. not (is_chosen g image x && has_plain_bit x.arc.bits) || has_line g config x) g.arcs parts.0 a i) (and_from (is_chosen g image a) (has_plain_bit a.arc.bits) c p));
          line_is_chosen = λ a l. imp_from (has_line g config a) (is_chosen g image a)
              (all_from (λ x. not (has_line g config x) || is_chosen g image x) g.arcs parts.1 a (line_listed g config a l)) (line_to config a l);
        }),
    (λ r. and_from (list_all (λ a. not (is_chosen g image a && has_plain_bit a.arc.bits) || has_line g config a) g.arcs) (list_all (λ a. not (has_line g config a) || is_chosen g image a) g.arcs)
        (all_to (λ x. not (is_chosen g image x && has_plain_bit x.arc.bits) || has_line g config x) g.arcs (λ a i. imp_to (is_chosen g image a && has_plain_bit a.arc.bits) (has_line g config a)
        (λ e. let both = and_parts (is_chosen g image a) (has_plain_bit a.arc.bits) e in line_to config a (r.chosen_has_line a i both.0 both.1))))
        (all_to (λ x. not (has_line g config x) || is_chosen g image x) g.arcs (λ a i. imp_to (has_line g config a) (is_chosen g image a) (λ e. r.line_is_chosen a (line_from config a i e))))),
  )
