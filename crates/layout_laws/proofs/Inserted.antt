-- The line of an arc put in its place, and those of a path.
use Rattle.std.proofs.Common.{◌≡◌, ℕ, ◌⊎◌, ◌↔◌, inl, inr, List, [], ◌∷◌, Option, Some, None, refl, sym, ap, subst, ◌∙◌}
use Rattle.std.specs.Option.{option_and_then, option_map_or}
use Rattle.std.specs.Ordering.{match_ordering}
use Rattle.std.specs.declared.cmp.Ordering.{Ordering}
use Rattle.std.specs.declared.cmp.Ordering.TheVariants.{Less, Equal, Greater}
use Rattle.words.specs.Members.{In}
use Rattle.records.specs.Config.{ArcLine, TileText, Config}
use Rattle.fabric.specs.Wires.{name_cmp}
use Rattle.fabric.specs.Device.{Device}
use Rattle.fabric.specs.Graph.{GraphArc, Graph}
use Rattle.fabric.specs.GraphOf.{IsGraph}
use Rattle.fabric.specs.Image.{tile_named, mux_named, arc_named, arc_of_line, image_of}
use Rattle.fabric.specs.Agree.{HasLine, ArcsAgree}
use Rattle.fabric_laws.proofs.Orders.{first_ties, second_ties, name_same}
use Rattle.upset.specs.Configured.{Configured}
use Rattle.repair.specs.Plain.{unknown_bits}
use Rattle.repair.specs.Added.{with_arc}
use Rattle.repair.specs.Lines.{TileLine, line_of_arc, arc_line_cmp, with_line, text_with_line, text_of_line, texts_with_line, with_texts, with_arc_line}
use Rattle.repair.specs.Usable.{IsRoutable}
use Rattle.layout_laws.specs.Named.{NamesOnce}
use Rattle.layout_laws.specs.MoreLines.{StandsForArc, IsOneMore, HasOneLineMore, in_section, own_section, further}
use Rattle.repair_laws.proofs.Numbers.{IsNumbered}
use Rattle.repair_laws.proofs.Added.{none_before}
use Rattle.layout_laws.proofs.Named.{own_line}
use Rattle.layout_laws.proofs.Lines.{has_line_more, same_unknowns, image_more}

-- a line with the names of another one
pub record SameLine (line : ArcLine) (lines : List ArcLine) : Type 0 where
  pub found : ArcLine
  pub listed : In lines found
  pub sink : line.sink ≡ found.sink
  pub source : line.source ≡ found.source

-- a line that is put in its place stands somewhere, or its names stand there already
put_line : (line : ArcLine) (lines : List ArcLine) → IsOneMore line lines (with_line line lines) ⊎ SameLine line lines
put_line line [] = inl (record { front = []; back = []; without = refl; within = refl })
put_line line (next ∷ lines) = go (arc_line_cmp line next) refl (put_line line lines)
  where
    go : (o : Ordering) → arc_line_cmp line next ≡ o → IsOneMore line lines (with_line line lines) ⊎ SameLine line lines
        → IsOneMore line (next ∷ lines) (match_ordering o (line ∷ next ∷ lines) (next ∷ lines) (next ∷ with_line line lines)) ⊎ SameLine line (next ∷ lines)
    go Less e ih = inl (record { front = []; back = next ∷ lines; without = refl; within = refl })
    go Equal e ih = inr (record {
      found = next;
      listed = inl refl;
      sink = name_same line.sink next.sink (first_ties (name_cmp line.sink next.sink) (name_cmp line.source next.source) e);
      source = name_same line.source next.source (second_ties (name_cmp line.sink next.sink) (name_cmp line.source next.source) e);
    })
    go Greater e ih = elim ih [
      | inl h ↦ inl (record { front = next ∷ h.front; back = h.back; without = ap (λ xs. next ∷ xs) h.without; within = ap (λ xs. next ∷ xs) h.within })
      | inr h ↦ inr (record { found = h.found; listed = inr h.listed; sink = h.sink; source = h.source })
    ]

-- a section of the tile has a line with these names
pub record SameInTexts (l : TileLine) (texts : List TileText) : Type 0 where
  pub text : TileText
  pub section : In texts text
  pub tile : l.tile ≡ text.tile
  pub line : SameLine l.line text.arcs

put_text : (l : TileLine) (texts : List TileText) → HasOneLineMore l texts (texts_with_line l texts) ⊎ SameInTexts l texts
put_text l [] = inl own_section
put_text l (text ∷ texts) = go (name_cmp l.tile text.tile) refl (put_text l texts)
  where
    go : (o : Ordering) → name_cmp l.tile text.tile ≡ o → HasOneLineMore l texts (texts_with_line l texts) ⊎ SameInTexts l texts
        → HasOneLineMore l (text ∷ texts) (match_ordering o (text_of_line l ∷ text ∷ texts) (text_with_line l.line text ∷ texts) (text ∷ texts_with_line l texts)) ⊎ SameInTexts l (text ∷ texts)
    go Less e ih = inl own_section
    go Equal e ih = elim (put_line l.line text.arcs) [
      | inl h ↦ inl (in_section (sym (name_same l.tile text.tile e)) h)
      | inr h ↦ inr (record { text = text; section = inl refl; tile = name_same l.tile text.tile e; line = h })
    ]
    go Greater e ih = elim ih [
      | inl h ↦ inl (further h)
      | inr h ↦ inr (record { text = h.text; section = inr h.section; tile = h.tile; line = h.line })
    ]

-- lines with the same names stand for one arc
same_names : (g : Graph) (tile : ℕ) (x y : ArcLine) → x.sink ≡ y.sink → x.source ≡ y.source → arc_of_line g tile x ≡ arc_of_line g tile y
same_names g tile x y e f =
    ap (λ s. option_and_then (λ mux. arc_named g mux x.source) (mux_named g tile s)) e ∙ ap (λ s. option_and_then (λ mux. arc_named g mux s) (mux_named g tile y.sink)) f

module _ (device : Device) (k : Configured) (config : Config) (a : GraphArc) (is : IsGraph device k.graph) (once : NamesOnce device) (num : IsNumbered k.graph)
    (agree : ArcsAgree k.graph k.image config) (use_a : IsRoutable k config a) where
  own : (l : TileLine) × ((line_of_arc k.graph a ≡ Some l) × StandsForArc k.graph l a)
  own = own_line device k.graph is once a use_a.listed

  -- the arc has no line yet
  no_line : (l : TileLine) → StandsForArc k.graph l a → SameInTexts l config.tiles → ⊥
  no_line l stands s =
      let line : HasLine k.graph config a = record {
        text = s.text;
        line = s.line.found;
        section = s.section;
        listed = s.line.listed;
        is = by (tile_named k.graph l.tile) refl;
      } in
      none_before k config a num use_a a use_a.listed (agree.line_is_chosen a line) refl
    where
      by : (o : Option ℕ) → tile_named k.graph l.tile ≡ o → option_and_then (λ tile. arc_of_line k.graph tile s.line.found) (tile_named k.graph s.text.tile) ≡ Some a
      by None e = absurd (let no : option_and_then (λ tile. arc_of_line k.graph tile l.line) None ≡ Some a = sym (ap (option_and_then (λ tile. arc_of_line k.graph tile l.line)) e) ∙ stands in let bad : ⊥ = cc in bad)
      by (Some n) e =
          ap (λ name. option_and_then (λ tile. arc_of_line k.graph tile s.line.found) (tile_named k.graph name)) (sym s.tile)
          ∙ (ap (option_and_then (λ tile. arc_of_line k.graph tile s.line.found)) e
          ∙ (sym (same_names k.graph n l.line s.line.found s.line.sink s.line.source)
          ∙ (sym (ap (option_and_then (λ tile. arc_of_line k.graph tile l.line)) e) ∙ stands)))

  -- the text with the line has one line more, and no other difference
  pub one_line : (l : TileLine) × (StandsForArc k.graph l a × HasOneLineMore l config.tiles (with_arc_line k.graph config a).tiles)
  one_line = (own.0, (own.1.1, subst (λ o. HasOneLineMore own.0 config.tiles (option_map_or (λ l. with_texts config (texts_with_line l config.tiles)) o config).tiles) (sym own.1.0) placed))
    where
      placed : HasOneLineMore own.0 config.tiles (texts_with_line own.0 config.tiles)
      placed = elim (put_text own.0 config.tiles) [ inl h ↦ h | inr s ↦ absurd (no_line own.0 own.1.1 s) ]

  pub image_with_line : k.image ≡ image_of k.graph config → image_of k.graph (with_arc_line k.graph config a) ≡ with_arc k.image a
  image_with_line image = image_more device k config (with_arc_line k.graph config a) a one_line.0 is num image agree use_a one_line.1.0 one_line.1.1

  pub lines_with_line : (c : GraphArc) → HasLine k.graph (with_arc_line k.graph config a) c ↔ (HasLine k.graph config c ⊎ (c ≡ a))
  lines_with_line = has_line_more device k.graph is one_line.0 a one_line.1.0 config (with_arc_line k.graph config a) one_line.1.1

  pub unknowns_with_line : unknown_bits k.graph (with_arc_line k.graph config a) ≡ unknown_bits k.graph config
  unknowns_with_line = same_unknowns device k.graph is one_line.0 a one_line.1.0 one_line.1.1
