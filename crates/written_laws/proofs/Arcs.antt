-- A text that may be written stays one with the lines of arcs of the graph.
use Rattle.std.proofs.Common.{◌≡◌, ◌⊎◌, ◌≤◌, ℕ, true, inl, inr, List, [], ◌∷◌, ◌++◌, map, Some, cond, refl, sym, ap, subst, ◌∙◌, arith, lt-ltb, le-ltb, ne_eqb, eqb-true}
use Rattle.std.specs.Prelude.{slice_get, ◌==◌, ◌&&◌}
use Rattle.std.specs.Option.{option_and_then, option_map_or}
use Rattle.std.specs.List.{list_all}
use Rattle.std.specs.Str.{bytes_eq}
use Rattle.std.specs.declared.cmp.Ordering.{Ordering}
use Rattle.std.specs.declared.cmp.Ordering.TheVariants.{Less, Equal, Greater}
use Rattle.std.specs.Ordering.{nat_cmp, match_ordering, ordering_then}
use Rattle.std.specs.Cmp.{IsTotalOrder, on_total, then_total}
use Rattle.std.specs.Cmp.Lexicographic.{nat_list_cmp_total}
use Rattle.std.proofs.lemmas.Bool.{and_parts, leb-true}
use Rattle.words.specs.Members.{In}
use Rattle.texts.specs.Names.{is_name_byte, is_name}
use Rattle.records.specs.Grid.{Tile}
use Rattle.records.specs.Config.{ArcLine, TileText, Config}
use Rattle.links.proofs.Members.{in_map, of_map}
use Rattle.fabric.specs.InOrder.{IsRising}
use Rattle.fabric.specs.Wires.{name_cmp}
use Rattle.fabric.specs.WireOfName.{wire_of_name}
use Rattle.fabric.specs.TileWires.{named_wire}
use Rattle.fabric.specs.Device.{Device}
use Rattle.fabric.specs.Graph.{GraphMux, GraphArc, Graph}
use Rattle.fabric.specs.GraphOf.{IsGraph}
use Rattle.fabric.specs.Image.{tile_named, mux_named, arc_named, arc_of_line}
use Rattle.fabric_laws.specs.Insertion.{inserted}
use Rattle.fabric_laws.proofs.Numbered.{get_in, at_position}
use Rattle.fabric_laws.proofs.Sorted.{inserted_from, inserted_rising}
use Rattle.fabric_laws.proofs.Standing.{mux_stands}
use Rattle.config_grammar.specs.ConfigText.{arc_key}
use Rattle.answers.specs.Refusals.{NoPlace, UnknownSink, UnknownSource}
use Rattle.design_checks.specs.LineChecks.{LineFault, fault_at, source_fault, arc_faults_in, arc_faults}
use Rattle.repair.specs.Lines.{TileLine, arc_line_cmp, with_line, text_with_line, text_of_line, texts_with_line, with_texts, with_arc_line, with_arc_lines}
use Rattle.layout_laws.specs.Named.{NamesOnce}
use Rattle.layout_laws.specs.MoreLines.{StandsForArc}
use Rattle.layout_laws.proofs.Named.{own_line}
use Rattle.layout_laws.proofs.Lines.{leads_to}
use Rattle.cells_laws.proofs.Options.{then_from}
use Rattle.formed_laws.specs.DatabaseRead.{IsReadDevice}
use Rattle.written_laws.specs.Writable.{TilePlace, SectionStands, IsWritable}
use Rattle.written_laws.proofs.Faults.{place_of}
use Rattle.written_laws.proofs.SectionNames.{arc_names}
use Rattle.written_laws.proofs.Sections.{line_rising, line_good}

-- ---- the order of arc lines is that of their bytes

abbrev AreNameBytes : List ℕ → Type 0
AreNameBytes name = list_all is_name_byte name ≡ true

name_bytes : (name : List ℕ) → is_name name ≡ true → AreNameBytes name
name_bytes name h = (and_parts _ (list_all is_name_byte name) h).1

-- a space comes before each byte of a name
high : (b : ℕ) → is_name_byte b ≡ true → 33 ≤ b
high b h = leb-true 33 b (and_parts _ _ h).0

space_before : (b : ℕ) → is_name_byte b ≡ true → nat_cmp 32 b ≡ Less
space_before b h = let l = high b h in ap (λ t. cond t Less (cond (32 == b) Equal Greater)) (lt-ltb 32 b (omega (arith, l)))

space_after : (b : ℕ) → is_name_byte b ≡ true → nat_cmp b 32 ≡ Greater
space_after b h = let l = high b h in rw (le-ltb b 32 (omega (arith, l)), ne_eqb b 32 (λ e. omega (arith, l, e))) refl

ends_first : (s r t q : List ℕ) → AreNameBytes s → AreNameBytes t → name_cmp (s ++ 32 ∷ r) (t ++ 32 ∷ q) ≡ ordering_then (name_cmp s t) (name_cmp r q)
ends_first [] r [] q a b = refl
ends_first [] r (y ∷ t) q a b = ap (λ o. ordering_then o (name_cmp r (t ++ 32 ∷ q))) (space_before y (and_parts (is_name_byte y) (list_all is_name_byte t) b).0)
ends_first (x ∷ s) r [] q a b = ap (λ o. ordering_then o (name_cmp (s ++ 32 ∷ r) q)) (space_after x (and_parts (is_name_byte x) (list_all is_name_byte s) a).0)
ends_first (x ∷ s) r (y ∷ t) q a b =
    go (nat_cmp x y) (ends_first s r t q (and_parts (is_name_byte x) (list_all is_name_byte s) a).1 (and_parts (is_name_byte y) (list_all is_name_byte t) b).1)
  where
    go : (o : Ordering) → name_cmp (s ++ 32 ∷ r) (t ++ 32 ∷ q) ≡ ordering_then (name_cmp s t) (name_cmp r q)
        → ordering_then o (name_cmp (s ++ 32 ∷ r) (t ++ 32 ∷ q)) ≡ ordering_then (ordering_then o (name_cmp s t)) (name_cmp r q)
    go Less ih = refl
    go Equal ih = ih
    go Greater ih = refl

abbrev SinkNamed : ArcLine → Type 0
SinkNamed a = is_name a.sink ≡ true

by_key : (a b : ArcLine) → SinkNamed a → SinkNamed b → name_cmp (arc_key a) (arc_key b) ≡ arc_line_cmp a b
by_key a b n m = ends_first a.sink a.source b.sink b.source (name_bytes a.sink n) (name_bytes b.sink m)

lines_from_keys : (lines : List ArcLine) → ((a : ArcLine) → In lines a → SinkNamed a) → IsRising name_cmp (map arc_key lines) → IsRising arc_line_cmp lines
lines_from_keys [] named r = tt
lines_from_keys (a ∷ lines) named r = (
  (λ b i. sym (by_key a b (named a (inl refl)) (named b (inr i))) ∙ r.0 (arc_key b) (in_map arc_key lines b i)),
  lines_from_keys lines (λ b i. named b (inr i)) r.1,
)

keys_from_lines : (lines : List ArcLine) → ((a : ArcLine) → In lines a → SinkNamed a) → IsRising arc_line_cmp lines → IsRising name_cmp (map arc_key lines)
keys_from_lines [] named r = tt
keys_from_lines (a ∷ lines) named r = (
  (λ k i. (let m = of_map arc_key lines k i in subst (λ w. name_cmp (arc_key a) w ≡ Less) m.1.1 (by_key a m.0 (named a (inl refl)) (named m.0 (inr m.1.0)) ∙ r.0 m.0 m.1.0))),
  keys_from_lines lines (λ b i. named b (inr i)) r.1,
)

-- ---- a line in its place

arc_line_total : IsTotalOrder arc_line_cmp
arc_line_total = then_total (on_total (λ (a : ArcLine). a.sink) nat_list_cmp_total) (on_total (λ (a : ArcLine). a.source) nat_list_cmp_total)

put_in : (line : ArcLine) (lines : List ArcLine) → inserted arc_line_cmp line lines ≡ with_line line lines
put_in line [] = refl
put_in line (next ∷ lines) = ap (λ rest. match_ordering (arc_line_cmp line next) (line ∷ next ∷ lines) (next ∷ lines) (next ∷ rest)) (put_in line lines)

among : (line : ArcLine) (lines : List ArcLine) (a : ArcLine) → In (with_line line lines) a → (line ≡ a) ⊎ In lines a
among line lines a i = inserted_from arc_line_cmp arc_line_total line lines a (subst (λ ls. In ls a) (sym (put_in line lines)) i)

with_line_rising : (line : ArcLine) (lines : List ArcLine) → SinkNamed line → ((a : ArcLine) → In lines a → SinkNamed a)
    → IsRising name_cmp (map arc_key lines) → IsRising name_cmp (map arc_key (with_line line lines))
with_line_rising line lines new named r =
    keys_from_lines (with_line line lines) (λ a i. elim (among line lines a i) [ inl e ↦ subst SinkNamed e new | inr j ↦ named a j ])
    (subst (IsRising arc_line_cmp) (put_in line lines) (inserted_rising arc_line_cmp arc_line_total line lines (lines_from_keys lines named r)))

-- a line whose tile has a place, and whose mux and arc are there, isn't refused
all_there : (g : Graph) (number : ℕ) (tile : Tile) (line : ArcLine) (place : ℕ × ℕ) (mux : ℕ) (arc : GraphArc) → tile.place ≡ Some place → mux_named g number line.sink ≡ Some mux
    → arc_named g mux line.source ≡ Some arc → arc_faults g number tile line ≡ []
all_there g number tile line place mux arc e f h =
    ap (λ o. option_map_or (λ (q : ℕ × ℕ). arc_faults_in g number line) o (fault_at line.line NoPlace ∷ [])) e
    ∙ (ap (λ o. option_map_or (source_fault g number line) o (fault_at line.line UnknownSink ∷ [])) f
    ∙ ap (λ o. option_map_or (λ (x : GraphArc). let none : List LineFault = [] in none) o (fault_at line.line UnknownSource ∷ [])) h)

module _ (device : Device) (g : Graph) (is : IsGraph device g) (read : IsReadDevice device) where
  -- the tile of a mux that is found has a place
  mux_place : (number : ℕ) (tile : Tile) (sink : List ℕ) (mux : ℕ) → slice_get g.grid.tiles number ≡ Some tile → mux_named g number sink ≡ Some mux → (place : ℕ × ℕ) × (tile.place ≡ Some place)
  mux_place number tile sink mux there e =
      let p = at_position (λ (x : GraphMux). (x.tile == number) && bytes_eq x.mux.sink sink) g.muxes mux e in
      let s = mux_stands device g is p.0 (get_in g.muxes mux p.0 p.1.0) in
      let at : p.0.tile ≡ number = eqb-true p.0.tile number (and_parts (p.0.tile == number) (bytes_eq p.0.mux.sink sink) p.1.1).0 in
      let tiles : Some s.tile ≡ Some tile = sym s.in_tile ∙ (ap (λ x. slice_get x.tiles p.0.tile) (sym is.grid) ∙ (ap (slice_get g.grid.tiles) at ∙ there)) in
      let same : s.tile ≡ tile = cc in
      let place = then_from (λ place. named_wire (wire_of_name place p.0.mux.sink device.profile.rules)) s.tile.place s.sink.wire s.sink.named in
      (place.0, subst (λ (t : Tile). t.place ≡ Some place.0) same place.1.0)

  -- a line that stands for an arc isn't refused
  no_fault : (number : ℕ) (tile : Tile) (line : ArcLine) (a : GraphArc) → slice_get g.grid.tiles number ≡ Some tile → arc_of_line g number line ≡ Some a → arc_faults g number tile line ≡ []
  no_fault number tile line a there e =
      let m = leads_to (λ mux. arc_named g mux line.source) (mux_named g number line.sink) a e in
      let place = mux_place number tile line.sink m.0 there m.1.0 in
      all_there g number tile line place.0 m.0 a place.1 m.1.0 m.1.1

  module _ (l : TileLine) (a : GraphArc) (stands : StandsForArc g l a) where
    place : TilePlace g l.tile
    place = let r = leads_to (λ tile. arc_of_line g tile l.line) (tile_named g l.tile) a stands in place_of device g is l.tile r.0 r.1.0

    -- at each place of its tile
    fits : (p : TilePlace g l.tile) → arc_faults g p.number p.tile l.line ≡ []
    fits p = no_fault p.number p.tile l.line a p.there (sym (ap (option_and_then (λ tile. arc_of_line g tile l.line)) p.named) ∙ stands)

    fresh : SectionStands g (text_of_line l)
    fresh = record {
      place = place;
      arcs = λ b i. elim i [ inl e ↦ subst (λ x. arc_faults g place.number place.tile x ≡ []) e (fits place) | inr none ↦ absurd none ];
      words = λ w i. absurd i;
      enums = λ e i. absurd i;
      unknowns = λ u i. absurd i;
      order = ((λ k i. absurd i), tt);
    }

    one_more : (t : TileText) → l.tile ≡ t.tile → SectionStands g t → SectionStands g (text_with_line l.line t)
    one_more t e s = record {
      place = s.place;
      arcs = λ b i. elim (among l.line t.arcs b i) [ inl same ↦ subst (λ x. arc_faults g s.place.number s.place.tile x ≡ []) same here | inr j ↦ s.arcs b j ];
      words = s.words;
      enums = s.enums;
      unknowns = s.unknowns;
      order = with_line_rising l.line t.arcs (arc_names device g is read s.place.number s.place.tile l.line here).0 (λ b i. (arc_names device g is read s.place.number s.place.tile b (s.arcs b i)).0) s.order;
    }
      where
        here : arc_faults g s.place.number s.place.tile l.line ≡ []
        here = fits (record { number = s.place.number; tile = s.place.tile; settings = s.place.settings; named = ap (tile_named g) e ∙ s.place.named; there = s.place.there; set = s.place.set })

    line_writable : (one c : Config) → IsWritable g one c → IsWritable g one (with_texts c (texts_with_line l c.tiles))
    line_writable one c w = record {
      device = w.device;
      heads = w.heads;
      tiles = line_rising l c.tiles w.tiles;
      sections = line_good (SectionStands g) l fresh one_more c.tiles w.sections;
    }

  module _ (once : NamesOnce device) where
    arc_writable : (one c : Config) (a : GraphArc) → In g.arcs a → IsWritable g one c → IsWritable g one (with_arc_line g c a)
    arc_writable one c a i w =
        let l = own_line device g is once a i in
        subst (λ o. IsWritable g one (option_map_or (λ x. with_texts c (texts_with_line x c.tiles)) o c)) (sym l.1.0) (line_writable l.0 a l.1.1 one c w)

    -- with the lines of some arcs
    pub arcs_writable : (one c : Config) (path : List GraphArc) → ((a : GraphArc) → In path a → In g.arcs a) → IsWritable g one c → IsWritable g one (with_arc_lines g c path)
    arcs_writable one c [] all w = w
    arcs_writable one c (a ∷ path) all w = arcs_writable one (with_arc_line g c a) path (λ b i. all b (inr i)) (arc_writable one c a (all a (inl refl)) w)
