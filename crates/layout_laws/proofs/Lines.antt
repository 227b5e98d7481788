-- The text with one more arc line: its writes, its arcs, and the image that it makes.
use Rattle.std.proofs.Common.{◌≡◌, ℕ, zero, suc, ◌⊎◌, ◌↔◌, inl, inr, List, [], ◌∷◌, ◌++◌, map, flat_map, Option, Some, None, refl, sym, ap, subst, ◌∙◌, append_assoc}
use Rattle.std.proofs.lemmas.Grind.{flat_map-append}
use Rattle.std.specs.Prelude.{slice_get}
use Rattle.std.specs.Option.{option_and_then, option_map_or}
use Rattle.std.specs.Str.{bytes_eq}
use Rattle.words.specs.Members.{In}
use Rattle.patterns.specs.Bits.{DeviceBit}
use Rattle.patterns.specs.Written.{written}
use Rattle.records.specs.Grid.{Tile, origin_of}
use Rattle.records.specs.Config.{ArcLine, TileText, Config}
use Rattle.fabric.specs.Settings.{Settings}
use Rattle.fabric.specs.Device.{Device}
use Rattle.fabric.specs.Graph.{GraphArc, Graph}
use Rattle.fabric.specs.GraphOf.{settings_in, IsGraph}
use Rattle.fabric.specs.Image.{Write, after_writes, no_bits, tile_named, arc_of_line, arc_writes, word_writes, enum_writes, unknown_writes, section_writes, tile_writes, writes_of, image_of}
use Rattle.fabric.specs.Agree.{HasLine, ArcsAgree}
use Rattle.links.proofs.Members.{in_left, in_right, in_either}
use Rattle.fabric_laws.proofs.Numbered.{at_position}
use Rattle.fabric_laws.proofs.Agreeing.{line_listed}
use Rattle.upset.specs.Configured.{Configured}
use Rattle.repair.specs.Plain.{unknown_bits_in, unknown_bits, IsPlain}
use Rattle.repair.specs.Added.{with_arc}
use Rattle.repair.specs.Lines.{TileLine, text_of_line}
use Rattle.repair.specs.Usable.{IsRoutable}
use Rattle.layout_laws.specs.MoreLines.{StandsForArc, IsOneMore, with_arcs_of, HasOneLineMore, in_section, own_section, further}
use Rattle.repair_laws.proofs.Numbers.{IsNumbered, in_mux_bits}
use Rattle.repair_laws.proofs.Added.{own_bit, none_before}
use Rattle.layout_laws.proofs.Writes.{among, named_by, writes_name}

-- one more element among others, with elements behind or before
more_behind : {X : Type 0} {x : X} {xs more : List X} → IsOneMore x xs more → (zs : List X) → IsOneMore x (xs ++ zs) (more ++ zs)
more_behind {X} {x} h zs = record {
  front = h.front;
  back = h.back ++ zs;
  without = ap (λ l. l ++ zs) h.without ∙ append_assoc h.front h.back zs;
  within = ap (λ l. l ++ zs) h.within ∙ append_assoc h.front (x ∷ h.back) zs;
}

more_before : {X : Type 0} {x : X} {xs more : List X} → IsOneMore x xs more → (zs : List X) → IsOneMore x (zs ++ xs) (zs ++ more)
more_before {X} {x} h zs = record {
  front = zs ++ h.front;
  back = h.back;
  without = ap (λ l. zs ++ l) h.without ∙ sym (append_assoc zs h.front h.back);
  within = ap (λ l. zs ++ l) h.within ∙ sym (append_assoc zs h.front (x ∷ h.back));
}

-- an option that leads to something is there
pub leads_to : {X Y : Type 0} (f : X → Option Y) (o : Option X) (y : Y) → option_and_then f o ≡ Some y → (x : X) × ((o ≡ Some x) × (f x ≡ Some y))
leads_to f None y e = absurd (let no : ⊥ = cc in no)
leads_to f (Some x) y e = (x, (refl, e))

get_map : {X Y : Type 0} (f : X → Y) (xs : List X) (n : ℕ) (x : X) → slice_get xs n ≡ Some x → slice_get (map f xs) n ≡ Some (f x)
get_map f [] n x e = absurd (let no : ⊥ = cc in no)
get_map f (z ∷ xs) zero x e = ap (λ y. Some (f y)) (let s : z ≡ x = cc in s)
get_map f (z ∷ xs) (suc n) x e = get_map f xs n x e

-- the place of a named tile, with the tile and its settings
pub record IsPlaced (g : Graph) (name : List ℕ) : Type 0 where
  pub number : ℕ
  pub tile : Tile
  pub settings : Settings
  pub named : tile_named g name ≡ Some number
  pub there : slice_get g.grid.tiles number ≡ Some tile
  pub set : slice_get g.settings number ≡ Some settings

placed : (device : Device) (g : Graph) → IsGraph device g → (name : List ℕ) (number : ℕ) → tile_named g name ≡ Some number → IsPlaced g name
placed device g is name number e =
    let p = at_position (λ t. bytes_eq t.name name) g.grid.tiles number e in
    record {
      number = number;
      tile = p.0;
      settings = settings_in device p.0;
      named = e;
      there = p.1.0;
      set = ap (λ s. slice_get s number) is.settings ∙ get_map (settings_in device) device.grid.tiles number p.0 (ap (λ x. slice_get x.tiles number) (sym is.grid) ∙ p.1.0);
    }

-- the writes of a section whose tile is there
section_is : (g : Graph) (text : TileText) (p : IsPlaced g text.tile) → tile_writes g text ≡ section_writes g text p.number p.tile p.settings
section_is g text p =
    ap (λ o. option_map_or (λ n. option_map_or (λ t. option_map_or (section_writes g text n t) (slice_get g.settings n) []) (slice_get g.grid.tiles n) []) o []) p.named
    ∙ (ap (λ o. option_map_or (λ t. option_map_or (section_writes g text p.number t) (slice_get g.settings p.number) []) o []) p.there
    ∙ ap (λ o. option_map_or (section_writes g text p.number p.tile) o []) p.set)

abbrev write_of : GraphArc → Write
write_of a = record { origin = a.origin; pattern = a.arc.bits }

-- an arc has a line in one of these sections
pub record ListHas (g : Graph) (texts : List TileText) (c : GraphArc) : Type 0 where
  pub text : TileText
  pub line : ArcLine
  pub section : In texts text
  pub listed : In text.arcs line
  pub is : option_and_then (λ tile. arc_of_line g tile line) (tile_named g text.tile) ≡ Some c

module _ (device : Device) (g : Graph) (is : IsGraph device g) (l : TileLine) (a : GraphArc) (stands : StandsForArc g l a) where
  -- the tile of the line, and its arc there
  pub line_tile : IsPlaced g l.tile
  line_tile = let r = leads_to (λ tile. arc_of_line g tile l.line) (tile_named g l.tile) a stands in placed device g is l.tile r.0 r.1.0

  line_arc : (p : IsPlaced g l.tile) → arc_of_line g p.number l.line ≡ Some a
  line_arc p = sym (ap (option_and_then (λ tile. arc_of_line g tile l.line)) p.named) ∙ stands

  line_write : (p : IsPlaced g l.tile) → arc_writes g p.number l.line ≡ write_of a ∷ []
  line_write p = ap (λ o. option_map_or (λ x. let made : Write = record { origin = x.origin; pattern = x.arc.bits } in made ∷ []) o []) (line_arc p)

  -- one more line writes one more pattern
  lines_write : (p : IsPlaced g l.tile) (lines more : List ArcLine) → IsOneMore l.line lines more → IsOneMore (write_of a) (flat_map (arc_writes g p.number) lines) (flat_map (arc_writes g p.number) more)
  lines_write p lines more h = record {
    front = flat_map (arc_writes g p.number) h.front;
    back = flat_map (arc_writes g p.number) h.back;
    without = ap (flat_map (arc_writes g p.number)) h.without ∙ flat_map-append (arc_writes g p.number) h.front h.back;
    within = ap (flat_map (arc_writes g p.number)) h.within ∙ (flat_map-append (arc_writes g p.number) h.front (l.line ∷ h.back)
        ∙ ap (λ ws. flat_map (arc_writes g p.number) h.front ++ (ws ++ flat_map (arc_writes g p.number) h.back)) (line_write p));
  }

  section_write : (text : TileText) (arcs : List ArcLine) (p : IsPlaced g text.tile) → text.tile ≡ l.tile → IsOneMore l.line text.arcs arcs
      → IsOneMore (write_of a) (section_writes g text p.number p.tile p.settings) (section_writes g (with_arcs_of text arcs) p.number p.tile p.settings)
  section_write text arcs p e h =
      let q : IsPlaced g l.tile = record { number = p.number; tile = p.tile; settings = p.settings; named = subst (λ n. tile_named g n ≡ Some p.number) e p.named; there = p.there; set = p.set } in
      more_behind (more_behind (more_behind (lines_write q text.arcs arcs h)
      (flat_map (word_writes (origin_of p.tile) p.settings) text.words)) (flat_map (enum_writes (origin_of p.tile) p.settings) text.enums)) (flat_map (unknown_writes (origin_of p.tile)) text.unknowns)

  one_more : {xs more ys fewer : List Write} → xs ≡ ys → more ≡ fewer → IsOneMore (write_of a) ys fewer → IsOneMore (write_of a) xs more
  one_more e f h = record { front = h.front; back = h.back; without = e ∙ h.without; within = f ∙ h.within }

  pub texts_write : {texts more : List TileText} → HasOneLineMore l texts more → IsOneMore (write_of a) (flat_map (tile_writes g) texts) (flat_map (tile_writes g) more)
  texts_write (in_section {text} {texts} {arcs} e h) =
      (let p : IsPlaced g text.tile = subst (IsPlaced g) (sym e) line_tile in
      more_behind (one_more (section_is g text p) (section_is g (with_arcs_of text arcs) p) (section_write text arcs p e h)) (flat_map (tile_writes g) texts))
  texts_write (own_section {texts}) = record {
    front = [];
    back = flat_map (tile_writes g) texts;
    without = refl;
    within = ap (λ ws. ws ++ flat_map (tile_writes g) texts) (section_is g (text_of_line l) line_tile
        ∙ ap (λ ws. ((((ws ++ []) ++ []) ++ []) ++ [])) (line_write line_tile));
  }
  texts_write (further {text} h) = more_before (texts_write h) (tile_writes g text)

  -- the arcs with a line are those of before and this one
  in_more : (xs more : List ArcLine) → IsOneMore l.line xs more → (x : ArcLine) → In more x → In xs x ⊎ (l.line ≡ x)
  in_more xs more h x i = elim (in_either h.front (l.line ∷ h.back) x (subst (λ z. In z x) h.within i)) [
    | inl j ↦ inl (subst (λ z. In z x) (sym h.without) (in_left h.front h.back x j))
    | inr j ↦ elim j [ inl e ↦ inr e | inr k ↦ inl (subst (λ z. In z x) (sym h.without) (in_right h.front h.back x k)) ]
  ]

  in_without : (xs more : List ArcLine) → IsOneMore l.line xs more → (x : ArcLine) → In xs x → In more x
  in_without xs more h x i = elim (in_either h.front h.back x (subst (λ z. In z x) h.without i)) [
    | inl j ↦ subst (λ z. In z x) (sym h.within) (in_left h.front (l.line ∷ h.back) x j)
    | inr j ↦ subst (λ z. In z x) (sym h.within) (in_right h.front (l.line ∷ h.back) x (inr j))
  ]

  in_itself : (xs more : List ArcLine) → IsOneMore l.line xs more → In more l.line
  in_itself xs more h = subst (λ z. In z l.line) (sym h.within) (in_right h.front (l.line ∷ h.back) l.line (inl refl))

  same_arc : (c : GraphArc) → StandsForArc g l c → c ≡ a
  same_arc c e = let s : Some c ≡ Some a = sym e ∙ stands in let t : c ≡ a = cc in t

  pub lines_from : {texts more : List TileText} → HasOneLineMore l texts more → (c : GraphArc) → ListHas g more c → ListHas g texts c ⊎ (c ≡ a)
  lines_from (in_section {text} {texts} {arcs} e h) c q = elim q.section [
    | inr j ↦ inl (record { text = q.text; line = q.line; section = inr j; listed = q.listed; is = q.is })
    | inl s ↦ (let at : option_and_then (λ tile. arc_of_line g tile q.line) (tile_named g text.tile) ≡ Some c = subst (λ t. option_and_then (λ tile. arc_of_line g tile q.line) (tile_named g t.tile) ≡ Some c) (sym s) q.is in
        elim (in_more text.arcs arcs h q.line (subst (λ t. In t.arcs q.line) (sym s) q.listed)) [
          | inl i ↦ inl (record { text = text; line = q.line; section = inl refl; listed = i; is = at })
          | inr i ↦ inr (same_arc c (subst (λ x. option_and_then (λ tile. arc_of_line g tile x) (tile_named g l.tile) ≡ Some c) (sym i)
              (subst (λ n. option_and_then (λ tile. arc_of_line g tile q.line) (tile_named g n) ≡ Some c) e at)))
        ])
  ]
  lines_from own_section c q = elim q.section [
    | inr j ↦ inl (record { text = q.text; line = q.line; section = j; listed = q.listed; is = q.is })
    | inl s ↦ (let at : option_and_then (λ tile. arc_of_line g tile q.line) (tile_named g l.tile) ≡ Some c = subst (λ t. option_and_then (λ tile. arc_of_line g tile q.line) (tile_named g t.tile) ≡ Some c) (sym s) q.is in
        elim (subst (λ t. In t.arcs q.line) (sym s) q.listed) [
          | inl i ↦ inr (same_arc c (subst (λ x. option_and_then (λ tile. arc_of_line g tile x) (tile_named g l.tile) ≡ Some c) (sym i) at))
          | inr n ↦ absurd n
        ])
  ]
  lines_from (further h) c q = elim q.section [
    | inl s ↦ inl (record { text = q.text; line = q.line; section = inl s; listed = q.listed; is = q.is })
    | inr j ↦ elim (lines_from h c (record { text = q.text; line = q.line; section = j; listed = q.listed; is = q.is })) [
      | inl r ↦ inl (record { text = r.text; line = r.line; section = inr r.section; listed = r.listed; is = r.is })
      | inr e ↦ inr e
    ]
  ]

  pub lines_to : {texts more : List TileText} → HasOneLineMore l texts more → (c : GraphArc) → ListHas g texts c → ListHas g more c
  lines_to (in_section {text} {texts} {arcs} e h) c q = elim q.section [
    | inr j ↦ record { text = q.text; line = q.line; section = inr j; listed = q.listed; is = q.is }
    | inl s ↦ record {
      text = with_arcs_of text arcs;
      line = q.line;
      section = inl refl;
      listed = in_without text.arcs arcs h q.line (subst (λ t. In t.arcs q.line) (sym s) q.listed);
      is = subst (λ t. option_and_then (λ tile. arc_of_line g tile q.line) (tile_named g t.tile) ≡ Some c) (sym s) q.is;
    }
  ]
  lines_to own_section c q = record { text = q.text; line = q.line; section = inr q.section; listed = q.listed; is = q.is }
  lines_to (further h) c q = elim q.section [
    | inl s ↦ record { text = q.text; line = q.line; section = inl s; listed = q.listed; is = q.is }
    | inr j ↦ (let r = lines_to h c (record { text = q.text; line = q.line; section = j; listed = q.listed; is = q.is }) in
        record { text = r.text; line = r.line; section = inr r.section; listed = r.listed; is = r.is })
  ]

  pub lines_new : {texts more : List TileText} → HasOneLineMore l texts more → ListHas g more a
  lines_new (in_section {text} {texts} {arcs} e h) = record {
    text = with_arcs_of text arcs;
    line = l.line;
    section = inl refl;
    listed = in_itself text.arcs arcs h;
    is = subst (λ n. option_and_then (λ tile. arc_of_line g tile l.line) (tile_named g n) ≡ Some a) (sym e) stands;
  }
  lines_new own_section = record { text = text_of_line l; line = l.line; section = inl refl; listed = inl refl; is = stands }
  lines_new (further h) = (let r = lines_new h in record { text = r.text; line = r.line; section = inr r.section; listed = r.listed; is = r.is })

  pub has_line_more : (config more : Config) → HasOneLineMore l config.tiles more.tiles → (c : GraphArc) → HasLine g more c ↔ (HasLine g config c ⊎ (c ≡ a))
  has_line_more config more h c = (
    (λ q. elim (lines_from h c (record { text = q.text; line = q.line; section = q.section; listed = q.listed; is = q.is })) [
      | inl r ↦ inl (record { text = r.text; line = r.line; section = r.section; listed = r.listed; is = r.is })
      | inr e ↦ inr e
    ]),
    (λ q. elim q [
      | inl k ↦ (let r = lines_to h c (record { text = k.text; line = k.line; section = k.section; listed = k.listed; is = k.is }) in record { text = r.text; line = r.line; section = r.section; listed = r.listed; is = r.is })
      | inr e ↦ subst (HasLine g more) (sym e) (let r = lines_new h in record { text = r.text; line = r.line; section = r.section; listed = r.listed; is = r.is })
    ]),
  )

  -- no bit is named by one more unknown line
  no_unknowns : (o : Option Tile) → option_map_or (λ tile. let none : List DeviceBit = [] in none) o [] ≡ []
  no_unknowns None = refl
  no_unknowns (Some t) = refl

  pub same_unknowns : {texts more : List TileText} → HasOneLineMore l texts more → flat_map (unknown_bits_in g) more ≡ flat_map (unknown_bits_in g) texts
  same_unknowns (in_section e h) = refl
  same_unknowns (own_section {texts}) = ap (λ bs. bs ++ flat_map (unknown_bits_in g) texts) (no_unknowns (option_and_then (slice_get g.grid.tiles) (tile_named g l.tile)))
  same_unknowns (further {text} h) = ap (λ bs. unknown_bits_in g text ++ bs) (same_unknowns h)

-- a mux is plain in texts with the same unknown lines
pub plain_by : (g : Graph) (config more : Config) (mux : ℕ) → unknown_bits g more ≡ unknown_bits g config → IsPlain g config mux → IsPlain g more mux
plain_by g config more mux e p = record {
  alone = p.alone;
  no_setting = p.no_setting;
  no_unknown = λ b i j. p.no_unknown b i (subst (λ bs. In bs b) e j);
  has_plain_bits = p.has_plain_bits;
}

-- The image of a text with the line of an arc that the routing takes is the image with the arc's pattern written,
-- wherever the line stands.
module _ (device : Device) (k : Configured) (config more : Config) (a : GraphArc) (l : TileLine) (is : IsGraph device k.graph) (num : IsNumbered k.graph)
    (image : k.image ≡ image_of k.graph config) (agree : ArcsAgree k.graph k.image config) (use_a : IsRoutable k config a)
    (stands : StandsForArc k.graph l a) (h : HasOneLineMore l config.tiles more.tiles) where
  -- no write of the text names a bit of the arc
  none_names : (w : Write) (b : DeviceBit) → In (writes_of k.graph config) w → In (named_by (write_of a)) b → In (named_by w) b → ⊥
  none_names w b i n m = elim (writes_name k.graph config w b i m) [
    | inl c ↦ none_before k config a num use_a c.arc (line_listed k.graph config c.arc c.line) (agree.line_is_chosen c.arc c.line)
        (use_a.free_sink.plain.alone b (own_bit k config a num use_a b n) c.arc.mux (in_mux_bits k.graph c.arc.mux c.arc b (line_listed k.graph config c.arc c.line) refl c.named))
    | inr s ↦ elim s [
      | inl j ↦ use_a.free_sink.plain.no_setting b (own_bit k config a num use_a b n) j
      | inr j ↦ use_a.free_sink.plain.no_unknown b (own_bit k config a num use_a b n) j
    ]
  ]

  pub image_more : image_of k.graph more ≡ with_arc k.image a
  image_more i b = at b i
    where
      one : IsOneMore (write_of a) (writes_of k.graph config) (writes_of k.graph more)
      one = texts_write device k.graph is l a stands h

      at : (c : DeviceBit) → image_of k.graph more c ≡ with_arc k.image a c
      at c = ap (λ ws. after_writes no_bits ws c) one.within
          ∙ (among no_bits one.front one.back (write_of a) (λ w j d n m. none_names w d (subst (λ ws. In ws w) (sym one.without) (in_right one.front one.back w j)) n m) c
          ∙ (ap (λ ws. written (after_writes no_bits ws) a.origin a.arc.bits c) (sym one.without) ∙ ap (λ f. written f a.origin a.arc.bits c) (sym image)))
