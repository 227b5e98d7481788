-- A text without the routes of ripped nets.
use Rattle.std.proofs.Common.{◌≡◌, ℕ, true, false, ◌⊎◌, inl, inr, List, [], ◌∷◌, ◌++◌, flat_map, Option, Some, None, refl, sym, ap, subst, ◌∙◌}
use Rattle.std.proofs.lemmas.Bool.{false≢true}
use Rattle.std.specs.Prelude.{slice_get, ◌==◌, ◌&&◌}
use Rattle.std.specs.Str.{bytes_eq}
use Rattle.fabric_laws.proofs.Members.{find_from}
use Rattle.std.specs.Option.{option_and_then, option_map_or}
use Rattle.words.specs.Members.{In}
use Rattle.patterns.specs.Bits.{DeviceBit, Bits}
use Rattle.patterns.specs.Written.{written}
use Rattle.records.specs.Grid.{Tile, origin_of}
use Rattle.records.specs.Config.{ArcLine, TileText, Config}
use Rattle.links.specs.Links.{Drives, here, onto, Below, Feeds, Counting, IsClean}
use Rattle.links.proofs.Members.{in_left, in_right, in_either, any_of, same_number}
use Rattle.links.proofs.Walks.{reaches_by}
use Rattle.links.proofs.Feeds.{one_feed}
use Rattle.fabric.specs.Settings.{Settings}
use Rattle.fabric.specs.Graph.{GraphArc, Graph}
use Rattle.fabric.specs.Links.{is_chosen}
use Rattle.fabric.specs.MuxBits.{bits_named}
use Rattle.fabric.specs.Image.{Write, after_writes, no_bits, tile_named, mux_named, arc_named, arc_of_line, arc_writes, word_writes, enum_writes, unknown_writes, section_writes, tile_writes, writes_of, image_of}
use Rattle.fabric.specs.Agree.{HasLine, ArcsAgree}
use Rattle.fabric_laws.proofs.Agreeing.{line_listed}
use Rattle.upset.specs.Configured.{Configured}
use Rattle.repair.specs.Plain.{bits_of_mux, setting_bits, unknown_bits_in, unknown_bits, IsPlain}
use Rattle.repair.specs.Added.{with_image}
use Rattle.repair.specs.Turns.{routing}
use Rattle.repair.specs.Lines.{WithoutLines, no_lines, keeps, drops, TextsWithout, no_texts, next_text}
use Rattle.repair.specs.Ripping.{IsRippedLine, IsRest}
use Rattle.layout_laws.specs.RestKept.{RestKept}
use Rattle.repair_laws.proofs.Patterns.{write_agree, write_off, set_bit}
use Rattle.repair_laws.proofs.Numbers.{IsNumbered, in_mux_bits, picked, driven_by, drives_by, drives_fixed}
use Rattle.repair_laws.proofs.Added.{chosen_agree}
use Rattle.layout_laws.proofs.Writes.{named_by, LineNames, writes_name}
use Rattle.layout_laws.proofs.Lines.{ListHas, leads_to}
use Rattle.layout_laws.proofs.Settings.{words_same, values_same}

abbrev write_of : GraphArc → Write
write_of a = record { origin = a.origin; pattern = a.arc.bits }

-- writes without those of some arcs
data Thinned (removed : List GraphArc) : List Write → List Write → Type 0 where
  none_left : Thinned removed [] []
  stays : {w : Write} {ws rest : List Write} → Thinned removed ws rest → Thinned removed (w ∷ ws) (w ∷ rest)
  goes : (a : GraphArc) {ws rest : List Write} → In removed a → Thinned removed ws rest → Thinned removed (write_of a ∷ ws) rest

thinned_same : (removed : List GraphArc) (ws : List Write) → Thinned removed ws ws
thinned_same removed [] = none_left
thinned_same removed (w ∷ ws) = stays (thinned_same removed ws)

thinned_append : {removed : List GraphArc} {us vs ws xs : List Write} → Thinned removed us vs → Thinned removed ws xs → Thinned removed (us ++ ws) (vs ++ xs)
thinned_append none_left h = h
thinned_append (stays t) h = stays (thinned_append t h)
thinned_append (goes a i t) h = goes a i (thinned_append t h)

thinned_by : {removed more : List GraphArc} {ws xs : List Write} → ((a : GraphArc) → In removed a → In more a) → Thinned removed ws xs → Thinned more ws xs
thinned_by f none_left = none_left
thinned_by f (stays t) = stays (thinned_by f t)
thinned_by f (goes a i t) = goes a (f a i) (thinned_by f t)

-- a bit that no removed arc names is as before
unnamed_stays : (removed : List GraphArc) (b : DeviceBit) → ((a : GraphArc) → In removed a → In (bits_named a.origin a.arc.bits) b → ⊥)
    → {ws xs : List Write} → Thinned removed ws xs → (i j : Bits) → i b ≡ j b → after_writes j xs b ≡ after_writes i ws b
unnamed_stays removed b none none_left i j e = sym e
unnamed_stays removed b none (stays {w} t) i j e = unnamed_stays removed b none t (written i w.origin w.pattern) (written j w.origin w.pattern) (write_agree i j w.origin w.pattern b e)
unnamed_stays removed b none (goes a k t) i j e = unnamed_stays removed b none t (written i a.origin a.arc.bits) j (write_off i a.origin a.arc.bits b (none a k) ∙ e)

-- a bit that no write names is 0
unwritten : (ws : List Write) (b : DeviceBit) (i : Bits) → ((w : Write) → In ws w → In (named_by w) b → ⊥) → after_writes i ws b ≡ i b
unwritten [] b i n = refl
unwritten (w ∷ ws) b i n = unwritten ws b (written i w.origin w.pattern) (λ x k. n x (inr k)) ∙ write_off i w.origin w.pattern b (n w (inl refl))

-- the arc of a line is one of the graph
arc_there : (g : Graph) (tile : List ℕ) (line : ArcLine) (a : GraphArc) → option_and_then (λ n. arc_of_line g n line) (tile_named g tile) ≡ Some a → In g.arcs a
arc_there g tile line a e =
    let t = leads_to (λ n. arc_of_line g n line) (tile_named g tile) a e in
    let m = leads_to (λ mux. arc_named g mux line.source) (mux_named g t.0 line.sink) a t.1.1 in
    (find_from (λ x. (x.mux == m.0) && bytes_eq x.arc.source line.source) g.arcs a m.1.1).0

module _ (k : Configured) (nets : List ℕ) (config : Config) where
  -- an arc of a plain mux whose sink a ripped net feeds
  record IsRippedArc (a : GraphArc) : Type 0 where
    listed : In k.graph.arcs a
    plain : IsPlain k.graph config a.mux
    net : ℕ
    ripped : In nets net
    feeds : Feeds (routing k) net a.sink

  ripped_line : (tile : List ℕ) (line : ArcLine) (a : GraphArc) → option_and_then (λ n. arc_of_line k.graph n line) (tile_named k.graph tile) ≡ Some a → IsRippedArc a
      → IsRippedLine (In nets) config k tile line
  ripped_line tile line a e r = record { arc = a; named = e; plain = r.plain; net = r.net; ripped = r.ripped; feeds = r.feeds }

  -- what is removed of the lines of a section
  record LinesGone (tile : List ℕ) (lines rest : List ArcLine) (removed : List GraphArc) : Type 0 where
    gone : (a : GraphArc) → In removed a → IsRippedArc a
    lost : (line : ArcLine) → In lines line → In rest line ⊎ ((a : GraphArc) × (In removed a × (option_and_then (λ n. arc_of_line k.graph n line) (tile_named k.graph tile) ≡ Some a)))
    left : (line : ArcLine) → In rest line → In lines line × (IsRippedLine (In nets) config k tile line → ⊥)
    thinned : (number : ℕ) → tile_named k.graph tile ≡ Some number → Thinned removed (flat_map (arc_writes k.graph number) lines) (flat_map (arc_writes k.graph number) rest)

  lines_gone : (tile : List ℕ) {lines rest : List ArcLine} → WithoutLines (IsRippedLine (In nets) config k tile) lines rest → (removed : List GraphArc) × LinesGone tile lines rest removed
  lines_gone tile no_lines = ([], record { gone = λ a i. absurd i; lost = λ l i. absurd i; left = λ l i. absurd i; thinned = λ n e. none_left })
  lines_gone tile (keeps {line} n h) = (let r = lines_gone tile h in (
    r.0,
    record {
      gone = r.1.gone;
      lost = λ l i. elim i [ inl e ↦ inl (inl e) | inr j ↦ elim (r.1.lost l j) [ inl m ↦ inl (inr m) | inr m ↦ inr m ] ];
      left = λ l i. elim i [ inl e ↦ (inl e, subst (λ x. IsRippedLine (In nets) config k tile x → ⊥) e n) | inr j ↦ (let m = r.1.left l j in (inr m.0, m.1)) ];
      thinned = λ m e. thinned_append (thinned_same r.0 (arc_writes k.graph m line)) (r.1.thinned m e);
    },
  ))
  lines_gone tile (drops {line} {lines} {rest} d h) = (let r = lines_gone tile h in (
    d.arc ∷ r.0,
    record {
      gone = λ a i. elim i [ inl e ↦ subst IsRippedArc e (record { listed = arc_there k.graph tile line d.arc d.named; plain = d.plain; net = d.net; ripped = d.ripped; feeds = d.feeds }) | inr j ↦ r.1.gone a j ];
      lost = λ l i. elim i [
        | inl e ↦ inr (d.arc, (inl refl, subst (λ x. option_and_then (λ n. arc_of_line k.graph n x) (tile_named k.graph tile) ≡ Some d.arc) e d.named))
        | inr j ↦ elim (r.1.lost l j) [ inl m ↦ inl m | inr m ↦ inr (m.0, (inr m.1.0, m.1.1)) ]
      ];
      left = λ l i. (let m = r.1.left l i in (inr m.0, m.1));
      thinned = λ n e.
          let at : arc_writes k.graph n line ≡ write_of d.arc ∷ [] =
          ap (λ o. option_map_or (λ x. let made : Write = record { origin = x.origin; pattern = x.arc.bits } in made ∷ []) o []) (sym (ap (option_and_then (λ m. arc_of_line k.graph m line)) e) ∙ d.named) in
          subst (λ ws. Thinned (d.arc ∷ r.0) (ws ++ flat_map (arc_writes k.graph n) lines) (flat_map (arc_writes k.graph n) rest)) (sym at) (goes d.arc (inl refl) (thinned_by (λ a i. inr i) (r.1.thinned n e)));
    },
  ))

  -- what is removed of sections
  record TextsGone (texts rest : List TileText) (removed : List GraphArc) : Type 0 where
    gone : (a : GraphArc) → In removed a → IsRippedArc a
    lost : (a : GraphArc) → ListHas k.graph texts a → ListHas k.graph rest a ⊎ In removed a
    left : (a : GraphArc) → ListHas k.graph rest a → ListHas k.graph texts a × (IsRippedArc a → ⊥)
    thinned : Thinned removed (flat_map (tile_writes k.graph) texts) (flat_map (tile_writes k.graph) rest)
    unknowns : flat_map (unknown_bits_in k.graph) rest ≡ flat_map (unknown_bits_in k.graph) texts

  -- a section and one with other arc lines write alike but for these
  section_thinned : (text : TileText) (arcs : List ArcLine) (removed : List GraphArc) → LinesGone text.tile text.arcs arcs removed
      → Thinned removed (tile_writes k.graph text) (tile_writes k.graph (record { tile = text.tile; line = text.line; arcs = arcs; words = text.words; enums = text.enums; unknowns = text.unknowns }))
  section_thinned text arcs removed gone = named (tile_named k.graph text.tile) refl
    where
      new : TileText
      new = record { tile = text.tile; line = text.line; arcs = arcs; words = text.words; enums = text.enums; unknowns = text.unknowns }

      set : (number : ℕ) → tile_named k.graph text.tile ≡ Some number → (tile : Tile) (o : Option Settings)
          → Thinned removed (option_map_or (section_writes k.graph text number tile) o []) (option_map_or (section_writes k.graph new number tile) o [])
      set number e tile None = none_left
      set number e tile (Some settings) =
          thinned_append (thinned_append (thinned_append (gone.thinned number e)
          (thinned_same removed (flat_map (word_writes (origin_of tile) settings) text.words))) (thinned_same removed (flat_map (enum_writes (origin_of tile) settings) text.enums)))
          (thinned_same removed (flat_map (unknown_writes (origin_of tile)) text.unknowns))

      there : (number : ℕ) → tile_named k.graph text.tile ≡ Some number → (o : Option Tile)
          → Thinned removed (option_map_or (λ tile. option_map_or (section_writes k.graph text number tile) (slice_get k.graph.settings number) []) o [])
          (option_map_or (λ tile. option_map_or (section_writes k.graph new number tile) (slice_get k.graph.settings number) []) o [])
      there number e None = none_left
      there number e (Some tile) = set number e tile (slice_get k.graph.settings number)

      named : (o : Option ℕ) → tile_named k.graph text.tile ≡ o
          → Thinned removed (option_map_or (λ number. option_map_or (λ tile. option_map_or (section_writes k.graph text number tile) (slice_get k.graph.settings number) []) (slice_get k.graph.grid.tiles number) []) o [])
          (option_map_or (λ number. option_map_or (λ tile. option_map_or (section_writes k.graph new number tile) (slice_get k.graph.settings number) []) (slice_get k.graph.grid.tiles number) []) o [])
      named None e = none_left
      named (Some number) e = there number e (slice_get k.graph.grid.tiles number)

  texts_gone : {texts rest : List TileText} → TextsWithout (IsRippedLine (In nets) config k) texts rest → (removed : List GraphArc) × TextsGone texts rest removed
  texts_gone no_texts = ([], record { gone = λ a i. absurd i; lost = λ a h. inl h; left = λ a h. absurd h.section; thinned = none_left; unknowns = refl })
  texts_gone (next_text {text} {new} {texts} {rest} t h) = (let l = lines_gone text.tile t.arcs in
      let r = texts_gone h in (
        l.0 ++ r.0,
        record {
          gone = λ a i. elim (in_either l.0 r.0 a i) [ inl j ↦ l.1.gone a j | inr j ↦ r.1.gone a j ];
          lost = λ a q. elim q.section [
            | inl e ↦ (let at : option_and_then (λ n. arc_of_line k.graph n q.line) (tile_named k.graph text.tile) ≡ Some a = subst (λ x. option_and_then (λ n. arc_of_line k.graph n q.line) (tile_named k.graph x.tile) ≡ Some a) (sym e) q.is in
                elim (l.1.lost q.line (subst (λ x. In x.arcs q.line) (sym e) q.listed)) [
                  | inl i ↦ inl (record { text = new; line = q.line; section = inl refl; listed = i; is = subst (λ x. option_and_then (λ n. arc_of_line k.graph n q.line) (tile_named k.graph x) ≡ Some a) (ap (λ x. x.tile) (sym t.others)) at })
                  | inr m ↦ inr (in_left l.0 r.0 a (subst (In l.0) (let s : Some m.0 ≡ Some a = sym m.1.1 ∙ at in let z : m.0 ≡ a = cc in z) m.1.0))
                ])
            | inr j ↦ elim (r.1.lost a (record { text = q.text; line = q.line; section = j; listed = q.listed; is = q.is })) [
              | inl m ↦ inl (record { text = m.text; line = m.line; section = inr m.section; listed = m.listed; is = m.is })
              | inr m ↦ inr (in_right l.0 r.0 a m)
            ]
          ];
          left = λ a q. elim q.section [
            | inl e ↦ (let at : option_and_then (λ n. arc_of_line k.graph n q.line) (tile_named k.graph text.tile) ≡ Some a =
                subst (λ x. option_and_then (λ n. arc_of_line k.graph n q.line) (tile_named k.graph x) ≡ Some a) (ap (λ x. x.tile) t.others)
                (subst (λ x. option_and_then (λ n. arc_of_line k.graph n q.line) (tile_named k.graph x.tile) ≡ Some a) (sym e) q.is) in
                let m = l.1.left q.line (subst (λ x. In x.arcs q.line) (sym e) q.listed) in
                (record { text = text; line = q.line; section = inl refl; listed = m.0; is = at }, λ ripped. m.1 (ripped_line text.tile q.line a at ripped)))
            | inr j ↦ (let m = r.1.left a (record { text = q.text; line = q.line; section = j; listed = q.listed; is = q.is }) in
                (record { text = m.0.text; line = m.0.line; section = inr m.0.section; listed = m.0.listed; is = m.0.is }, m.1))
          ];
          thinned = thinned_append (thinned_by (λ a i. in_left l.0 r.0 a i) (subst (λ x. Thinned l.0 (tile_writes k.graph text) (tile_writes k.graph x)) (sym t.others) (section_thinned text new.arcs l.0 l.1)))
              (thinned_by (λ a i. in_right l.0 r.0 a i) r.1.thinned);
          unknowns = ap (λ x. unknown_bits_in k.graph x ++ flat_map (unknown_bits_in k.graph) rest) t.others ∙ ap (λ bs. unknown_bits_in k.graph text ++ bs) r.1.unknowns;
        },
      ))

-- The image of the rest.
module _ (k : Configured) (nets : List ℕ) (config rest : Config) (num : IsNumbered k.graph) (clean : IsClean (routing k)) (image : k.image ≡ image_of k.graph config)
    (agree : ArcsAgree k.graph k.image config) (removed : List GraphArc) (texts : TextsGone k nets config config.tiles rest.tiles removed) where
  new : Bits
  new = image_of k.graph rest

  -- an arc of the rest isn't ripped
  left_alone : (a : GraphArc) → HasLine k.graph rest a → IsRippedArc k nets config a → ⊥
  left_alone a h = (texts.left a (record { text = h.text; line = h.line; section = h.section; listed = h.listed; is = h.is })).1

  was_there : (a : GraphArc) → HasLine k.graph rest a → HasLine k.graph config a
  was_there a h =
      let r = (texts.left a (record { text = h.text; line = h.line; section = h.section; listed = h.listed; is = h.is })).0 in
      record { text = r.text; line = r.line; section = r.section; listed = r.listed; is = r.is }

  -- a removed arc of a mux, or none
  record HasRemoved (mux : ℕ) : Type 0 where
    arc : GraphArc
    is_removed : In removed arc
    of_mux : arc.mux ≡ mux

  is_removed_from : (mux : ℕ) → HasRemoved mux ⊎ ((a : GraphArc) → In removed a → a.mux ≡ mux → ⊥)
  is_removed_from mux = elim (any_of (λ a. a.mux ≡ mux) (λ a. same_number a.mux mux) removed) [
    | inl r ↦ inl (record { arc = r.0; is_removed = r.1.0; of_mux = r.1.1 })
    | inr n ↦ inr n
  ]

  -- arcs of the mux of a removed arc are ripped
  alike_ripped : (mux : ℕ) (r : HasRemoved mux) (a : GraphArc) → In k.graph.arcs a → In k.graph.arcs r.arc → a.mux ≡ mux → IsRippedArc k nets config a
  alike_ripped mux r a i j e =
      let g = texts.gone r.arc r.is_removed in
      let same : r.arc.mux ≡ a.mux = r.of_mux ∙ sym e in
      record {
        listed = i;
        plain = subst (IsPlain k.graph config) same g.plain;
        net = g.net;
        ripped = g.ripped;
        feeds = subst (Feeds (routing k) g.net) (num.one_sink r.arc a j i same) g.feeds;
      }

  -- the bits of such a mux are 0
  bits_clear : (mux : ℕ) (r : HasRemoved mux) → In k.graph.arcs r.arc → (b : DeviceBit) → In (bits_of_mux k.graph mux) b → new b ≡ false
  unfolding new
  bits_clear mux r j b i = unwritten (writes_of k.graph rest) b no_bits (λ w l n. named (writes_name k.graph rest w b l n))
    where
      plain : IsPlain k.graph config mux
      plain = subst (IsPlain k.graph config) r.of_mux (texts.gone r.arc r.is_removed).plain

      named : LineNames k.graph rest b ⊎ (In (setting_bits k.graph) b ⊎ In (unknown_bits k.graph rest) b) → ⊥
      named h = elim h [
        | inl l ↦ left_alone l.arc l.line (alike_ripped mux r l.arc (line_listed k.graph rest l.arc l.line) j
            (plain.alone b i l.arc.mux (in_mux_bits k.graph l.arc.mux l.arc b (line_listed k.graph rest l.arc l.line) refl l.named)))
        | inr s ↦ elim s [ inl m ↦ plain.no_setting b i m | inr m ↦ plain.no_unknown b i (subst (λ bs. In bs b) texts.unknowns m) ]
      ]

  none_chosen : (mux : ℕ) (r : HasRemoved mux) → In k.graph.arcs r.arc → (c : GraphArc) → In k.graph.arcs c → c.mux ≡ mux → is_chosen k.graph new c ≡ true → ⊥
  unfolding new
  none_chosen mux r j c i e h =
      let plain : IsPlain k.graph config mux = subst (IsPlain k.graph config) r.of_mux (texts.gone r.arc r.is_removed).plain in
      let s = set_bit new c.origin c.arc.bits (plain.has_plain_bits c i e) (picked k.graph num new c i h).fit in
      false≢true (sym (bits_clear mux r j s.bit (in_mux_bits k.graph mux c s.bit i e s.named)) ∙ s.is_set)

  -- a bit that no removed arc names is as before
  bit_stays : (b : DeviceBit) → ((a : GraphArc) → In removed a → In (bits_named a.origin a.arc.bits) b → ⊥) → new b ≡ k.image b
  unfolding new
  bit_stays b none = unnamed_stays removed b none texts.thinned no_bits no_bits refl ∙ ap (λ f. f b) (sym image)

  -- so are the bits of a mux of which no arc was removed
  mux_stays : (mux : ℕ) → ((a : GraphArc) → In removed a → In k.graph.arcs a) → ((a : GraphArc) → In removed a → a.mux ≡ mux → ⊥) → (c : GraphArc) → In k.graph.arcs c → c.mux ≡ mux
      → (b : DeviceBit) → In (bits_named c.origin c.arc.bits) b → new b ≡ k.image b
  mux_stays mux there none c i e b n = bit_stays b (λ a j m.
      let g = texts.gone a j in
      none a j (sym (g.plain.alone b (in_mux_bits k.graph a.mux a b (there a j) refl m) c.mux (in_mux_bits k.graph c.mux c b i refl n)) ∙ e))

  module _ (there : (a : GraphArc) → In removed a → In k.graph.arcs a) where
    chosen_back : (c : GraphArc) → In k.graph.arcs c → is_chosen k.graph new c ≡ true → is_chosen k.graph k.image c ≡ true
    chosen_back c i h = elim (is_removed_from c.mux) [
      | inl r ↦ absurd (none_chosen c.mux r (there r.arc r.is_removed) c i refl h)
      | inr n ↦ chosen_agree k.graph num new k.image c i (λ d j e b m. mux_stays c.mux there n d j e b m) h
    ]

    link_back : (x w : ℕ) → Drives (routing (with_image k new)) x w → Drives (routing k) x w
    link_back x w h = elim (driven_by k.graph new x w h) [
      | inl l ↦ drives_by k.graph k.image x w (record { arc = l.arc; listed = l.listed; chosen = chosen_back l.arc l.listed l.chosen; from = l.from; to = l.to })
      | inr i ↦ drives_fixed k.graph k.image x w i
    ]

    fewer : (c w : ℕ) → Feeds (routing (with_image k new)) c w → Feeds (routing k) c w
    fewer c w f = record { output = f.output; reach = reaches_by link_back f.reach }

    counting_back : (x w : ℕ) → Counting (routing (with_image k new)) x w → Counting (routing k) x w
    counting_back x w h = (link_back x w h.0, (h.1.0, fewer h.1.0 x h.1.1))

    -- a link on the way from a net that isn't ripped stays
    link_on : (c y z : ℕ) → (In nets c → ⊥) → Feeds (routing k) c z → Drives (routing k) y z → Drives (routing (with_image k new)) y z
    link_on c y z out f l = elim (driven_by k.graph k.image y z l) [
      | inr i ↦ drives_fixed k.graph new y z i
      | inl b ↦ elim (is_removed_from b.arc.mux) [
        | inr n ↦ drives_by k.graph new y z (record {
          arc = b.arc;
          listed = b.listed;
          chosen = chosen_agree k.graph num k.image new b.arc b.listed (λ d j e x m. sym (mux_stays b.arc.mux there n d j e x m)) b.chosen;
          from = b.from;
          to = b.to;
        })
        | inl r ↦ absurd (let g = alike_ripped b.arc.mux r b.arc b.listed (there r.arc r.is_removed) refl in
            out (subst (In nets) (one_feed (routing k) clean g.net c z (subst (Feeds (routing k) g.net) b.to g.feeds) f) g.ripped))
      ]
    ]

    walk_on : (c : ℕ) → (In nets c → ⊥) → In k.graph.outputs c → {w : ℕ} → Below (routing k) c w → Below (routing (with_image k new)) c w
    walk_on c out o here = here
    walk_on c out o (onto {b = y} {c = z} q l) = onto (walk_on c out o q) (link_on c y z out (record { output = o; reach = onto q l }) l)

    setting_stays : (b : DeviceBit) → In (setting_bits k.graph) b → new b ≡ k.image b
    setting_stays b s = bit_stays b (λ a j n. (texts.gone a j).plain.no_setting b (in_mux_bits k.graph a.mux a b (there a j) refl n) s)

    agree_on : ArcsAgree k.graph new rest
    agree_on = record {
      chosen_has_line = λ c i h plain. line_stays c i h (agree.chosen_has_line c i (chosen_back c i h) plain);
      line_is_chosen = λ c h. still_chosen c h (line_listed k.graph rest c h);
    }
      where
        line_stays : (c : GraphArc) → In k.graph.arcs c → is_chosen k.graph new c ≡ true → HasLine k.graph config c → HasLine k.graph rest c
        line_stays c i h l = elim (texts.lost c (record { text = l.text; line = l.line; section = l.section; listed = l.listed; is = l.is })) [
          | inl r ↦ record { text = r.text; line = r.line; section = r.section; listed = r.listed; is = r.is }
          | inr j ↦ absurd (none_chosen c.mux (record { arc = c; is_removed = j; of_mux = refl }) i c i refl h)
        ]

        still_chosen : (c : GraphArc) → HasLine k.graph rest c → In k.graph.arcs c → is_chosen k.graph new c ≡ true
        still_chosen c h i = elim (is_removed_from c.mux) [
          | inl r ↦ absurd (left_alone c h (alike_ripped c.mux r c i (there r.arc r.is_removed) refl))
          | inr n ↦ chosen_agree k.graph num k.image new c i (λ d j e b m. sym (mux_stays c.mux there n d j e b m)) (agree.line_is_chosen c (was_there c h))
        ]

    rest_kept : RestKept k nets config rest
    unfolding new
    rest_kept = record {
      clean = record {
        one_driver = λ w x y cx cy. clean.one_driver w x y (counting_back x w cx) (counting_back y w cy);
        outputs_undriven = λ w x o cx. clean.outputs_undriven w x o (counting_back x w cx);
      };
      agree = agree_on;
      fewer = fewer;
      others = λ c w out f. record { output = f.output; reach = walk_on c out f.output f.reach };
      words = words_same k.graph new k.image setting_stays;
      enums = values_same k.graph new k.image setting_stays;
      unknowns = texts.unknowns;
    }

pub ripped_rest : (k : Configured) (nets : List ℕ) (config rest : Config) → IsNumbered k.graph → IsClean (routing k) → k.image ≡ image_of k.graph config → ArcsAgree k.graph k.image config
    → IsRest (In nets) config k rest → RestKept k nets config rest
ripped_rest k nets config rest num clean image agree h =
    let r = texts_gone k nets config h.texts in
    rest_kept k nets config rest num clean image agree r.0 r.1 (λ a i. (r.1.gone a i).listed)
