-- A text that may be written stays one where the settings of a slice are moved to a site of equal shape.
use Rattle.std.proofs.Common.{◌≡◌, ◌<◌, ℕ, Bool, true, false, not, inl, inr, List, [], ◌∷◌, map, length, Option, Some, None, option_map, refl, sym, ap, subst, ◌∙◌}
use Rattle.std.specs.Prelude.{slice_get, unwrap_or, find, ◌==◌, if◌then◌else◌}
use Rattle.std.specs.Option.{option_map_or, is_some}
use Rattle.std.specs.Str.{bytes_eq}
use Rattle.words.specs.Members.{In}
use Rattle.records.specs.Config.{WordLine, EnumLine, TileText, Config}
use Rattle.records.specs.Database.{WordSetting, EnumSetting}
use Rattle.records.specs.Profile.{SliceKind}
use Rattle.links.proofs.Members.{in_either, of_map}
use Rattle.patterns.specs.Bits.{PatternBit}
use Rattle.records.specs.Database.{EnumOption}
use Rattle.fabric.specs.InOrder.{IsRising}
use Rattle.fabric.specs.Wires.{name_cmp}
use Rattle.fabric.specs.Settings.{Settings, word_named, enum_named}
use Rattle.fabric.specs.Graph.{Graph}
use Rattle.fabric.specs.Image.{tile_named}
use Rattle.fabric_laws.proofs.Members.{in_filter_from, in_filter_map_from}
use Rattle.layout_laws.proofs.Named.{same_bytes}
use Rattle.cells.specs.Sites.{Site, settings_at}
use Rattle.cells.specs.Shapes.{Form, form_of, HaveEqualShape}
use Rattle.cells_laws.proofs.Options.{mapped_from}
use Rattle.answers.specs.Refusals.{UnknownSetting, UnknownValue, WordLength}
use Rattle.design_checks.specs.LineChecks.{LineFault, fault_at, word_faults, enum_faults}
use Rattle.attempts.specs.Moves.{renamed, moved_words, moved_enums, without_slice, with_settings, texts_with, at_tile, texts_of, words_of, enums_of, moved_config}
use Rattle.written_laws.specs.Writable.{TilePlace, SectionStands, IsWritable}
use Rattle.written_laws.proofs.Sections.{tiles_of, of_settings, settings_rising, settings_good}

-- ---- the form of a setting tells what is refused of a line

abbrev word_fits : ℕ → List Bool → Option (List (List PatternBit)) → List LineFault
word_fits line bits o = option_map_or (λ patterns. if length patterns == length bits then [] else fault_at line WordLength ∷ []) o (fault_at line UnknownSetting ∷ [])

word_by_form : (settings : Settings) (l : WordLine) → word_faults settings l ≡ word_fits l.line l.bits (form_of settings l.name).word
word_by_form settings l = go (word_named settings l.name)
  where
    go : (o : Option WordSetting) → option_map_or (λ (w : WordSetting). if length w.bits == length l.bits then [] else fault_at l.line WordLength ∷ []) o (fault_at l.line UnknownSetting ∷ [])
        ≡ word_fits l.line l.bits (option_map (λ w. w.bits) o)
    go None = refl
    go (Some w) = refl

abbrev enum_fits : ℕ → List ℕ → Option (List EnumOption) → List LineFault
enum_fits line value o =
    option_map_or (λ options. option_map_or (λ found. []) (find (λ (x : EnumOption). bytes_eq x.value value) options) (fault_at line UnknownValue ∷ [])) o (fault_at line UnknownSetting ∷ [])

enum_by_form : (settings : Settings) (l : EnumLine) → enum_faults settings l ≡ enum_fits l.line l.value (form_of settings l.name).options
enum_by_form settings l = go (enum_named settings l.name)
  where
    go : (o : Option EnumSetting)
        → option_map_or (λ (e : EnumSetting). option_map_or (λ found. let none : List LineFault = [] in none) (find (λ (x : EnumOption). bytes_eq x.value l.value) e.options) (fault_at l.line UnknownValue ∷ [])) o (fault_at l.line UnknownSetting ∷ [])
        ≡ enum_fits l.line l.value (option_map (λ e. e.options) o)
    go None = refl
    go (Some e) = refl

-- a name and the one at its position have one form
renamed_form : (in_a in_b : Settings) (olds news : List (List ℕ)) (name new : List ℕ) → map (form_of in_a) olds ≡ map (form_of in_b) news → renamed olds news name ≡ Some new
    → form_of in_a name ≡ form_of in_b new
renamed_form in_a in_b [] news name new forms h = absurd (let no : ⊥ = cc in no)
renamed_form in_a in_b (old ∷ olds) [] name new forms h = absurd (let no : ⊥ = cc in no)
renamed_form in_a in_b (old ∷ olds) (next ∷ news) name new forms h =
    let head : form_of in_a old ≡ form_of in_b next = cc in
    let tail : map (form_of in_a) olds ≡ map (form_of in_b) news = cc in
    go head (bytes_eq old name) refl h (renamed_form in_a in_b olds news name new tail)
  where
    go : form_of in_a old ≡ form_of in_b next → (b : Bool) → bytes_eq old name ≡ b → (if b then Some next else renamed olds news name) ≡ Some new
        → (renamed olds news name ≡ Some new → form_of in_a name ≡ form_of in_b new) → form_of in_a name ≡ form_of in_b new
    go head true e k ih = (let same : next ≡ new = cc in ap (form_of in_a) (sym (same_bytes old name e)) ∙ head ∙ ap (form_of in_b) same)
    go head false e k ih = ih k

-- ---- lines of a section that are taken, kept and put

in_words : (texts : List TileText) (w : WordLine) → In (words_of texts) w → (t : TileText) × (In texts t × In t.words w)
in_words [] w i = absurd i
in_words (t ∷ texts) w i = elim (in_either t.words (words_of texts) w i) [
  | inl j ↦ (t, (inl refl, j))
  | inr j ↦ (let r = in_words texts w j in (r.0, (inr r.1.0, r.1.1)))
]

in_enums : (texts : List TileText) (e : EnumLine) → In (enums_of texts) e → (t : TileText) × (In texts t × In t.enums e)
in_enums [] e i = absurd i
in_enums (t ∷ texts) e i = elim (in_either t.enums (enums_of texts) e i) [
  | inl j ↦ (t, (inl refl, j))
  | inr j ↦ (let r = in_enums texts e j in (r.0, (inr r.1.0, r.1.1)))
]

-- a section without the lines of a slice names what is there
without : (g : Graph) (rename : List ℕ → Option (List ℕ)) (t : TileText) → SectionStands g t → SectionStands g (without_slice rename t)
without g rename t s = record {
  place = s.place;
  arcs = s.arcs;
  words = λ w i. s.words w (in_filter_from (λ (l : WordLine). not (is_some (rename l.name))) t.words w i).0;
  enums = λ e i. s.enums e (in_filter_from (λ (l : EnumLine). not (is_some (rename l.name))) t.enums e i).0;
  unknowns = s.unknowns;
  order = s.order;
}

-- the sections of a tile are changed
module _ (tile : List ℕ) (change : TileText → TileText) where
  abbrev one_changed : TileText → TileText
  one_changed text = if bytes_eq text.tile tile then change text else text

  changed_tile : ((t : TileText) → (change t).tile ≡ t.tile) → (texts : List TileText) → tiles_of (at_tile tile change texts) ≡ tiles_of texts
  changed_tile keeps [] = refl
  changed_tile keeps (t ∷ texts) = go (bytes_eq t.tile tile) (changed_tile keeps texts)
    where
      go : (b : Bool) → tiles_of (at_tile tile change texts) ≡ tiles_of texts → (let u : TileText = if b then change t else t in u.tile ∷ tiles_of (at_tile tile change texts)) ≡ t.tile ∷ tiles_of texts
      go true ih = ap (λ n. n ∷ tiles_of (at_tile tile change texts)) (keeps t) ∙ ap (λ ns. t.tile ∷ ns) ih
      go false ih = ap (λ ns. t.tile ∷ ns) ih

  changed_good : (Good : TileText → Type 0) → ((t : TileText) → Good t → Good (change t)) → (texts : List TileText) → ((t : TileText) → In texts t → Good t)
      → (t : TileText) → In (at_tile tile change texts) t → Good t
  changed_good Good good texts all t i =
      let r = of_map one_changed texts t i in
      subst Good r.1.1 (go r.0 (bytes_eq r.0.tile tile) (all r.0 r.1.0))
    where
      go : (u : TileText) (b : Bool) → Good u → Good (if b then change u else u)
      go u true h = good u h
      go u false h = h

module _ (g : Graph) (old new : Site SliceKind) (old_named : tile_named g old.tile.name ≡ Some old.number) (new_place : TilePlace g new.tile.name) (at_new : new_place.number ≡ new.number)
    (alike : HaveEqualShape (settings_at g old) old.kind (settings_at g new) new.kind) where
  abbrev rename : List ℕ → Option (List ℕ)
  rename = renamed old.kind.settings new.kind.settings

  site_settings : (site : Site SliceKind) (s : Settings) → slice_get g.settings site.number ≡ Some s → settings_at g site ≡ s
  site_settings site s e = ap (λ o. unwrap_or o (record { words = []; enums = [] })) e

  in_new : settings_at g new ≡ new_place.settings
  in_new = site_settings new new_place.settings (ap (slice_get g.settings) (sym at_new) ∙ new_place.set)

  in_old : (t : TileText) (p : TilePlace g t.tile) → t.tile ≡ old.tile.name → settings_at g old ≡ p.settings
  in_old t p e =
      let numbers : Some p.number ≡ Some old.number = sym p.named ∙ (ap (tile_named g) e ∙ old_named) in
      let same : p.number ≡ old.number = cc in
      site_settings old p.settings (ap (slice_get g.settings) (sym same) ∙ p.set)

  one_form : (name other : List ℕ) → rename name ≡ Some other → form_of (settings_at g old) name ≡ form_of new_place.settings other
  one_form name other h = subst (λ s. form_of (settings_at g old) name ≡ form_of s other) in_new (renamed_form (settings_at g old) (settings_at g new) old.kind.settings new.kind.settings name other alike.forms h)

  module _ (texts : List TileText) (all : (t : TileText) → In texts t → SectionStands g t) where
    abbrev from : List TileText
    from = texts_of old.tile.name texts

    -- a word that is moved is there at the new site
    abbrev WordStands : WordLine → Type 0
    WordStands w = (word_faults new_place.settings w ≡ []) × (0 < length w.bits)

    moved_word : (w : WordLine) → In (moved_words rename (words_of from)) w → WordStands w
    moved_word w i =
        let r = in_filter_map_from (λ (l : WordLine). option_map (λ name. let made : WordLine = record { name = name; bits = l.bits; line = l.line } in made) (rename l.name)) (words_of from) w i in
        let n = mapped_from (λ name. let made : WordLine = record { name = name; bits = r.0.bits; line = r.0.line } in made) (rename r.0.name) w r.2 in
        let t = in_words from r.0 r.1 in
        let f = in_filter_from (λ (text : TileText). bytes_eq text.tile old.tile.name) texts t.0 t.1.0 in
        let s = all t.0 f.0 in
        let k = s.words r.0 t.1.1 in
        let fits : word_fits r.0.line r.0.bits (form_of (settings_at g old) r.0.name).word ≡ [] = sym (word_by_form (settings_at g old) r.0)
        ∙ subst (λ x. word_faults x r.0 ≡ []) (sym (in_old t.0 s.place (same_bytes t.0.tile old.tile.name f.1))) k.0 in
        subst WordStands n.1.1 (
          word_by_form new_place.settings (record { name = n.0; bits = r.0.bits; line = r.0.line })
              ∙ (ap (λ (o : Form). word_fits r.0.line r.0.bits o.word) (sym (one_form r.0.name n.0 n.1.0)) ∙ fits),
          k.1,
        )

    abbrev EnumStands : EnumLine → Type 0
    EnumStands e = enum_faults new_place.settings e ≡ []

    moved_enum : (e : EnumLine) → In (moved_enums rename (enums_of from)) e → EnumStands e
    moved_enum e i =
        let r = in_filter_map_from (λ (l : EnumLine). option_map (λ name. let made : EnumLine = record { name = name; value = l.value; line = l.line } in made) (rename l.name)) (enums_of from) e i in
        let n = mapped_from (λ name. let made : EnumLine = record { name = name; value = r.0.value; line = r.0.line } in made) (rename r.0.name) e r.2 in
        let t = in_enums from r.0 r.1 in
        let f = in_filter_from (λ (text : TileText). bytes_eq text.tile old.tile.name) texts t.0 t.1.0 in
        let s = all t.0 f.0 in
        let fits : enum_fits r.0.line r.0.value (form_of (settings_at g old) r.0.name).options ≡ [] = sym (enum_by_form (settings_at g old) r.0)
        ∙ subst (λ x. enum_faults x r.0 ≡ []) (sym (in_old t.0 s.place (same_bytes t.0.tile old.tile.name f.1))) (s.enums r.0 t.1.1) in
        subst EnumStands n.1.1 (
        enum_by_form new_place.settings (record { name = n.0; value = r.0.value; line = r.0.line })
        ∙ (ap (λ (o : Form). enum_fits r.0.line r.0.value o.options) (sym (one_form r.0.name n.0 n.1.0)) ∙ fits))

    abbrev words : List WordLine
    words = moved_words rename (words_of from)

    abbrev enums : List EnumLine
    enums = moved_enums rename (enums_of from)

    fresh : SectionStands g (of_settings new.tile.name words enums)
    fresh = record { place = new_place; arcs = λ a i. absurd i; words = moved_word; enums = moved_enum; unknowns = λ u i. absurd i; order = tt }

    more : (t : TileText) → new.tile.name ≡ t.tile → SectionStands g t → SectionStands g (with_settings words enums t)
    more t e s =
        let numbers : Some new_place.number ≡ Some s.place.number = sym new_place.named ∙ (ap (tile_named g) e ∙ s.place.named) in
        let same : new_place.number ≡ s.place.number = cc in
        let sets : Some new_place.settings ≡ Some s.place.settings = sym new_place.set ∙ (ap (slice_get g.settings) same ∙ s.place.set) in
        let settings : new_place.settings ≡ s.place.settings = cc in
        record {
          place = s.place;
          arcs = s.arcs;
          words = λ w i. elim (in_either t.words words w i) [ inl j ↦ s.words w j | inr j ↦ subst (λ x. (word_faults x w ≡ []) × (0 < length w.bits)) settings (moved_word w j) ];
          enums = λ x i. elim (in_either t.enums enums x i) [ inl j ↦ s.enums x j | inr j ↦ subst (λ z. enum_faults z x ≡ []) settings (moved_enum x j) ];
          unknowns = s.unknowns;
          order = s.order;
        }

    abbrev left : List TileText
    left = at_tile old.tile.name (without_slice rename) texts

    each_moved : (t : TileText) → In (texts_with new.tile.name words enums left) t → SectionStands g t
    each_moved = settings_good (SectionStands g) new.tile.name words enums fresh more left (changed_good old.tile.name (without_slice rename) (SectionStands g) (without g rename) texts all)

    moved_rising : IsRising name_cmp (tiles_of texts) → IsRising name_cmp (tiles_of (texts_with new.tile.name words enums left))
    moved_rising r = settings_rising new.tile.name words enums left (subst (IsRising name_cmp) (sym (changed_tile old.tile.name (without_slice rename) (λ t. refl) texts)) r)

  pub moved_writable : (one c : Config) → IsWritable g one c → IsWritable g one (moved_config old new c)
  moved_writable one c w = record {
    device = w.device;
    heads = w.heads;
    tiles = moved_rising c.tiles w.sections w.tiles;
    sections = each_moved c.tiles w.sections;
  }
