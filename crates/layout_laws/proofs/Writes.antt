-- One write more among others, and what the writes of a text name.
use Rattle.std.proofs.Common.{◌≡◌, ℕ, zero, suc, Bool, true, false, ◌⊎◌, inl, inr, List, [], ◌∷◌, ◌++◌, map, flat_map, Option, Some, None, refl, sym, ap, subst, ◌∙◌}
use Rattle.std.specs.Prelude.{zip, slice_get, if◌then◌else◌}
use Rattle.std.specs.Option.{option_and_then, option_map_or}
use Rattle.std.specs.Str.{bytes_eq}
use Rattle.words.specs.Members.{In}
use Rattle.patterns.specs.Bits.{DeviceBit, PatternBit, Bits}
use Rattle.patterns.specs.Written.{written, opposite}
use Rattle.records.specs.Database.{WordSetting, EnumSetting, EnumOption}
use Rattle.records.specs.Grid.{Tile, origin_of}
use Rattle.records.specs.Config.{ArcLine, WordLine, EnumLine, UnknownLine, TileText, Config}
use Rattle.fabric.specs.Settings.{Settings, word_named, enum_named, option_of}
use Rattle.fabric.specs.Graph.{GraphArc, Graph}
use Rattle.fabric.specs.Image.{Write, after_writes, tile_named, arc_of_line, arc_writes, word_writes, enum_writes, unknown_writes, section_writes, tile_writes, writes_of}
use Rattle.fabric.specs.Agree.{HasLine}
use Rattle.fabric.specs.MuxBits.{bits_named}
use Rattle.links.proofs.Members.{in_left, in_right, in_either, in_map, of_map, in_flat_map, of_flat_map}
use Rattle.fabric_laws.proofs.Members.{find_from}
use Rattle.repair.specs.Plain.{setting_patterns, setting_bits_in, setting_bits, unknown_bit, unknown_bits_in, unknown_bits}
use Rattle.repair_laws.proofs.Patterns.{is_named, write_off, write_agree, write_named}

-- the bits that a write names
abbrev pub named_by : Write → List DeviceBit
named_by w = bits_named w.origin w.pattern

writes_agree : (i j : Bits) (ws : List Write) (b : DeviceBit) → i b ≡ j b → after_writes i ws b ≡ after_writes j ws b
writes_agree i j [] b e = e
writes_agree i j (w ∷ ws) b e = writes_agree (written i w.origin w.pattern) (written j w.origin w.pattern) ws b (write_agree i j w.origin w.pattern b e)

writes_off : (i : Bits) (ws : List Write) (b : DeviceBit) → ((w : Write) → In ws w → In (named_by w) b → ⊥) → after_writes i ws b ≡ i b
writes_off i [] b n = refl
writes_off i (w ∷ ws) b n = writes_off (written i w.origin w.pattern) ws b (λ x k. n x (inr k)) ∙ write_off i w.origin w.pattern b (n w (inl refl))

-- a write that stands before writes of none of its bits is as one that stands last
pub among : (image : Bits) (front back : List Write) (w : Write) → ((x : Write) → In back x → (b : DeviceBit) → In (named_by w) b → In (named_by x) b → ⊥)
    → (b : DeviceBit) → after_writes image (front ++ w ∷ back) b ≡ written (after_writes image (front ++ back)) w.origin w.pattern b
among image [] back w none b = elim (is_named (named_by w) b) [
  | inl n ↦ writes_off (written image w.origin w.pattern) back b (λ x k m. none x k b n m) ∙ write_named image (after_writes image back) w.origin w.pattern b n
  | inr n ↦ writes_agree (written image w.origin w.pattern) image back b (write_off image w.origin w.pattern b n) ∙ sym (write_off (after_writes image back) w.origin w.pattern b n)
]
among image (x ∷ front) back w none b = among (written image x.origin x.pattern) front back w none b

-- an arc that has a line and names a bit
pub record LineNames (g : Graph) (config : Config) (b : DeviceBit) : Type 0 where
  pub arc : GraphArc
  pub line : HasLine g config arc
  pub named : In (bits_named arc.origin arc.arc.bits) b

-- what names a bit in a text: an arc line, or a setting, or an unknown line
abbrev pub NamedIn : Graph → Config → DeviceBit → Type 0
NamedIn g config b = LineNames g config b ⊎ (In (setting_bits g) b ⊎ In (unknown_bits g config) b)

-- the opposite of a pattern names its bits
opposite_names : (o : DeviceBit) (p : List PatternBit) (b : DeviceBit) → In (bits_named o (opposite p)) b → In (bits_named o p) b
opposite_names o [] b h = h
opposite_names o (w ∷ ws) b h = elim h [ inl s ↦ inl s | inr n ↦ inr (opposite_names o ws b n) ]

either_names : (o : DeviceBit) (p : List PatternBit) (s : Bool) (b : DeviceBit) → In (bits_named o (if s then p else opposite p)) b → In (bits_named o p) b
either_names o p true b h = h
either_names o p false b h = opposite_names o p b h

zip_left : {X Y : Type 0} (xs : List X) (ys : List Y) (p : X × Y) → In (zip xs ys) p → In xs p.0
zip_left [] ys p i = absurd i
zip_left (x ∷ xs) [] p i = absurd i
zip_left (x ∷ xs) (y ∷ ys) p i = elim i [ inl e ↦ inl (ap (λ q. q.0) e) | inr j ↦ inr (zip_left xs ys p j) ]

-- elements of one number are paired
pub zip_at : {X Y : Type 0} (xs : List X) (ys : List Y) (n : ℕ) (x : X) (y : Y) → slice_get xs n ≡ Some x → slice_get ys n ≡ Some y → In (zip xs ys) (x, y)
zip_at [] ys n x y e f = absurd (let no : ⊥ = cc in no)
zip_at (u ∷ xs) [] n x y e f = absurd (let no : ⊥ = cc in no)
zip_at (u ∷ xs) (v ∷ ys) zero x y e f = inl (let s : u ≡ x = cc in let t : v ≡ y = cc in λ i. (s i, t i))
zip_at (u ∷ xs) (v ∷ ys) (suc n) x y e f = inr (zip_at xs ys n x y e f)

module _ (g : Graph) (config : Config) (text : TileText) (section : In config.tiles text) (number : ℕ) (named : tile_named g text.tile ≡ Some number)
    (tile : Tile) (placed : slice_get g.grid.tiles number ≡ Some tile) (settings : Settings) (set : slice_get g.settings number ≡ Some settings) where
  -- a bit of a setting of the tile
  of_setting : (p : List PatternBit) (b : DeviceBit) → In (setting_patterns settings) p → In (bits_named (origin_of tile) p) b → In (setting_bits g) b
  of_setting p b i n = in_flat_map (λ t. setting_bits_in t.0 t.1) (zip g.grid.tiles g.settings) (tile, settings) b (zip_at g.grid.tiles g.settings number tile settings placed set)
      (in_flat_map (bits_named (origin_of tile)) (setting_patterns settings) p b i n)

  from_arc : (line : ArcLine) (o : Option GraphArc) → In text.arcs line → arc_of_line g number line ≡ o → (w : Write) (b : DeviceBit)
      → In (option_map_or (λ a. let made : Write = record { origin = a.origin; pattern = a.arc.bits } in made ∷ []) o []) w → In (named_by w) b → LineNames g config b
  from_arc line None i e w b j n = absurd j
  from_arc line (Some a) i e w b j n = elim j [
    | inl s ↦ record {
      arc = a;
      line = record { text = text; line = line; section = section; listed = i; is = ap (option_and_then (λ t. arc_of_line g t line)) named ∙ e };
      named = subst (λ x. In (named_by x) b) (sym s) n;
    }
    | inr k ↦ absurd k
  ]

  from_word : (line : WordLine) (o : Option WordSetting) → word_named settings line.name ≡ o → (w : Write) (b : DeviceBit)
      → In (option_map_or (λ s. map (λ p. let made : Write = record { origin = origin_of tile; pattern = if p.1 then p.0 else opposite p.0 } in made) (zip s.bits line.bits)) o []) w
      → In (named_by w) b → In (setting_bits g) b
  from_word line None e w b j n = absurd j
  from_word line (Some s) e w b j n =
      let m = of_map (λ p. let made : Write = record { origin = origin_of tile; pattern = if p.1 then p.0 else opposite p.0 } in made) (zip s.bits line.bits) w j in
      let f = find_from (λ v. bytes_eq v.name line.name) settings.words s e in
      of_setting m.0.0 b (in_left (flat_map (λ v. v.bits) settings.words) (flat_map (λ v. map (λ q. q.bits) v.options) settings.enums) m.0.0
      (in_flat_map (λ v. v.bits) settings.words s m.0.0 f.0 (zip_left s.bits line.bits m.0 m.1.0)))
      (either_names (origin_of tile) m.0.0 m.0.1 b (subst (λ x. In (named_by x) b) (sym m.1.1) n))

  from_option : (line : EnumLine) (s : EnumSetting) → In settings.enums s → (o : Option EnumOption) → option_of s line.value ≡ o → (w : Write) (b : DeviceBit)
      → In (option_map_or (λ q. let made : Write = record { origin = origin_of tile; pattern = q.bits } in made ∷ []) o []) w → In (named_by w) b → In (setting_bits g) b
  from_option line s i None e w b j n = absurd j
  from_option line s i (Some q) e w b j n = elim j [
    | inl d ↦ (let f = find_from (λ v. bytes_eq v.value line.value) s.options q e in
        of_setting q.bits b (in_right (flat_map (λ v. v.bits) settings.words) (flat_map (λ v. map (λ x. x.bits) v.options) settings.enums) q.bits
        (in_flat_map (λ v. map (λ x. x.bits) v.options) settings.enums s q.bits i (in_map (λ x. x.bits) s.options q f.0)))
        (subst (λ x. In (named_by x) b) (sym d) n))
    | inr k ↦ absurd k
  ]

  from_enum : (line : EnumLine) (o : Option EnumSetting) → enum_named settings line.name ≡ o → (w : Write) (b : DeviceBit)
      → In (option_map_or (λ q. let made : Write = record { origin = origin_of tile; pattern = q.bits } in made ∷ []) (option_and_then (λ s. option_of s line.value) o) []) w
      → In (named_by w) b → In (setting_bits g) b
  from_enum line None e w b j n = absurd j
  from_enum line (Some s) e w b j n =
      let f = find_from (λ v. bytes_eq v.name line.name) settings.enums s e in
      from_option line s f.0 (option_of s line.value) refl w b j n

  from_unknown : (line : UnknownLine) → In text.unknowns line → (w : Write) (b : DeviceBit) → In (unknown_writes (origin_of tile) line) w → In (named_by w) b → In (unknown_bits g config) b
  from_unknown line i w b j n = elim j [
    | inl s ↦ elim (subst (λ x. In (named_by x) b) (sym s) n) [
      | inl e ↦ in_flat_map (unknown_bits_in g) config.tiles text b section
          (subst (λ o. In (option_map_or (λ t. map (unknown_bit t) text.unknowns) o []) b) (sym (ap (option_and_then (slice_get g.grid.tiles)) named ∙ placed))
          (subst (In (map (unknown_bit tile) text.unknowns)) e (in_map (unknown_bit tile) text.unknowns line i)))
      | inr k ↦ absurd k
    ]
    | inr k ↦ absurd k
  ]

  pub from_section : (w : Write) (b : DeviceBit) → In (section_writes g text number tile settings) w → In (named_by w) b → NamedIn g config b
  from_section w b i n =
      let arcs = flat_map (arc_writes g number) text.arcs in
      let words = flat_map (word_writes (origin_of tile) settings) text.words in
      let enums = flat_map (enum_writes (origin_of tile) settings) text.enums in
      let unknowns = flat_map (unknown_writes (origin_of tile)) text.unknowns in
      elim (in_either (arcs ++ words ++ enums) unknowns w i) [
        | inr l ↦ (let m = of_flat_map (unknown_writes (origin_of tile)) text.unknowns w l in inr (inr (from_unknown m.0 m.1.0 w b m.1.1 n)))
        | inl j ↦ elim (in_either (arcs ++ words) enums w j) [
          | inr l ↦ (let m = of_flat_map (enum_writes (origin_of tile) settings) text.enums w l in inr (inl (from_enum m.0 (enum_named settings m.0.name) refl w b m.1.1 n)))
          | inl k ↦ elim (in_either arcs words w k) [
            | inr l ↦ (let m = of_flat_map (word_writes (origin_of tile) settings) text.words w l in inr (inl (from_word m.0 (word_named settings m.0.name) refl w b m.1.1 n)))
            | inl l ↦ (let m = of_flat_map (arc_writes g number) text.arcs w l in inl (from_arc m.0 (arc_of_line g number m.0) m.1.0 refl w b m.1.1 n))
          ]
        ]
      ]

from_settings : (g : Graph) (config : Config) (text : TileText) → In config.tiles text → (number : ℕ) → tile_named g text.tile ≡ Some number → (tile : Tile) → slice_get g.grid.tiles number ≡ Some tile
    → (o : Option Settings) → slice_get g.settings number ≡ o → (w : Write) (b : DeviceBit) → In (option_map_or (section_writes g text number tile) o []) w → In (named_by w) b → NamedIn g config b
from_settings g config text section number named tile placed None e w b i n = absurd i
from_settings g config text section number named tile placed (Some settings) e w b i n = from_section g config text section number named tile placed settings e w b i n

from_tile : (g : Graph) (config : Config) (text : TileText) → In config.tiles text → (number : ℕ) → tile_named g text.tile ≡ Some number → (o : Option Tile) → slice_get g.grid.tiles number ≡ o
    → (w : Write) (b : DeviceBit) → In (option_map_or (λ tile. option_map_or (section_writes g text number tile) (slice_get g.settings number) []) o []) w → In (named_by w) b → NamedIn g config b
from_tile g config text section number named None e w b i n = absurd i
from_tile g config text section number named (Some tile) e w b i n = from_settings g config text section number named tile e (slice_get g.settings number) refl w b i n

from_text : (g : Graph) (config : Config) (text : TileText) → In config.tiles text → (o : Option ℕ) → tile_named g text.tile ≡ o → (w : Write) (b : DeviceBit)
    → In (option_map_or (λ number. option_map_or (λ tile. option_map_or (section_writes g text number tile) (slice_get g.settings number) []) (slice_get g.grid.tiles number) []) o []) w
    → In (named_by w) b → NamedIn g config b
from_text g config text section None e w b i n = absurd i
from_text g config text section (Some number) e w b i n = from_tile g config text section number e (slice_get g.grid.tiles number) refl w b i n

-- a bit that a write of a text names is named by an arc line, a setting or an unknown line
pub writes_name : (g : Graph) (config : Config) (w : Write) (b : DeviceBit) → In (writes_of g config) w → In (named_by w) b → NamedIn g config b
writes_name g config w b i n =
    let m = of_flat_map (tile_writes g) config.tiles w i in
    from_text g config m.0 m.1.0 (tile_named g m.0.tile) refl w b m.1.1 n
