-- The bits of a cell are bits of words and enums.
use Rattle.std.proofs.Common.{◌≡◌, ℕ, suc, zero, inl, inr, List, [], ◌∷◌, map, flat_map, Option, Some, None, refl, ap₂, subst}
use Rattle.std.specs.Prelude.{slice_get, unwrap_or, zip}
use Rattle.std.specs.Option.{option_map_or}
use Rattle.std.specs.Str.{bytes_eq}
use Rattle.words.specs.Members.{In}
use Rattle.patterns.specs.Bits.{DeviceBit, PatternBit}
use Rattle.records.specs.Database.{WordSetting, EnumOption, EnumSetting}
use Rattle.records.specs.Grid.{Tile, origin_of}
use Rattle.fabric.specs.Settings.{Settings, word_named, enum_named}
use Rattle.fabric.specs.Graph.{Graph}
use Rattle.fabric.specs.MuxBits.{bits_named}
use Rattle.cells.specs.Sites.{Site, settings_at}
use Rattle.cells.specs.Resolved.{bits_of_setting, site_bits}
use Rattle.repair.specs.Plain.{setting_patterns, setting_bits_in, setting_bits}
use Rattle.links.proofs.Members.{in_left, in_right, in_either, in_map, in_flat_map, of_flat_map}
use Rattle.fabric_laws.proofs.Members.{find_from}

-- two elements of one place stand together
zipped : {X Y : Type 0} (xs : List X) (ys : List Y) (n : ℕ) (x : X) (y : Y) → slice_get xs n ≡ Some x → slice_get ys n ≡ Some y → In (zip xs ys) (x, y)
zipped [] ys n x y h k = absurd (let no : ⊥ = cc in no)
zipped (a ∷ xs) [] n x y h k = absurd (let no : ⊥ = cc in no)
zipped {X} {Y} (a ∷ xs) (b ∷ ys) zero x y h k =
    let e : a ≡ x = cc in let f : b ≡ y = cc in inl (ap₂ (λ (v : X) (w : Y). (v, w)) e f)
zipped (a ∷ xs) (b ∷ ys) (suc n) x y h k = inr (zipped xs ys n x y h k)

-- the bits of the setting of a name in a tile are bits of the tile's settings
module _ (tile : Tile) (settings : Settings) (name : List ℕ) (b : DeviceBit) where
  abbrev word_bits : WordSetting → List DeviceBit
  word_bits w = flat_map (bits_named (origin_of tile)) w.bits

  abbrev enum_bits : EnumSetting → List DeviceBit
  enum_bits e = flat_map (λ o. bits_named (origin_of tile) o.bits) e.options

  abbrev words : List (List PatternBit)
  words = flat_map (λ (w : WordSetting). w.bits) settings.words

  abbrev enums : List (List PatternBit)
  enums = flat_map (λ (e : EnumSetting). map (λ o. o.bits) e.options) settings.enums

  of_word : (o : Option WordSetting) → word_named settings name ≡ o → In (option_map_or word_bits o []) b → In (setting_bits_in tile settings) b
  of_word None e j = absurd j
  of_word (Some w) e j =
      let found = find_from (λ (v : WordSetting). bytes_eq v.name name) settings.words w e in
      let p = of_flat_map (bits_named (origin_of tile)) w.bits b j in
      in_flat_map (bits_named (origin_of tile)) (setting_patterns settings) p.0 b
      (in_left words enums p.0 (in_flat_map (λ (v : WordSetting). v.bits) settings.words w p.0 found.0 p.1.0)) p.1.1

  of_enum : (o : Option EnumSetting) → enum_named settings name ≡ o → In (option_map_or enum_bits o []) b → In (setting_bits_in tile settings) b
  of_enum None e j = absurd j
  of_enum (Some s) e j =
      let found = find_from (λ (v : EnumSetting). bytes_eq v.name name) settings.enums s e in
      let p = of_flat_map (λ (o : EnumOption). bits_named (origin_of tile) o.bits) s.options b j in
      in_flat_map (bits_named (origin_of tile)) (setting_patterns settings) p.0.bits b
      (in_right words enums p.0.bits (in_flat_map (λ (v : EnumSetting). map (λ o. o.bits) v.options) settings.enums s p.0.bits found.0
      (in_map (λ (o : EnumOption). o.bits) s.options p.0 p.1.0))) p.1.1

  named_bits : In (bits_of_setting (origin_of tile) settings name) b → In (setting_bits_in tile settings) b
  named_bits i = elim (in_either (option_map_or word_bits (word_named settings name) []) (option_map_or enum_bits (enum_named settings name) []) b i) [
    | inl j ↦ of_word (word_named settings name) refl j
    | inr j ↦ of_enum (enum_named settings name) refl j
  ]

-- the bits of settings at a site are bits of words and enums of the device
pub site_bits_are : {K : Type 0} (g : Graph) (site : Site K) (names : List (List ℕ)) → slice_get g.grid.tiles site.number ≡ Some site.tile
    → (b : DeviceBit) → In (site_bits g site names) b → In (setting_bits g) b
site_bits_are g site names there b i =
    let r = of_flat_map (bits_of_setting (origin_of site.tile) (settings_at g site)) names b i in
    go r.0 r.1.1 (slice_get g.settings site.number) refl
  where
    go : (name : List ℕ) → In (bits_of_setting (origin_of site.tile) (settings_at g site) name) b → (o : Option Settings) → slice_get g.settings site.number ≡ o → In (setting_bits g) b
    go name j None e = absurd (subst (λ p. In (bits_of_setting (origin_of site.tile) (unwrap_or p (record { words = []; enums = [] })) name) b) e j)
    go name j (Some settings) e =
        let here = subst (λ p. In (bits_of_setting (origin_of site.tile) (unwrap_or p (record { words = []; enums = [] })) name) b) e j in
        in_flat_map (λ (t : Tile × Settings). setting_bits_in t.0 t.1) (zip g.grid.tiles g.settings) (site.tile, settings) b
        (zipped g.grid.tiles g.settings site.number site.tile settings there e) (named_bits site.tile settings name b here)
