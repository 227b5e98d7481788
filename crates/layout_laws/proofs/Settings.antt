-- Settings read the same where their bits are the same.
use Rattle.std.proofs.Common.{◌≡◌, ℕ, Bool, inl, inr, List, [], ◌∷◌, map, filter, flat_map, Option, Some, None, option_map, refl, ap, ap₂, ◌∙◌, cond}
use Rattle.std.specs.Prelude.{slice_get, zip, length, nat_le, not, ◌&&◌, ◌||◌}
use Rattle.std.specs.List.{list_all}
use Rattle.std.specs.Option.{option_and_then}
use Rattle.std.specs.Str.{bytes_eq}
use Rattle.words.specs.Members.{In}
use Rattle.patterns.specs.Bits.{DeviceBit, PatternBit, Bits}
use Rattle.patterns.specs.Fits.{fits}
use Rattle.records.specs.Database.{WordSetting, EnumSetting}
use Rattle.records.specs.Grid.{Tile, origin_of}
use Rattle.fabric.specs.Chosen.{is_best_fit, best_fits}
use Rattle.fabric.specs.Settings.{Settings, word_named, enum_named, word_bits, value_of_tied, enum_value}
use Rattle.fabric.specs.Values.{word_at, value_at}
use Rattle.fabric.specs.Graph.{GraphArc, Graph}
use Rattle.fabric.specs.MuxBits.{bits_named}
use Rattle.links.proofs.Members.{in_left, in_right, in_map, in_flat_map}
use Rattle.fabric_laws.proofs.Members.{find_from}
use Rattle.repair.specs.Plain.{setting_patterns, setting_bits_in, setting_bits}
use Rattle.repair.specs.Added.{with_arc, with_arcs}
use Rattle.repair_laws.proofs.Patterns.{fits_agree, write_off}
use Rattle.layout_laws.proofs.Writes.{zip_at}

map_same : {X Y : Type 0} (f h : X → Y) (xs : List X) → ((x : X) → In xs x → f x ≡ h x) → map f xs ≡ map h xs
map_same f h [] e = refl
map_same f h (x ∷ xs) e = ap₂ (λ y ys. y ∷ ys) (e x (inl refl)) (map_same f h xs (λ z i. e z (inr i)))

filter_same : {X : Type 0} (f h : X → Bool) (xs : List X) → ((x : X) → In xs x → f x ≡ h x) → filter f xs ≡ filter h xs
filter_same f h [] e = refl
filter_same f h (x ∷ xs) e = ap₂ (λ b ys. cond b (x ∷ ys) ys) (e x (inl refl)) (filter_same f h xs (λ z i. e z (inr i)))

all_same : {X : Type 0} (f h : X → Bool) (xs : List X) → ((x : X) → In xs x → f x ≡ h x) → list_all f xs ≡ list_all h xs
all_same f h [] e = refl
all_same f h (x ∷ xs) e = ap₂ (λ b c. b && c) (e x (inl refl)) (all_same f h xs (λ z i. e z (inr i)))

-- the best fits are the same where the same fit
best_same : {X : Type 0} (pattern : X → List PatternBit) (i j : Bits) (o : DeviceBit) (xs : List X) → ((x : X) → In xs x → fits i o (pattern x) ≡ fits j o (pattern x))
    → best_fits pattern i o xs ≡ best_fits pattern j o xs
best_same pattern i j o xs e = filter_same (is_best_fit pattern i o xs) (is_best_fit pattern j o xs) xs (λ x k.
    ap₂ (λ b c. b && c) (e x k) (all_same (λ y. not (fits i o (pattern y)) || nat_le (length (pattern y)) (length (pattern x))) (λ y. not (fits j o (pattern y)) || nat_le (length (pattern y)) (length (pattern x))) xs
    (λ y l. ap (λ b. not b || nat_le (length (pattern y)) (length (pattern x))) (e y l))))

module _ (g : Graph) (i j : Bits) (same : (b : DeviceBit) → In (setting_bits g) b → i b ≡ j b) where
  pattern_same : (number : ℕ) (tile : Tile) (settings : Settings) → slice_get g.grid.tiles number ≡ Some tile → slice_get g.settings number ≡ Some settings
      → (p : List PatternBit) → In (setting_patterns settings) p → fits i (origin_of tile) p ≡ fits j (origin_of tile) p
  pattern_same number tile settings e f p k = fits_agree i j (origin_of tile) p (λ b n. same b
      (in_flat_map (λ t. setting_bits_in t.0 t.1) (zip g.grid.tiles g.settings) (tile, settings) b (zip_at g.grid.tiles g.settings number tile settings e f)
      (in_flat_map (bits_named (origin_of tile)) (setting_patterns settings) p b k n)))

  word_same : (number : ℕ) (tile : Tile) (settings : Settings) → slice_get g.grid.tiles number ≡ Some tile → slice_get g.settings number ≡ Some settings
      → (o : Option WordSetting) → ((w : WordSetting) → o ≡ Some w → In settings.words w) → option_map (word_bits i (origin_of tile)) o ≡ option_map (word_bits j (origin_of tile)) o
  word_same number tile settings e f None h = refl
  word_same number tile settings e f (Some w) h = ap (λ x. Some x) (map_same (fits i (origin_of tile)) (fits j (origin_of tile)) w.bits (λ p k.
      pattern_same number tile settings e f p (in_left (flat_map (λ v. v.bits) settings.words) (flat_map (λ v. map (λ q. q.bits) v.options) settings.enums) p
      (in_flat_map (λ v. v.bits) settings.words w p (h w refl) k))))

  enum_same : (number : ℕ) (tile : Tile) (settings : Settings) → slice_get g.grid.tiles number ≡ Some tile → slice_get g.settings number ≡ Some settings
      → (o : Option EnumSetting) → ((s : EnumSetting) → o ≡ Some s → In settings.enums s) → option_and_then (enum_value i (origin_of tile)) o ≡ option_and_then (enum_value j (origin_of tile)) o
  enum_same number tile settings e f None h = refl
  enum_same number tile settings e f (Some s) h = ap (λ xs. value_of_tied xs s.default) (best_same (λ q. q.bits) i j (origin_of tile) s.options (λ q k.
      pattern_same number tile settings e f q.bits (in_right (flat_map (λ v. v.bits) settings.words) (flat_map (λ v. map (λ x. x.bits) v.options) settings.enums) q.bits
      (in_flat_map (λ v. map (λ x. x.bits) v.options) settings.enums s q.bits (h s refl) (in_map (λ x. x.bits) s.options q k)))))

  word_in : (number : ℕ) (name : List ℕ) (tile : Tile) → slice_get g.grid.tiles number ≡ Some tile → (o : Option Settings) → slice_get g.settings number ≡ o
      → option_and_then (λ s. option_map (word_bits i (origin_of tile)) (word_named s name)) o ≡ option_and_then (λ s. option_map (word_bits j (origin_of tile)) (word_named s name)) o
  word_in number name tile e None f = refl
  word_in number name tile e (Some s) f = word_same number tile s e f (word_named s name) (λ w h. (find_from (λ v. bytes_eq v.name name) s.words w h).0)

  enum_in : (number : ℕ) (name : List ℕ) (tile : Tile) → slice_get g.grid.tiles number ≡ Some tile → (o : Option Settings) → slice_get g.settings number ≡ o
      → option_and_then (λ s. option_and_then (enum_value i (origin_of tile)) (enum_named s name)) o ≡ option_and_then (λ s. option_and_then (enum_value j (origin_of tile)) (enum_named s name)) o
  enum_in number name tile e None f = refl
  enum_in number name tile e (Some s) f = enum_same number tile s e f (enum_named s name) (λ w h. (find_from (λ v. bytes_eq v.name name) s.enums w h).0)

  pub words_same : (number : ℕ) (name : List ℕ) → word_at g i number name ≡ word_at g j number name
  words_same number name = by (slice_get g.grid.tiles number) refl
    where
      by : (o : Option Tile) → slice_get g.grid.tiles number ≡ o
          → option_and_then (λ t. option_and_then (λ s. option_map (word_bits i (origin_of t)) (word_named s name)) (slice_get g.settings number)) o
          ≡ option_and_then (λ t. option_and_then (λ s. option_map (word_bits j (origin_of t)) (word_named s name)) (slice_get g.settings number)) o
      by None e = refl
      by (Some tile) e = word_in number name tile e (slice_get g.settings number) refl

  pub values_same : (number : ℕ) (name : List ℕ) → value_at g i number name ≡ value_at g j number name
  values_same number name = by (slice_get g.grid.tiles number) refl
    where
      by : (o : Option Tile) → slice_get g.grid.tiles number ≡ o
          → option_and_then (λ t. option_and_then (λ s. option_and_then (enum_value i (origin_of t)) (enum_named s name)) (slice_get g.settings number)) o
          ≡ option_and_then (λ t. option_and_then (λ s. option_and_then (enum_value j (origin_of t)) (enum_named s name)) (slice_get g.settings number)) o
      by None e = refl
      by (Some tile) e = enum_in number name tile e (slice_get g.settings number) refl

-- arcs of plain muxes leave setting bits alone
pub settings_stay : (g : Graph) (image : Bits) (arcs : List GraphArc) → ((a : GraphArc) → In arcs a → (b : DeviceBit) → In (bits_named a.origin a.arc.bits) b → In (setting_bits g) b → ⊥)
    → (b : DeviceBit) → In (setting_bits g) b → with_arcs image arcs b ≡ image b
settings_stay g image [] off b i = refl
settings_stay g image (a ∷ rest) off b i =
    settings_stay g (with_arc image a) rest (λ c j. off c (inr j)) b i ∙ write_off image a.origin a.arc.bits b (λ n. off a (inl refl) b n i)
