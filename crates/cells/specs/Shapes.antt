-- When two kinds of slices have equal shape, so that the settings of the one can be written at the other's site.
-- (Our own.)
use Rattle.std.specs.Prelude.{◌≡◌, ℕ, Bool, not, List, map, Option, option_map, ◌==◌, ◌&&◌, if◌then◌else◌}
use Rattle.std.specs.Cmp.Lexicographic.{pointwise}
use Rattle.std.specs.Option.{option_eq}
use Rattle.std.specs.Str.{bytes_eq}
use Rattle.patterns.specs.Bits.{PatternBit}
use Rattle.records.specs.Database.{EnumOption}
use Rattle.records.specs.Profile.{SliceKind}
use Rattle.fabric.specs.Settings.{Settings, word_named, enum_named}

-- The form of a setting: the patterns of the word of its name, and the options of the enum of its name with
-- their patterns, each where there is one. The default of an enum doesn't count.
pub record Form : Type 0 where
  pub word : Option (List (List PatternBit))
  pub options : Option (List EnumOption)

abbrev pub form_of : Settings → List ℕ → Form
form_of settings name = record { word = option_map (λ w. w.bits) (word_named settings name); options = option_map (λ e. e.options) (enum_named settings name) }

-- Two kinds in tiles with these settings have equal shape: equal `shape` texts, equally many settings, and at the
-- same positions settings of the same form.
pub record HaveEqualShape (in_a : Settings) (a : SliceKind) (in_b : Settings) (b : SliceKind) : Type 0 where
  pub shapes : a.shape ≡ b.shape
  pub forms : map (form_of in_a) a.settings ≡ map (form_of in_b) b.settings

abbrev pub same_pattern_bit : PatternBit → PatternBit → Bool
same_pattern_bit p q = (p.frame == q.frame) && ((p.bit == q.bit) && (if p.set then q.set else not q.set))

abbrev pub same_option : EnumOption → EnumOption → Bool
same_option p q = bytes_eq p.value q.value && pointwise same_pattern_bit p.bits q.bits

abbrev pub same_form : Form → Form → Bool
same_form x y = option_eq (pointwise (pointwise same_pattern_bit)) x.word y.word && option_eq (pointwise same_option) x.options y.options

-- the test of equal shape
abbrev pub equal_shape : Settings → SliceKind → Settings → SliceKind → Bool
equal_shape in_a a in_b b = bytes_eq a.shape b.shape && pointwise same_form (map (form_of in_a) a.settings) (map (form_of in_b) b.settings)
