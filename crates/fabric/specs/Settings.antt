-- The settings of a tile, and their values in a set of device bits. (After Project Trellis; how ties are
-- decided is our own.)
use Rattle.std.specs.Prelude.{ℕ, Bool, List, [], ◌∷◌, map, find, Option, Some, None, option_and_then}
use Rattle.std.specs.Str.{bytes_eq}
use Rattle.patterns.specs.Bits.{DeviceBit, Bits}
use Rattle.patterns.specs.Fits.{fits}
use Rattle.records.specs.Database.{WordSetting, EnumOption, EnumSetting}
use Rattle.fabric.specs.Chosen.{best_fits}

-- the words and the enums of a tile
pub record Settings : Type 0 where
  pub words : List WordSetting
  pub enums : List EnumSetting

abbrev pub word_named : Settings → List ℕ → Option WordSetting
word_named settings name = find (λ w. bytes_eq w.name name) settings.words

abbrev pub enum_named : Settings → List ℕ → Option EnumSetting
enum_named settings name = find (λ e. bytes_eq e.name name) settings.enums

abbrev pub option_of : EnumSetting → List ℕ → Option EnumOption
option_of setting value = find (λ o. bytes_eq o.value value) setting.options

-- a bit of a word is 1 where its pattern fits
abbrev pub word_bits : Bits → DeviceBit → WordSetting → List Bool
word_bits image origin setting = map (fits image origin) setting.bits

-- the value of the options that are tied: the only one's, or the default where it is among them
abbrev pub value_of_tied : List EnumOption → Option (List ℕ) → Option (List ℕ)
value_of_tied [] default = None
value_of_tied (o ∷ []) default = Some o.value
value_of_tied (o ∷ p ∷ os) default = option_and_then (λ value. find (bytes_eq value) (map (λ q. q.value) (o ∷ p ∷ os))) default

-- The value of an enum is the option that fits with the most bits. On a tie it is the default where the default
-- is among the tied options, else there is none.
abbrev pub enum_value : Bits → DeviceBit → EnumSetting → Option (List ℕ)
enum_value image origin setting = value_of_tied (best_fits (λ o. o.bits) image origin setting.options) setting.default
