-- How an image keeps its bits: 64 to a word, each word under its frame and its place in the frame. (Our own.)
use Rattle.std.specs.Prelude.{◌≡◌, ◌<◌, ℕ, zero, suc, ◌+◌, ◌*◌, ◌/◌, ◌==◌, ◌&&◌, Bool, List, [], ◌∷◌, ◌++◌, if◌then◌else◌, unwrap_or}
use Rattle.std.specs.Int.{bit_at}
use Rattle.std.specs.List.{IsDistinct}
use Rattle.std.specs.Map.{lookup, keys_of}
use Rattle.patterns.specs.Bits.{DeviceBit}
use Rattle.cram_image.specs.declared.word.WordPlace.{WordPlace}

abbrev pub same_place : WordPlace → WordPlace → Bool
same_place a b = (a.frame == b.frame) && (a.number == b.number)

-- the place of the word that has a bit
abbrev pub place_of : DeviceBit → WordPlace
place_of b = record { frame = b.frame; number = b.bit / 64 }

-- the word at a place, 0 where none is kept
abbrev pub word_at : List (WordPlace × ℕ) → WordPlace → ℕ
word_at words place = unwrap_or (lookup (same_place place) words) 0

-- no place has two words
abbrev pub AreApart : List (WordPlace × ℕ) → Type 0
AreApart words = IsDistinct same_place (keys_of words)

-- the bit of a word with this number is 1
abbrev pub has_bit : ℕ → ℕ → Bool
has_bit word k = bit_at word k == 1

-- the new word is the old one but for one bit, which has this value
pub record ChangesOne (old new place : ℕ) (value : Bool) : Type 0 where
  pub bits : (k : ℕ) → k < 64 → has_bit new k ≡ (if k == place then value else has_bit old k)

-- a bit of the word at a place
abbrev pub bit_in : WordPlace → ℕ → DeviceBit
bit_in place k = record { frame = place.frame; bit = 64 * place.number + k }

-- of the first bits of a word, as many as `count`, those that are 1
unfoldable pub ones_below : WordPlace → ℕ → ℕ → List DeviceBit
ones_below place word zero = []
ones_below place word (suc k) =
    if has_bit word k then bit_in place k ∷ ones_below place word k else ones_below place word k

-- the device bits that are 1
abbrev pub bits_of_words : List (WordPlace × ℕ) → List DeviceBit
bits_of_words [] = []
bits_of_words (w ∷ ws) = ones_below w.0 w.1 64 ++ bits_of_words ws
