-- The options of an enum that are tied: those that fit with at least so many bits. (Our own.)
use Rattle.std.specs.Prelude.{ℕ, Bool, length, nat_le, ◌&&◌}
use Rattle.patterns.specs.Bits.{DeviceBit, Bits}
use Rattle.patterns.specs.Fits.{fits}
use Rattle.records.specs.Database.{EnumOption}

-- an option fits with at least so many bits
abbrev pub fits_with : Bits → DeviceBit → ℕ → EnumOption → Bool
fits_with image origin longest option = nat_le longest (length option.bits) && fits image origin option.bits
