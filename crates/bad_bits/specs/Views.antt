-- What the program's places stand for.
use Rattle.bad_bits.specs.Numbered.{NumberedPlace, OnWire, OnCell}
use Rattle.bad_bits.specs.declared.bad.Place.{Place}
use Rattle.bad_bits.specs.declared.bad.Place.TheVariants.{Wire, Cell}

abbrev pub place_view : Place → NumberedPlace
place_view (Wire w) = OnWire w
place_view (Cell name) = OnCell name.now
