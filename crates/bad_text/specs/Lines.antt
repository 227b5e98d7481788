-- What lent names of places stand for. (Our own.)
use Rattle.reports.specs.Reports.{Place, AtWire, InCell}
use Rattle.report_text.specs.Names.{wire_view}
use Rattle.bad_text.specs.declared.places.PlaceName.{PlaceName}
use Rattle.bad_text.specs.declared.places.PlaceName.TheVariants.{Wire, Cell}

abbrev pub place_view : PlaceName → Place
place_view (Wire wire) = AtWire (wire_view wire)
place_view (Cell name) = InCell name.now
