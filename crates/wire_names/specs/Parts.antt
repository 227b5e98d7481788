-- What the parts of a name that is being read stand for.
use Rattle.fabric.specs.WireOfName as parts
use Rattle.wire_names.specs.declared.distance.Moved.{Moved}
use Rattle.wire_names.specs.declared.relative.Relative.{Relative}

abbrev pub moved_view : Moved → parts.Moved
moved_view m = record { by = m.by; rest = m.rest.now }

abbrev pub relative_view : Relative → parts.Relative
relative_view r = record { rows = r.rows; columns = r.columns; base = r.base.now }
