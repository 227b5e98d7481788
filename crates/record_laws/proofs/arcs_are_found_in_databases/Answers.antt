use Rattle.std.proofs.Common.{refl}
use Rattle.std.specs.Prelude.{slice_get}
use Rattle.record_laws.proofs.ArcsFound.{ignored_none, record_is}
use Rattle.record_laws.proofs.arcs_are_found_in_databases.Goals as goal

pub returns-clause-named : goal.returns-clause-named
returns-clause-named c = λ device g muxes standing m source plain. record_is device g muxes standing m source plain (slice_get muxes m) refl

pub returns-clause-ignored : goal.returns-clause-ignored
returns-clause-ignored c = λ device g muxes standing m source e. ignored_none device g muxes standing m source e
