use Rattle.std.proofs.Common.{refl}
use Rattle.record_laws.specs.Records.{place_named}
use Rattle.record_laws.proofs.MuxesFound.{found_so, rise}
use Rattle.record_laws.proofs.muxes_are_found_by_place.Goals as goal

pub returns-clause-rise : goal.returns-clause-rise
returns-clause-rise c = λ device g muxes standing t. rise device g muxes standing t

pub returns-clause-named : goal.returns-clause-named
returns-clause-named c = λ device g muxes standing t sink r found. found_so device g muxes standing t sink (place_named device t sink) refl r found
