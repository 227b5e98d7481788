-- Errors of names of wires, as errors of a device's wires.
use Rattle.device_wires.specs.declared.errors.WiresError.{WiresError}
use Rattle.device_wires.specs.declared.errors.WiresError.TheVariants as wires
use Rattle.wire_names.specs.declared.names.NamesError.{NamesError}
use Rattle.wire_names.specs.declared.names.NamesError.TheVariants.{Full, Memory}

abbrev pub error_of : NamesError → WiresError
error_of Full = wires.TooMany
error_of Memory = wires.Memory
