use Rattle.formed_laws.proofs.Names.{device_names_once}
use Rattle.formed_laws.proofs.read_device_names_once.Goals as goal

pub returns : goal.returns
returns c = device_names_once
