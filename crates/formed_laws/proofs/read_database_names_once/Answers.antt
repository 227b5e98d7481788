use Rattle.formed_laws.proofs.Names.{database_names_once}
use Rattle.formed_laws.proofs.read_database_names_once.Goals as goal

pub returns : goal.returns
returns c = database_names_once
