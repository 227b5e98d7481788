use Rattle.written_laws.proofs.Written.{accepted_may_be_hardened, are_hardened}
use Rattle.written_laws.proofs.what_is_written_is_hardened.Goals as goal

pub returns-clause-accepted : goal.returns-clause-accepted
returns-clause-accepted c files inputs a h y r =
    are_hardened h a.design a.graph a.cells (accepted_may_be_hardened files inputs h a.design a.graph a.cells a.is) r.0 y r.1.0 r.1.1

pub returns-clause-any : goal.returns-clause-any
returns-clause-any c design g cells h may y r = are_hardened h design g cells may r.0 y r.1.0 r.1.1
