use Rattle.repair_laws.proofs.Path.{are_kept, path_grows, path_feeds}
use Rattle.repair_laws.proofs.Soundness.{sound}
use Rattle.repair_laws.proofs.path_keeps.Goals as goal

pub returns-clause-kept : goal.returns-clause-kept
returns-clause-kept c = λ device t path pin ready safe route once. are_kept t path (path_grows t (sound device t ready) safe path pin route once)

pub returns-clause-connected : goal.returns-clause-connected
returns-clause-connected c = λ device t path pin ready safe route once. path_feeds t path pin route (path_grows t (sound device t ready) safe path pin route once)
