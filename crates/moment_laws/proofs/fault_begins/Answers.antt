use Rattle.moment_laws.proofs.Moments.{from_first, to_first, from_never, to_never}
use Rattle.moment_laws.proofs.fault_begins.Goals as goal

pub returns : goal.returns
returns g = record {
  first = λ c f start input n run. (from_first c f start input n run, to_first c f start input n run);
  never = λ c f t start input n run le. (from_never c f t start input n run le, to_never c f t start input n run le);
}
