use Rattle.repair_laws.proofs.Exact.{keeps_effect}
use Rattle.repair_laws.proofs.Path.{net_domain}
use Rattle.repair_laws.proofs.Soundness.{sound}
use Rattle.repair_laws.proofs.arc_keeps_other_effects.Goals as goal

pub returns : goal.returns
returns c = λ device t a flips ready use_a from apart.
    let s = sound device t ready in
    keeps_effect t a s.numbers use_a s.outputs s.clean (net_domain t s a.source from) flips apart
