use Rattle.repair_laws.proofs.Exact.{net_domain as own_domain}
use Rattle.repair_laws.proofs.Path.{net_domain}
use Rattle.repair_laws.proofs.Soundness.{sound}
use Rattle.repair_laws.proofs.own_flip_has_net_domain.Goals as goal

pub returns : goal.returns
returns c = λ device t a b ready use_a from mine.
    let s = sound device t ready in
    own_domain t a s.numbers use_a s.outputs s.clean (net_domain t s a.source from) s.settings b mine
