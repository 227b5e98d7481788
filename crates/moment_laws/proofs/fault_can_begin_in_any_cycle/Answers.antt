use Rattle.std.proofs.Common.{false}
use Rattle.circuit.specs.Worlds.{Clock, World}
use Rattle.circuit_laws.proofs.Sound.{Sound}
use Rattle.moment_laws.proofs.Begun.{begun, begun_is}
use Rattle.moment_laws.proofs.fault_can_begin_in_any_cycle.Goals as goal

-- a world of a choice
still : World
still = record { wire = λ w. Clock; part = λ p. false; pin = λ p. false; shown = λ n. Clock }

pub returns : goal.returns
returns g = λ c s f t start input n.
    (let ok : Sound c = record { clean = s.clean; formed = s.formed } in
    (begun c ok s.triplicated f t start input (λ i. still), begun_is c ok s.triplicated f t start input (λ i. still) n))
