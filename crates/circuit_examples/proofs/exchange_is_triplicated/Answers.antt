use Rattle.circuit_examples.proofs.ExchangeMeets.{exchange_sound, exchange_triplicated}
use Rattle.circuit_examples.proofs.exchange_is_triplicated.Goals as goal

pub returns : goal.returns
returns g = record { clean = (exchange_sound 0x2222).clean; formed = (exchange_sound 0x2222).formed; triplicated = exchange_triplicated }
