use Rattle.pin_feeds.proofs.Connected.{connects_told, domain_told, fed_told, read_told}
use Rattle.pin_feeds.proofs.laws.feeds_tell_connections.Goals as goal

pub returns : goal.returns
returns c = record { connects = connects_told; read = read_told; fed = fed_told; domains = domain_told }
