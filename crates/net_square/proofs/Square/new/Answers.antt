use Rattle.net_square.proofs.Connected.{connected}
use Rattle.net_square.proofs.Square.new.Goals as goal

pub returns-clause-to_pin : goal.returns-clause-to_pin
returns-clause-to_pin c = connected c.args.b c.args.into_d c.requires
