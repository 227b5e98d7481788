use Rattle.voter_flags.proofs.Listing.{flags_are}
use Rattle.voter_flags.proofs.voters.voter_parts.Goals as goal

pub returns : goal.returns
returns c = flags_are c.in_ok-known.known c.args.voters.now c.args.parts.now c.sources.result.now c.in_ok-flags.flags.items c.in_ok-known.ensures c.sources.ensures.all c.in_ok-flags.ensures
