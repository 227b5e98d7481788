use Rattle.side_file.proofs.InPlace.{unlisted_by_voters}
use Rattle.side_file.proofs.listed.unknown_name.Goals as goal

pub returns-then-is_in_place : goal.returns-then-is_in_place
returns-then-is_in_place c = unlisted_by_voters c.args.side.now _ (c.requires c.if-is_in_place.true) c.unlisted_voter.ensures
