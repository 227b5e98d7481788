use Rattle.std.proofs.Common.{◌≡◌, ◌↔◌, true, subst, sym}
use Rattle.words.specs.Members.{In}
use Rattle.route_cut.proofs.Rising.{place_is_member}
use Rattle.route_cut.proofs.members.is_in.Goals as goal

pub returns : goal.returns
returns c = subst (λ b. (b ≡ true) ↔ In c.args.wires.now c.args.w) (sym c.is_some.ensures) (place_is_member c.args.wires.now c.args.w c.place_in.result c.place_in.ensures)
