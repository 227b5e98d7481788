use Rattle.std.proofs.Common.{subst, sym}
use Rattle.std.specs.Ordering.{nat_cmp, ordering_then}
use Rattle.std.specs.declared.cmp.Ordering.TheVariants.{Equal}
use Rattle.route_cut.proofs.Rising.{IsPlace, ends_tied, found_place, same_search}
use Rattle.route_cut.proofs.members.place_in.Goals as goal

-- (wires are ordered by their numbers, and then by the mark of their kind, which ties)
pub returns : goal.returns
returns c =
    let position = same_search (λ y. ordering_then (nat_cmp y c.args.w) Equal) (λ y. nat_cmp y c.args.w) (λ y. ends_tied (nat_cmp y c.args.w)) c.args.wires.now c.binary_search.result c.binary_search.ensures.position in
    subst (IsPlace c.args.wires.now c.args.w) (sym c.ok.ensures.value) (found_place c.args.wires.now c.args.w c.binary_search.result c.requires position)
