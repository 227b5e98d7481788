use Rattle.std.proofs.Common.{ℕ, ◌≡◌, ◌<◌, List, [], get_or, refl, subst, sym, ap}
use Rattle.std.proofs.lemmas.Bool.{false≢true}
use Rattle.std.proofs.lemmas.Option.{get_or_from_slice_get}
use Rattle.words.specs.Members.{In}
use Rattle.cycle_order.specs.Marks.{Listing}
use Rattle.cycle_order.specs.Trials.{Tries}
use Rattle.cycle_order.proofs.Trying.{tries_free, tries_waits}
use Rattle.cycle_order.proofs.in_turn.try_one.Goals as goal
use Rattle.cycle_order.proofs.in_turn.try_one.Goals.{After-row}

row_is : (c : After-row) → get_or c.args.before.now c.args.node [] ≡ c.row.result.now
row_is c = get_or_from_slice_get c.args.before.now c.args.node c.row.result.now [] (sym c.row.ensures)

pub are_listed-requires : goal.are_listed-requires
are_listed-requires c = λ u i.
    subst (λ (n : ℕ). u < n) (sym c.requires.count) (c.requires.within c.args.node u (subst (λ (zs : List ℕ). In zs u) (sym (row_is (goal.at.are_listed-requires c).After-row)) i))

pub returns-in_ok-push-clause-tries : goal.returns-in_ok-push-clause-tries
returns-in_ok-push-clause-tries c =
    subst (λ (zs : List ℕ). Tries c.args.before.now c.args.listed.now.nodes c.args.node zs) (sym (ap (λ (l : Listing). l.nodes) c.in_ok-push.ensures))
    (tries_free c.args.before.now c.args.listed.now.nodes c.args.node c.requires.known (λ i. false≢true (c.if-contains.ensures.1 i))
    (λ u i. c.if-are_listed.ensures.yes refl u (subst (λ (zs : List ℕ). In zs u) (row_is (goal.at.returns-in_ok-push-clause-tries c).After-row) i)))

pub returns-else-are_listed-clause-tries : goal.returns-else-are_listed-clause-tries
returns-else-are_listed-clause-tries c =
    let w = c.if-are_listed.ensures.no refl in
    tries_waits c.args.before.now c.args.listed.now.nodes c.args.node
    (w.0, (subst (λ (zs : List ℕ). In zs w.0) (sym (row_is (goal.at.returns-else-are_listed-clause-tries c).After-row)) w.1.0, w.1.1))
