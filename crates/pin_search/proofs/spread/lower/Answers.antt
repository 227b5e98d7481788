use Rattle.std.proofs.Common.{ℕ, List, subst, get_or, ◌<◌}
use Rattle.pin_search.proofs.Taking.{turn_taken, moves_taken, searches_keeps, kept, noted_wires}
use Rattle.pin_search.proofs.spread.lower.Goals as goal

pub relabel-requires-clause-marked : goal.relabel-requires-clause-marked
relabel-requires-clause-marked g c = λ m. (c.requires.turn.search.marked c.args.w c.requires.wire m).1

pub returns-in_err-relabel-clause-kept : goal.returns-in_err-relabel-clause-kept
returns-in_err-relabel-clause-kept g c =
    kept (g.R.Links.network c.args.rules.now) (g.R.PathRules.rules c.args.rules.now) c.args.pin c.args.busy c.args.front.now c.relabel.new.front c.requires.turn.search
    c.in_err-relabel.ensures.unlabelled c.in_err-relabel.ensures.unmarked c.in_err-relabel.ensures.kept
    (λ x i. noted_wires (g.R.Links.network c.args.rules.now) c.args.w c.args.front.now.touched.items c.requires.wire c.requires.turn.search.wires x (c.in_err-relabel.ensures.others x i))

pub returns-clause-turn : goal.returns-clause-turn
returns-clause-turn g c =
    turn_taken (g.R.Links.network c.args.rules.now) (g.R.PathRules.rules c.args.rules.now) c.args.pin c.args.busy (get_or c.args.front.now.labels.items c.args.busy 0) c.args.front.now c.relabel.new.front c.args.w c.args.label
    c.requires.turn c.requires.wire c.requires.outside c.requires.above c.requires.near c.requires.small c.requires.stands
    (subst (λ (xs : List ℕ). c.args.label < get_or xs c.args.w 0) c.deref.ensures.value (c.is_lower.ensures.0 (let f = c.if-not-is_lower.false in cc)))
    c.in_ok-relabel.ensures.labels c.in_ok-relabel.ensures.waiting c.in_ok-relabel.ensures.noted c.in_ok-relabel.ensures.best c.in_ok-relabel.ensures.waits c.in_ok-relabel.ensures.stay c.in_ok-relabel.ensures.queued

pub returns-clause-moves : goal.returns-clause-moves
returns-clause-moves g c =
    moves_taken (g.R.Links.network c.args.rules.now) (g.R.PathRules.rules c.args.rules.now) c.args.pin c.args.busy c.args.front.now c.relabel.new.front c.args.w c.args.label
    c.requires.turn.search c.requires.wire
    (subst (λ (xs : List ℕ). c.args.label < get_or xs c.args.w 0) c.deref.ensures.value (c.is_lower.ensures.0 (let f = c.if-not-is_lower.false in cc)))
    c.in_ok-relabel.ensures.count c.in_ok-relabel.ensures.labels c.in_ok-relabel.ensures.noted c.in_ok-relabel.ensures.best

pub returns-clause-kept : goal.returns-clause-kept
returns-clause-kept g c = searches_keeps (g.R.Links.network c.args.rules.now) (g.R.PathRules.rules c.args.rules.now) c.args.pin c.args.busy c.relabel.new.front (returns-clause-turn g c).search
