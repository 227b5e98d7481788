use Rattle.std.proofs.Common.{◌≡◌, ℕ, ◌≤◌, ◌<◌, List, sym, ap, subst, ◌∙◌, arith, get_or, inl, inr}
use Rattle.std.proofs.lemmas.Bool.{cases_lt}
use Rattle.pin_search.specs.Labels.{far, label_by}
use Rattle.pin_search.specs.Searches.{AtMost}
use Rattle.pin_search.specs.Fronts.{Turn}
use Rattle.pin_search.proofs.Falling.{at_most_falls, moves_on, stays_put}
use Rattle.pin_search.proofs.Lowering.{turn_ends}
use Rattle.pin_search.proofs.Taking.{spread_all, searches_keeps}
use Rattle.pin_search.proofs.spread.spread.Goals as goal

pub returns-then-not-is_below-clause-search : goal.returns-then-not-is_below-clause-search
returns-then-not-is_below-clause-search g c =
    let net = g.R.Links.network c.args.rules.now in
    let rs = g.R.PathRules.rules c.args.rules.now in
    let front = c.args.front.now in
    let t = c.requires.turn in
    let label = get_or front.labels.items c.args.w 0 in
    let el : c.label_at.result ≡ label = c.label_at.ensures ∙ ap (λ (xs : List ℕ). get_or xs c.args.w 0) c.deref.ensures.value in
    let le : front.best ≤ label = elim (cases_lt c.label_at.result front.best) as (λ _. front.best ≤ label) [
      | inl l ↦ (let e = c.is_below.ensures.1 l in let f = c.if-not-is_below.true in absurd (let no : ⊥ = cc in no))
      | inr l ↦ omega arith
    ] in
    let near : front.best < far = (let k = t.near in omega arith) in
    turn_ends net rs c.args.pin c.args.w front.labels.items front.waiting.items front.queue front.touched.items front.best net.wiring.wires (omega arith) t.search (inr (near, le))

pub spread_arcs-requires-clause-turn : goal.spread_arcs-requires-clause-turn
spread_arcs-requires-clause-turn g c = let t = c.in_ok-spread_links.ensures.turn in
    subst (λ (k : ℕ). Turn (g.R.Links.network c.args.rules.now) (g.R.PathRules.rules c.args.rules.now) c.args.pin c.args.w k c.spread_links.new.front) (sym t.label_is) t

pub returns-clause-search : goal.returns-clause-search
returns-clause-search g c =
    let net = g.R.Links.network c.args.rules.now in
    let rs = g.R.PathRules.rules c.args.rules.now in
    let mid = c.spread_links.new.front in
    let new = c.spread_arcs.new.front in
    let t = c.in_ok-spread_arcs.ensures.turn in
    let m = c.in_ok-spread_arcs.ensures.moves in
    let old = c.in_ok-spread_links.ensures.turn in
    let arcs_label : get_or mid.labels.items c.args.w 0 ≡ get_or new.labels.items c.args.w 0 = sym t.label_is in
    let links_label : get_or c.args.front.now.labels.items c.args.w 0 ≡ get_or new.labels.items c.args.w 0 = sym old.label_is ∙ arcs_label in
    turn_ends net rs c.args.pin c.args.w new.labels.items new.waiting.items new.queue new.touched.items new.best net.wiring.wires (omega arith) t.search
    (inl (spread_all net rs new.labels.items new.best c.args.w (get_or new.labels.items c.args.w 0) c.requires.net t.wire
    (λ x i. subst (AtMost rs new.labels.items new.best x) links_label
    (at_most_falls rs mid.labels.items new.labels.items mid.best new.best x (get_or c.args.front.now.labels.items c.args.w 0) m.labels_fall m.best_falls (c.in_ok-spread_links.ensures.links x i)))
    (λ a i u. subst (λ (k : ℕ). AtMost rs new.labels.items new.best (net.wiring.source a) (label_by net rs k a)) arcs_label (c.in_ok-spread_arcs.ensures.arcs a i u))))

pub returns-clause-moves : goal.returns-clause-moves
returns-clause-moves g c =
    let front = c.args.front.now in
    let mid = c.spread_links.new.front in
    let new = c.spread_arcs.new.front in
    moves_on front.labels.items front.queue front.touched.items front.best mid.labels.items mid.queue mid.touched.items mid.best new.labels.items new.queue new.touched.items new.best c.in_ok-spread_links.ensures.moves c.in_ok-spread_arcs.ensures.moves

pub returns-then-not-is_below-clause-moves : goal.returns-then-not-is_below-clause-moves
returns-then-not-is_below-clause-moves g c = stays_put c.args.front.now.labels.items c.args.front.now.queue c.args.front.now.touched.items c.args.front.now.best

pub returns-then-not-is_below-clause-kept : goal.returns-then-not-is_below-clause-kept
returns-then-not-is_below-clause-kept g c = searches_keeps (g.R.Links.network c.args.rules.now) (g.R.PathRules.rules c.args.rules.now) c.args.pin c.args.w c.args.front.now c.requires.turn.search
