use Rattle.std.proofs.Common.{ℕ, ◌+◌, ◌<◌, List, ◌∷◌, length, drop, sym, subst, ap, ◌∙◌, arith}
use Rattle.std.proofs.lemmas.Option.{get_or_from_slice_get}
use Rattle.words.specs.Members.{In}
use Rattle.wire_feeds.specs.declared.noted.FedWire.{FedWire}
use Rattle.wire_feeds.specs.Walks.{Walk}
use Rattle.wire_feeds.proofs.Spreading.{Leaves}
use Rattle.wire_links.proofs.Finding.{place_below, place_past}
use Rattle.live_links.specs.Feeding.{waiting}
use Rattle.live_links.proofs.Feeding.{left_first, waits_first, waits_none}
use Rattle.live_links.proofs.feeds.spread.Goals as goal
use Rattle.live_links.proofs.feeds.spread.Goals.{In-Some}

below : (c : In-Some) → c.walk.at < length c.walk.fed.items
below c = place_below c.walk.fed.items c.walk.at c.in-Some.wire (sym c.in-Some.ensures)

-- the next wire that waits leaves
gone : (c : In-Some) (outputs : List ℕ) → Walk c.args.next.now.rows outputs (length c.args.next.now.rows) c.walk.feeds (waiting c.args.feed (drop c.walk.at c.walk.fed.items))
    → Leaves c.args.next.now.rows outputs c.walk.feeds (waiting c.args.feed (drop (c.walk.at + 1) c.walk.fed.items)) (record { wire = c.in-Some.wire; feed = c.args.feed })
gone c outputs walk =
    let rest : List FedWire = waiting c.args.feed (drop (c.walk.at + 1) c.walk.fed.items) in
    left_first c.args.next.now.rows outputs c.walk.feeds rest (record { wire = c.in-Some.wire; feed = c.args.feed })
    (subst (λ (ws : List FedWire). Walk c.args.next.now.rows outputs (length c.args.next.now.rows) c.walk.feeds ws)
    (waits_first c.args.feed c.walk.fed.items c.walk.at (below c) ∙ ap (λ (z : ℕ). record { wire = z; feed = c.args.feed } ∷ rest) (get_or_from_slice_get c.walk.fed.items c.walk.at c.in-Some.wire 0 (sym c.in-Some.ensures)))
    walk)

pub spread_row-requires : goal.spread_row-requires
spread_row-requires c = record {
  within = λ w i.
      let h = c.requires.within c.in-Some.wire w (subst (λ (r : List ℕ). In r w) c.row_of.ensures i) in
      let l = c.walk.invariant.long in omega arith;
}

pub walk-smaller : goal.walk-smaller
walk-smaller c =
    let b = below (goal.at.walk-smaller c).In-Some in
    let n = c.in_ok-spread_row.ensures.count in omega arith

pub walk-preserved : goal.walk-preserved
walk-preserved c =
    let d = (goal.at.walk-preserved c).In-Some in
    let b = below d in
    record {
      at = let g = c.in_ok-spread_row.ensures.grows in omega arith;
      long = let l = c.walk.invariant.long in omega arith;
      undo = c.in_ok-spread_row.ensures.undo ∙ c.walk.invariant.undo;
      walk = λ outputs walk.
          let g = gone d outputs (c.walk.invariant.walk outputs walk) in
          c.in_ok-spread_row.ensures.walk c.args.next.now.rows outputs c.in-Some.wire (c.walk.at + 1) (omega arith) (sym c.row_of.ensures) g.fed g.walk;
    }

pub returns-clause-walk : goal.returns-clause-walk
returns-clause-walk c = λ outputs walk.
    let past = place_past c.walk.fed.items c.walk.at (sym c.in_default.ensures) in
    subst (λ (ws : List FedWire). Walk c.args.next.now.rows outputs (length c.args.next.now.rows) c.walk.feeds ws) (waits_none c.args.feed c.walk.fed.items c.walk.at past)
    (c.walk.invariant.walk outputs walk)
