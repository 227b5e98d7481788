use Rattle.std.proofs.Common.{◌≡◌, ℕ, List, Option, length, refl, sym, subst, ap, arith}
use Rattle.links.specs.Links.{Link}
use Rattle.fabric.specs.InOrder.{InOrderOnce}
use Rattle.link_order.specs.Order.{link_cmp}
use Rattle.wire_feeds.specs.Rows.{AreFeeds}
use Rattle.wire_links.specs.Rows.{AreJoined}
use Rattle.wire_links.specs.Refused.{as_routing}
use Rattle.wire_links.proofs.Routed.{given_drivers, given_next, joined, rows_in_order}
use Rattle.wire_links.proofs.parts.JoinedRows.new.Goals as goal
use Rattle.wire_links.proofs.parts.JoinedRows.new.Goals.{After-deref-2}

-- a list that is lent is in order where the list is
lent : (given items read : List Link) → read ≡ items → InOrderOnce link_cmp given items → InOrderOnce link_cmp given read
lent given items read is ordered = subst (λ (xs : List Link). InOrderOnce link_cmp given xs) (sym is) ordered

pub new-requires-clause-few : goal.new-requires-clause-few
new-requires-clause-few c =
    let a = ap (λ (xs : List Link). length xs) c.deref.ensures.value in
    let b = c.in_ok-ordered.ensures.no_more in
    let f = c.requires.few in omega arith

-- the feeds are those of the links that were given
given_feeds : (c : After-deref-2) → AreFeeds (as_routing c.args.links.now c.args.outputs.now) c.deref-2.result.now
given_feeds c =
    subst (λ (fs : List (Option ℕ)). AreFeeds (as_routing c.args.links.now c.args.outputs.now) fs) (sym c.deref-2.ensures.value)
    (c.in_ok-feeds.ensures.feeds (as_routing c.args.links.now c.args.outputs.now)
    (given_next c.args.wires c.args.links.now c.deref.result.now c.args.outputs.now c.in_ok-rows.rows.drivers c.in_ok-rows.rows.next (lent c.args.links.now c.in_ok-ordered.ordered.items c.deref.result.now c.deref.ensures.value c.in_ok-ordered.ensures.ordered) c.in_ok-rows.ensures c.requires.within) refl)

pub returns-in-Some-clause-answer : goal.returns-in-Some-clause-answer
returns-in-Some-clause-answer c =
    let d = (goal.at.returns-in-Some-clause-answer c).After-deref-2 in
    c.in-Some.ensures (as_routing c.args.links.now c.args.outputs.now)
    (given_drivers c.args.wires c.args.links.now c.deref.result.now c.args.outputs.now c.in_ok-rows.rows.drivers c.in_ok-rows.rows.next (lent c.args.links.now c.in_ok-ordered.ordered.items c.deref.result.now c.deref.ensures.value c.in_ok-ordered.ensures.ordered) c.in_ok-rows.ensures c.requires.within)
    (given_feeds d)

pub returns-clause-joined : goal.returns-clause-joined
returns-clause-joined c =
    joined c.args.wires c.args.links.now c.deref.result.now c.args.outputs.now c.in_ok-rows.rows.drivers c.in_ok-rows.rows.next (lent c.args.links.now c.in_ok-ordered.ordered.items c.deref.result.now c.deref.ensures.value c.in_ok-ordered.ensures.ordered) c.in_ok-rows.ensures c.requires.within
    c.in_ok-feeds.feeds.items (let w = c.ranges.wires.fits in omega arith) c.in_ok-feeds.ensures.long c.in_ok-feeds.ensures.feeds
    (λ r has are. c.in_default.ensures r has (subst (λ (fs : List (Option ℕ)). AreFeeds r fs) (sym c.deref-2.ensures.value) are))

pub returns-clause-links : goal.returns-clause-links
returns-clause-links c =
    rows_in_order c.args.wires c.args.links.now c.deref.result.now c.args.outputs.now c.in_ok-rows.rows.drivers c.in_ok-rows.rows.next (lent c.args.links.now c.in_ok-ordered.ordered.items c.deref.result.now c.deref.ensures.value c.in_ok-ordered.ensures.ordered) c.in_ok-rows.ensures c.requires.within

pub returns-clause-long : goal.returns-clause-long
returns-clause-long c = c.in_ok-rows.ensures.drivers_long
