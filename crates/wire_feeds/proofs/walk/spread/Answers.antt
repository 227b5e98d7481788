use Rattle.std.proofs.Common.{ℕ, ◌+◌, ◌<◌, List, Option, None, length, get_or, refl, sym, subst, ◌∙◌, ap, arith}
use Rattle.net_links.proofs.Listed.{met}
use Rattle.wire_feeds.specs.declared.noted.FedWire.{FedWire}
use Rattle.wire_feeds.specs.Walks.{feeds_with, open_count}
use Rattle.wire_feeds.proofs.Noting.{same_count, same_length}
use Rattle.wire_feeds.proofs.Spreading.{SpreadTo, spread_more, spread_whole}
use Rattle.wire_feeds.proofs.walk.spread.Goals as goal
use Rattle.wire_feeds.proofs.walk.spread.Goals.{After-w-item}

below : (c : After-w-item) → c.w-item.result < length c.loop-w.feeds
below c =
    let h = c.requires.within c.w-item.result (met c.args.row.now c.loop-w.w-index c.w-item.result c.loop-w-test.true c.w-item.is) in
    let l = c.loop-w.invariant.long in
    omega arith

pub note-requires : goal.note-requires
note-requires c = below (goal.at.note-requires c).After-w-item

pub loop-w-preserved : goal.loop-w-preserved
loop-w-preserved c =
    let v = c.w-item.result in
    let feeds = c.loop-w.feeds in
    let waiting = c.loop-w.waiting.items in
    let o : Option ℕ = get_or feeds v None in
    let feed = c.args.feed in
    let within = below (goal.at.loop-w-preserved c).After-w-item in
    let fs = c.in_ok-note.ensures.feeds in
    let ws = c.in_ok-note.ensures.waiting in
    record {
      long = ap (λ (xs : List (Option ℕ)). length xs) fs ∙ (same_length feeds v feed o ∙ c.loop-w.invariant.long);
      count = (let a = ap open_count fs in
          let b = ap (λ (xs : List FedWire). length xs) ws in
          let n = same_count feeds v feed o waiting refl within in
          let m = c.loop-w.invariant.count in omega (arith, a, b, n, m));
      to = λ rows outputs from row_is fed walk.
          subst (λ (xs : List (Option ℕ)). SpreadTo rows outputs c.args.row.now from feed (c.loop-w.w-index + 1) xs c.note.new.waiting.items) (sym fs)
          (subst (λ (xs : List FedWire). SpreadTo rows outputs c.args.row.now from feed (c.loop-w.w-index + 1) (feeds_with o feeds v feed) xs) (sym ws)
          (spread_more rows outputs c.args.row.now from feed c.loop-w.w-index feeds waiting row_is (c.loop-w.invariant.to rows outputs from row_is fed walk) v c.loop-w-test.true c.w-item.is within o refl));
    }

pub returns-clause-walk : goal.returns-clause-walk
returns-clause-walk c = λ rows outputs from row_is fed walk.
    spread_whole rows outputs c.args.row.now from c.args.feed c.loop-w.w-index c.loop-w.feeds c.loop-w.waiting.items row_is (let t = c.loop-w-test.false in omega arith) (c.loop-w.invariant.to rows outputs from row_is fed walk)
