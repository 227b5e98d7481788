use Rattle.std.proofs.Common.{ℕ, ◌+◌, ◌<◌, List, Option, None, length, drop, get_or, refl, sym, subst, ◌∙◌, ap, ap₂, arith}
use Rattle.net_links.proofs.Listed.{met}
use Rattle.wire_feeds.specs.declared.noted.FedWire.{FedWire}
use Rattle.wire_feeds.specs.Walks.{feeds_with, open_count}
use Rattle.wire_feeds.proofs.Noting.{same_length}
use Rattle.wire_feeds.proofs.Spreading.{SpreadTo, spread_more, spread_whole}
use Rattle.live_links.specs.Feeding.{cleared, waiting}
use Rattle.live_links.proofs.Clearing.{cleared_noted, no_fewer}
use Rattle.live_links.proofs.Feeding.{counted_noted, waits_more}
use Rattle.live_links.proofs.feeds.spread_row.Goals as goal
use Rattle.live_links.proofs.feeds.spread_row.Goals.{After-w-item}

below : (c : After-w-item) → c.w-item.result < length c.loop-w.feeds
below c =
    let h = c.requires.within c.w-item.result (met c.args.row.now c.loop-w.w-index c.w-item.result c.loop-w-test.true c.w-item.is) in
    let l = c.loop-w.invariant.long in
    omega arith

pub note-requires : goal.note-requires
note-requires c = below (goal.at.note-requires c).After-w-item

pub loop-w-preserved : goal.loop-w-preserved
loop-w-preserved c =
    let v = c.w-item.result in
    let feeds = c.loop-w.feeds in
    let fed : List ℕ = c.loop-w.fed.items in
    let o : Option ℕ = get_or feeds v None in
    let feed = c.args.feed in
    let within = below (goal.at.loop-w-preserved c).After-w-item in
    let fs = c.in_ok-note.ensures.feeds in
    let ws = c.in_ok-note.ensures.fed in
    record {
      long = ap (λ (xs : List (Option ℕ)). length xs) fs ∙ (same_length feeds v feed o ∙ c.loop-w.invariant.long);
      count = (let a = ap open_count fs in
          let b = ap (λ (xs : List ℕ). length xs) ws in
          let n = counted_noted feeds fed v feed o refl within in
          let m = c.loop-w.invariant.count in omega (arith, a, b, n, m));
      grows = (let b = ap (λ (xs : List ℕ). length xs) ws in let n = no_fewer o fed v in let m = c.loop-w.invariant.grows in omega (arith, b, n, m));
      undo = ap₂ (λ (zs : List ℕ) (xs : List (Option ℕ)). cleared zs xs) ws fs ∙ (cleared_noted feeds fed v feed o refl ∙ c.loop-w.invariant.undo);
      to = λ rows outputs from at within_fed row_is has walk.
          subst (λ (xs : List (Option ℕ)). SpreadTo rows outputs c.args.row.now from feed (c.loop-w.w-index + 1) xs (waiting feed (drop at c.note.new.fed.items))) (sym fs)
          (subst (λ (xs : List ℕ). SpreadTo rows outputs c.args.row.now from feed (c.loop-w.w-index + 1) (feeds_with o feeds v feed) (waiting feed (drop at xs))) (sym ws)
          (subst (λ (xs : List FedWire). SpreadTo rows outputs c.args.row.now from feed (c.loop-w.w-index + 1) (feeds_with o feeds v feed) xs) (sym (waits_more feed fed at v o (let g = c.loop-w.invariant.grows in omega arith)))
          (spread_more rows outputs c.args.row.now from feed c.loop-w.w-index feeds (waiting feed (drop at fed)) row_is (c.loop-w.invariant.to rows outputs from at within_fed row_is has walk) v c.loop-w-test.true c.w-item.is within o refl)));
    }

pub returns-clause-walk : goal.returns-clause-walk
returns-clause-walk c = λ rows outputs from at within row_is has walk.
    spread_whole rows outputs c.args.row.now from c.args.feed c.loop-w.w-index c.loop-w.feeds (waiting c.args.feed (drop at c.loop-w.fed.items)) row_is (let t = c.loop-w-test.false in omega arith) (c.loop-w.invariant.to rows outputs from at within row_is has walk)
