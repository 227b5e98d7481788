use Rattle.std.proofs.Common.{ℕ, List, Option, None, length, get_or, refl, sym, subst, arith, ◌+◌, ◌<◌}
use Rattle.net_links.proofs.Listed.{met}
use Rattle.wire_feeds.specs.declared.noted.FedWire.{FedWire}
use Rattle.wire_feeds.specs.Walks.{feeds_with}
use Rattle.wire_feeds.proofs.Beginning.{Begun, begun_more, begun_walk}
use Rattle.wire_feeds.proofs.walk.begin.Goals as goal

pub note-requires : goal.note-requires
note-requires c =
    let h = c.requires.within c.c-item.result (met c.args.outputs.now c.loop-c.c-index c.c-item.result c.loop-c-test.true c.c-item.is) in
    let l = c.loop-c.invariant.long in
    omega arith

pub loop-c-preserved : goal.loop-c-preserved
loop-c-preserved c =
    let v = c.c-item.result in
    let feeds = c.loop-c.feeds in
    let waiting = c.loop-c.waiting.items in
    let i = c.loop-c.c-index in
    let count = length c.args.feeds.now in
    let below : v < length feeds = (let h = c.requires.within v (met c.args.outputs.now i v c.loop-c-test.true c.c-item.is) in let l = c.loop-c.invariant.long in omega arith) in
    subst (λ (fs : List (Option ℕ)). Begun c.args.outputs.now count (i + 1) fs c.note.new.waiting.items) (sym c.in_ok-note.ensures.feeds)
    (subst (λ (ws : List FedWire). Begun c.args.outputs.now count (i + 1) (feeds_with (get_or feeds v None) feeds v v) ws) (sym c.in_ok-note.ensures.waiting)
    (begun_more c.args.outputs.now count i feeds waiting c.loop-c.invariant v c.loop-c-test.true c.c-item.is below (get_or feeds v None) refl))

pub returns : goal.returns
returns c = begun_walk c.args.outputs.now (length c.args.feeds.now) c.loop-c.c-index c.loop-c.feeds c.loop-c.waiting.items c.loop-c.invariant (let t = c.loop-c-test.false in omega arith)
