use Rattle.std.proofs.Common.{subst, sym, arith}
use Rattle.patterns.specs.Bits.{bits_of_list}
use Rattle.net_links.proofs.Listed.{met}
use Rattle.cram_image.specs.Image.{bits}
use Rattle.upset_effect.specs.Reach.{IsChanged}
use Rattle.upset_effect.proofs.Kept.{Keeps, keeps_all, keeps_more, keeps_none}
use Rattle.upset_effect.proofs.hits.changed.Goals as goal

pub is_changed-requires : goal.is_changed-requires
is_changed-requires g c = c.requires.within c.w-item.result (met c.args.wires.now c.loop-w.w-index c.w-item.result c.loop-w-test.true c.w-item.is)

pub loop-w-init : goal.loop-w-init
loop-w-init g c =
    let P = IsChanged c.args.live.now.graph (bits c.args.live.now.image) (bits_of_list c.args.flips.now) in
    subst (Keeps P c.args.wires.now 0) (sym c.new-hit.ensures.items) (keeps_none P c.args.wires.now c.requires.rising)

pub loop-w-preserved : goal.loop-w-preserved
loop-w-preserved g c =
    keeps_more (IsChanged c.args.live.now.graph (bits c.args.live.now.image) (bits_of_list c.args.flips.now)) c.args.wires.now c.loop-w.w-index c.w-item.result c.in_ok-changes.changes
    c.loop-w.hit.items c.add_if.new.wires.items c.loop-w-test.true c.w-item.is c.in_ok-changes.ensures c.in_ok-add_if.ensures c.loop-w.invariant

pub returns : goal.returns
returns g c =
    keeps_all (IsChanged c.args.live.now.graph (bits c.args.live.now.image) (bits_of_list c.args.flips.now)) c.args.wires.now c.loop-w.w-index c.loop-w.hit.items
    (omega arith) c.loop-w.invariant
