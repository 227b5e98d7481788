use Rattle.std.proofs.Common.{arith}
use Rattle.live_links.proofs.Opening.{row_begun, row_has_room, row_more, row_whole}
use Rattle.live_links.proofs.opened.fill_row.Goals as goal

pub loop-x-init : goal.loop-x-init
loop-x-init c = row_begun c.args.opened.now c.args.w c.args.row.now

pub push-requires : goal.push-requires
push-requires c = record { room = row_has_room c.args.opened.now c.loop-x.opened c.args.w c.loop-x.x-index c.args.row.now c.loop-x.invariant c.requires.known c.requires.room c.loop-x-test.true }

pub loop-x-preserved : goal.loop-x-preserved
loop-x-preserved c =
    row_more c.args.opened.now c.loop-x.opened c.push.new.self c.args.w c.loop-x.x-index c.x-item.result c.args.row.now c.loop-x.invariant c.requires.known c.loop-x-test.true c.x-item.is c.push.ensures.rows c.push.ensures.room

pub returns-clause-rows : goal.returns-clause-rows
returns-clause-rows c = row_whole c.args.opened.now c.loop-x.opened c.args.w c.loop-x.x-index c.args.row.now c.loop-x.invariant (let t = c.loop-x-test.false in omega arith)

pub returns-clause-room : goal.returns-clause-room
returns-clause-room c = c.loop-x.invariant.room
