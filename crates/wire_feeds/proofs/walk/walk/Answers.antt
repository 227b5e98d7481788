use Rattle.std.proofs.Common.{◌≡◌, ℕ, List, [], get_or, sym, subst, arith}
use Rattle.std.proofs.lemmas.Option.{get_or_from_slice_get}
use Rattle.words.specs.Members.{In}
use Rattle.wire_feeds.proofs.Spreading.{Leaves, left}
use Rattle.wire_feeds.proofs.walk.walk.Goals as goal
use Rattle.wire_feeds.proofs.walk.walk.Goals.{In-Some, After-row}

gone : (c : In-Some) → Leaves c.args.next.now c.args.outputs.now c.walk.feeds c.pop.new.self.items c.in-Some.from
gone c = left c.args.next.now c.args.outputs.now c.walk.feeds c.walk.waiting.items c.pop.new.self.items c.in-Some.from c.in-Some.ensures.items c.walk.invariant

row_is : (c : After-row) → get_or c.args.next.now c.in-Some.from.wire [] ≡ c.row.result.now
row_is c = get_or_from_slice_get c.args.next.now c.in-Some.from.wire c.row.result.now [] (sym c.row.ensures)

pub row-requires : goal.row-requires
row-requires c = (gone (goal.at.row-requires c).In-Some).below

pub spread-requires : goal.spread-requires
spread-requires c = record {
  within = λ w i.
      let h = c.requires.rows c.in-Some.from.wire w (subst (λ (r : List ℕ). In r w) (sym (row_is (goal.at.spread-requires c).After-row)) i) in
      let l = c.walk.invariant.long in omega arith;
}

pub walk-preserved : goal.walk-preserved
walk-preserved c =
    let g = gone (goal.at.walk-preserved c).In-Some in
    c.in_ok-spread.ensures.walk c.args.next.now c.args.outputs.now c.in-Some.from.wire (row_is (goal.at.walk-preserved c).After-row) g.fed g.walk
