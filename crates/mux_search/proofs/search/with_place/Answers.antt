use Rattle.std.proofs.Common.{sym, ◌∙◌, arith}
use Rattle.mux_search.proofs.Halves.{higher, listed, lower, none_left}
use Rattle.mux_search.proofs.search.with_place.Goals as goal

pub returns-then-at-place : goal.returns-then-at-place
returns-then-at-place c = λ rise. (listed c.args.rows.now.muxes c.args.row.now _ c.index-row-middle.result c.index-row-middle.is (omega arith), sym c.place_at-at.ensures ∙ c.if-at-place.true)

pub search-preserved-then-at-place-2 : goal.search-preserved-then-at-place-2
search-preserved-then-at-place-2 c = record {
  order = omega arith;
  within = c.search.invariant.within;
  before = λ rise. lower c.args.rows.now.muxes c.args.row.now _ c.index-row-middle.result c.place_at-at.result c.args.place rise c.index-row-middle.is (omega arith) c.place_at-at.ensures c.if-at-place-2.true;
  behind = c.search.invariant.behind;
}

pub search-preserved : goal.search-preserved
search-preserved c = record {
  order = omega arith;
  within = omega arith;
  before = c.search.invariant.before;
  behind = λ rise. higher c.args.rows.now.muxes c.args.row.now _ c.index-row-middle.result c.place_at-at.result c.args.place rise c.index-row-middle.is (omega arith) c.place_at-at.ensures (omega arith);
}

pub returns : goal.returns
returns c = λ rise. none_left c.args.rows.now.muxes c.args.row.now c.search.low c.search.high c.args.place c.search-test.false (c.search.invariant.before rise) (c.search.invariant.behind rise)
