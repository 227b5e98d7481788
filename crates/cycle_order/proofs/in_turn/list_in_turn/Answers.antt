use Rattle.std.proofs.Common.{ℕ, ◌≡◌, ◌<◌, List, [], Some, length, get_or, subst, sym, ap, ◌∙◌, arith}
use Rattle.std.specs.Prelude.{slice_get}
use Rattle.std.proofs.lemmas.List.{length-append}
use Rattle.std.proofs.lemmas.Option.{get_or_from_slice_get, slice_get_within}
use Rattle.words.specs.Members.{In}
use Rattle.net_links.proofs.Listed.{in_at}
use Rattle.cycle_order.proofs.Listing.{at_past}
use Rattle.cycle_order.proofs.Trying.{more_in_turn, trimmed}
use Rattle.cycle_order.proofs.in_turn.list_in_turn.Goals as goal
use Rattle.cycle_order.proofs.in_turn.list_in_turn.Goals.{In-Some, After-row}

got : (c : In-Some) → slice_get c.walk.listed.nodes c.walk.at ≡ Some c.in-Some.node
got c = sym c.in-Some.ensures.node

below : (c : In-Some) → c.walk.at < length c.walk.listed.nodes
below c = slice_get_within c.walk.listed.nodes c.walk.at c.in-Some.node (got c)

is : (c : In-Some) → get_or c.walk.listed.nodes c.walk.at 0 ≡ c.in-Some.node
is c = get_or_from_slice_get c.walk.listed.nodes c.walk.at c.in-Some.node 0 (got c)

known : (c : In-Some) → c.in-Some.node < length c.args.before.now
known c = c.walk.invariant.turn.within c.in-Some.node (subst (In c.walk.listed.nodes) (is c) (in_at c.walk.listed.nodes c.walk.at (below c)))

row_is : (c : After-row) → get_or c.args.next.now c.in-Some.node [] ≡ c.row.result.now
row_is c = get_or_from_slice_get c.args.next.now c.in-Some.node c.row.result.now [] (sym c.row.ensures)

pub row-requires : goal.row-requires
row-requires c = let k = known (goal.at.row-requires c).In-Some in let l = c.requires.rows.long in omega (arith, k, l)

pub try_all-requires-in-Some-clause-known : goal.try_all-requires-in-Some-clause-known
try_all-requires-in-Some-clause-known c = λ v i.
    let l = c.requires.rows.long in
    let h = c.requires.rows.next_within c.in-Some.node v (subst (λ (zs : List ℕ). In zs v) (sym (row_is (goal.at.try_all-requires-in-Some-clause-known c).After-row)) i) in
    omega (arith, l, h)

pub walk-smaller : goal.walk-smaller
walk-smaller c = let b = below (goal.at.walk-smaller c).In-Some in let f = c.in-Some.ensures.few in let n = c.walk.invariant.count in omega (arith, b, f, n)

pub walk-preserved : goal.walk-preserved
walk-preserved c =
    let b = below (goal.at.walk-preserved c).In-Some in
    let t = c.in_ok-try_all-2.ensures.tries in
    let long = ap (λ (zs : List ℕ). length zs) t.grows.is ∙ length-append c.walk.listed.nodes t.grows.added in
    record {
      count = c.in_ok-try_all-2.ensures.count ∙ c.walk.invariant.count;
      at = omega (arith, b, long);
      turn = more_in_turn c.args.before.now c.args.next.now c.walk.listed.nodes c.walk.at c.in-Some.node c.row.result.now c.try_all-in-Some.new.listed.nodes c.requires.rows
          c.walk.invariant.turn b (is (goal.at.walk-preserved c).In-Some) (row_is (goal.at.walk-preserved c).After-row) t;
    }

pub returns-clause-trimmed : goal.returns-clause-trimmed
returns-clause-trimmed c =
    trimmed c.args.before.now c.walk.listed.nodes c.walk.at (at_past c.walk.listed.nodes c.walk.at (sym c.in_default.ensures.node)) c.walk.invariant.turn
