use Rattle.std.proofs.Common.{ℕ, ◌≡◌, ◌<◌, List, [], Some, length, get_or, subst, sym, ap, ◌∙◌, arith}
use Rattle.std.specs.Prelude.{slice_get}
use Rattle.std.proofs.lemmas.List.{length-append}
use Rattle.std.proofs.lemmas.Option.{get_or_from_slice_get, slice_get_within}
use Rattle.words.specs.Members.{In}
use Rattle.net_links.proofs.Listed.{in_at}
use Rattle.cycle_order.specs.Marks.{Listing}
use Rattle.cycle_order.specs.Trials.{ListsRow}
use Rattle.cycle_order.proofs.Listing.{all_reached, at_past, begun_reached, more_reached, within_reached}
use Rattle.cycle_order.proofs.cycles.reaches_itself.Goals as goal
use Rattle.cycle_order.proofs.cycles.reaches_itself.Goals.{After-row, In-Some, After-row-in-Some}

row_is : (c : After-row) → get_or c.args.next.now c.args.node [] ≡ c.row.result.now
row_is c = get_or_from_slice_get c.args.next.now c.args.node c.row.result.now [] (sym c.row.ensures)

pub list_row-requires : goal.list_row-requires
list_row-requires c = λ v i.
    let h = c.requires.within c.args.node v (subst (λ (zs : List ℕ). In zs v) (sym (row_is (goal.at.list_row-requires c).After-row)) i) in
    let e = ap (λ (l : Listing). l.count) c.in_ok-listed.ensures in
    omega (arith, h, e)

pub walk-init : goal.walk-init
walk-init c = record {
  count = c.in_ok-list_row.ensures.count ∙ (let e = ap (λ (l : Listing). l.count) c.in_ok-listed.ensures in omega (arith, e));
  at = omega arith;
  reached = begun_reached c.args.next.now c.args.node c.row.result.now c.list_row.new.listed.nodes (row_is (goal.at.walk-init c).After-row)
      (subst (λ (zs : List ℕ). ListsRow zs c.row.result.now c.list_row.new.listed.nodes) (ap (λ (l : Listing). l.nodes) c.in_ok-listed.ensures) c.in_ok-list_row.ensures.row);
}

got : (c : In-Some) → slice_get c.walk.listed.nodes c.walk.at ≡ Some c.in-Some.found
got c = sym c.in-Some.ensures.node

below : (c : In-Some) → c.walk.at < length c.walk.listed.nodes
below c = slice_get_within c.walk.listed.nodes c.walk.at c.in-Some.found (got c)

is : (c : In-Some) → get_or c.walk.listed.nodes c.walk.at 0 ≡ c.in-Some.found
is c = get_or_from_slice_get c.walk.listed.nodes c.walk.at c.in-Some.found 0 (got c)

next_is : (c : After-row-in-Some) → get_or c.args.next.now c.in-Some.found [] ≡ c.row-in-Some.result.now
next_is c = get_or_from_slice_get c.args.next.now c.in-Some.found c.row-in-Some.result.now [] (sym c.row-in-Some.ensures)

pub row-requires-in-Some : goal.row-requires-in-Some
row-requires-in-Some c =
    let s = (goal.at.row-requires-in-Some c).In-Some in
    within_reached c.args.next.now c.args.node c.walk.listed.nodes c.walk.at c.requires.within c.walk.invariant.reached c.in-Some.found
    (subst (In c.walk.listed.nodes) (is s) (in_at c.walk.listed.nodes c.walk.at (below s)))

pub list_row-requires-in-Some : goal.list_row-requires-in-Some
list_row-requires-in-Some c = λ v i.
    let n = c.walk.invariant.count in
    let h = c.requires.within c.in-Some.found v (subst (λ (zs : List ℕ). In zs v) (sym (next_is (goal.at.list_row-requires-in-Some c).After-row-in-Some)) i) in
    omega (arith, n, h)

pub walk-smaller : goal.walk-smaller
walk-smaller c = let b = below (goal.at.walk-smaller c).In-Some in let f = c.in-Some.ensures.few in let n = c.walk.invariant.count in omega (arith, b, f, n)

pub walk-preserved : goal.walk-preserved
walk-preserved c =
    let b = below (goal.at.walk-preserved c).In-Some in
    let t = c.in_ok-list_row-2.ensures.row in
    let long = ap (λ (zs : List ℕ). length zs) t.is ∙ length-append c.walk.listed.nodes t.added in
    record {
      count = c.in_ok-list_row-2.ensures.count ∙ c.walk.invariant.count;
      at = omega (arith, b, long);
      reached = more_reached c.args.next.now c.args.node c.walk.listed.nodes c.walk.at c.in-Some.found c.row-in-Some.result.now c.list_row-in-Some.new.listed.nodes
          c.walk.invariant.reached b (is (goal.at.walk-preserved c).In-Some) (next_is (goal.at.walk-preserved c).After-row-in-Some) t;
    }

pub returns : goal.returns
returns c =
    let all = all_reached c.args.next.now c.args.node c.walk.listed.nodes c.walk.at (at_past c.walk.listed.nodes c.walk.at (sym c.in_default.ensures.node)) c.walk.invariant.reached c.args.node in
    (λ e. all.0 (c.contains.ensures.0 e), λ cycle. c.contains.ensures.1 (all.1 cycle))
