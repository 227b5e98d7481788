use Rattle.std.proofs.Common.{◌≡◌, ℕ, ◌+◌, ◌<◌, [], Some, length, get_or, max, sym, subst, ap, ◌∙◌, arith}
use Rattle.std.specs.Prelude.{slice_get}
use Rattle.std.proofs.lemmas.Option.{get_or_from_slice_get}
use Rattle.wire_links.specs.Found.{Finds}
use Rattle.wire_links.proofs.Finding.{finds_first, finds_more, found_few, no_fewer, place_below, place_past}
use Rattle.wire_links.proofs.reached.find_all.Goals as goal
use Rattle.wire_links.proofs.reached.find_all.Goals.{In_ok-add_all}

pub walk-init : goal.walk-init
walk-init c = record { finds = finds_first c.args.next.now c.args.w c.args.found.now.keys c.requires.begun; at = omega arith }

-- the wire that is spread from stands at its place
got : (c : In_ok-add_all) → slice_get c.walk.found.keys c.walk.at ≡ Some c.in-Some.wire
got c = sym c.in-Some.ensures.number

few : (c : In_ok-add_all) → c.walk.at < max (length c.args.next.now) (c.args.w + 1)
few c =
    let l = place_below c.walk.found.keys c.walk.at c.in-Some.wire (got c) in
    let m = found_few c.args.next.now c.args.w c.walk.found.keys c.walk.at c.requires.within c.walk.invariant.finds c.number_at.ensures.apart in
    omega arith

pub overflow_add-at : goal.overflow_add-at
overflow_add-at c =
    let l = place_below c.walk.found.keys c.walk.at c.in-Some.wire (got c) in
    let t = c.number_at.ensures.few in
    omega (arith, t, l)

pub walk-smaller : goal.walk-smaller
walk-smaller c = let l = few c in omega (arith, l)

pub walk-preserved : goal.walk-preserved
walk-preserved c =
    let l = place_below c.walk.found.keys c.walk.at c.in-Some.wire (got c) in
    let more = no_fewer c.walk.found.keys c.row_of.result.now c.add_all.new.found.keys c.in_ok-add_all.ensures in
    record {
      finds = finds_more c.args.next.now c.args.w c.walk.found.keys c.walk.at c.in-Some.wire c.row_of.result.now c.add_all.new.found.keys c.walk.invariant.finds l
          (sym (get_or_from_slice_get c.walk.found.keys c.walk.at c.in-Some.wire 0 (got c)))
          (c.row_of.ensures ∙ ap (λ (w : ℕ). get_or c.args.next.now w []) c.from_u32.ensures) c.in_ok-add_all.ensures;
      at = omega (arith, l, more);
    }

pub returns : goal.returns
returns c =
    let past = place_past c.walk.found.keys c.walk.at (sym c.in_default.ensures.number) in
    let at = c.walk.invariant.at in
    subst (λ n. Finds c.args.next.now c.args.w c.walk.found.keys n) (let e : c.walk.at ≡ length c.walk.found.keys = omega arith in e) c.walk.invariant.finds
