use Rattle.std.proofs.Common.{◌≡◌, ℕ, Some, length, sym, subst, ◌∙◌, arith}
use Rattle.std.specs.Prelude.{option_to_list, slice_get}
use Rattle.std.proofs.lemmas.Option.{get_or_from_slice_get}
use Rattle.live_routing.specs.Live.{live_routing}
use Rattle.wire_links.proofs.Finding.{no_fewer, place_below, place_past}
use Rattle.upset_effect.specs.Found.{Finds}
use Rattle.upset_effect.proofs.Walked.{finds_first, finds_more}
use Rattle.upset_effect.proofs.behind.find_all.Goals as goal

pub walk-init : goal.walk-init
walk-init g c = record { finds = finds_first (live_routing c.args.live.now) c.args.found.now.keys; at = omega arith }

pub overflow_add-at : goal.overflow_add-at
overflow_add-at g c =
    let l = place_below c.walk.found.keys c.walk.at c.in-Some.wire (sym c.in-Some.ensures.number) in
    let t = c.number_at.ensures.few in
    omega (arith, t, l)

pub walk-preserved : goal.walk-preserved
walk-preserved g c =
    let got : slice_get c.walk.found.keys c.walk.at ≡ Some c.in-Some.wire = sym c.in-Some.ensures.number in
    let l = place_below c.walk.found.keys c.walk.at c.in-Some.wire got in
    let more = no_fewer c.walk.found.keys (option_to_list c.driver.result) c.add_driver.new.found.keys c.in_ok-add_driver.ensures in
    record {
      finds = finds_more (live_routing c.args.live.now) c.args.found.now.keys c.walk.found.keys c.walk.at c.from_u32.result c.driver.ensures.clean c.walk.invariant.finds l
          (c.from_u32.ensures ∙ sym (get_or_from_slice_get c.walk.found.keys c.walk.at c.in-Some.wire 0 got)) c.driver.result c.add_driver.new.found.keys c.driver.ensures.driver c.in_ok-add_driver.ensures;
      at = omega (arith, l, more);
    }

pub returns : goal.returns
returns g c =
    let past = place_past c.walk.found.keys c.walk.at (sym c.in_default.ensures.number) in
    let at = c.walk.invariant.at in
    subst (λ (n : ℕ). Finds (live_routing c.args.live.now) c.args.found.now.keys c.walk.found.keys n) (let e : c.walk.at ≡ length c.walk.found.keys = omega arith in e) c.walk.invariant.finds
