use Rattle.std.proofs.Common.{ℕ, ◌+◌, ◌<◌, List, ◌++◌, length, get_or, drop, refl, ap, ◌∙◌, arith}
use Rattle.std.specs.Prelude.{slice_get, sum}
use Rattle.std.proofs.lemmas.List.Sums.{sum_by_push}
use Rattle.live_links.specs.Opened.{rooms_of}
use Rattle.live_links.proofs.Opening.{rooms_more}
use Rattle.live_links.proofs.opened.rooms.Goals as goal

pub loop-number-preserved : goal.loop-number-preserved
loop-number-preserved c =
    let rows : List (List ℕ) = c.args.rows.now in
    let more : List ℕ = c.args.more.now in
    let n = c.loop-number.number in
    let room : ℕ = length c.row.result.now + get_or more n 0 in
    let t = c.loop-number-test.true in
    let e = c.len-number-end.ensures in
    let same = c.requires.same in
    let below : n < length rows = omega arith in
    let items = c.in_ok-push.ensures.items in
    let small = c.if-room-total.false in
    record {
      made = ap (λ (xs : List ℕ). xs ++ rooms_of (drop (n + 1) rows) (drop (n + 1) more)) items
          ∙ rooms_more rows more c.loop-number.rooms.items n room c.row.result.now below (omega arith) (c.row.ensures ∙ ap (slice_get rows) c.from_u32.ensures) refl c.loop-number.invariant.made;
      total = ap sum items ∙ (sum_by_push (λ (x : ℕ). x) c.loop-number.rooms.items room ∙ ap (λ z. z + room) c.loop-number.invariant.total);
      fits = let f = c.loop-number.invariant.fits in omega arith;
    }
