use Rattle.std.proofs.Common.{◌≡◌, ◌+◌, ◌<◌, ◌^◌, ℕ, List, ◌∙◌, length, ap, sym, subst, arith}
use Rattle.std.specs.Prelude.{sum}
use Rattle.open_rows.specs.declared.spans.Span.{Span}
use Rattle.open_rows.specs.Spans.{AreOpen, parts_of, room_of, spans_from}
use Rattle.open_rows.proofs.Parts.{apart_from, none_yet, room_from}
use Rattle.open_rows.proofs.rows.OpenRows.new.Goals as goal

pub invariant_of-result : goal.invariant_of-result
invariant_of-result g c =
    let a = c.in_ok-items.ensures.len in
    let b = c.total.ensures in
    let few = c.requires.few in
    let total : length c.in_ok-items.items.items ≡ 0 + sum c.args.room.now = omega arith in
    rw c.in_ok-spans.ensures (record { apart = apart_from 0 (length c.in_ok-items.items.items) c.args.room.now total; few = omega arith })

pub returns-clause-rows : goal.returns-clause-rows
returns-clause-rows g c =
    ap (parts_of c.in_ok-items.items.items) c.in_ok-spans.ensures ∙ none_yet c.in_ok-items.items.items 0 c.args.room.now

pub returns-clause-room : goal.returns-clause-room
returns-clause-room g c =
    let a = c.in_ok-items.ensures.len in
    let b = c.total.ensures in
    let total : length c.in_ok-items.items.items ≡ 0 + sum c.args.room.now = omega arith in
    ap (λ (ss : List Span). room_of ss (length c.in_ok-items.items.items)) c.in_ok-spans.ensures ∙ room_from 0 (length c.in_ok-items.items.items) c.args.room.now total
