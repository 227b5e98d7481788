use Rattle.std.proofs.Common.{◌≡◌, ◌<◌, ◌+◌, ℕ, List, [], ◌∙◌, length, set, ap, sym, subst, arith, get_or}
use Rattle.open_rows.specs.declared.spans.Span.{Span}
use Rattle.open_rows.specs.Rows.{HasRoom, Rows}
use Rattle.open_rows.specs.Spans.{AreOpen, IsSpanAt, longer, parts_of, room_of, shorter}
use Rattle.open_rows.proofs.Parts.{pops, span_at, whole}
use Rattle.open_rows.proofs.rows.OpenRows.pop.Goals as goal

pub pop_from-requires-clause-known : goal.pop_from-requires-clause-known
pop_from-requires-clause-known g c =
    let items = c.self.inside.items.items in
    let spans = c.self.inside.spans.items in
    let k = c.to_u32.result in
    let made = pops items spans c.args.self.now k c.self.view_is c.self.invariant (subst (λ (n : ℕ). 0 < length (get_or c.args.self.now.rows n [])) (sym c.to_u32.ensures) c.requires.filled) in
    let lent = ap length c.deref_mut.ensures.value in
    let known = made.known in
    omega arith

pub pop_from-requires-clause-filled : goal.pop_from-requires-clause-filled
pop_from-requires-clause-filled g c = λ s is.
    let items = c.self.inside.items.items in
    let spans = c.self.inside.spans.items in
    let k = c.to_u32.result in
    let made = pops items spans c.args.self.now k c.self.view_is c.self.invariant (subst (λ (n : ℕ). 0 < length (get_or c.args.self.now.rows n [])) (sym c.to_u32.ensures) c.requires.filled) in
    made.filled s (subst (λ (xs : List Span). IsSpanAt xs k s) c.deref_mut.ensures.value is)

pub invariant_of-self : goal.invariant_of-self
invariant_of-self g c =
    let items = c.self.inside.items.items in
    let spans = c.self.inside.spans.items in
    let k = c.to_u32.result in
    let made = pops items spans c.args.self.now k c.self.view_is c.self.invariant (subst (λ (n : ℕ). 0 < length (get_or c.args.self.now.rows n [])) (sym c.to_u32.ensures) c.requires.filled) in
    let at = span_at spans k made.known in
    let here = subst (λ (xs : List Span). IsSpanAt xs k at.0) (sym c.deref_mut.ensures.value) at.1 in
    let spans_are = whole c.pop_from.new.spans spans c.self.inside.spans.len (omega arith) (omega arith) ∙ (c.pop_from.ensures at.0 here ∙ ap (λ (xs : List Span). set xs k (shorter at.0)) c.deref_mut.ensures.value) in
    rw spans_are (made.are at.0 at.1)

pub returns-clause-rows : goal.returns-clause-rows
returns-clause-rows g c =
    let items = c.self.inside.items.items in
    let spans = c.self.inside.spans.items in
    let k = c.to_u32.result in
    let made = pops items spans c.args.self.now k c.self.view_is c.self.invariant (subst (λ (n : ℕ). 0 < length (get_or c.args.self.now.rows n [])) (sym c.to_u32.ensures) c.requires.filled) in
    let at = span_at spans k made.known in
    let here = subst (λ (xs : List Span). IsSpanAt xs k at.0) (sym c.deref_mut.ensures.value) at.1 in
    let spans_are = whole c.pop_from.new.spans spans c.self.inside.spans.len (omega arith) (omega arith) ∙ (c.pop_from.ensures at.0 here ∙ ap (λ (xs : List Span). set xs k (shorter at.0)) c.deref_mut.ensures.value) in
    rw (spans_are, ← c.to_u32.ensures) (made.rows at.0 at.1)

pub returns-clause-room : goal.returns-clause-room
returns-clause-room g c =
    let items = c.self.inside.items.items in
    let spans = c.self.inside.spans.items in
    let k = c.to_u32.result in
    let made = pops items spans c.args.self.now k c.self.view_is c.self.invariant (subst (λ (n : ℕ). 0 < length (get_or c.args.self.now.rows n [])) (sym c.to_u32.ensures) c.requires.filled) in
    let at = span_at spans k made.known in
    let here = subst (λ (xs : List Span). IsSpanAt xs k at.0) (sym c.deref_mut.ensures.value) at.1 in
    let spans_are = whole c.pop_from.new.spans spans c.self.inside.spans.len (omega arith) (omega arith) ∙ (c.pop_from.ensures at.0 here ∙ ap (λ (xs : List Span). set xs k (shorter at.0)) c.deref_mut.ensures.value) in
    rw spans_are (made.room at.0 at.1)
