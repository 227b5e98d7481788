use Rattle.std.proofs.Common.{◌≡◌, ◌<◌, ◌+◌, ℕ, List, ◌∙◌, length, set, ap, sym, subst, arith, get_or}
use Rattle.open_rows.specs.declared.spans.Span.{Span}
use Rattle.open_rows.specs.Rows.{HasRoom, Rows}
use Rattle.open_rows.specs.Spans.{AreOpen, IsSpanAt, longer, parts_of, room_of, shorter}
use Rattle.open_rows.proofs.Parts.{pushes, span_at, whole}
use Rattle.open_rows.proofs.rows.OpenRows.push.Goals as goal

pub push_into-requires-clause-known : goal.push_into-requires-clause-known
push_into-requires-clause-known g c =
    let items = c.self.inside.items.items in
    let spans = c.self.inside.spans.items in
    let k = c.to_u32.result in
    let made = pushes items spans c.args.self.now k c.args.item c.self.view_is c.self.invariant (subst (λ (n : ℕ). HasRoom c.args.self.now n) (sym c.to_u32.ensures) c.requires.room) in
    let lent = ap length c.deref_mut.ensures.value in
    let known = made.known in
    omega arith

pub push_into-requires-clause-room : goal.push_into-requires-clause-room
push_into-requires-clause-room g c = λ s is.
    let items = c.self.inside.items.items in
    let spans = c.self.inside.spans.items in
    let k = c.to_u32.result in
    let made = pushes items spans c.args.self.now k c.args.item c.self.view_is c.self.invariant (subst (λ (n : ℕ). HasRoom c.args.self.now n) (sym c.to_u32.ensures) c.requires.room) in
    let lent = ap length c.deref_mut-2.ensures.value in
    let within = made.within s (subst (λ (xs : List Span). IsSpanAt xs k s) c.deref_mut.ensures.value is) in
    omega arith

pub invariant_of-self : goal.invariant_of-self
invariant_of-self g c =
    let items = c.self.inside.items.items in
    let spans = c.self.inside.spans.items in
    let k = c.to_u32.result in
    let made = pushes items spans c.args.self.now k c.args.item c.self.view_is c.self.invariant (subst (λ (n : ℕ). HasRoom c.args.self.now n) (sym c.to_u32.ensures) c.requires.room) in
    let at = span_at spans k made.known in
    let here = subst (λ (xs : List Span). IsSpanAt xs k at.0) (sym c.deref_mut.ensures.value) at.1 in
    let spans_are = whole c.push_into.new.spans spans c.self.inside.spans.len (omega arith) (omega arith) ∙ (c.push_into.ensures.spans at.0 here ∙ ap (λ (xs : List Span). set xs k (longer at.0)) c.deref_mut.ensures.value) in
    let items_are = whole c.push_into.new.items items c.self.inside.items.len (omega arith) (omega arith) ∙ (c.push_into.ensures.items at.0 here ∙ ap (λ (xs : List _). set xs (at.0.start + at.0.len) c.args.item) c.deref_mut-2.ensures.value) in
    rw (spans_are, items_are) (made.are at.0 at.1)

pub returns-clause-rows : goal.returns-clause-rows
returns-clause-rows g c =
    let items = c.self.inside.items.items in
    let spans = c.self.inside.spans.items in
    let k = c.to_u32.result in
    let made = pushes items spans c.args.self.now k c.args.item c.self.view_is c.self.invariant (subst (λ (n : ℕ). HasRoom c.args.self.now n) (sym c.to_u32.ensures) c.requires.room) in
    let at = span_at spans k made.known in
    let here = subst (λ (xs : List Span). IsSpanAt xs k at.0) (sym c.deref_mut.ensures.value) at.1 in
    let spans_are = whole c.push_into.new.spans spans c.self.inside.spans.len (omega arith) (omega arith) ∙ (c.push_into.ensures.spans at.0 here ∙ ap (λ (xs : List Span). set xs k (longer at.0)) c.deref_mut.ensures.value) in
    let items_are = whole c.push_into.new.items items c.self.inside.items.len (omega arith) (omega arith) ∙ (c.push_into.ensures.items at.0 here ∙ ap (λ (xs : List _). set xs (at.0.start + at.0.len) c.args.item) c.deref_mut-2.ensures.value) in
    rw (spans_are, items_are, ← c.to_u32.ensures) (made.rows at.0 at.1)

pub returns-clause-room : goal.returns-clause-room
returns-clause-room g c =
    let items = c.self.inside.items.items in
    let spans = c.self.inside.spans.items in
    let k = c.to_u32.result in
    let made = pushes items spans c.args.self.now k c.args.item c.self.view_is c.self.invariant (subst (λ (n : ℕ). HasRoom c.args.self.now n) (sym c.to_u32.ensures) c.requires.room) in
    let at = span_at spans k made.known in
    let here = subst (λ (xs : List Span). IsSpanAt xs k at.0) (sym c.deref_mut.ensures.value) at.1 in
    let spans_are = whole c.push_into.new.spans spans c.self.inside.spans.len (omega arith) (omega arith) ∙ (c.push_into.ensures.spans at.0 here ∙ ap (λ (xs : List Span). set xs k (longer at.0)) c.deref_mut.ensures.value) in
    let items_are = whole c.push_into.new.items items c.self.inside.items.len (omega arith) (omega arith) ∙ (c.push_into.ensures.items at.0 here ∙ ap (λ (xs : List _). set xs (at.0.start + at.0.len) c.args.item) c.deref_mut-2.ensures.value) in
    rw (spans_are, items_are) (made.room at.0 at.1)
