use Rattle.std.proofs.Common.{◌≡◌, ◌<◌, length, Some, refl, sym, ap, subst, ◌∙◌}
use Rattle.std.specs.Prelude.{slice_get}
use Rattle.std.proofs.lemmas.Option.{slice_get_read}
use Rattle.circuit.specs.Parts.{sources}
use Rattle.table_masks.specs.Least.{Reached}
use Rattle.table_masks.proofs.LeastTable.{element, unread_part, unfailing_part, failing_part}
use Rattle.table_masks.proofs.tables.with_part.Goals as goal

pub returns-then-not-is_read : goal.returns-then-not-is_read
returns-then-not-is_read c = λ circuit shows so_far.
    let s = element (sources c.args.parts.now) c.args.place c.requires.known in
    unread_part c.args.parts.now c.args.feeds.now c.args.triples.now c.args.read.now c.args.place s.0 s.1 circuit shows c.args.least (sym c.if-not-is_read.ensures) so_far

-- the part that is looked at
pub reached_at-requires-clause-at : goal.reached_at-requires-clause-at
reached_at-requires-clause-at c =
    let all = c.sources.result.now in
    let below : c.args.place < length all = subst (λ xs. c.args.place < length xs) (sym c.sources.ensures.all) c.requires.known in
    ap (λ xs. slice_get xs c.args.place) (sym c.sources.ensures.all) ∙ slice_get_read all (length all) c.args.place c.index-sources-place.result refl below c.index-sources-place.is

pub returns-in-None : goal.returns-in-None
returns-in-None c = λ circuit shows so_far.
    let all = c.sources.result.now in
    let below : c.args.place < length all = subst (λ xs. c.args.place < length xs) (sym c.sources.ensures.all) c.requires.known in
    let at : slice_get (sources c.args.parts.now) c.args.place ≡ Some c.index-sources-place.result =
    ap (λ xs. slice_get xs c.args.place) (sym c.sources.ensures.all) ∙ slice_get_read all (length all) c.args.place c.index-sources-place.result refl below c.index-sources-place.is in
    unfailing_part c.args.parts.now c.args.feeds.now c.args.triples.now c.args.read.now c.args.place c.index-sources-place.result at circuit shows c.args.least
    (subst (Reached circuit c.index-sources-place.result) c.in-None.is (c.in_ok-reached_at.ensures circuit shows.feeds_are)) so_far

pub returns-in-Some : goal.returns-in-Some
returns-in-Some c = λ circuit shows so_far.
    let all = c.sources.result.now in
    let below : c.args.place < length all = subst (λ xs. c.args.place < length xs) (sym c.sources.ensures.all) c.requires.known in
    let at : slice_get (sources c.args.parts.now) c.args.place ≡ Some c.index-sources-place.result =
    ap (λ xs. slice_get xs c.args.place) (sym c.sources.ensures.all) ∙ slice_get_read all (length all) c.args.place c.index-sources-place.result refl below c.index-sources-place.is in
    failing_part c.args.parts.now c.args.feeds.now c.args.triples.now c.args.read.now c.args.place c.index-sources-place.result at circuit shows c.args.least
    (record { part = c.from_u32-part.result; reached = c.in-Some.reached }) c.lesser.result c.from_u32-part.ensures (sym c.if-not-is_read.ensures)
    (subst (Reached circuit c.index-sources-place.result) c.in-Some.is (c.in_ok-reached_at.ensures circuit shows.feeds_are)) c.lesser.ensures so_far
