use Rattle.std.proofs.Common.{◌≡◌, Some, None, ap, sym, ◌∙◌, nat_cmp}
use Rattle.std.specs.BTreeMap.{get}
use Rattle.std.specs.Cmp.Lexicographic.{slice_cmp}
use Rattle.records.specs.Profile.{SliceKind}
use Rattle.cell_profile.proofs.KindShapes.{same, fits_known, known_shape, new_shape}
use Rattle.cell_profile.proofs.known.fits_shape.Goals as goal

pub returns-in-Some-clause-fits : goal.returns-in-Some-clause-fits
returns-in-Some-clause-fits c = λ earlier known.
    let shape : c.kind.inside.shape ≡ c.args.kind.now.shape = ap (λ (k : SliceKind). k.shape) c.kind.view_is in
    let found : get (slice_cmp nat_cmp) c.args.shapes.now c.args.kind.now.shape ≡ Some c.in-Some.first.now = rw (← shape) (sym c.in-Some.ensures.value) in
    c.are_same.ensures ∙ ap (same c.in-Some.first.now) c.in_ok-counts.ensures ∙ sym (fits_known c.args.shapes.now earlier c.args.kind.now (Some c.in-Some.first.now) known found)

pub returns-in-Some-clause-known : goal.returns-in-Some-clause-known
returns-in-Some-clause-known c = λ earlier known.
    let shape : c.kind.inside.shape ≡ c.args.kind.now.shape = ap (λ (k : SliceKind). k.shape) c.kind.view_is in
    let found : get (slice_cmp nat_cmp) c.args.shapes.now c.args.kind.now.shape ≡ Some c.in-Some.first.now = rw (← shape) (sym c.in-Some.ensures.value) in
    known_shape c.args.shapes.now earlier c.args.kind.now c.in-Some.first.now known found

pub returns-clause-fits : goal.returns-clause-fits
returns-clause-fits c = λ earlier known.
    let shape : c.kind.inside.shape ≡ c.args.kind.now.shape = ap (λ (k : SliceKind). k.shape) c.kind.view_is in
    let absent : get (slice_cmp nat_cmp) c.args.shapes.now c.args.kind.now.shape ≡ None = rw (← shape) (sym c.in_default.ensures.value) in
    sym (fits_known c.args.shapes.now earlier c.args.kind.now None known absent)

pub returns-clause-known : goal.returns-clause-known
returns-clause-known c = λ earlier known.
    let shape : c.kind.inside.shape ≡ c.args.kind.now.shape = ap (λ (k : SliceKind). k.shape) c.kind.view_is in
    let absent : get (slice_cmp nat_cmp) c.args.shapes.now c.args.kind.now.shape ≡ None = rw (← shape) (sym c.in_default.ensures.value) in
    new_shape c.args.shapes.now c.insert.new.self earlier c.args.kind.now known absent
    (rw (c.in_ok-copy.ensures ∙ shape, c.in_ok-counts.ensures) at c.in_ok-insert.ensures.updates.0)
