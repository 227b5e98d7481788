use Rattle.std.proofs.Common.{◌≡◌, Err, rules}
use Rattle.json_forms.specs.Profile.{profile_of_value}
use Rattle.cell_profile.specs.Faults.{fault_of}
use Rattle.cell_profile.proofs.Refused.{refused}
use Rattle.cell_profile.proofs.profile.profile_of_value.Goals as goal

pub returns-in_err-other_chips : goal.returns-in_err-other_chips
unfolding profile_of_value
returns-in_err-other_chips c =
    let is : c.from_residual-in_err-other_chips.result ≡ Err c.in_err-other_chips.field-0.0 = search rules in
    rw c.in_ok-chip_prefix.ensures (refused _ fault_of _ _ _ c.in_err-other_chips.field-0.0 is c.in_err-other_chips.ensures)

pub returns-in_err-wide : goal.returns-in_err-wide
unfolding profile_of_value
returns-in_err-wide c =
    let is : c.from_residual-in_err-wide.result ≡ Err c.in_err-wide.field-0.0 = search rules in
    rw (c.in_ok-chip_prefix.ensures, c.in_ok-other_chips.ensures) (refused _ fault_of _ _ _ c.in_err-wide.field-0.0 is c.in_err-wide.ensures)

pub returns-in_err-joins : goal.returns-in_err-joins
unfolding profile_of_value
returns-in_err-joins c =
    let is : c.from_residual-in_err-joins.result ≡ Err c.in_err-joins.field-0.0 = search rules in
    rw (c.in_ok-chip_prefix.ensures, c.in_ok-other_chips.ensures, c.in_ok-wide.ensures) (refused _ fault_of _ _ _ c.in_err-joins.field-0.0 is c.in_err-joins.ensures)

pub returns-in_err-slices : goal.returns-in_err-slices
unfolding profile_of_value
returns-in_err-slices c =
    let is : c.from_residual-in_err-slices.result ≡ Err c.in_err-slices.field-0.0 = search rules in
    rw (c.in_ok-chip_prefix.ensures, c.in_ok-other_chips.ensures, c.in_ok-wide.ensures, c.in_ok-joins.ensures)
    (refused _ fault_of _ _ _ c.in_err-slices.field-0.0 is (rw c.as_slice.ensures at c.in_err-slices.ensures))

pub returns-in_err-pads : goal.returns-in_err-pads
unfolding profile_of_value
returns-in_err-pads c =
    let is : c.from_residual-in_err-pads.result ≡ Err c.in_err-pads.field-0.0 = search rules in
    rw (c.in_ok-chip_prefix.ensures, c.in_ok-other_chips.ensures, c.in_ok-wide.ensures, c.in_ok-joins.ensures, rw c.as_slice.ensures at c.in_ok-slices.ensures)
    (refused _ fault_of _ _ _ c.in_err-pads.field-0.0 is (rw (c.as_slice-2.ensures, c.as_slice-3.ensures) at c.in_err-pads.ensures))

pub returns : goal.returns
unfolding profile_of_value
returns c =
    rw (c.in_ok-chip_prefix.ensures, c.in_ok-other_chips.ensures, c.in_ok-wide.ensures, c.in_ok-joins.ensures, rw c.as_slice.ensures at c.in_ok-slices.ensures, rw (c.as_slice-2.ensures, c.as_slice-3.ensures) at c.in_ok-pads.ensures) (search rules)
