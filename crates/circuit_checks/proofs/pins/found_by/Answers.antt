use Rattle.std.proofs.Common.{sym, subst}
use Rattle.pin_rules.specs.Voters.{AreVoters}
use Rattle.circuit_checks.specs.Rules.{Finds}
use Rattle.circuit_checks.proofs.pins.found_by.Goals as goal

pub returns-in-Open : goal.returns-in-Open
returns-in-Open c = λ circuit of.
    subst (λ check. Finds circuit check c.open_pin.result) (sym c.in-Open.is) (c.open_pin.ensures circuit of.its_cells of.tells)

pub returns-in-Clock : goal.returns-in-Clock
returns-in-Clock c = λ circuit of.
    subst (λ check. Finds circuit check c.clock_as_data.result) (sym c.in-Clock.is) (c.clock_as_data.ensures circuit of.its_cells of.tells)

pub returns-in-Foreign : goal.returns-in-Foreign
returns-in-Foreign c = λ circuit of.
    subst (λ check. Finds circuit check c.foreign_read.result) (sym c.in-Foreign.is)
    (c.foreign_read.ensures circuit of.its_cells of.tells (subst (AreVoters circuit) (sym c.deref-in-Foreign-3.ensures.value) (c.requires.are_voters circuit of.its_cells of.its_side)))
