use Rattle.std.proofs.Common.{◌∙◌, sym, subst, ap, map, Some}
use Rattle.wire_names.specs.Codes.{IsCodeOfName}
use Rattle.wire_names.specs.LentNames.{wire_name}
use Rattle.wire_names.proofs.Kept.{number_found, number_none}
use Rattle.wire_names.proofs.names.Names.find.Goals as goal

pub returns-in_err-code-clause-number : goal.returns-in_err-code-clause-number
returns-in_err-code-clause-number c =
    c.from_residual.ensures
    ∙ sym (number_none (wire_name c.args.w.now) (map (λ key. key.items) c.self.inside.codes.keys) c.args.self.now c.self.invariant c.self.view_is c.in_err-code.ensures)

pub returns-in_err-place-clause-number : goal.returns-in_err-place-clause-number
returns-in_err-place-clause-number c =
    c.from_residual-in_err-place.ensures ∙ c.in_err-place.ensures
    ∙ number_found (wire_name c.args.w.now) c.as_slice.result.now (map (λ key. key.items) c.self.inside.codes.keys) c.args.self.now c.self.invariant c.self.view_is
    (subst (IsCodeOfName (wire_name c.args.w.now)) (sym c.as_slice.ensures.value) c.in_ok-code.ensures)

pub returns-clause-number : goal.returns-clause-number
returns-clause-number c =
    ap (λ n. Some n) c.from_u32.ensures ∙ c.in_ok-place.ensures
    ∙ number_found (wire_name c.args.w.now) c.as_slice.result.now (map (λ key. key.items) c.self.inside.codes.keys) c.args.self.now c.self.invariant c.self.view_is
    (subst (IsCodeOfName (wire_name c.args.w.now)) (sym c.as_slice.ensures.value) c.in_ok-code.ensures)
