use Rattle.std.proofs.Common.{◌∙◌, sym, subst, ap, map, Some, option_map, slice_get}
use Rattle.fabric.specs.WireNames.{Named}
use Rattle.wire_names.specs.Kept.{CanBeKept}
use Rattle.wire_names.proofs.Kept.{kept_at, named_at}
use Rattle.wire_names.proofs.names.Names.name.Goals as goal

pub wire_of-requires : goal.wire_of-requires
wire_of-requires c =
    kept_at (map (λ key. key.items) c.self.inside.codes.keys) c.to_u32.result c.in_ok-code.code.now c.self.invariant (sym c.in_ok-code.ensures)

pub returns-clause-wire : goal.returns-clause-wire
returns-clause-wire c =
    ap (λ w. Some w) c.wire_of.ensures
    ∙ named_at (map (λ key. key.items) c.self.inside.codes.keys) c.args.self.now c.to_u32.result c.in_ok-code.code.now c.self.view_is c.in_ok-code.ensures
    ∙ ap (λ n. option_map (λ w. Named w) (slice_get c.args.self.now n)) c.to_u32.ensures

pub returns-clause-kept : goal.returns-clause-kept
returns-clause-kept c =
    subst CanBeKept (sym c.wire_of.ensures)
    (kept_at (map (λ key. key.items) c.self.inside.codes.keys) c.to_u32.result c.in_ok-code.code.now c.self.invariant (sym c.in_ok-code.ensures)).short
