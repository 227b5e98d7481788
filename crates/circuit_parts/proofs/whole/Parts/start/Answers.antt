use Rattle.std.proofs.Common.{◌≡◌, ◌<◌, ◌≤◌, length, get_or, map, sym, ap, subst, ◌∙◌}
use Rattle.circuit.specs.Pins.{pins}
use Rattle.circuit_parts.specs.Flat.{first_pin}
use Rattle.circuit_parts.proofs.Starts.{start_kept}
use Rattle.circuit_parts.proofs.whole.Parts.start.Goals as goal

pub start_of-requires : goal.start_of-requires
start_of-requires c =
    let kept = start_kept c.self.inside.cells.now c.args.self.now c.self.inside.sources.items c.self.inside.pins.items (map (λ pad. pad.now) c.self.inside.outputs.items) c.self.inside.starts.items c.args.k c.self.invariant c.self.view_is c.requires in
    subst (λ xs. c.args.k < length xs) (sym c.deref.ensures.value) kept.0

pub returns : goal.returns
returns c =
    let kept = start_kept c.self.inside.cells.now c.args.self.now c.self.inside.sources.items c.self.inside.pins.items (map (λ pad. pad.now) c.self.inside.outputs.items) c.self.inside.starts.items c.args.k c.self.invariant c.self.view_is c.requires in
    let first : c.start_of.result ≡ first_pin c.args.self.now c.args.k = c.start_of.ensures ∙ (ap (λ xs. get_or xs c.args.k 0) c.deref.ensures.value ∙ kept.1.0) in
    record { first = first; within = subst (λ n. n ≤ length (pins c.args.self.now)) (sym first) kept.1.1 }
