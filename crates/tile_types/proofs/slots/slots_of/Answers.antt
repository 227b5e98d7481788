use Rattle.std.proofs.Common.{◌+◌, ℕ, List, Bor, map, take, sym, subst}
use Rattle.std.specs.List.{AllZip}
use Rattle.tile_types.specs.Slots.{IsSlotOf}
use Rattle.tile_types.proofs.Zipped.{zip_more}
use Rattle.tile_types.proofs.slots.slots_of.Goals as goal

pub loop-name-preserved : goal.loop-name-preserved
loop-name-preserved c =
    let now : Bor (List ℕ) → List ℕ = λ name. name.now in
    let rules = c.args.rules.now in
    let names = c.args.names.now in
    let i = c.loop-name.name-index in
    let slot : IsSlotOf rules (now c.name-item.result) c.slot_of.result = record { stands = c.slot_of.ensures.stands; short = c.slot_of.ensures.short } in
    subst (AllZip (IsSlotOf rules) (map now (take (i + 1) names))) (sym c.in_ok-push.ensures.items)
    (zip_more (IsSlotOf rules) now names c.loop-name.slots.items i c.name-item.result c.slot_of.result c.loop-name-test.true c.loop-name.invariant
    (subst (λ name. IsSlotOf rules (now name) c.slot_of.result) c.name-item.is slot))
