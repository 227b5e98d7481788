use Rattle.std.proofs.Common.{◌≡◌, ◌+◌, ◌∷◌, ◌++◌, [], take, subst, sym, ap, ◌∙◌}
use Rattle.std.proofs.lemmas.List.{take_more}
use Rattle.name_sets.specs.Held.{HoldsNames}
use Rattle.name_sets.proofs.HeldNames.{holds_one_more}
use Rattle.name_sets.proofs.name_set.lent_names.Goals as goal

pub loop-name-preserved : goal.loop-name-preserved
loop-name-preserved c =
    let names = take c.loop-name.name-index c.args.names.now in
    let more : take (c.loop-name.name-index + 1) c.args.names.now ≡ names ++ c.bytes.result.now ∷ [] =
    take_more c.args.names.now c.loop-name.name-index c.name-item.result c.loop-name-test.true ∙ ap (λ n. names ++ n ∷ []) (sym c.name-item.is ∙ sym c.bytes.ensures.same) in
    subst (λ n. HoldsNames n c.insert.new.self) (sym more) (holds_one_more names c.bytes.result c.loop-name.lent c.insert.new.self c.loop-name.invariant c.in_ok-insert.ensures.updates.0)
