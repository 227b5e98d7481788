use Rattle.std.proofs.Common.{ℕ, List, Bor, ◌∙◌, sym}
use Rattle.name_numbers.specs.Numbers.{with_name}
use Rattle.name_numbers.proofs.Pushed.{each_once_more}
use Rattle.name_numbers.proofs.numbers.NameNumbers.of.Goals as goal

pub loop-name-preserved : goal.loop-name-preserved
loop-name-preserved c =
    let now : Bor (List ℕ) → List ℕ = λ name. name.now in
    c.in_ok-add.ensures.ok
    ∙ (λ j. with_name (c.loop-name.invariant j) (now (c.name-item.is j)))
    ∙ sym (each_once_more now c.args.names.now c.loop-name.name-index c.name-item.result c.loop-name-test.true)
