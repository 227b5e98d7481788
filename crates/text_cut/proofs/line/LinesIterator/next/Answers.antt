use Rattle.std.proofs.Common.{◌≡◌, ◌+◌, length, take, ap, sym, ◌∙◌, arith, min}
use Rattle.std.proofs.lemmas.Bool.Decides.{nat_tests}
use Rattle.texts.specs.Lines.{without_return}
use Rattle.texts.proofs.FirstPiece.{line_first}
use Rattle.text_cut.proofs.Progress.{goes_on}
use Rattle.text_cut.proofs.line.LinesIterator.next.Goals as goal

pub returns-clause-steps : goal.returns-clause-steps
returns-clause-steps c =
    let xs = c.self.inside.rest.now in
    let some : length xs ≡ 0 → ⊥ = grind (arith, nat_tests) in
    let piece = c.split_at.ensures.front ∙ ap (λ n. take n xs) c.place_or_len-end.ensures.place in
    let after = c.min-after.ensures ∙ ap (λ n. min (n + 1) (length xs)) c.place_or_len-end.ensures.place in
    sym c.self.view_is ∙ line_first _ _ _ _ xs _ _ some (c.trim_return.ensures ∙ ap without_return piece) after c.split_at-2.ensures.back c.saturating_add-self-inside.ensures

pub returns-clause-goes : goal.returns-clause-goes
returns-clause-goes c = goes_on _ (λ _. tt) _ _ _ _ (returns-clause-steps c)
