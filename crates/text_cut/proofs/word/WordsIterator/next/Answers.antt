use Rattle.std.proofs.Common.{◌≡◌, length, sym, ◌∙◌, arith}
use Rattle.std.proofs.lemmas.Bool.Decides.{nat_tests}
use Rattle.texts.specs.Words.{is_blank}
use Rattle.texts.proofs.Blanks.{IsFirstPiece, first_piece, no_piece}
use Rattle.text_cut.proofs.Progress.{goes_on}
use Rattle.text_cut.proofs.word.WordsIterator.next.Goals as goal

pub returns-then-is_empty-clause-steps : goal.returns-then-is_empty-clause-steps
returns-then-is_empty-clause-steps c =
    let empty : length c.split_at-2.result.0.now ≡ 0 = grind (arith, nat_tests) in
    let is : IsFirstPiece is_blank c.self.inside.rest.now c.blanks_len-blanks.result c.split_at.result.1.now c.word_len.result c.split_at-2.result.0.now c.split_at-2.result.1.now = record {
      front = c.blanks_len-blanks.ensures.place;
      behind_front = c.split_at.ensures.back;
      size = c.word_len.ensures.place;
      piece = c.split_at-2.ensures.front;
      behind_piece = c.split_at-2.ensures.back;
    } in
    let none = no_piece is_blank _ _ _ _ _ _ is c.self.inside.start _ empty in
    (sym c.self.view_is ∙ none.0, none.1)

pub returns-clause-steps : goal.returns-clause-steps
returns-clause-steps c =
    let some : length c.split_at-2.result.0.now ≡ 0 → ⊥ = grind (arith, nat_tests) in
    let is : IsFirstPiece is_blank c.self.inside.rest.now c.blanks_len-blanks.result c.split_at.result.1.now c.word_len.result c.split_at-2.result.0.now c.split_at-2.result.1.now = record {
      front = c.blanks_len-blanks.ensures.place;
      behind_front = c.split_at.ensures.back;
      size = c.word_len.ensures.place;
      piece = c.split_at-2.ensures.front;
      behind_piece = c.split_at-2.ensures.back;
    } in
    sym c.self.view_is ∙ first_piece is_blank _ _ _ _ _ _ is c.self.inside.start some

pub returns-clause-goes : goal.returns-clause-goes
returns-clause-goes c = goes_on _ (λ _. tt) _ _ _ _ (returns-clause-steps c)
