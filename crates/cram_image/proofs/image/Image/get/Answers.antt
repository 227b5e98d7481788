use Rattle.std.proofs.Common.{◌∙◌, ◌%◌, sym, ap}
use Rattle.cram_image.specs.Image.{bits}
use Rattle.cram_image.specs.Words.{has_bit, word_at}
use Rattle.cram_image.proofs.Words.{told_by_word}
use Rattle.cram_image.proofs.image.Image.get.Goals as goal

pub returns : goal.returns
returns c =
    let words = c.self.inside.words.entries in
    let b = c.args.b in
    c.has_bit.ensures
    ∙ ap (λ word. has_bit word (b.bit % 64)) (c.word_at.ensures ∙ ap (word_at words) c.place_of.ensures)
    ∙ sym (told_by_word words b c.self.invariant)
    ∙ ap (λ image. bits image b) c.self.view_is
