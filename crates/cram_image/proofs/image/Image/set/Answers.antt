use Rattle.std.proofs.Common.{◌∙◌, ◌%◌, true, cond, Some, ap, subst}
use Rattle.std.specs.Map.{lookup}
use Rattle.patterns.specs.Written.{with_bit}
use Rattle.cram_image.specs.Image.{bits}
use Rattle.cram_image.specs.Words.{ChangesOne, same_place, word_at}
use Rattle.cram_image.proofs.Changes.{changed}
use Rattle.cram_image.proofs.image.Image.set.Goals as goal

pub returns-clause-ok : goal.returns-clause-ok
returns-clause-ok c =
    let old = c.self.inside.words.entries in
    let b = c.args.b in
    let word = c.with_one.result in
    let was = c.word_at-word.ensures ∙ ap (word_at old) c.place_of-place.ensures in
    let one = subst (λ w. ChangesOne w word (b.bit % 64) true) was c.with_one.ensures in
    λ d. changed old c.insert.new.self.entries b word true c.self.invariant c.in_ok-insert.ensures.unique one
    (λ q. c.in_ok-insert.ensures.updates.0 q ∙ ap (λ p. cond (same_place p q) (Some word) (lookup (same_place q) old)) c.place_of-place.ensures) d
    ∙ ap (λ image. with_bit (bits image) b true d) c.self.view_is
