use Rattle.std.proofs.Common.{◌≡◌, ◌∙◌, ◌%◌, false, cond, Some, None, sym, ap, subst}
use Rattle.std.specs.Map.{lookup}
use Rattle.std.specs.Option.{option_copied_mut, is_some, unwrap_or}
use Rattle.patterns.specs.Written.{with_bit}
use Rattle.cram_image.specs.Image.{bits}
use Rattle.cram_image.specs.Words.{ChangesOne, place_of, same_place, bits_of_words}
use Rattle.cram_image.proofs.Changes.{changed, cleared_already}
use Rattle.cram_image.proofs.image.Image.clear.Goals as goal

pub returns-in_default : goal.returns-in_default
returns-in_default c =
    let old = c.self.inside.words.entries in
    let b = c.args.b in
    let none : lookup (same_place (place_of b)) old ≡ None =
    ap (λ p. lookup (same_place p) old) (sym c.place_of.ensures) ∙ sym c.get_mut.ensures.value ∙ ap (λ o. option_copied_mut o) c.in_default.is in
    λ d. ap (λ words. bits (bits_of_words words.entries) d) c.get_mut.follows.holds-at-none
    ∙ cleared_already old b c.self.invariant none d
    ∙ ap (λ image. with_bit (bits image) b false d) c.self.view_is

pub returns : goal.returns
returns c =
    let old = c.self.inside.words.entries in
    let b = c.args.b in
    let word = c.with_zero.result in
    let found = ap (λ o. option_copied_mut o) (sym c.in-Some.is) ∙ c.get_mut.ensures.value in
    let there : Some c.in-Some.word.now ≡ lookup (same_place (place_of b)) old = found ∙ ap (λ p. lookup (same_place p) old) c.place_of.ensures in
    let one = subst (λ w. ChangesOne w word (b.bit % 64) false) (ap (λ o. unwrap_or o 0) there) c.with_zero.ensures in
    let written = c.get_mut.follows.holds word in
    let updates = written.3 (ap is_some (sym found)) in
    λ d. changed old (c.get_mut.follows.lender word).entries b word false c.self.invariant written.4 one
    (λ q. updates.0 q ∙ ap (λ p. cond (same_place p q) (Some word) (lookup (same_place q) old)) c.place_of.ensures) d
    ∙ ap (λ image. with_bit (bits image) b false d) c.self.view_is
