use Rattle.std.proofs.Common.{◌≡◌, ◌∷◌, ◌++◌, [], List, ℕ, true, sym, subst, ap, ◌∙◌, Bor}
use Rattle.std.specs.Ordering.{is_lt}
use Rattle.text_cut.specs.Known.{AreBelow, AreAscending}
use Rattle.text_cut.proofs.KnownTexts.{less_of, below_all}
use Rattle.text_cut.proofs.known.comes_last.Goals as goal

pub returns-in-Some : goal.returns-in-Some
returns-in-Some c = λ h.
    let last = c.in-Some.last.now in
    let front = c.in-Some.field-0-1.now in
    let split : c.args.ascending.now ≡ front ++ last ∷ [] = c.in-Some.ensures.cases.0 in
    let less = sym c.cmp.ensures ∙ less_of c.cmp.result (sym c.is_lt.ensures ∙ h) in
    subst (λ (ns : List (Bor (List ℕ))). AreBelow ns c.args.name.now) (sym split) (below_all front last c.args.name.now (subst AreAscending split c.requires) less)
