use Rattle.std.proofs.Common.{ℕ, ◌≤◌, ◌<◌, sym, subst, arith, inl, inr}
use Rattle.std.proofs.lemmas.Bool.{cases_lt}
use Rattle.pin_search.specs.Labels.{far}
use Rattle.pin_search.specs.Fronts.{IsPathOfWeight}
use Rattle.pin_search.proofs.Found.{found, none_found}
use Rattle.pin_search.proofs.finding.answer.Goals as goal

pub returns-then-not-is_below : goal.returns-then-not-is_below
returns-then-not-is_below g c =
    let front = c.args.front.now in
    let e = c.far.ensures in
    let le : far ≤ front.best = elim (cases_lt front.best c.far.result) as (λ _. far ≤ front.best) [
      | inl l ↦ (let t = c.is_below.ensures.1 l in let f = c.if-not-is_below.true in absurd (let no : ⊥ = cc in no))
      | inr l ↦ omega arith
    ] in
    none_found (g.R.Links.network c.args.rules.now) (g.R.PathRules.rules c.args.rules.now) c.args.pin front.labels.items front.best
    (record { net = c.requires.connection.net; wire = c.requires.connection.pin_is_wire; searched = c.requires.ends }) le

pub returns : goal.returns
returns g c =
    let front = c.args.front.now in
    let e = c.far.ensures in
    let near : front.best < far = (let l = c.is_below.ensures.0 (let f = c.if-not-is_below.false in cc) in omega arith) in
    subst (λ (v : ℕ). IsPathOfWeight (g.R.Links.network c.args.rules.now) (g.R.PathRules.rules c.args.rules.now) c.args.pin c.in_ok-arcs.arcs.items v) (sym c.weight-weight.ensures)
    (found (g.R.Links.network c.args.rules.now) (g.R.PathRules.rules c.args.rules.now) c.args.pin front.labels.items front.best
    (record { net = c.requires.connection.net; wire = c.requires.connection.pin_is_wire; searched = c.requires.ends }) c.in_ok-arcs.arcs.items near c.in_ok-arcs.ensures)
