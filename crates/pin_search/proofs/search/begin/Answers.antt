use Rattle.std.proofs.Common.{◌≡◌, ℕ, ◌⊎◌, true, false, List, Bool, [], ◌∷◌, ◌++◌, set, replicate, sym, ap, subst, ◌∙◌, arith, get_or, length}
use Rattle.std.proofs.lemmas.List.{length-replicate, get_or-replicate}
use Rattle.std.proofs.lemmas.Bool.{false≢true}
use Rattle.words.specs.Members.{In}
use Rattle.wire_queue.specs.Waiting.{Waits}
use Rattle.pin_search.specs.Labels.{far, weight_in}
use Rattle.pin_search.proofs.Taking.{searches_keeps}
use Rattle.pin_search.proofs.Stepping.{begins, noted_last, rest_keeps}
use Rattle.pin_search.proofs.search.begin.Goals as goal

pub relabel-requires : goal.relabel-requires
relabel-requires g c =
    let count = (g.R.Links.network c.args.rules.now).wiring.wires in
    let rest = c.requires.rest in
    let p = c.requires.connection.pin_is_wire in
    let ll : length c.args.front.now.labels.items ≡ count = ap (λ (xs : List ℕ). length xs) rest.labels ∙ length-replicate count far in
    let lw : length c.args.front.now.waiting.items ≡ count = ap (λ (xs : List Bool). length xs) rest.waiting ∙ length-replicate count false in
    let at : get_or c.args.front.now.labels.items c.args.pin 0 ≡ far = ap (λ (xs : List ℕ). get_or xs c.args.pin 0) rest.labels ∙ get_or-replicate count c.args.pin far 0 p in
    let off : get_or c.args.front.now.waiting.items c.args.pin false ≡ false = ap (λ (xs : List Bool). get_or xs c.args.pin false) rest.waiting ∙ get_or-replicate count c.args.pin false false p in
    let e = c.end.ensures in
    record {
      wire = omega arith;
      same = omega arith;
      most = omega arith;
      lower = omega arith;
      marked = λ m. absurd (false≢true (sym off ∙ m));
    }

pub returns-in_err-relabel-clause-kept : goal.returns-in_err-relabel-clause-kept
returns-in_err-relabel-clause-kept g c =
    rest_keeps (g.R.Links.network c.args.rules.now).wiring.wires c.args.front.now c.relabel.new.front c.args.pin c.requires.connection.pin_is_wire c.requires.rest c.in_err-relabel.ensures.unlabelled c.in_err-relabel.ensures.unmarked c.in_err-relabel.ensures.others

pub returns-clause-search : goal.returns-clause-search
returns-clause-search g c =
    let count = (g.R.Links.network c.args.rules.now).wiring.wires in
    let rest = c.requires.rest in
    let p = c.requires.connection.pin_is_wire in
    let new = c.relabel.new.front in
    let at : get_or c.args.front.now.labels.items c.args.pin 0 ≡ far = ap (λ (xs : List ℕ). get_or xs c.args.pin 0) rest.labels ∙ get_or-replicate count c.args.pin far 0 p in
    begins (g.R.Links.network c.args.rules.now) (g.R.PathRules.rules c.args.rules.now) c.args.pin new.labels.items new.waiting.items new.queue new.touched.items new.best p c.requires.outside
    (c.in_ok-relabel.ensures.labels ∙ (ap (λ (xs : List ℕ). set xs c.args.pin c.end.result) rest.labels ∙ ap (λ (v : ℕ). set (replicate count far) c.args.pin v) c.end.ensures))
    (c.in_ok-relabel.ensures.waiting ∙ ap (λ (xs : List Bool). set xs c.args.pin true) rest.waiting)
    (subst (λ (v : ℕ). Waits new.queue (weight_in v) c.args.pin) c.end.ensures c.in_ok-relabel.ensures.waits)
    (λ entry i. subst (λ (q : List (ℕ × ℕ)). (entry.1 ≡ c.args.pin) ⊎ In q entry) rest.queue (c.in_ok-relabel.ensures.queued entry i))
    (c.in_ok-relabel.ensures.noted ∙ (noted_last c.args.front.now.labels.items c.args.front.now.touched.items c.args.pin (omega arith) ∙ ap (λ (xs : List ℕ). xs ++ c.args.pin ∷ []) rest.touched))
    (c.in_ok-relabel.ensures.best ∙ rest.best)

pub returns-clause-kept : goal.returns-clause-kept
returns-clause-kept g c = let net = g.R.Links.network c.args.rules.now in searches_keeps net (g.R.PathRules.rules c.args.rules.now) c.args.pin net.wiring.wires c.relabel.new.front (returns-clause-search g c)
