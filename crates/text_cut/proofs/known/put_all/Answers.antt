use Rattle.std.proofs.Common.{◌≡◌, ◌∷◌, ◌++◌, [], List, ℕ, sym, ap, ◌∙◌, Bor}
use Rattle.text_cut.specs.Known.{knows}
use Rattle.text_cut.proofs.KnownTexts.{moved}
use Rattle.text_cut.proofs.known.put_all.Goals as goal

pub loop-name-preserved : goal.loop-name-preserved
loop-name-preserved c = λ q.
    let front = c.pop.new.self.items in
    let keys = c.loop-name.others.keys in
    let split : c.loop-name.left.items ≡ front ++ c.in-Some.name ∷ [] = c.in-Some.ensures.items in
    ap (λ (ks : List (Bor (List ℕ))). knows (front ++ ks) q) c.in_ok-insert.ensures.keys
    ∙ moved front c.in-Some.name keys q
    ∙ ap (λ (ns : List (Bor (List ℕ))). knows (ns ++ keys) q) (sym split)
    ∙ c.loop-name.invariant q
