use Rattle.std.proofs.Common.{◌≡◌, ◌∷◌, ◌++◌, ◌||◌, [], List, ℕ, true, false, not, sym, subst, ap, ◌∙◌, Bor}
use Rattle.std.specs.Str.{bytes_eq}
use Rattle.std.proofs.lemmas.List.{append-nil}
use Rattle.text_cut.specs.Known.{knows, AreBelow, AreAscending, ComesNext}
use Rattle.text_cut.proofs.KnownTexts.{insert_knows, held_known, ascending_with_one, new_behind}
use Rattle.text_cut.proofs.known.KnownNames.insert.Goals as goal

pub invariant_of-self-then-comes_next : goal.invariant_of-self-then-comes_next
invariant_of-self-then-comes_next c =
    let next = c.comes_next.ensures c.if-comes_next.true in
    let below = subst (λ (ns : List (Bor (List ℕ))). AreBelow ns c.args.name.now) c.as_slice.ensures.value next.below in
    rw c.in_ok-push.ensures.items (ascending_with_one c.self.inside.ascending.items c.args.name c.self.invariant below)

pub returns-then-comes_next-clause-added : goal.returns-then-comes_next-clause-added
returns-then-comes_next-clause-added c =
    let next = c.comes_next.ensures c.if-comes_next.true in
    let names = c.self.inside.ascending.items in
    let below = subst (λ (ns : List (Bor (List ℕ))). AreBelow ns c.args.name.now) c.as_slice.ensures.value next.below in
    let none : knows c.args.self.now c.args.name.now ≡ false =
    ap (λ (ns : List (Bor (List ℕ))). knows ns c.args.name.now) (sym c.self.view_is ∙ ap (λ ks. names ++ ks) next.none ∙ append-nil names) ∙ new_behind names c.args.name.now below in
    ap not (sym none)

pub returns-clause-added : goal.returns-clause-added
returns-clause-added c =
    let name = c.args.name in
    let all : knows (c.replace-ascending.result.items ++ c.self.inside.others.keys) name.now ≡ knows c.args.self.now name.now =
    rw c.replace-ascending.ensures.value (ap (λ (ns : List (Bor (List ℕ))). knows ns name.now) c.self.view_is) in
    c.in_ok-added.ensures.added ∙ ap not (held_known c.put_all.new.others.keys name ∙ c.in_ok-put_all.ensures name.now ∙ all)

pub returns-clause-known : goal.returns-clause-known
returns-clause-known c = λ q.
    let name = c.args.name in
    let all : knows (c.replace-ascending.result.items ++ c.self.inside.others.keys) q ≡ knows c.args.self.now q =
    rw c.replace-ascending.ensures.value (ap (λ (ns : List (Bor (List ℕ))). knows ns q) c.self.view_is) in
    let none : c.replace-ascending.new.dest.items ≡ [] = rw c.replace-ascending.ensures.after c.new-none.ensures.items in
    ap (λ (ns : List (Bor (List ℕ))). knows (ns ++ c.insert.new.self.keys) q) none
    ∙ ap (λ (ks : List (Bor (List ℕ))). knows ks q) c.in_ok-added.ensures.keys
    ∙ insert_knows c.put_all.new.others.keys name q
    ∙ ap (λ b. bytes_eq name.now q || b) (c.in_ok-put_all.ensures q ∙ all)
