use Rattle.std.proofs.Common.{◌≡◌, ◌<◌, ◌↔◌, ℕ, true, get_or, sym, subst, ap, ◌∙◌, arith}
use Rattle.std.specs.Prelude.{nat_lt}
use borrow.Author.Tests.{ltb-true, lt-ltb}
use Rattle.words.specs.Members.{In}
use Rattle.net_links.proofs.Listed.{met_at}
use Rattle.search_bench.proofs.Trees.{in_tree}
use Rattle.search_bench.proofs.tree.Tree.holds.Goals as goal

told : (x y : ℕ) (P : Type 0) → y ≡ x → (0 < x) ↔ P → (nat_lt 0 y ≡ true) ↔ P
told x y P e h = ((λ t. h.0 (subst (λ z. 0 < z) e (ltb-true 0 y t))), (λ p. lt-ltb 0 y (subst (λ z. 0 < z) (sym e) (h.1 p))))

pub returns : goal.returns
returns c =
    let tree = c.args.self.now in
    told (get_or tree.places.items c.args.w 0) c.index.result.now (In tree.wires.items c.args.w) (sym (met_at tree.places.items c.to_u32.result c.index.result.now (let l = c.requires in let e = c.to_u32.ensures in omega arith) c.index.ensures) ∙ ap (λ (z : ℕ). get_or tree.places.items z 0) c.to_u32.ensures) (in_tree tree.places.items tree.wires.items c.args.w tree.is_tree c.requires)
