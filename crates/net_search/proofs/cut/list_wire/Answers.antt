use Rattle.std.proofs.Common.{ℕ, ◌≡◌, List, [], ◌∷◌, sym, subst, inl, inr, false}
use Rattle.words.specs.Members.{In}
use Rattle.links.proofs.Members.{in_left}
use Rattle.net_search.specs.declared.reach.Mark.{Mark}
use Rattle.net_search.specs.Marks.{IsOutside, is_inside}
use Rattle.net_search.proofs.Growing.{in_last, in_more}
use Rattle.net_search.proofs.Gathered.{not_inside}
use Rattle.net_search.proofs.cut.list_wire.Goals as goal

pub returns : goal.returns
returns c =
    let old = c.args.rim.now.items in
    let new = c.push.new.self.items in
    let e = c.in_ok-push.ensures.items in
    let out : IsOutside c.args.marks.now c.args.w = subst (λ (m : Mark). is_inside m ≡ false) c.mark_at.ensures (not_inside c.mark_at.result c.in_default.not-Inside) in
    record {
      outside = λ x i. elim (in_more old c.args.w x (subst (λ (xs : List ℕ). In xs x) e i)) as (λ _. IsOutside c.args.marks.now x) [
        | inl j ↦ c.requires.outside x j
        | inr q ↦ subst (IsOutside c.args.marks.now) (sym q) out
      ];
      stay = λ x i. subst (λ (xs : List ℕ). In xs x) (sym e) (in_left old (c.args.w ∷ []) x i);
      others = λ x i. in_more old c.args.w x (subst (λ (xs : List ℕ). In xs x) e i);
      lists = λ _. subst (λ (xs : List ℕ). In xs c.args.w) (sym e) (in_last old c.args.w);
    }
