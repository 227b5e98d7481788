-- Nodes that are listed, and their marks.
use Rattle.std.proofs.Common.{◌≡◌, ℕ, ◌<◌, Bool, true, false, cond, List, [], ◌∷◌, ◌++◌, length, get_or, set, refl, sym, ap, ◌∙◌, inl, inr, arith}
use Rattle.std.specs.Prelude.{not}
use Rattle.std.proofs.lemmas.Bool.{cases_eq}
use Rattle.std.proofs.lemmas.List.{get_or-set_same, get_or-set_other, length-set, length-append}
use Rattle.std.proofs.lemmas.List.Sums.{sum_by-set}
use Rattle.words.specs.Members.{In}
use Rattle.links.proofs.Members.{in_left, in_right, in_either}
use Rattle.cycle_order.specs.Marks.{AreMarked}

-- a node that isn't listed has no mark
unmarked : (marks : List Bool) (nodes : List ℕ) (v : ℕ) → AreMarked marks nodes → (In nodes v → ⊥) → (b : Bool) → get_or marks v false ≡ b → b ≡ false
unmarked marks nodes v are apart false is = refl
unmarked marks nodes v are apart true is = absurd (apart (are.listed v is))

-- a node more is listed and marked
pub marked_more : (marks : List Bool) (nodes : List ℕ) (v : ℕ) → AreMarked marks nodes → v < length marks → (In nodes v → ⊥) → AreMarked (set marks v true) (nodes ++ v ∷ [])
marked_more marks nodes v are below apart = record {
  listed = λ w e. elim (cases_eq w v) as (λ _. In (nodes ++ v ∷ []) w) [
    | inl same ↦ in_right nodes (v ∷ []) w (inl (sym same))
    | inr other ↦ in_left nodes (v ∷ []) w (are.listed w (sym (get_or-set_other marks v w true false other) ∙ e))
  ];
  marked = λ w i. elim (cases_eq w v) as (λ _. get_or (set marks v true) w false ≡ true) [
    | inl same ↦ ap (λ z. get_or (set marks v true) z false) same ∙ get_or-set_same marks v true false below
    | inr other ↦ get_or-set_other marks v w true false other ∙ are.marked w (elim (in_either nodes (v ∷ []) w i) [
      | inl j ↦ j
      | inr j ↦ elim j [ inl e ↦ absurd (other (sym e)) | inr gone ↦ absurd gone ]
    ])
  ];
  once = (let f : Bool → ℕ = λ x. cond (not x) 1 0 in
      let sums = sum_by-set f marks v true false below in
      let one : f (get_or marks v false) ≡ 1 = ap f (unmarked marks nodes v are apart (get_or marks v false) refl) in
      let more = length-append nodes (v ∷ []) in
      let long = length-set marks v true in
      let before = are.once in
      omega (arith, sums, one, more, long, before));
  few = (let long = length-set marks v true in let few = are.few in omega (arith, long, few));
}
