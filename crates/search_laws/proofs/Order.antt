-- Arcs are ordered as their numbers are.
use Rattle.std.proofs.Common.{◌≡◌, ℕ, zero, suc, ◌<◌, inl, inr, List, [], ◌∷◌, Some, refl, sym, ap, ap₂, subst, ◌∙◌, arith}
use Rattle.std.specs.Prelude.{slice_get}
use Rattle.std.specs.declared.cmp.Ordering.{Ordering}
use Rattle.std.specs.declared.cmp.Ordering.TheVariants.{Less, Equal, Greater}
use Rattle.std.specs.Ordering.{nat_cmp, ordering_then, ordering_reverse}
use Rattle.std.specs.Cmp.{tied_itself, nat_cmp_is}
use Rattle.std.specs.Cmp.Lexicographic.{slice_cmp}
use Rattle.std.proofs.lemmas.Bool.{cases_lt}
use Rattle.links.proofs.Members.{same_number}
use Rattle.fabric.specs.InOrder.{IsRising}
use Rattle.fabric.specs.Graph.{GraphArc, Graph}
use Rattle.fabric.specs.GraphOf.{arc_cmp}
use Rattle.fabric_laws.proofs.Graphs.{some_same}
use Rattle.fabric_laws.proofs.Numbered.{get_in}
use Rattle.fabric_laws.proofs.Orders.{arc_total}
use Rattle.search_laws.specs.Numbered.{AreNumbersOf}

-- in a list in order what has the lower number comes first
rises : {X : Type 0} (cmp : X → X → Ordering) (xs : List X) → IsRising cmp xs → (i j : ℕ) (x y : X) → slice_get xs i ≡ Some x → slice_get xs j ≡ Some y → i < j → cmp x y ≡ Less
rises cmp [] r i j x y e f l = absurd (let no : ⊥ = cc in no)
rises cmp (z ∷ zs) r i zero x y e f l = absurd (let no : ⊥ = omega arith in no)
rises cmp (z ∷ zs) r zero (suc j) x y e f l = (let same : z ≡ x = cc in subst (λ w. cmp w y ≡ Less) same (r.0 y (get_in zs j y f)))
rises cmp (z ∷ zs) r (suc i) (suc j) x y e f l = rises cmp zs r.1 i j x y e f (let k : i < j = omega arith in k)

module _ (g : Graph) (rising : IsRising arc_cmp g.arcs) where
  later : (i j : ℕ) (a b : GraphArc) → slice_get g.arcs i ≡ Some a → slice_get g.arcs j ≡ Some b → j < i → arc_cmp a b ≡ Greater
  later i j a b e f l = arc_total.antisymm a b ∙ ap ordering_reverse (rises arc_cmp g.arcs rising j i b a f e l)

  -- two arcs are ordered as their numbers
  same_order : (i j : ℕ) (a b : GraphArc) → slice_get g.arcs i ≡ Some a → slice_get g.arcs j ≡ Some b → nat_cmp i j ≡ arc_cmp a b
  same_order i j a b e f = elim (cases_lt i j) as (λ _. nat_cmp i j ≡ arc_cmp a b) [
    | inl l ↦ sym (nat_cmp_is i j Less l) ∙ sym (rises arc_cmp g.arcs rising i j a b e f l)
    | inr k ↦ elim (same_number i j) [
      | inl same ↦ (let one : a ≡ b = some_same (sym e ∙ ap (slice_get g.arcs) same ∙ f) in sym (nat_cmp_is i j Equal same) ∙ sym (subst (λ c. arc_cmp a c ≡ Equal) one (tied_itself arc_total a)))
      | inr n ↦ (let l : j < i = omega arith in sym (nat_cmp_is i j Greater l) ∙ sym (later i j a b e f l))
    ]
  ]

  -- and so are lists of arcs
  pub same_list_order : (ns ms : List ℕ) (p q : List GraphArc) → AreNumbersOf g ns p → AreNumbersOf g ms q → slice_cmp nat_cmp ns ms ≡ slice_cmp arc_cmp p q
  same_list_order [] [] [] [] h k = refl
  same_list_order [] [] [] (b ∷ q) h k = absurd k
  same_list_order [] [] (a ∷ p) q h k = absurd h
  same_list_order [] (m ∷ ms) [] [] h k = absurd k
  same_list_order [] (m ∷ ms) [] (b ∷ q) h k = refl
  same_list_order [] (m ∷ ms) (a ∷ p) q h k = absurd h
  same_list_order (n ∷ ns) ms [] q h k = absurd h
  same_list_order (n ∷ ns) [] (a ∷ p) [] h k = refl
  same_list_order (n ∷ ns) [] (a ∷ p) (b ∷ q) h k = absurd k
  same_list_order (n ∷ ns) (m ∷ ms) (a ∷ p) [] h k = absurd k
  same_list_order (n ∷ ns) (m ∷ ms) (a ∷ p) (b ∷ q) h k = ap₂ ordering_then (same_order n m a b h.0 k.0) (same_list_order ns ms p q h.1 k.1)
