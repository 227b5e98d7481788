-- Links as rows.
use Rattle.std.proofs.Common.{ℕ, ◌<◌, List, [], ◌∷◌, filter, refl, sym, ap, ap₂, subst, ◌∙◌, inl, inr, arith}
use Rattle.std.specs.Prelude.{◌==◌}
use Rattle.std.specs.List.{All, zip}
use Rattle.std.proofs.lemmas.Bool.{cases_lt, eq-eqb, eqb-true}
use Rattle.std.proofs.lemmas.List.{get_or_past}
use Rattle.std.proofs.lemmas.List.FromFn.{get_or-map-range_with_len, length-map-range_with_len}
use Rattle.std.proofs.lemmas.List.Elements.{All-get_or}
use Rattle.words.specs.Members.{In}
use Rattle.links.proofs.Members.{in_map, of_map}
use Rattle.fabric_laws.proofs.Members.{in_filter_from, in_filter_to}
use Rattle.net_links.proofs.Listed.{each_member}
use Rattle.grouped.specs.Rows.{grouped, row_of}
use Rattle.cycle_order.specs.Orders.{Leads}
use Rattle.cycle_order.specs.Trials.{AreOpposite, IsNext}

-- a pair that stands in two lists side by side, the other way round
pub swapped : (xs ys : List ℕ) (x y : ℕ) → In (zip xs ys) (x, y) → In (zip ys xs) (y, x)
swapped [] ys x y i = absurd i
swapped (a ∷ xs) [] x y i = absurd i
swapped (a ∷ xs) (b ∷ ys) x y i = elim i [
  | inl e ↦ inl (ap₂ (λ p q. (p, q)) (ap (λ (z : ℕ × ℕ). z.1) e) (ap (λ (z : ℕ × ℕ). z.0) e))
  | inr j ↦ inr (swapped xs ys x y j)
]

-- what all of a list are, each member is
pub each_is : (P : ℕ → Type 0) (xs : List ℕ) → All P xs → (x : ℕ) → In xs x → P x
each_is P xs all x i = each_member P xs (λ k l. All-get_or P xs k 0 l all) x i

-- a pair that stands in two lists side by side has its first in the first
first_in : (xs ys : List ℕ) (x y : ℕ) → In (zip xs ys) (x, y) → In xs x
first_in [] ys x y i = absurd i
first_in (a ∷ xs) [] x y i = absurd i
first_in (a ∷ xs) (b ∷ ys) x y i = elim i [ inl e ↦ inl (ap (λ (z : ℕ × ℕ). z.0) e) | inr j ↦ inr (first_in xs ys x y j) ]

module _ (count : ℕ) (keys items : List ℕ) where
  of_row : (u v : ℕ) → In (row_of (λ (n : ℕ). n) keys items u) v → Leads keys items u v
  of_row u v i =
      let m = of_map (λ (p : ℕ × ℕ). p.1) (filter (λ (p : ℕ × ℕ). p.0 == u) (zip keys items)) v i in
      let f = in_filter_from (λ (p : ℕ × ℕ). p.0 == u) (zip keys items) m.0 m.1.0 in
      subst (In (zip keys items)) (ap₂ (λ a b. (a, b)) (eqb-true m.0.0 u f.1) m.1.1) f.0

  in_row : (u v : ℕ) → Leads keys items u v → In (row_of (λ (n : ℕ). n) keys items u) v
  in_row u v i = in_map (λ (p : ℕ × ℕ). p.1) (filter (λ (p : ℕ × ℕ). p.0 == u) (zip keys items)) (u, v)
      (in_filter_to (λ (p : ℕ × ℕ). p.0 == u) (zip keys items) (u, v) i (eq-eqb u u refl))

  pub next_leads : (u v : ℕ) → IsNext (grouped (λ (n : ℕ). n) count keys items) u v → Leads keys items u v
  next_leads u v i = elim (cases_lt u count) [
    | inl l ↦ of_row u v (subst (λ (zs : List ℕ). In zs v) (get_or-map-range_with_len (row_of (λ (n : ℕ). n) keys items) 0 count u u [] l (omega arith)) i)
    | inr past ↦ absurd (subst (λ (zs : List ℕ). In zs v)
        (get_or_past (grouped (λ (n : ℕ). n) count keys items) u [] (let e = length-map-range_with_len (row_of (λ (n : ℕ). n) keys items) 0 count in omega (arith, e))) i)
  ]

  pub leads_next : ((u : ℕ) → In keys u → u < count) → (u v : ℕ) → Leads keys items u v → IsNext (grouped (λ (n : ℕ). n) count keys items) u v
  leads_next known u v i =
      let l = known u (first_in keys items u v i) in
      subst (λ (zs : List ℕ). In zs v) (sym (get_or-map-range_with_len (row_of (λ (n : ℕ). n) keys items) 0 count u u [] l (omega arith))) (in_row u v i)

-- the rows of links both ways
pub opposite : (count : ℕ) (sources sinks : List ℕ) → ((u : ℕ) → In sources u → u < count) → ((u : ℕ) → In sinks u → u < count)
    → AreOpposite (grouped (λ (n : ℕ). n) count sources sinks) (grouped (λ (n : ℕ). n) count sinks sources)
opposite count sources sinks low lows =
    let next_long = length-map-range_with_len (row_of (λ (n : ℕ). n) sources sinks) 0 count in
    let before_long = length-map-range_with_len (row_of (λ (n : ℕ). n) sinks sources) 0 count in
    record {
      long = next_long ∙ sym before_long;
      next_within = λ u v i. (let l = lows v (first_in sinks sources v u (swapped sources sinks u v (next_leads count sources sinks u v i))) in omega (arith, l, next_long));
      before_within = λ u v i. (let l = low v (first_in sources sinks v u (swapped sinks sources u v (next_leads count sinks sources u v i))) in omega (arith, l, before_long));
      back = λ u v i. leads_next count sinks sources lows v u (swapped sources sinks u v (next_leads count sources sinks u v i));
      forth = λ u v i. leads_next count sources sinks low u v (swapped sinks sources v u (next_leads count sinks sources v u i));
    }
