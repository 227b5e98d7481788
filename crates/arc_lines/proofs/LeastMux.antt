-- The least mux of those with a property, one more at a time.
use Rattle.std.proofs.Common.{◌≡◌, ℕ, ◌⊎◌, Bool, true, false, cond, Option, Some, None, refl, sym, ap, subst, ◌∙◌, inl, inr}
use Rattle.std.specs.declared.cmp.Ordering.{Ordering}
use Rattle.std.specs.declared.cmp.Ordering.TheVariants.{Less, Equal, Greater}
use Rattle.std.specs.Ordering.{is_gt, ordering_reverse}
use Rattle.std.specs.Cmp.{IsTotalOrder, on_total, then_total}
use Rattle.std.specs.Cmp.Lexicographic.{nat_list_cmp_total}
use Rattle.std.proofs.lemmas.Bool.{false≢true}
use Rattle.std.proofs.lemmas.Cmp.{upto, tied_itself}
use Rattle.fabric.specs.Graph.{Graph}
use Rattle.design_checks.specs.RoutingChecks.{MuxName, mux_name_cmp}
use Rattle.arc_lines.specs.Differing.{IsLeastMux, lower_mux, name_at}

mux_total : IsTotalOrder mux_name_cmp
mux_total = then_total (on_total (λ m. m.tile) nat_list_cmp_total) (on_total (λ m. m.sink) nat_list_cmp_total)

turned : (o : Ordering) → is_gt o ≡ true → is_gt (ordering_reverse o) ≡ false
turned Less e = absurd (false≢true e)
turned Equal e = absurd (false≢true e)
turned Greater e = refl

no_later : (a b : MuxName) → is_gt (mux_name_cmp a b) ≡ true → is_gt (mux_name_cmp b a) ≡ false
no_later a b e = ap is_gt (mux_total.antisymm b a) ∙ turned (mux_name_cmp a b) e

itself : (a : MuxName) → is_gt (mux_name_cmp a a) ≡ false
itself a = ap is_gt (tied_itself mux_total a)

module _ (g : Graph) (Has More : ℕ → Type 0) (m : ℕ) (b : Bool) (kept : (k : ℕ) → Has k → More k) (split : (k : ℕ) → More k → Has k ⊎ ((b ≡ true) × (k ≡ m))) where
  -- nothing new
  same : b ≡ false → (o : Option ℕ) → IsLeastMux g Has o → IsLeastMux g More o
  same e None h = λ k more. elim (split k more) [ inl has ↦ h k has | inr new ↦ false≢true (sym e ∙ new.0) ]
  same e (Some least) h = (kept least h.0, λ k more. elim (split k more) [ inl has ↦ h.1 k has | inr new ↦ absurd (false≢true (sym e ∙ new.0)) ])

  lower : (here : More m) (o : Option ℕ) → IsLeastMux g Has o → IsLeastMux g More (Some (lower_mux g o m))
  lower here None h = (
    here,
    λ k more. elim (split k more) [
      | inl has ↦ absurd (h k has)
      | inr new ↦ subst (λ n. is_gt (mux_name_cmp (name_at g m) (name_at g n)) ≡ false) (sym new.1) (itself (name_at g m))
    ],
  )
  lower here (Some least) h = go (is_gt (mux_name_cmp (name_at g least) (name_at g m))) refl
    where
      go : (c : Bool) → is_gt (mux_name_cmp (name_at g least) (name_at g m)) ≡ c → IsLeastMux g More (Some (cond c m least))
      go true e = (
        here,
        λ k more. elim (split k more) [
          | inl has ↦ upto mux_total (name_at g m) (name_at g least) (name_at g k) (no_later (name_at g least) (name_at g m) e) (h.1 k has)
          | inr new ↦ subst (λ n. is_gt (mux_name_cmp (name_at g m) (name_at g n)) ≡ false) (sym new.1) (itself (name_at g m))
        ],
      )
      go false e = (
        kept least h.0,
        λ k more. elim (split k more) [
          | inl has ↦ h.1 k has
          | inr new ↦ subst (λ n. is_gt (mux_name_cmp (name_at g least) (name_at g n)) ≡ false) (sym new.1) e
        ],
      )

  pub one_more : (b ≡ true → More m) → (old new : Option ℕ) → new ≡ cond b (Some (lower_mux g old m)) old → IsLeastMux g Has old → IsLeastMux g More new
  one_more here old new made h = subst (IsLeastMux g More) (sym made) (go b refl)
    where
      go : (c : Bool) → b ≡ c → IsLeastMux g More (cond c (Some (lower_mux g old m)) old)
      go true e = lower (here e) old h
      go false e = same e old h
