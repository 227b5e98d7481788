-- Marks that were cleared at all listed wires.
use Rattle.std.proofs.Common.{◌≡◌, ℕ, ◌<◌, List, length, replicate, ap, ◌∙◌, arith, ◌⊎◌, inl, inr}
use Rattle.words.specs.Members.{In}
use Rattle.net_links.proofs.Listed.{in_at}
use Rattle.pin_search.proofs.Clearing.{all_clear}
use Rattle.net_search.specs.declared.reach.Mark.{Mark}
use Rattle.net_search.specs.declared.reach.Mark.TheVariants.{Far}
use Rattle.net_search.specs.Marks.{Cleared, mark_of}

pub cleared : (inside edge : List ℕ) (old mid new : List Mark) → Cleared inside old mid → Cleared edge mid new → ((w : ℕ) → w < length old → (mark_of old w ≡ Far) ⊎ (In inside w ⊎ In edge w)) → new ≡ replicate (length old) Far
cleared inside edge old mid new p q known =
    let l = p.len in
    all_clear Far Far edge mid new (length edge) (record { len = q.len; clear = λ k h. q.clear _ (in_at edge k h); either = q.either }) (omega arith)
    (λ w h. elim (known w (omega arith)) as (λ _. In edge w ⊎ (mark_of mid w ≡ Far)) [
      | inl f ↦ inr (elim (p.either w) [ inl e ↦ e | inr e ↦ e ∙ f ])
      | inr i ↦ elim i [ inl j ↦ inr (p.clear w j) | inr j ↦ inl j ]
    ]) ∙ ap (λ (n : ℕ). replicate n Far) l
