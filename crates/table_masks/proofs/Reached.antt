-- The least address that is reached.
use Rattle.std.proofs.Common.{◌≡◌, ℕ, ◌^◌, ◌<◌, List, length, Some, sym, subst}
use Rattle.rr_ids.specs.declared.domain.Domain.{Domain}
use Rattle.table_masks.specs.declared.table_pin.TablePin.{TablePin}
use Rattle.table_masks.specs.Masking.{FailsIn, LeastReached}

pub reached : (word : ℕ) (pins : List TablePin) (own : Domain) (after n : ℕ) → n ≡ after → after < 2 ^ length pins → FailsIn word pins own after → ((m : ℕ) → m < after → FailsIn word pins own m → ⊥)
    → LeastReached word pins own (Some n)
reached word pins own after n is below fails none = subst (λ x. LeastReached word pins own (Some x)) (sym is) (below, fails, none)
