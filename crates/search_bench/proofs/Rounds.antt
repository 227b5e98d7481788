-- Going on and back round the end.
use Rattle.std.proofs.Common.{◌≡◌, ℕ, ◌+◌, ◌-◌, ◌<◌, ◌≤◌, Bool, ap, cond, arith, ◌⊎◌, inl, inr}
use Rattle.std.specs.Prelude.{nat_lt}
use Rattle.std.proofs.lemmas.Bool.{cases_Bool}
use borrow.Author.Tests.{ltb-true, ltb-false}
use Rattle.search_bench.specs.Grids.{back, forth}

forth_is : (n w d : ℕ) → ((w + d < n) × (forth n w d ≡ w + d)) ⊎ ((n ≤ w + d) × (forth n w d ≡ w + d - n))
forth_is n w d = elim (cases_Bool (nat_lt (w + d) n)) [
  | inl e ↦ inl (ltb-true (w + d) n e, ap (λ (b : Bool). cond b (w + d) (w + d - n)) e)
  | inr e ↦ inr (ltb-false (w + d) n e, ap (λ (b : Bool). cond b (w + d) (w + d - n)) e)
]

back_is : (n w d : ℕ) → ((w < d) × (back n w d ≡ n + w - d)) ⊎ ((d ≤ w) × (back n w d ≡ w - d))
back_is n w d = elim (cases_Bool (nat_lt w d)) [
  | inl e ↦ inl (ltb-true w d e, ap (λ (b : Bool). cond b (n + w - d) (w - d)) e)
  | inr e ↦ inr (ltb-false w d e, ap (λ (b : Bool). cond b (n + w - d) (w - d)) e)
]

pub forth_below : (n w d : ℕ) → w < n → d < n → forth n w d < n
forth_below n w d wn dn = elim (forth_is n w d) as (λ _. forth n w d < n) [ inl h ↦ (let a = h.0 in let b = h.1 in omega arith) | inr h ↦ (let a = h.0 in let b = h.1 in omega arith) ]

pub back_below : (n w d : ℕ) → w < n → d < n → back n w d < n
back_below n w d wn dn = elim (back_is n w d) as (λ _. back n w d < n) [ inl h ↦ (let a = h.0 in let b = h.1 in omega arith) | inr h ↦ (let a = h.0 in let b = h.1 in omega arith) ]

pub back_forth : (n w d v : ℕ) → w < n → d < n → forth n w d ≡ v → back n v d ≡ w
back_forth n w d v wn dn e = elim (forth_is n w d) as (λ _. back n v d ≡ w) [
  | inl h ↦ elim (back_is n v d) as (λ _. back n v d ≡ w) [ inl k ↦ (let a = h.0 in let b = h.1 in let p = k.0 in let q = k.1 in omega arith) | inr k ↦ (let a = h.0 in let b = h.1 in let p = k.0 in let q = k.1 in omega arith) ]
  | inr h ↦ elim (back_is n v d) as (λ _. back n v d ≡ w) [ inl k ↦ (let a = h.0 in let b = h.1 in let p = k.0 in let q = k.1 in omega arith) | inr k ↦ (let a = h.0 in let b = h.1 in let p = k.0 in let q = k.1 in omega arith) ]
]

pub forth_back : (n w d v : ℕ) → w < n → d < n → back n w d ≡ v → forth n v d ≡ w
forth_back n w d v wn dn e = elim (back_is n w d) as (λ _. forth n v d ≡ w) [
  | inl h ↦ elim (forth_is n v d) as (λ _. forth n v d ≡ w) [ inl k ↦ (let a = h.0 in let b = h.1 in let p = k.0 in let q = k.1 in omega arith) | inr k ↦ (let a = h.0 in let b = h.1 in let p = k.0 in let q = k.1 in omega arith) ]
  | inr h ↦ elim (forth_is n v d) as (λ _. forth n v d ≡ w) [ inl k ↦ (let a = h.0 in let b = h.1 in let p = k.0 in let q = k.1 in omega arith) | inr k ↦ (let a = h.0 in let b = h.1 in let p = k.0 in let q = k.1 in omega arith) ]
]
