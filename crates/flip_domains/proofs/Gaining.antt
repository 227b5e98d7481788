-- Sets that gain the domains of the elements of a list.
use Rattle.std.proofs.Common.{◌≡◌, ℕ, ◌+◌, ◌<◌, ◌≤◌, ◌↔◌, ◌⊎◌, true, List, [], ◌∷◌, ◌++◌, length, take, get_or, sym, ap, subst, ◌∙◌, inl, inr}
use Rattle.std.proofs.lemmas.List.{take_all, take_more}
use Rattle.words.specs.Members.{In}
use Rattle.records.specs.Side.{Domain}
use Rattle.links.proofs.Members.{in_either, in_left, in_right}
use Rattle.flip_domains.specs.declared.set.Domains.{Domains}
use Rattle.flip_domains.specs.Sets.{Gains, has_domain}

-- an element of a list has the domain
abbrev pub OneOf : {X : Type 0} → (X → Domain → Type 0) → List X → Domain → Type 0
OneOf {X} Q xs d = (x : X) × (In xs x × Q x d)

pub gains_none : {X : Type 0} (Q : X → Domain → Type 0) (s : Domains) → Gains s s (OneOf Q [])
gains_none Q s d = ((λ h. inl h), (λ h. elim h [ inl a ↦ a | inr r ↦ absurd r.1.0 ]))

pub gains_more : {X : Type 0} (Q : X → Domain → Type 0) (xs : List X) (i : ℕ) (x : X) (first old new : Domains) → i < length xs → x ≡ get_or xs i x
    → Gains first old (OneOf Q (take i xs)) → Gains old new (Q x) → Gains first new (OneOf Q (take (i + 1) xs))
gains_more Q xs i x first old new below is so_far made d =
    subst (λ zs. (has_domain new d ≡ true) ↔ ((has_domain first d ≡ true) ⊎ OneOf Q zs d)) (sym (take_more xs i x below ∙ ap (λ z. take i xs ++ z ∷ []) (sym is))) (
      (λ h. elim ((made d).0 h) [
        | inl a ↦ elim ((so_far d).0 a) [
          | inl f ↦ inl f
          | inr r ↦ inr (r.0, (in_left (take i xs) (x ∷ []) r.0 r.1.0, r.1.1))
        ]
        | inr q ↦ inr (x, (in_right (take i xs) (x ∷ []) x (inl (λ j. x)), q))
      ]),
      (λ h. elim h [
        | inl f ↦ (made d).1 (inl ((so_far d).1 (inl f)))
        | inr r ↦ elim (in_either (take i xs) (x ∷ []) r.0 r.1.0) [
          | inl a ↦ (made d).1 (inl ((so_far d).1 (inr (r.0, (a, r.1.1)))))
          | inr b ↦ elim b [
            | inl e ↦ (made d).1 (inr (subst (λ z. Q z d) (sym e) r.1.1))
            | inr m ↦ absurd m
          ]
        ]
      ]),
    )

pub gains_all : {X : Type 0} (Q : X → Domain → Type 0) (xs : List X) (i : ℕ) (first new : Domains) → length xs ≤ i → Gains first new (OneOf Q (take i xs)) → Gains first new (OneOf Q xs)
gains_all Q xs i first new past so_far = subst (λ zs. Gains first new (OneOf Q zs)) (take_all i xs past) so_far
