-- Both ends of links side by side.
use Rattle.std.proofs.Common.{ℕ, List, [], ◌∷◌, map, ap, inl, inr}
use Rattle.std.specs.List.{zip}
use Rattle.words.specs.Members.{In}
use Rattle.net_order.specs.declared.feeding.TableLink.{TableLink}

pub of_ends : (links : List TableLink) (j k : ℕ) → In (zip (map (λ l. l.source) links) (map (λ l. l.table) links)) (j, k) → In links (record { source = j; table = k })
of_ends [] j k i = absurd i
of_ends (l ∷ links) j k i = elim i [ inl e ↦ inl (ap (λ (p : ℕ × ℕ). record { source = p.0; table = p.1 }) e) | inr n ↦ inr (of_ends links j k n) ]

pub to_ends : (links : List TableLink) (l : TableLink) → In links l → In (zip (map (λ x. x.source) links) (map (λ x. x.table) links)) (l.source, l.table)
to_ends [] l i = absurd i
to_ends (x ∷ links) l i = elim i [ inl e ↦ inl (ap (λ (y : TableLink). (y.source, y.table)) e) | inr n ↦ inr (to_ends links l n) ]
