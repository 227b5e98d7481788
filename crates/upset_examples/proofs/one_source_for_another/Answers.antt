use Rattle.std.proofs.Common.{◌≡◌, ◌↔◌, ℕ, [], ◌∷◌, inl, inr, refl, sym, subst, codes}
use Rattle.std.specs.Fmt.{digits}
use Rattle.words.specs.Members.{In}
use Rattle.records.specs.Side.{Domain, D0}
use Rattle.fabric_laws.specs.PlainGraph.{graph_of}
use Rattle.fabric_laws.proofs.Graphs.{has_graph}
use Rattle.mini.specs.MiniA.{mini_a}
use Rattle.mini.specs.ToggleCells.{wire_at}
use Rattle.upset.specs.Effect.{IsDisturbed}
use Rattle.upset.specs.Safe.{FlipsHave}
use Rattle.upset_laws.specs.PlainUpset.{domains_of, fed_wires, hit_wires, short_sources}
use Rattle.upset_laws.proofs.PlainDomains.{hits_law, shorts_law, domains_listed}
use Rattle.upset_examples.specs.Circuits.{flip}
use Rattle.upset_examples.proofs.Conditions.{of_three, three_clean, three_outputs}
use Rattle.upset_examples.proofs.one_source_for_another.Goals as goal

one_hit : hit_wires of_three (flip 32 1) ≡ wire_at (graph_of mini_a) 0 2 (codes "PO") ∷ []
one_hit = refl

no_short : short_sources of_three (flip 32 1) ≡ []
no_short = refl

one_domain : domains_of of_three (fed_wires of_three) (flip 32 1) ≡ D0 ∷ []
one_domain = refl

pub disturbed : (w : ℕ) → IsDisturbed of_three (flip 32 1) w ↔ (w ≡ wire_at (graph_of mini_a) 0 2 (codes "PO"))
disturbed w = (
  (λ h. elim h [
    | inl hit ↦ elim (subst (λ ws. In ws w) one_hit ((hits_law mini_a of_three (has_graph mini_a) (flip 32 1) w).1 hit)) [ inl e ↦ sym e | inr i ↦ absurd i ]
    | inr x ↦ absurd (subst (λ ws. In ws x.0) no_short ((shorts_law mini_a of_three (has_graph mini_a) (flip 32 1) x.0).1 x.1.0))
  ]),
  (λ e. inl ((hits_law mini_a of_three (has_graph mini_a) (flip 32 1) w).0 (subst (λ ws. In ws w) (sym one_hit) (inl (sym e))))),
)

domain : (d : Domain) → FlipsHave of_three (flip 32 1) d ↔ (d ≡ D0)
domain d = (
  (λ h. elim (subst (λ ds. In ds d) one_domain ((domains_listed mini_a of_three (has_graph mini_a) three_clean three_outputs (flip 32 1) d).1 h)) [ inl e ↦ sym e | inr i ↦ absurd i ]),
  (λ e. (domains_listed mini_a of_three (has_graph mini_a) three_clean three_outputs (flip 32 1) d).0 (subst (λ ds. In ds d) (sym one_domain) (inl (sym e)))),
)

pub returns-clause-hit : goal.returns-clause-hit
unfolding digits
returns-clause-hit c = refl

pub returns-clause-disturbed : goal.returns-clause-disturbed
returns-clause-disturbed c = disturbed

pub returns-clause-domains : goal.returns-clause-domains
returns-clause-domains c = domain

pub returns-clause-not_bad : goal.returns-clause-not_bad
returns-clause-not_bad c bad = bad.1.1.2 (subst (λ e. bad.0 ≡ e) (sym ((domain bad.1.0).0 bad.1.1.1)) ((domain bad.0).0 bad.1.1.0))
