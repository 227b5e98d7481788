use Rattle.std.proofs.Common.{◌≡◌, true, inl, inr, [], ◌∷◌, refl, subst}
use Rattle.links.specs.Links.{here, onto}
use Rattle.fabric.specs.Agree.{HasLine}
use Rattle.fabric.specs.Image.{image_of}
use Rattle.fabric.specs.Links.{is_chosen}
use Rattle.fabric_laws.proofs.Agreeing.{line_listed}
use Rattle.repair.specs.Lines.{no_lines, drops, no_texts, next_text}
use Rattle.repair_examples.specs.OneArc.{graph, routed, section, the_arc, the_line}
use Rattle.repair_examples.proofs.Bare.{plain}
use Rattle.repair_examples.proofs.ripping_gives_the_bare_design.Goals as goal

pub returns-clause-agree : goal.returns-clause-agree
returns-clause-agree c = record {
  chosen_has_line = λ a i h p. elim i [
    | inl e ↦ subst (HasLine graph routed.config) e (record { text = section (the_line ∷ []); line = the_line; section = inl refl; listed = inl refl; is = refl })
    | inr n ↦ absurd n
  ];
  line_is_chosen = λ a h. elim (line_listed graph routed.config a h) [
    | inl e ↦ subst (λ x. is_chosen graph (image_of graph routed.config) x ≡ true) e refl
    | inr n ↦ absurd n
  ];
}

pub returns-clause-rest : goal.returns-clause-rest
returns-clause-rest c = record {
  texts = next_text (record {
    arcs = drops (record { arc = the_arc; named = refl; plain = plain routed.config (λ b h. h); net = 0; ripped = inl refl; feeds = record { output = inl refl; reach = onto here (inl refl) } }) no_lines;
    others = refl;
  }) no_texts;
  others = refl;
}
