use Rattle.std.proofs.Common.{◌≡◌, ◌↔◌, ◌⊎◌, ◌++◌, ℕ, List, true, cond, ap, subst, sym, ◌∙◌}
use Rattle.words.specs.Members.{In}
use Rattle.patterns.specs.Bits.{bits_of_list}
use Rattle.fabric.specs.Graph.{Graph}
use Rattle.cram_image.specs.Image.{bits}
use Rattle.upset_effect.specs.Reach.{AreThose, IsAfter, IsJoined}
use Rattle.upset_effect.proofs.Joining.{joined_is, shorts_added}
use Rattle.upset_effect.proofs.Outcomes.{on_ok}
use Rattle.upset_effect.proofs.shorts.add_short.Goals as goal

pub returns : goal.returns
returns g c =
    let graph = c.args.live.now.graph in
    let image = bits c.args.live.now.image in
    let flips = bits_of_list c.args.flips.now in
    let w = c.args.w in
    let after = c.deref.result.now in
    let old = c.args.sources.now.items in
    let new = c.add_all.new.sources.items in
    let b = c.is_joined-joined.result in
    let are : AreThose (IsAfter graph image flips w) after = subst (AreThose (IsAfter graph image flips w)) (sym c.deref.ensures.value) c.in_ok-after.ensures in
    let out : (c.is_output.result ≡ true → In graph.outputs w) × (In graph.outputs w → c.is_output.result ≡ true) =
    subst (λ (gr : Graph). (c.is_output.result ≡ true → In gr.outputs w) × (In gr.outputs w → c.is_output.result ≡ true)) c.graph.ensures c.is_output.ensures in
    let same : c.deref-2.result.now ≡ after = c.deref-2.ensures.value ∙ sym c.deref.ensures.value in
    on_ok c.add_all.result (new ≡ cond b (old ++ c.deref-2.result.now) old) ((x : ℕ) → In new x ↔ (In old x ⊎ (IsJoined graph image flips w × IsAfter graph image flips w x)))
    (λ e. shorts_added (IsAfter graph image flips w) (In graph.outputs w) after are (IsJoined graph image flips w) old new b
    (joined_is (IsAfter graph image flips w) (In graph.outputs w) after are c.is_output.result b out c.is_joined-joined.ensures)
    (e ∙ ap (λ (xs : List ℕ). cond b (old ++ xs) old) same)) c.add_all.ensures
