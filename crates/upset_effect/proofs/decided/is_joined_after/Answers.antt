use Rattle.std.proofs.Common.{◌≡◌, true, subst, sym}
use Rattle.words.specs.Members.{In}
use Rattle.patterns.specs.Bits.{bits_of_list}
use Rattle.fabric.specs.Graph.{Graph}
use Rattle.cram_image.specs.Image.{bits}
use Rattle.upset_effect.specs.Reach.{AreThose, IsAfter}
use Rattle.upset_effect.proofs.Joining.{joined_is}
use Rattle.upset_effect.proofs.decided.is_joined_after.Goals as goal

pub returns : goal.returns
returns g c =
    let graph = c.args.live.now.graph in
    let P = IsAfter graph (bits c.args.live.now.image) (bits_of_list c.args.flips.now) c.args.w in
    joined_is P (In graph.outputs c.args.w) c.deref.result.now (subst (AreThose P) (sym c.deref.ensures.value) c.in_ok-after.ensures) c.is_output.result c.is_joined.result
    (subst (λ (gr : Graph). (c.is_output.result ≡ true → In gr.outputs c.args.w) × (In gr.outputs c.args.w → c.is_output.result ≡ true)) c.graph.ensures c.is_output.ensures)
    c.is_joined.ensures
