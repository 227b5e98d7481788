use Rattle.std.proofs.Common.{◌≡◌, ◌↔◌, ℕ, List, [], ap, subst, sym, ◌∙◌}
use Rattle.std.specs.Prelude.{nat_eq}
use Rattle.words.specs.Members.{In}
use Rattle.indexmap.specs.IndexSet.{insert_all}
use Rattle.cram_image.specs.Image.{bits}
use Rattle.live_routing.specs.Live.{live_routing}
use Rattle.upset_effect.specs.Reach.{IsBehind}
use Rattle.upset_effect.proofs.Outcomes.{if_ok}
use Rattle.upset_effect.proofs.Walked.{behind_given}
use Rattle.upset_effect.proofs.behind.behind.Goals as goal

pub returns : goal.returns
returns g c =
    let graph = c.args.live.now.graph in
    let image = bits c.args.live.now.image in
    let wires = c.args.wires.now in
    let found = c.find_all.new.found.keys in
    let first : c.add_all.new.found.keys ≡ insert_all nat_eq [] wires = c.in_ok-add_all.ensures ∙ ap (λ (ks : List ℕ). insert_all nat_eq ks wires) c.new-found.ensures.empty in
    if_ok c.wires_of.result (λ v. v.items ≡ c.as_slice.result.now) (λ v. (w : ℕ) → In v.items w ↔ IsBehind graph image wires w)
    (λ v e w. subst (λ (xs : List ℕ). In xs w ↔ IsBehind graph image wires w) (sym (e ∙ c.as_slice.ensures.keys))
    (behind_given (live_routing c.args.live.now) wires c.add_all.new.found.keys found first c.in_ok-find_all.ensures w)) c.wires_of.ensures
