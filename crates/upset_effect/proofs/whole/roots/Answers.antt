use Rattle.std.proofs.Common.{◌≡◌, ◌↔◌, ◌⊎◌, ℕ, List, subst, sym}
use Rattle.words.specs.Members.{In}
use Rattle.patterns.specs.Bits.{bits_of_list}
use Rattle.cram_image.specs.Image.{bits}
use Rattle.upset.specs.Configured.{Configured}
use Rattle.upset.specs.Roots.{IsRoot}
use Rattle.upset_effect.specs.Reach.{AreThose, IsHitIn, IsShortSourceIn}
use Rattle.upset_effect.proofs.Effecting.{roots_are}
use Rattle.upset_effect.proofs.Outcomes.{if_ok}
use Rattle.upset_effect.proofs.whole.roots.Goals as goal

pub short_sources-requires : goal.short_sources-requires
short_sources-requires g c =
    subst (λ (xs : List ℕ). (w : ℕ) → In xs w ↔ IsHitIn c.args.live.now.graph (bits c.args.live.now.image) (bits_of_list c.args.flips.now) w) (sym c.deref.ensures.value) c.in_ok-hit.ensures.members

pub returns : goal.returns
returns g c =
    let graph = c.args.live.now.graph in
    let image = bits c.args.live.now.image in
    let flips = bits_of_list c.args.flips.now in
    let hit = c.deref-2.result.now in
    let sources = c.deref-3.result.now in
    let are : (w : ℕ) → In hit w ↔ IsHitIn graph image flips w =
    subst (λ (xs : List ℕ). (w : ℕ) → In xs w ↔ IsHitIn graph image flips w) (sym c.deref-2.ensures.value) c.in_ok-hit.ensures.members in
    let short : (x : ℕ) → In sources x ↔ IsShortSourceIn graph image flips x =
    subst (λ (xs : List ℕ). (x : ℕ) → In xs x ↔ IsShortSourceIn graph image flips x) (sym c.deref-3.ensures.value) c.in_ok-sources.ensures in
    if_ok c.joined.result (λ v. AreThose (λ w. In hit w ⊎ In sources w) v.items) (λ v. (k : Configured) → k.graph ≡ graph → k.image ≡ image → AreThose (IsRoot k flips) v.items)
    (λ v all. roots_are graph image flips hit sources v.items are short all) c.joined.ensures
