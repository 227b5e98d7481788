use Rattle.std.proofs.Common.{◌↔◌, ◌⊎◌, ℕ, List, subst, sym}
use Rattle.words.specs.Members.{In}
use Rattle.patterns.specs.Bits.{bits_of_list}
use Rattle.cram_image.specs.Image.{bits}
use Rattle.upset_effect.specs.Reach.{AreThose, IsBehind, IsDisturbedIn, IsShortSourceIn}
use Rattle.upset_effect.proofs.Effecting.{are_disturbed}
use Rattle.upset_effect.proofs.Outcomes.{if_ok}
use Rattle.upset_effect.proofs.whole.disturbed_wires.Goals as goal

pub short_sources-requires : goal.short_sources-requires
short_sources-requires g c = c.requires.members

pub returns : goal.returns
returns g c =
    let graph = c.args.live.now.graph in
    let image = bits c.args.live.now.image in
    let flips = bits_of_list c.args.flips.now in
    let sources = c.deref.result.now in
    let behind = c.deref-2.result.now in
    let short : (x : ℕ) → In sources x ↔ IsShortSourceIn graph image flips x =
    subst (λ (xs : List ℕ). (x : ℕ) → In xs x ↔ IsShortSourceIn graph image flips x) (sym c.deref.ensures.value) c.in_ok-sources.ensures in
    let back : (w : ℕ) → In behind w ↔ IsBehind graph image sources w =
    subst (λ (xs : List ℕ). (w : ℕ) → In xs w ↔ IsBehind graph image sources w) (sym c.deref-2.ensures.value) c.in_ok-behind.ensures in
    if_ok c.joined.result (λ v. AreThose (λ w. In c.args.hit.now w ⊎ In behind w) v.items) (λ v. AreThose (IsDisturbedIn graph image flips) v.items)
    (λ v all. are_disturbed graph image flips c.args.hit.now sources behind v.items c.requires short back all) c.joined.ensures
