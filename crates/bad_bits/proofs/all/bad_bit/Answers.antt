use Rattle.std.proofs.Common.{◌≡◌, ◌↔◌, true, [], ◌∷◌, None, Some, sym, subst}
use Rattle.patterns.specs.Bits.{Bits, bits_of_list}
use Rattle.records.specs.Side.{Domain, D0, D1, D2}
use Rattle.rr_ids.specs.Domains.{domain_of}
use Rattle.upset.specs.Safe.{FlipsHave, only}
use Rattle.upset_effect.specs.Effects.{IsEffectOf}
use Rattle.flip_domains.specs.Sets.{has_domain}
use Rattle.bad_bits.specs.Found.{PlacesOrNone, two_of}
use Rattle.bad_bits.proofs.Single.{one_bit}
use Rattle.bad_bits.proofs.Pairing.{found_bad, no_two, two_least}
use Rattle.bad_bits.proofs.all.bad_bit.Goals as goal

pub returns-in_default : goal.returns-in_default
returns-in_default g c = λ k of_graph of_image of_cells labels apart.
    let s = c.in_ok-domains.domains in
    let bit = c.args.bit in
    let are : (d : Domain) → (has_domain s d ≡ true) ↔ FlipsHave k (only bit) d =
    subst (λ (flips : Bits). (d : Domain) → (has_domain s d ≡ true) ↔ FlipsHave k flips d) (one_bit bit) (c.in_ok-domains.ensures k of_graph of_image of_cells labels apart) in
    let none : two_of (has_domain s D0) (has_domain s D1) (has_domain s D2) ≡ None = sym c.in_default.ensures in
    no_two (FlipsHave k (only bit)) (has_domain s D0) (has_domain s D1) (has_domain s D2) (are D0) (are D1) (are D2) none

pub returns : goal.returns
returns g c = λ k of_graph of_image of_cells labels apart.
    let s = c.in_ok-domains.domains in
    let bit = c.args.bit in
    let first = domain_of c.in-Some.first in
    let second = domain_of c.in-Some.second in
    let are : (d : Domain) → (has_domain s d ≡ true) ↔ FlipsHave k (only bit) d =
    subst (λ (flips : Bits). (d : Domain) → (has_domain s d ≡ true) ↔ FlipsHave k flips d) (one_bit bit) (c.in_ok-domains.ensures k of_graph of_image of_cells labels apart) in
    let two : two_of (has_domain s D0) (has_domain s D1) (has_domain s D2) ≡ Some (first, second) = sym c.in-Some.ensures in
    let effect : IsEffectOf k (bits_of_list (bit ∷ [])) c.in_ok-effect.effect = c.in_ok-effect.ensures k of_graph of_image of_cells in
    found_bad k bit first second (two_least (FlipsHave k (only bit)) (has_domain s D0) (has_domain s D1) (has_domain s D2) (are D0) (are D1) (are D2) (first, second) two) c.bad_at.result
    (subst (λ (flips : Bits). PlacesOrNone k flips bit first second c.bad_at.result) (one_bit bit) (c.bad_at.ensures k of_cells labels apart effect))
