use Rattle.patterns.specs.Bits.{bits_of_list}
use Rattle.flip_domains.proofs.Flipping.{bad_is}
use Rattle.flip_domains.proofs.flips.is_bad.Goals as goal

pub returns : goal.returns
returns g c = λ k of_graph of_image of_cells labels apart.
    bad_is k (bits_of_list c.args.flips.now) c.in_ok-domains.domains c.has_two.result (c.in_ok-domains.ensures k of_graph of_image of_cells labels apart) c.has_two.ensures
