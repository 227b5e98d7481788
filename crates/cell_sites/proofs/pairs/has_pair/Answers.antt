use Rattle.std.proofs.Common.{bytes_eq}
use Rattle.std.specs.Prelude.{◌&&◌}
use Rattle.cell_sites.proofs.Pairing.{is_there}
use Rattle.cell_sites.proofs.pairs.has_pair.Goals as goal

pub returns : goal.returns
returns g c = λ items held.
    is_there (λ x. bytes_eq (g.T.Paired.first x) c.args.first.now && bytes_eq (g.T.Paired.second x) c.args.second.now) items c.pair_named.result c.is_some.result (c.pair_named.ensures items held) c.is_some.ensures
