use Rattle.fixed_links.proofs.Tiles.{kind_is, kind_lent}
use Rattle.fixed_links.proofs.gather.type_of.Goals as goal

pub unwrap-requires : goal.unwrap-requires
unwrap-requires c = kind_lent c.args.numbers.now c.types.result.now c.args.tile c.of_tile.result c.types.ensures c.requires c.of_tile.ensures

pub returns : goal.returns
returns c = kind_is c.args.numbers.now c.types.result.now c.args.tile c.of_tile.result c.unwrap.result c.types.ensures c.requires c.of_tile.ensures c.unwrap.ensures
