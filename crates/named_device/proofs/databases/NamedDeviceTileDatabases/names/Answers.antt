use Rattle.std.proofs.Common.{ap, ◌∙◌}
use Rattle.std.specs.Option.{option_copied}
use Rattle.record_laws.specs.Records.{db_at}
use Rattle.device_numbers.specs.Numbered.{Numbered}
use Rattle.named_device.specs.Kept.{kept_at}
use Rattle.named_device.proofs.OfTypes.{names_are}
use Rattle.named_device.proofs.databases.NamedDeviceTileDatabases.names.Goals as goal

pub returns : goal.returns
returns c =
    let k = c.self.inside in
    let types = c.types.result.now in
    let kept = c.names_of_tile.ensures ∙ ap (λ dbs. kept_at dbs types c.args.t) c.as_slice.ensures.value in
    names_are k.numbers.device types k.names.items c.args.t (option_copied c.names_of_tile.result) c.types.ensures c.self.invariant.dbs_are kept ∙ ap (λ (n : Numbered). db_at n.device c.args.t) c.self.view_is
