use Rattle.records.specs.Database.{EnumOption, EnumSetting}
use Rattle.bits_db.proofs.Names.{names_with_one, no_entry_at_head}
use Rattle.bits_db.proofs.enums.Enums.add_name.Goals as goal

pub returns-clause-known : goal.returns-clause-known
returns-clause-known c =
    let enum : EnumSetting = record { name = c.in_ok-name.name; default = c.in_ok-default.default; options = c.new-options.result } in
    record {
      names = rw c.in_ok-push.ensures.ok (names_with_one (λ (e : EnumSetting). e.name) c.args.self.now.enums enum c.args.self.now.names c.insert.new.self c.args.name c.in_ok-name.ensures c.requires.known.names c.in_ok-insert.ensures.known);
      entries = rw c.in_ok-push.ensures.ok (no_entry_at_head (λ (o : EnumOption). o.value) (λ (e : EnumSetting). e.options) c.args.self.now.enums enum c.clear.new.self c.clear.ensures c.new-options.ensures);
    }
