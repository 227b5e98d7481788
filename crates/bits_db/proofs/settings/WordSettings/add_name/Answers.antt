use Rattle.records.specs.Database.{WordSetting}
use Rattle.bits_db.proofs.Names.{names_with_one}
use Rattle.bits_db.proofs.Entries.{last_is_there}
use Rattle.bits_db.proofs.settings.WordSettings.add_name.Goals as goal

pub returns-clause-open : goal.returns-clause-open
returns-clause-open c = last_is_there _ _ _ c.in_ok-push.ensures.ok

pub returns-clause-known : goal.returns-clause-known
returns-clause-known c =
    let word : WordSetting = record { name = c.in_ok-name.name; bits = c.new-bits.result } in
    rw c.in_ok-push.ensures.ok (names_with_one (λ (w : WordSetting). w.name) c.args.self.now.settings word c.args.self.now.names c.insert.new.self c.args.name c.in_ok-name.ensures c.requires.known c.in_ok-insert.ensures.known)
