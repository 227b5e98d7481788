use Rattle.std.proofs.Common.{◌≡◌, ◌∷◌, ◌++◌, [], List, true, false, Ok, Some, length, nat_lt, refl, sym, ap, ◌∙◌}
use Rattle.records.specs.Database.{EnumOption, EnumSetting}
use Rattle.records.specs.Limits.{most_pattern_bits}
use Rattle.grammars.specs.BitsDb.{has_enum, has_value}
use Rattle.grammars.specs.RowByRow.{with_option}
use Rattle.grammars.proofs.Lasts.{with_last_pushed}
use Rattle.bits_db.specs.Known.{last_options}
use Rattle.bits_db.proofs.Names.{not_true, entry_known, entries_with_one, names_with_last}
use Rattle.bits_db.proofs.Entries.{long_option, new_option}
use Rattle.bits_db.proofs.enums.Enums.add_option.Goals as goal

pub returns-then-is_too_long-clause-enums : goal.returns-then-is_too_long-clause-enums
returns-then-is_too_long-clause-enums c =
    let known = not_true _ (sym c.in_ok-insert.ensures.added ∙ c.if-not-branch.false) in
    let has = entry_known (λ (o : EnumOption). o.value) (λ (e : EnumSetting). e.options) c.args.self.now.enums c.pop.new.self c.in-Some.setting c.args.self.now.values c.args.option.value c.args.value false c.in-Some.ensures c.requires.value c.requires.known.entries known in
    let bits = ap (λ (o : EnumOption). nat_lt most_pattern_bits (length o.bits)) c.option.view_is in
    let long : nat_lt most_pattern_bits (length c.args.option.bits) ≡ true = sym bits ∙ sym c.is_too_long.ensures ∙ c.if-is_too_long.true in
    long_option c.args.number c.args.self.now.enums c.pop.new.self c.in-Some.setting c.args.option _ c.in-Some.ensures has long

pub returns-clause-known : goal.returns-clause-known
returns-clause-known c =
    let enums = c.args.self.now.enums in
    let front = c.pop.new.self in
    let setting = c.in-Some.setting in
    let option = c.args.option in
    let change : EnumSetting → EnumSetting = λ m. record { name = m.name; default = m.default; options = m.options ++ option ∷ [] } in
    let pushed : c.push.new.self ≡ c.setting.inside.options ++ option ∷ [] = c.in_ok-push.ensures.ok in
    let stored : c.push-2.new.self ≡ front ++ record { name = c.setting.inside.name; default = c.setting.inside.default; options = c.push.new.self } ∷ [] = c.in_ok-push-2.ensures.ok in
    let new : c.push-2.new.self ≡ front ++ change setting ∷ [] =
    stored ∙ ap (λ options. front ++ record { name = c.setting.inside.name; default = c.setting.inside.default; options = options } ∷ []) pushed
    ∙ ap (λ (m : EnumSetting). front ++ change m ∷ []) c.setting.view_is in
    let all : c.push-2.new.self ≡ with_option enums (Some option) = new ∙ sym (with_last_pushed change front setting) ∙ ap (λ es. with_option es (Some option)) (sym c.in-Some.ensures) in
    record {
      names = λ q. c.requires.known.names q ∙ sym (ap (λ es. has_enum es q) all ∙ names_with_last (λ (e : EnumSetting). e.name) change (λ m. refl) enums q);
      entries = λ q.
          entries_with_one (λ (o : EnumOption). o.value) (λ (e : EnumSetting). e.options) front setting (change setting) option c.args.self.now.values c.insert.new.self c.args.value c.requires.value refl
          (λ p. c.requires.known.entries p ∙ ap (λ es. has_value (last_options es) p) c.in-Some.ensures)
          c.in_ok-insert.ensures.known q
          ∙ ap (λ es. has_value (last_options es) q) (sym new);
    }

pub returns-clause-enums : goal.returns-clause-enums
returns-clause-enums c =
    let front = c.pop.new.self in
    let setting = c.in-Some.setting in
    let option = c.args.option in
    let change : EnumSetting → EnumSetting = λ m. record { name = m.name; default = m.default; options = m.options ++ option ∷ [] } in
    let pushed : c.push.new.self ≡ c.setting.inside.options ++ option ∷ [] = c.in_ok-push.ensures.ok in
    let stored : c.push-2.new.self ≡ front ++ record { name = c.setting.inside.name; default = c.setting.inside.default; options = c.push.new.self } ∷ [] = c.in_ok-push-2.ensures.ok in
    let new : c.push-2.new.self ≡ front ++ change setting ∷ [] =
    stored ∙ ap (λ options. front ++ record { name = c.setting.inside.name; default = c.setting.inside.default; options = options } ∷ []) pushed
    ∙ ap (λ (m : EnumSetting). front ++ change m ∷ []) c.setting.view_is in
    let split : c.args.self.now.enums ≡ front ++ setting ∷ [] = c.in-Some.ensures in
    let all : with_option c.args.self.now.enums (Some option) ≡ c.push-2.new.self = ap (λ es. with_option es (Some option)) split ∙ with_last_pushed change front setting ∙ sym new in
    let known = not_true _ (sym c.in_ok-insert.ensures.added ∙ c.if-not-branch.false) in
    let has = entry_known (λ (o : EnumOption). o.value) (λ (e : EnumSetting). e.options) c.args.self.now.enums front setting c.args.self.now.values option.value c.args.value false c.in-Some.ensures c.requires.value c.requires.known.entries known in
    let bits = ap (λ (o : EnumOption). nat_lt most_pattern_bits (length o.bits)) c.option.view_is in
    let short : nat_lt most_pattern_bits (length option.bits) ≡ false = sym bits ∙ sym c.is_too_long.ensures ∙ c.if-is_too_long.false in
    new_option c.args.number c.args.self.now.enums front setting option (with_option c.args.self.now.enums (Some option)) split has short ∙ ap (λ (es : List EnumSetting). Ok es) all
