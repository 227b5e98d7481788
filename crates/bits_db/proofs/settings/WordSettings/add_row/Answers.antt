use Rattle.std.proofs.Common.{◌≡◌, ◌∷◌, ◌++◌, [], List, false, Ok, Some, length, nat_lt, sym, ap, ◌∙◌}
use Rattle.records.specs.Database.{WordSetting}
use Rattle.records.specs.Limits.{most_pattern_bits}
use Rattle.grammars.specs.RowByRow.{with_bits}
use Rattle.grammars.proofs.Lasts.{with_last_pushed}
use Rattle.bits_db.proofs.Entries.{new_bits, last_is_there}
use Rattle.bits_db.proofs.settings.WordSettings.add_row.Goals as goal

pub returns-clause-words : goal.returns-clause-words
returns-clause-words c =
    let front = c.pop.new.self in
    let setting = c.in-Some-pop.setting in
    let bits = c.in-Some.bits in
    let change : WordSetting → WordSetting = λ w. record { name = w.name; bits = w.bits ++ bits ∷ [] } in
    let pushed : c.push.new.self ≡ c.setting.inside.bits ++ bits ∷ [] = c.in_ok-push.ensures.ok in
    let stored : c.push-2.new.self ≡ front ++ record { name = c.setting.inside.name; bits = c.push.new.self } ∷ [] = c.in_ok-push-2.ensures.ok in
    let new : c.push-2.new.self ≡ front ++ change setting ∷ [] =
    stored ∙ ap (λ more. front ++ record { name = c.setting.inside.name; bits = more } ∷ []) pushed
    ∙ ap (λ (w : WordSetting). front ++ change w ∷ []) c.setting.view_is in
    let all : with_bits c.args.self.now.settings (Some bits) ≡ c.push-2.new.self =
    ap (λ ws. with_bits ws (Some bits)) c.in-Some-pop.ensures ∙ with_last_pushed change front setting ∙ sym new in
    let short : nat_lt most_pattern_bits (length bits) ≡ false = sym c.is_too_long.ensures ∙ c.if-is_too_long.false in
    new_bits c.args.number c.args.self.now.settings _ bits (sym c.in-Some.is ∙ c.in_ok-bits.ensures) short ∙ ap (λ (ws : List WordSetting). Ok ws) all

pub returns-clause-open : goal.returns-clause-open
returns-clause-open c = last_is_there _ _ _ c.in_ok-push-2.ensures.ok
