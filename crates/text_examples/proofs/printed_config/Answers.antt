use Rattle.std.proofs.Common.{refl}
use Rattle.config_grammar.specs.Examples.{loose_text, worked_config}
use Rattle.text_laws.specs.Formed.{IsFormedText}
use Rattle.text_laws.specs.Printed.{IsReadConfig}
use Rattle.text_laws.proofs.ConfigPrinted.{printed_says}
use Rattle.text_laws.proofs.NoFaults.{printed_read}
use Rattle.text_laws.proofs.ReadFormed.{read_formed}
use Rattle.text_examples.proofs.printed_config.Goals as goal

worked_read : IsReadConfig worked_config
worked_read = (loose_text, refl)

worked_formed : IsFormedText worked_config
worked_formed = read_formed worked_config worked_read

pub returns : goal.returns
returns c = record { read = worked_read; says = printed_says worked_config worked_formed; heads = refl; again = printed_read worked_config worked_formed }
