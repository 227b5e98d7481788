use Rattle.text_laws.proofs.PrintedParts.{its_heads_are, its_device_is, its_sections_are}
use Rattle.text_laws.proofs.printed_config_has_its_parts.Goals as goal

pub returns-clause-heads : goal.returns-clause-heads
returns-clause-heads c = its_heads_are

pub returns-clause-device : goal.returns-clause-device
returns-clause-device c = its_device_is

pub returns-clause-sections : goal.returns-clause-sections
returns-clause-sections c = its_sections_are
