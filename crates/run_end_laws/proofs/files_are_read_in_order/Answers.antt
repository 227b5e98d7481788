use Rattle.run_end_laws.proofs.Reading.{after_config, after_profile, is_database}
use Rattle.run_end_laws.proofs.files_are_read_in_order.Goals as goal

pub returns-clause-after_config : goal.returns-clause-after_config
returns-clause-after_config c = after_config

pub returns-clause-after_profile : goal.returns-clause-after_profile
returns-clause-after_profile c = after_profile

pub returns-clause-databases : goal.returns-clause-databases
returns-clause-databases c = is_database
