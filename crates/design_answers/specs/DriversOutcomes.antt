-- What `drivers` answers: the refusal of its file, or for each mux of the database the sources that it chooses. (Our own.)
use Rattle.std.specs.Prelude.{ℕ, List, [], Result, Ok, Err}
use Rattle.patterns.specs.Bits.{DeviceBit, bits_of_list}
use Rattle.records.specs.Database.{TileDb}
use Rattle.answers.specs.Answers.{Done}
use Rattle.answers.specs.Refusals.{Refusal}
use Rattle.answers.specs.Drivers.{drivers_text}
use Rattle.records.specs.Limits.{most_database_bytes}
use Rattle.design_files.specs.Parsed.{Files, parsed, read_database}
use Rattle.design_answers.specs.Outcomes.{Outcome, refused}

abbrev pub drivers_of : List DeviceBit → Result TileDb Refusal → Outcome
drivers_of bits (Ok database) = record { status = Done; text = drivers_text (bits_of_list bits) database.muxes; written = [] }
drivers_of bits (Err refusal) = refused refusal

abbrev pub drivers_outcome : Files → List ℕ → List DeviceBit → Outcome
drivers_outcome files name bits = drivers_of bits (parsed name most_database_bytes (read_database name) (files name))
