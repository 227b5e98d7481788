-- The crossed toggle is a sound job, and its repair hardens it.
use Rattle.std.proofs.Common.{[], ◌∷◌}
use Rattle.fabric_laws.specs.PlainGraph.{graph_of}
use Rattle.mini.specs.MiniA.{mini_a}
use Rattle.mini.specs.Toggle.{crossed, toggle}
use Rattle.repair.specs.Layouts.{configured}
use Rattle.attempts.specs.Attempts.{AttemptComplete}
use Rattle.design_answers.specs.Headline.{Hardens}
use Rattle.formed_laws.proofs.Names.{device_names_once}
use Rattle.upset_examples.proofs.Conditions.{crossed_clean}
use Rattle.formed_examples.proofs.Databases.{device_read}
use Rattle.route_examples.specs.Crossed.{with_cells, crossed_job}
use Rattle.route_examples.proofs.Mended.{answered}
use Rattle.headline_laws.specs.Sound.{IsSoundJob}
use Rattle.headline_laws.proofs.Hardened.{hardened_design_keeps_outputs}
use Rattle.hardening_examples.proofs.CrossedMeets.{crossed_read, crossed_agrees, crossed_modelled, crossed_triplicated}

pub crossed_sound : IsSoundJob (crossed_job (graph_of mini_a))
crossed_sound = record {
  read = crossed_read;
  names = device_names_once mini_a device_read;
  clean = crossed_clean;
  agree = crossed_agrees;
  modelled = crossed_modelled;
  triplicated = crossed_triplicated;
}

pub crossed_hardened : Hardens (configured (with_cells (graph_of mini_a) crossed)) (configured (with_cells (graph_of mini_a) toggle))
crossed_hardened = hardened_design_keeps_outputs (crossed_job (graph_of mini_a)) crossed_sound (AttemptComplete ∷ []) (with_cells (graph_of mini_a) toggle) 8 answered
