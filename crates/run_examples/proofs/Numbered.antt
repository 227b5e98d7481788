-- The text of the crossed toggle is read with the numbers of its lines, and its files are accepted so.
use Rattle.std.proofs.Common.{◌≡◌, refl, subst}
use Rattle.std.specs.Prelude.{Result, Ok}
use Rattle.records.specs.Config.{Config}
use Rattle.fabric_laws.specs.PlainGraph.{graph_of}
use Rattle.mini.specs.MiniA.{mini_a}
use Rattle.mini.specs.Toggle.{crossed}
use Rattle.mini.specs.ToggleCells.{toggle_cells}
use Rattle.config_grammar.specs.ConfigText.{ConfigFault, configuration_of}
use Rattle.config_grammar.specs.ConfigPrint.{config_text}
use Rattle.design_checks.specs.DesignChecks.{IsAccepted}
use Rattle.hardening_examples.specs.CrossedFiles.{crossed_files, crossed_inputs}
use Rattle.hardening_examples.proofs.AcceptedFiles.{crossed_accepted, accepted_text, accepted_device, accepted_side}
use Rattle.run_examples.specs.Numbered.{crossed_numbered, numbered_design}

pub crossed_is_numbered : configuration_of (config_text crossed) ≡ Ok crossed_numbered
crossed_is_numbered = refl

one_config : (r : Result Config ConfigFault) (c d : Config) → r ≡ Ok c → r ≡ Ok d → c ≡ d
one_config r c d a b = cc

same_config : crossed_accepted.0.config ≡ crossed_numbered
same_config = one_config (configuration_of (config_text crossed)) crossed_accepted.0.config crossed_numbered accepted_text crossed_is_numbered

same_design : crossed_accepted.0 ≡ numbered_design
same_design i = record { config = same_config i; device = accepted_device i; side = accepted_side i }

pub numbered_accepted : IsAccepted crossed_files crossed_inputs numbered_design (graph_of mini_a) (toggle_cells (graph_of mini_a))
numbered_accepted = subst (λ d. IsAccepted crossed_files crossed_inputs d (graph_of mini_a) (toggle_cells (graph_of mini_a))) same_design crossed_accepted.1
