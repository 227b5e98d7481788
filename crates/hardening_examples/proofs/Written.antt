-- The bytes of the toggle and its side file harden the crossed toggle.
use Rattle.std.proofs.Common.{[], ◌∷◌, map, refl, arith}
use Rattle.fabric_laws.specs.PlainGraph.{graph_of}
use Rattle.fabric_laws.proofs.Members.{all_from}
use Rattle.mini.specs.MiniA.{mini_a}
use Rattle.mini.specs.Toggle.{crossed, toggle, toggle_side}
use Rattle.mini.specs.ToggleCells.{toggle_cells}
use Rattle.config_grammar.specs.ConfigText.{arc_key}
use Rattle.config_grammar.specs.ConfigPrint.{config_text}
use Rattle.side_form.specs.SidePrint.{side_text}
use Rattle.attempts.specs.Attempts.{AttemptComplete}
use Rattle.design_answers.specs.Headline.{AreHardened}
use Rattle.formed_examples.proofs.Databases.{device_read}
use Rattle.route_examples.specs.Crossed.{with_cells}
use Rattle.route_examples.proofs.Mended.{answered}
use Rattle.text_laws.specs.Formed.{IsFormedText}
use Rattle.text_examples.proofs.Formed.{section_stands, section_right, are_rising, rising_right}
use Rattle.written_laws.specs.Written.{MayBeHardened}
use Rattle.written_laws.proofs.Written.{are_hardened}
use Rattle.hardening_examples.specs.CrossedDesign.{crossed_design, by_default}
use Rattle.hardening_examples.proofs.Hardened.{crossed_sound}

pub crossed_formed : IsFormedText crossed
crossed_formed = record {
  device = refl;
  heads = λ h i. absurd i;
  sections = λ t i. section_right t (all_from section_stands crossed.tiles refl t i);
  order = record {
    tiles = rising_right (map (λ t. t.tile) crossed.tiles) refl;
    arcs = λ t i. rising_right (map arc_key t.arcs) (all_from (λ t. are_rising (map arc_key t.arcs)) crossed.tiles refl t i);
  };
  few = omega arith;
}

pub crossed_may_be_hardened : MayBeHardened crossed_design (graph_of mini_a) (toggle_cells (graph_of mini_a)) by_default
crossed_may_be_hardened = record { sound = crossed_sound; device = device_read; text = crossed_formed; small = refl; lines = refl }

pub bytes_harden : AreHardened crossed_design (graph_of mini_a) (toggle_cells (graph_of mini_a)) (config_text toggle) (side_text toggle_side)
bytes_harden = are_hardened by_default crossed_design (graph_of mini_a) (toggle_cells (graph_of mini_a)) crossed_may_be_hardened (AttemptComplete ∷ []) (with_cells (graph_of mini_a) toggle) 8 answered
