-- A run of `harden` over the files of the crossed toggle. (Our own.)
use Rattle.std.specs.Prelude.{ℕ, List, [], ◌∷◌, codes}
use Rattle.config_grammar.specs.ConfigPrint.{config_text}
use Rattle.side_form.specs.SidePrint.{side_text}
use Rattle.answers.specs.Answers.{Done}
use Rattle.design_answers.specs.Outcomes.{Outcome, file}
use Rattle.mini.specs.Toggle.{toggle, toggle_side}

abbrev pub crossed_words : List (List ℕ)
crossed_words =
    codes "harden"
    ∷ codes "--family" ∷ codes "db" ∷ codes "--profile" ∷ codes "profile.json" ∷ codes "--side" ∷ codes "crossed.json" ∷ codes "--config" ∷ codes "crossed.config"
    ∷ codes "--out" ∷ codes "out.config" ∷ codes "--side-out" ∷ codes "out.json" ∷ codes "--cut-out" ∷ codes "cut.txt" ∷ []

-- the report, and the toggle with its side file
abbrev pub crossed_outcome : Outcome
crossed_outcome = record {
  status = Done;
  text = codes "hardened\nattempt 1 complete\nconnections 8\n";
  written = file (codes "out.config") (config_text toggle) ∷ file (codes "out.json") (side_text toggle_side) ∷ [];
}
