-- The crossed toggle is accepted from its files on.
use Rattle.std.proofs.Common.{◌≡◌, ℕ, List, length, refl, sym, ap, subst, ◌∙◌}
use Rattle.std.specs.Prelude.{Ok}
use Rattle.std.specs.Str.{is_utf8, chars}
use Rattle.std.proofs.lemmas.Bool.{leb-true}
use Rattle.serde_json.proofs.OnLiterals.{serde_json_on_literals}
use Rattle.records.specs.Limits.{most_config_bytes, most_json_bytes}
use Rattle.json_forms.specs.Values.{reading_of}
use Rattle.json_forms.specs.MiniGrid.{mini_grid_text}
use Rattle.json_forms.specs.Places.{place_of}
use Rattle.json_forms.specs.Tiles.{tile_in, tile_of}
use Rattle.json_forms.specs.Grid.{grid_of_members, grid_of}
use Rattle.fabric.specs.Device.{Device}
use Rattle.fabric.specs.GraphOf.{IsGraph}
use Rattle.fabric.specs.Image.{image_of}
use Rattle.fabric_laws.specs.PlainGraph.{graph_of}
use Rattle.fabric_laws.proofs.Graphs.{has_graph}
use Rattle.cells.specs.CellsOf.{cells_of}
use Rattle.upset.specs.Configured.{Configured}
use Rattle.mini.specs.MiniA.{mini_a}
use Rattle.mini.specs.Toggle.{crossed, toggle_side}
use Rattle.mini.specs.ToggleCells.{toggle_cells}
use Rattle.config_grammar.specs.ConfigText.{configuration_of}
use Rattle.config_grammar.specs.ConfigPrint.{config_text}
use Rattle.side_form.specs.SidePrint.{side_text}
use Rattle.design_files.specs.Names.{grid_name, types_of}
use Rattle.design_files.specs.Parsed.{or_refused, parsed, form_refusal, read_grid, read_profile}
use Rattle.design_files.specs.Designs.{Design, databases_in, design_of}
use Rattle.design_checks.specs.DesignChecks.{configured_as, IsAccepted}
use Rattle.formed_examples.specs.Texts as texts
use Rattle.formed_examples.proofs.Texts.{profile_is, side_is}
use Rattle.check_laws.specs.Accepted.{IsSound}
use Rattle.text_laws.proofs.SidePrinted.{side_formed}
use Rattle.check_laws.proofs.FilesParsed.{parsed_read}
use Rattle.written_laws.specs.Written.{IsReadAgain}
use Rattle.written_laws.proofs.Written.{sound_is_read_again}
use Rattle.written_laws.proofs.Later.{short_read, config_short, side_short}
use Rattle.hardening_examples.specs.CrossedDesign.{crossed_design}
use Rattle.hardening_examples.specs.CrossedFiles.{crossed_inputs, crossed_files}
use Rattle.hardening_examples.proofs.Hardened.{crossed_sound}
use Rattle.hardening_examples.proofs.Written.{crossed_formed}

crossed_is_sound : IsSound mini_a crossed (configured_as crossed_design (graph_of mini_a) (toggle_cells (graph_of mini_a)))
crossed_is_sound = record { read = crossed_sound.read; clean = crossed_sound.clean; agree = crossed_sound.agree; modelled = crossed_sound.modelled; triplicated = crossed_sound.triplicated }

read_again : IsReadAgain crossed_design (graph_of mini_a) (config_text crossed) (side_text toggle_side)
read_again = sound_is_read_again crossed_design (graph_of mini_a) (toggle_cells (graph_of mini_a)) crossed_is_sound crossed_formed (side_formed toggle_side crossed_sound.read.side) refl refl

-- ---- the files of the device

grid_is : grid_of mini_grid_text ≡ Ok mini_a.grid
unfolding reading_of is_utf8 chars serde_json_on_literals tile_in tile_of grid_of_members place_of
grid_is = refl

types_are : databases_in crossed_files crossed_inputs.family (types_of mini_a.grid) ≡ Ok mini_a.types
types_are = refl

pub crossed_accepted : (design : Design) × IsAccepted crossed_files crossed_inputs design (graph_of mini_a) (toggle_cells (graph_of mini_a))
crossed_accepted = (
  read_again.again,
  record {
    read = there ∙ ap (λ d. Ok d) same;
    graph = subst (λ d. IsGraph d (graph_of mini_a)) (sym read_again.device) (has_graph mini_a);
    cells_there = subst (λ (d : Device). cells_of (graph_of mini_a) d.profile (image_of (graph_of mini_a) read_again.again.config) read_again.again.side ≡ Ok (toggle_cells (graph_of mini_a))) (sym read_again.device)
        (subst (λ (k : Configured). cells_of k.graph mini_a.profile k.image k.side ≡ Ok k.cells) configured_again crossed_sound.read.cells);
    passes = read_again.passes;
  },
)
  where
    grid_file : List ℕ
    grid_file = grid_name crossed_inputs.family crossed.device

    its : Design
    its = record { config = read_again.again.config; device = mini_a; side = toggle_side }

    same : its ≡ read_again.again
    same = sym (λ i. let d : Design = record { config = read_again.again.config; device = read_again.device i; side = read_again.side_stays i } in d)

    configured_again : configured_as crossed_design (graph_of mini_a) (toggle_cells (graph_of mini_a)) ≡ configured_as read_again.again (graph_of mini_a) (toggle_cells (graph_of mini_a))
    configured_again i = record { graph = graph_of mini_a; image = sym read_again.image i; cells = toggle_cells (graph_of mini_a); side = sym read_again.side_stays i }

    there : design_of crossed_files crossed_inputs ≡ Ok its
    there =
        parsed_read crossed_files crossed_inputs its (record {
          config = config_short crossed_files crossed_inputs.config (config_text crossed) read_again.again.config refl (leb-true (length (config_text crossed)) most_config_bytes refl) read_again.text_read;
          grid =
              ap (λ name. parsed name most_json_bytes (read_grid name) (crossed_files name)) (ap (grid_name crossed_inputs.family) read_again.device_named)
              ∙ short_read grid_file most_json_bytes (read_grid grid_file) (crossed_files grid_file) mini_grid_text mini_a.grid refl (leb-true (length mini_grid_text) most_json_bytes refl) (ap (or_refused (form_refusal grid_file)) grid_is);
          profile = short_read crossed_inputs.profile most_json_bytes (read_profile crossed_inputs.profile) (crossed_files crossed_inputs.profile) texts.profile_text mini_a.profile refl (leb-true (length texts.profile_text) most_json_bytes refl) (ap (or_refused (form_refusal crossed_inputs.profile)) profile_is);
          side = side_short crossed_files crossed_inputs.side texts.side_text toggle_side refl (leb-true (length texts.side_text) most_json_bytes refl) side_is;
          types = types_are;
        })

-- the design that is accepted: its text as it is read, on MINI-A, with the toggle's side file
pub accepted_text : configuration_of (config_text crossed) ≡ Ok crossed_accepted.0.config
unfolding crossed_accepted
accepted_text = read_again.text_read

pub accepted_device : crossed_accepted.0.device ≡ mini_a
unfolding crossed_accepted
accepted_device = read_again.device

pub accepted_side : crossed_accepted.0.side ≡ toggle_side
unfolding crossed_accepted
accepted_side = read_again.side_stays
