-- A later run accepts what was written.
use Rattle.std.proofs.Common.{◌≡◌, ◌≤◌, ℕ, List, [], ◌∷◌, length, Option, Some, refl, sym, ap, ap₂, subst, ◌∙◌, le-ltb}
use Rattle.std.specs.Prelude.{Result, Ok, Err, if◌then◌else◌}
use Rattle.records.specs.Side.{Side}
use Rattle.records.specs.Config.{Config}
use Rattle.records.specs.Limits.{most_config_bytes, most_json_bytes}
use Rattle.fabric.specs.Device.{TypeDb}
use Rattle.fabric.specs.Graph.{Graph}
use Rattle.fabric.specs.GraphOf.{IsGraph}
use Rattle.circuit.specs.Cells.{Cells}
use Rattle.json_forms.specs.Results.{◌>>=◌}
use Rattle.config_grammar.specs.ConfigText.{configuration_of}
use Rattle.side_form.specs.Side.{side_of}
use Rattle.answers.specs.Refusals.{Refusal, TooLong}
use Rattle.commands.specs.Commands.{Inputs}
use Rattle.design_files.specs.Names.{grid_name, database_name, types_of}
use Rattle.design_files.specs.Parsed.{Files, or_refused, parsed, config_refusal, side_refusal, read_config, read_grid, read_profile, read_side}
use Rattle.design_files.specs.Designs.{Design, database_in, databases_in, design_of}
use Rattle.design_checks.specs.DesignChecks.{IsAccepted}
use Rattle.design_answers.specs.Headline.{AreHardened}
use Rattle.check_laws.proofs.Accepted.{accepted_sound}
use Rattle.check_laws.proofs.FilesParsed.{parsed_read}
use Rattle.headline_laws.proofs.Reading.{FilesRead, files_read}
use Rattle.written_laws.specs.Written.{IsLaterRun, AcceptsHardened}

-- a file that is there and short is read
pub short_read : {X : Type 0} (name : List ℕ) (most : ℕ) (read : List ℕ → Result X Refusal) (o : Option (List ℕ)) (bytes : List ℕ) (x : X) → o ≡ Some bytes → length bytes ≤ most → read bytes ≡ Ok x
    → parsed name most read o ≡ Ok x
short_read name most read o bytes x there short e =
    ap (parsed name most read) there ∙ (ap (λ b. if b then Err (TooLong name) else read bytes) (le-ltb most (length bytes) short) ∙ e)

same_databases : (files later : Files) (family : List ℕ) → ((kind : List ℕ) → later (database_name family kind) ≡ files (database_name family kind))
    → (kinds : List (List ℕ)) → databases_in later family kinds ≡ databases_in files family kinds
same_databases files later family stand [] = refl
same_databases files later family stand (kind ∷ kinds) =
    ap₂ (λ (o : Option (List ℕ)) (ds : Result (List TypeDb) Refusal). database_in (database_name family kind) o >>= λ db. ds >>= λ rest. Ok (record { kind = kind; db = db } ∷ rest))
    (stand kind) (same_databases files later family stand kinds)

-- what is printed and short is there as it is read
pub config_short : (files : Files) (name text : List ℕ) (config : Config) → files name ≡ Some text → length text ≤ most_config_bytes → configuration_of text ≡ Ok config
    → parsed name most_config_bytes (read_config name) (files name) ≡ Ok config
config_short files name text config there short e = short_read name most_config_bytes (read_config name) (files name) text config there short (ap (or_refused (config_refusal name)) e)

pub side_short : (files : Files) (name text : List ℕ) (side : Side) → files name ≡ Some text → length text ≤ most_json_bytes → side_of text ≡ Ok side
    → parsed name most_json_bytes (read_side name) (files name) ≡ Ok side
side_short files name text side there short e = short_read name most_json_bytes (read_side name) (files name) text side there short (ap (or_refused (side_refusal name)) e)

module _ (files later : Files) (inputs again : Inputs) (design : Design) (text side : List ℕ) (read : FilesRead files inputs design) (run : IsLaterRun files later inputs again design.config.device text side)
    (config : Config) (its_side : Side) (text_read : configuration_of text ≡ Ok config) (side_read : side_of side ≡ Ok its_side) (same_device : config.device ≡ design.config.device) where
  grid_stays : (let name = grid_name again.family config.device in parsed name most_json_bytes (read_grid name) (later name)) ≡ Ok design.device.grid
  grid_stays =
      let name = grid_name inputs.family design.config.device in
      ap (λ n. parsed n most_json_bytes (read_grid n) (later n)) (ap₂ grid_name run.family same_device)
      ∙ (ap (parsed name most_json_bytes (read_grid name)) run.grid_stands ∙ read.parts.grid)

  profile_stays : parsed again.profile most_json_bytes (read_profile again.profile) (later again.profile) ≡ Ok design.device.profile
  profile_stays =
      ap (λ n. parsed n most_json_bytes (read_profile n) (later n)) run.profile
      ∙ (ap (parsed inputs.profile most_json_bytes (read_profile inputs.profile)) run.profile_stands ∙ read.parts.profile)

  types_stay : databases_in later again.family (types_of design.device.grid) ≡ Ok design.device.types
  types_stay =
      ap (λ f. databases_in later f (types_of design.device.grid)) run.family ∙ (same_databases files later inputs.family run.databases_stand (types_of design.device.grid) ∙ read.parts.types)

  design_there : design_of later again ≡ Ok (record { config = config; device = design.device; side = its_side })
  design_there =
      parsed_read later again (record { config = config; device = design.device; side = its_side }) (record {
        config = config_short later again.config text config run.text_there run.short_text text_read;
        grid = grid_stays;
        profile = profile_stays;
        side = side_short later again.side side its_side run.side_there run.short_side side_read;
        types = types_stay;
      })

pub later_accepts : (files later : Files) (inputs again : Inputs) (design : Design) (g : Graph) (cells : Cells) (text side : List ℕ) → IsAccepted files inputs design g cells
    → AreHardened design g cells text side → IsLaterRun files later inputs again design.config.device text side → AcceptsHardened later again design g cells
later_accepts files later inputs again design g cells text side accepted a run =
    let read = files_read files inputs design (accepted_sound files inputs design g cells accepted).read.profile accepted.read in
    let its : Design = record { config = a.again.config; device = design.device; side = a.again.side } in
    let same : its ≡ a.again = sym (λ i. let d : Design = record { config = a.again.config; device = a.device i; side = a.again.side } in d) in
    record {
      again = a.again;
      its_cells = a.its_cells;
      accepted = record {
        read = design_there files later inputs again design text side read run a.again.config a.again.side a.text_read a.side_read a.device_named ∙ ap (λ d. Ok d) same;
        graph = subst (λ d. IsGraph d g) (sym a.device) accepted.graph;
        cells_there = a.cells_there;
        passes = a.passes;
      };
      hardens = a.hardens;
    }
