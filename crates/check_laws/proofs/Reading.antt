-- The profile and the side file of a design are read from files.
use Rattle.std.specs.Prelude.{◌≡◌, Ok}
use Rattle.records.specs.Limits.{most_json_bytes}
use Rattle.json_forms.specs.Profile.{profile_of}
use Rattle.side_form.specs.Side.{side_of}
use Rattle.commands.specs.Commands.{Inputs}
use Rattle.design_files.specs.Parsed.{Files, form_refusal, side_refusal, read_profile, read_side}
use Rattle.design_files.specs.Designs.{Design, design_of}
use Rattle.formed_laws.specs.Readers.{IsReadProfile, IsReadSide}
use Rattle.check_laws.proofs.FilesParsed.{not_refused, parsed_from, files_parsed}

-- what the files of a design give
pub record IsRead (design : Design) : Type 0 where
  pub profile : IsReadProfile design.device.profile
  pub side : IsReadSide design.side

pub design_read : (files : Files) (inputs : Inputs) (design : Design) → design_of files inputs ≡ Ok design → IsRead design
design_read files inputs design h =
    let p = files_parsed files inputs design h in
    let profile = parsed_from inputs.profile most_json_bytes (read_profile inputs.profile) (files inputs.profile) design.device.profile p.profile in
    let side = parsed_from inputs.side most_json_bytes (read_side inputs.side) (files inputs.side) design.side p.side in
    record {
      profile = (profile.0, not_refused (form_refusal inputs.profile) (profile_of profile.0) design.device.profile profile.1);
      side = (side.0, not_refused (side_refusal inputs.side) (side_of side.0) design.side side.1);
    }
