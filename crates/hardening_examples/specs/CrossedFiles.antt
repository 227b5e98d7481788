-- The files of the crossed toggle on MINI-A. (Our own.)
use Rattle.std.specs.Prelude.{Some, None, codes, if◌then◌else◌}
use Rattle.std.specs.Str.{bytes_eq}
use Rattle.json_forms.specs.MiniGrid.{mini_grid_text}
use Rattle.config_grammar.specs.ConfigPrint.{config_text}
use Rattle.mini.specs.Toggle.{crossed}
use Rattle.commands.specs.Commands.{Inputs}
use Rattle.design_files.specs.Parsed.{Files}
use Rattle.formed_examples.specs.Databases.{slice_db_text, pad_db_text, clock_db_text}
use Rattle.formed_examples.specs.Texts.{profile_text, side_text}

abbrev pub crossed_inputs : Inputs
crossed_inputs = record { family = codes "db"; profile = codes "profile.json"; side = codes "crossed.json"; config = codes "crossed.config" }

-- its text as it is printed, its side file, and the files of the device
abbrev pub crossed_files : Files
crossed_files name =
    if bytes_eq name (codes "crossed.config") then Some (config_text crossed)
    else if bytes_eq name (codes "crossed.json") then Some side_text
    else if bytes_eq name (codes "profile.json") then Some profile_text
    else if bytes_eq name (codes "db/MINI-A/tilegrid.json") then Some mini_grid_text
    else if bytes_eq name (codes "db/tiledata/MLC/bits.db") then Some slice_db_text
    else if bytes_eq name (codes "db/tiledata/MIO/bits.db") then Some pad_db_text
    else if bytes_eq name (codes "db/tiledata/MCK/bits.db") then Some clock_db_text
    else None
