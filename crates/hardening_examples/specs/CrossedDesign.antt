-- The crossed toggle on MINI-A as a design that is to be hardened. (Our own.)
use Rattle.std.specs.Prelude.{codes}
use Rattle.records.specs.Ripping.{RipUnsafe}
use Rattle.mini.specs.MiniA.{mini_a}
use Rattle.mini.specs.Toggle.{crossed, toggle_side}
use Rattle.commands.specs.Commands.{Hardening}
use Rattle.design_files.specs.Designs.{Design}

abbrev pub crossed_design : Design
crossed_design = record { config = crossed; device = mini_a; side = toggle_side }

-- in 32 attempts at most, where the nets that a bad bit disturbs are ripped: as where no option says otherwise
abbrev pub by_default : Hardening
by_default = record { out = codes "out.config"; side_out = codes "out.json"; cut_out = codes "cut.txt"; rounds = 32; rip = RipUnsafe }
