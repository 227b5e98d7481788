-- The toggle on MINI-A as a design. (Our own.)
use Rattle.design_files.specs.Designs.{Design}
use Rattle.mini.specs.MiniA.{mini_a}
use Rattle.mini.specs.Toggle.{toggle, toggle_side}

abbrev pub toggle_design : Design
toggle_design = record { config = toggle; device = mini_a; side = toggle_side }
