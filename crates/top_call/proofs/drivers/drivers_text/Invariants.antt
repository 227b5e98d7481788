use Rattle.std.proofs.Common.{◌≡◌, ◌++◌, drop}
use Rattle.answers.specs.Drivers.{drivers_text}
use Rattle.cram_image.specs.Image.{bits}
use Rattle.top_call.proofs.drivers.drivers_text.Given as goal

-- what is written so far and the lines of the muxes that are left are the lines of all
abbrev pub invariant-loop-mux : goal.invariant-loop-mux
invariant-loop-mux l = l.text.items ++ drivers_text (bits l.image) (drop l.mux-index l.muxes) ≡ drivers_text (bits l.image) l.muxes
