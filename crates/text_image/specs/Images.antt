-- The image of a text, or its first fault.
use Rattle.std.specs.Prelude.{Option, None, Some, Result, Ok, Err}
use Rattle.std.specs.Option.{option_map_or}
use Rattle.patterns.specs.Bits.{Bits}
use Rattle.records.specs.Config.{Config}
use Rattle.fabric.specs.Graph.{Graph}
use Rattle.fabric.specs.Image as fabric
use Rattle.design_checks.specs.LineChecks.{LineFault, line_faults, lowest_line}
use Rattle.text_image.specs.Faults.{fault_view}
use Rattle.text_image.specs.declared.errors.ImageError.{ImageError}
use Rattle.text_image.specs.declared.errors.ImageError.TheVariants.{Fault, Memory}

abbrev pub no_bits : Bits
no_bits = fabric.no_bits

-- the image that a text leaves, where no line of it is refused, else the first line that is
abbrev pub image_or_fault : Graph → Config → Result Bits LineFault
image_or_fault g config = option_map_or (λ fault. Err fault) (lowest_line (line_faults g config)) (Ok (fabric.image_of g config))

-- the fault that an error stands for: none for want of memory
abbrev pub error_view : ImageError → Option LineFault
error_view (Fault fault) = Some (fault_view fault)
error_view Memory = None
