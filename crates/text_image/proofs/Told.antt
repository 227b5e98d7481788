-- A text has its image, or a line of it is refused.
use Rattle.std.proofs.Common.{◌≡◌, Option, None, Some, refl, ap}
use Rattle.std.specs.Prelude.{Ok, Err}
use Rattle.std.specs.Option.{option_map_or}
use Rattle.patterns.specs.Bits.{Bits}
use Rattle.records.specs.Config.{Config}
use Rattle.fabric.specs.Graph.{Graph}
use Rattle.fabric.specs.Image.{image_of}
use Rattle.design_checks.specs.LineChecks.{LineFault, line_faults, lowest_line, line_refusal}
use Rattle.text_image.specs.Images.{image_or_fault}

pub told_image : (g : Graph) (config : Config) (image : Bits) → image_or_fault g config ≡ Ok image → (line_refusal g config ≡ None) × (image ≡ image_of g config)
told_image g config image h = of_lines (lowest_line (line_faults g config)) refl h
  where
    of_lines : (o : Option LineFault) → lowest_line (line_faults g config) ≡ o → option_map_or (λ fault. Err fault) o (Ok (image_of g config)) ≡ Ok image → (line_refusal g config ≡ None) × (image ≡ image_of g config)
    of_lines None e k = (rw e refl, (let same : image ≡ image_of g config = cc in same))
    of_lines (Some fault) e k = absurd (let no : ⊥ = cc in no)

pub told_fault : (g : Graph) (config : Config) (fault : LineFault) → image_or_fault g config ≡ Err fault → line_refusal g config ≡ Some fault.refusal
told_fault g config fault h = of_lines (lowest_line (line_faults g config)) refl h
  where
    of_lines : (o : Option LineFault) → lowest_line (line_faults g config) ≡ o → option_map_or (λ f. Err f) o (Ok (image_of g config)) ≡ Err fault → line_refusal g config ≡ Some fault.refusal
    of_lines None e k = absurd (let no : ⊥ = cc in no)
    of_lines (Some found) e k = rw e (ap (λ (f : LineFault). Some f.refusal) (let same : found ≡ fault = cc in same))
