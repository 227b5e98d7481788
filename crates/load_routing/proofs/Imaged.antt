-- The image of a text, or its first line that is refused.
use Rattle.std.proofs.Common.{◌≡◌, Option, None, Some, Ok, Err, option_map, refl, sym, ◌∙◌, ap, subst}
use Rattle.std.specs.Option.{option_map_or}
use Rattle.patterns.specs.Bits.{Bits}
use Rattle.records.specs.Config.{Config}
use Rattle.fabric.specs.Graph.{Graph}
use Rattle.fabric.specs.Image.{image_of}
use Rattle.answers.specs.Refusals.{Refusal}
use Rattle.design_checks.specs.Checks.{Passes, Computed}
use Rattle.design_checks.specs.LineChecks.{LineFault, line_faults, line_refusal, lowest_line}
use Rattle.text_image.specs.Images.{image_or_fault}
use Rattle.text_image.specs.Faults.{fault_view}
use Rattle.text_image.specs.declared.faults.TextFault.{TextFault}
use Rattle.load_routing.specs.declared.error.LoadError.{LoadError}
use Rattle.load_routing.specs.declared.error.LoadError.TheVariants.{Memory}
use Rattle.load_routing.specs.Refused.{IsRefusal, IsRefusedBy}
use Rattle.load_routing.proofs.Checked.{refused_by, none_passes}

module _ (g : Graph) (config : Config) where
  by_fault : (o : Option LineFault) (image : Bits) → option_map_or (λ (fault : LineFault). Err fault) o (Ok (image_of g config)) ≡ Ok image → (o ≡ None) × (image ≡ image_of g config)
  by_fault None image e = (let s : image ≡ image_of g config = cc in (refl, s))
  by_fault (Some fault) image e = absurd (let no : ⊥ = cc in no)

  by_error : (o : Option LineFault) (fault : LineFault) → option_map_or (λ (f : LineFault). Err f) o (Ok (image_of g config)) ≡ Err fault → option_map (λ (f : LineFault). f.refusal) o ≡ Some fault.refusal
  by_error None fault e = absurd (let no : ⊥ = cc in no)
  by_error (Some f) fault e = (let s : f ≡ fault = cc in ap (λ (x : LineFault). Some x.refusal) s)

  pub image_made : (image : Bits) → image_or_fault g config ≡ Ok image → (image ≡ image_of g config) × Passes (Computed (line_refusal g config))
  image_made image e =
      let b = by_fault (lowest_line (line_faults g config)) image e in
      (b.1, none_passes (line_refusal g config) (ap (option_map (λ (f : LineFault). f.refusal)) b.0))

  pub line_fails : (fault : TextFault) (r : Refusal) (e : LoadError) → image_or_fault g config ≡ Err (fault_view fault) → r ≡ (fault_view fault).refusal → IsRefusal r e
      → IsRefusedBy (Computed (line_refusal g config)) e
  line_fails fault r e is same says =
      refused_by (Computed (line_refusal g config)) r e (by_error (lowest_line (line_faults g config)) (fault_view fault) is ∙ ap (λ (x : Refusal). Some x) (sym same)) says

pub nothing_said : (check : Refusal → Type 0) (e : LoadError) → e ≡ Memory → IsRefusedBy check e
nothing_said check e is = subst (IsRefusedBy check) (sym is) tt
