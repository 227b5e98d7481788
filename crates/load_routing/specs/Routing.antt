-- The checks of a text up to its routing. (Our own.)
use Rattle.records.specs.Config.{Config}
use Rattle.links.specs.Links.{IsClean}
use Rattle.fabric.specs.Graph.{Graph}
use Rattle.fabric.specs.Image.{image_of}
use Rattle.fabric.specs.Links.{routing_of}
use Rattle.fabric.specs.Agree.{ArcsAgree}
use Rattle.answers.specs.Refusals.{Refusal}
use Rattle.design_checks.specs.Checks.{Passes, ◌before◌, Computed}
use Rattle.design_checks.specs.LineChecks.{line_refusal}
use Rattle.design_checks.specs.RoutingChecks.{ArcsDiffer, AreContested}

-- 14 to 23: each line names what is there, the arcs of the text are those that its image chooses, and no wire is contested
abbrev pub RoutingRefused : Graph → Config → Refusal → Type 0
RoutingRefused g config = Computed (line_refusal g config) before ArcsDiffer g (image_of g config) config before AreContested g (image_of g config)

-- no line of a text is refused, its arcs are those that its image chooses, and no wire is contested
pub record RoutingPasses (g : Graph) (config : Config) : Type 0 where
  pub lines : Passes (Computed (line_refusal g config))
  pub agree : ArcsAgree g (image_of g config) config
  pub clean : IsClean (routing_of g (image_of g config))
