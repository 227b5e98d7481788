-- What a router is given and answers, with 0 for each number of a line. (Our own.)
use Rattle.std.specs.Prelude.{map}
use Rattle.records.specs.Config.{Config}
use Rattle.repair.specs.Layouts.{Layout}
use Rattle.attempts.specs.Jobs.{Job}
use Rattle.attempts.specs.Attempts.{Ending, Routed, NoRoute, Answer, Standing, Ended}
use Rattle.text_laws.specs.SameButLines.{unnumbered}

abbrev pub plain_config : Config → Config
plain_config c = record { device = c.device; heads = c.heads; tiles = map unnumbered c.tiles }

abbrev pub plain_layout : Layout → Layout
plain_layout y = record { graph = y.graph; config = plain_config y.config; cells = y.cells; side = y.side }

abbrev pub plain_job : Job → Job
plain_job job = record { device = job.device; design = plain_layout job.design; rounds = job.rounds; rip = job.rip }

abbrev pub plain_ending : Ending → Ending
plain_ending (Routed y connections) = Routed (plain_layout y) connections
plain_ending (NoRoute end net pin cut) = NoRoute end net pin cut

abbrev pub plain_answer : Answer → Answer
plain_answer Standing = Standing
plain_answer (Ended log e) = Ended log (plain_ending e)
