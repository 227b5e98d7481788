-- That answers don't depend on the numbers of lines.
use Rattle.std.specs.Prelude.{◌≡◌}
use Rattle.fabric.specs.GraphOf.{IsGraph}
use Rattle.attempts.specs.Jobs.{Job}
use Rattle.attempts.specs.Attempts.{Answer, IsAnswer}
use Rattle.line_laws.specs.Plain.{plain_job, plain_answer}

-- The answer to a job without numbers of lines is that to the job, without numbers of lines.
abbrev pub PlainIsAnswered : Type 0
PlainIsAnswered = (job : Job) (a : Answer) → IsAnswer job a → IsAnswer (plain_job job) (plain_answer a)

-- Jobs that are the same but for numbers of lines have answers that are: the same log, end, cut and count, and layouts
-- that are the same but for these.
abbrev pub AnswersAreAlike : Type 0
AnswersAreAlike = (job other : Job) → IsGraph job.device job.design.graph → plain_job job ≡ plain_job other → (a b : Answer) → IsAnswer job a → IsAnswer other b
    → plain_answer a ≡ plain_answer b

-- Each job is the same but for numbers of lines as itself without them.
abbrev pub PlainJobIsAlike : Type 0
PlainJobIsAlike = (job : Job) → plain_job job ≡ plain_job (plain_job job)
