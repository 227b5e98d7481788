use Rattle.std.proofs.Common.{below_more}
use Rattle.std.proofs.lemmas.Bool.{false≢true}
use Rattle.table_copies.proofs.least.least_differing.Goals as goal

-- they don't differ at one number more
pub loop-number-preserved : goal.loop-number-preserved
loop-number-preserved c = below_more _ _ c.loop-number.invariant (λ d. false≢true (c.if-differ_at.ensures.1 d))
