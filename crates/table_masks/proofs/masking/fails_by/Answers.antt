use Rattle.std.proofs.Common.{below_more}
use Rattle.std.proofs.lemmas.Bool.{false≢true}
use Rattle.table_masks.proofs.masking.fails_by.Goals as goal

-- one address more is none
pub loop-before-preserved : goal.loop-before-preserved
loop-before-preserved c = below_more _ _ c.loop-before.invariant (λ s. false≢true (c.if-starts.ensures.1 s))
