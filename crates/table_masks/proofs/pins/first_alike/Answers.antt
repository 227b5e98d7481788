use Rattle.std.proofs.Common.{sym, subst, below_more}
use Rattle.std.proofs.lemmas.Bool.{false≢true}
use Rattle.circuit.specs.Parts.{sources}
use Rattle.table_masks.specs.Pins.{FeedAlike}
use Rattle.table_masks.proofs.pins.first_alike.Goals as goal

-- one pin more isn't alike
pub loop-i-preserved : goal.loop-i-preserved
loop-i-preserved c = λ side are.
    below_more _ _ (c.loop-i.invariant side are)
    (λ h. false≢true ((c.if-is_alike.ensures side are).1 (subst (λ feed. FeedAlike side (sources c.args.parts.now) feed c.args.part) (sym c.feed_at.ensures) h)))
