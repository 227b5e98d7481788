use Rattle.std.proofs.Common.{◌≡◌, sym, ap, ◌∙◌}
use Rattle.std.specs.Prelude.{slice_get}
use Rattle.std.specs.declared.cmp.Ordering.TheVariants.{Less, Equal, Greater}
use Rattle.pin_feeds.specs.Outputs.{unnamed_at}
use Rattle.pin_feeds.proofs.Least.{lesser_begins, lesser_moves, lesser_stays}
use Rattle.pin_feeds.proofs.unnamed.lesser.Goals as goal

less : Less ≡ Greater → ⊥
less h = (let no : ⊥ = cc in no)

equal : Equal ≡ Greater → ⊥
equal h = (let no : ⊥ = cc in no)

pub returns-in-None : goal.returns-in-None
returns-in-None c = lesser_begins (unnamed_at c.args.feeds.now c.args.parts.now) c.args.pins.now c.args.next c.requires.below c.requires.fed c.args.least c.requires.least c.in-None.is

pub returns-in-Greater : goal.returns-in-Greater
returns-in-Greater c =
    lesser_moves (unnamed_at c.args.feeds.now c.args.parts.now) c.args.pins.now c.args.next c.requires.below c.requires.fed c.args.least c.in-Some.first c.requires.least c.in-Some.is c.order_at.result
    (λ p q h k. c.order_at.ensures p q (ap (slice_get c.args.pins.now) c.to_u32-place.ensures ∙ h) (ap (slice_get c.args.pins.now) c.to_u32.ensures ∙ k)) c.in-Greater.is

pub returns-in-Less : goal.returns-in-Less
returns-in-Less c =
    lesser_stays (unnamed_at c.args.feeds.now c.args.parts.now) c.args.pins.now c.args.next c.requires.below c.requires.fed c.args.least c.in-Some.first c.requires.least c.in-Some.is c.order_at.result
    (λ p q h k. c.order_at.ensures p q (ap (slice_get c.args.pins.now) c.to_u32-place.ensures ∙ h) (ap (slice_get c.args.pins.now) c.to_u32.ensures ∙ k)) (λ h. less (sym c.in-Less.is ∙ h))

pub returns-in-Equal : goal.returns-in-Equal
returns-in-Equal c =
    lesser_stays (unnamed_at c.args.feeds.now c.args.parts.now) c.args.pins.now c.args.next c.requires.below c.requires.fed c.args.least c.in-Some.first c.requires.least c.in-Some.is c.order_at.result
    (λ p q h k. c.order_at.ensures p q (ap (slice_get c.args.pins.now) c.to_u32-place.ensures ∙ h) (ap (slice_get c.args.pins.now) c.to_u32.ensures ∙ k)) (λ h. equal (sym c.in-Equal.is ∙ h))
