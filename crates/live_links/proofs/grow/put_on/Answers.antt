use Rattle.std.proofs.Common.{◌≡◌, ℕ, List, Option, ◌∙◌, ap, sym, subst}
use Rattle.links.specs.Links.{Link}
use Rattle.live_links.specs.Joined.{HasGrown}
use Rattle.live_links.proofs.Growing.{on_err, shrunk_grown}
use Rattle.live_links.proofs.grow.put_on.Goals as goal

pub returns-clause-grown : goal.returns-clause-grown
returns-clause-grown c = (
  c.in_ok-added.added,
  (c.in_ok-keep.ensures.kept, subst (λ (fs : List (Option ℕ)). HasGrown c.args.next.now c.args.feeds.now c.args.link c.args.feed fs c.in_ok-added.added) (sym c.in_ok-keep.ensures.same.1.1) c.in_ok-added.ensures.grown),
)

pub returns-in_err-keep-clause-err : goal.returns-in_err-keep-clause-err
returns-in_err-keep-clause-err c =
    let link_is = c.in_ok-added.ensures.grown.link in
    let back = c.in_err-keep.ensures.back in
    on_err c.from_residual-in_err-keep.result
    ((c.keep.new.stack.items ≡ c.args.stack.now.items) × ((c.keep.new.drivers ≡ c.args.drivers.now) × ((c.keep.new.next ≡ c.args.next.now) × (c.keep.new.feeds ≡ c.args.feeds.now)))) (
      c.in_err-keep.ensures.err,
      (
        shrunk_grown c.args.drivers.now c.grow.new.drivers c.keep.new.drivers c.args.link.sink c.args.link.source c.in_ok-added.added.link.sink c.requires.drivers_known c.in_ok-added.ensures.drivers back.0 (ap (λ (l : Link). l.sink) link_is),
        (
          shrunk_grown c.args.next.now c.grow.new.next c.keep.new.next c.args.link.source c.args.link.sink c.in_ok-added.added.link.source c.requires.next_known c.in_ok-added.ensures.next back.1.0 (ap (λ (l : Link). l.source) link_is),
          back.1.1 ∙ c.in_ok-added.ensures.grown.undo,
        ),
      ),
    )
