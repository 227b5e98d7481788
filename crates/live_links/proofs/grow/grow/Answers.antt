use Rattle.std.proofs.Common.{◌≡◌, ℕ, List, [], ◌∷◌, ◌++◌, length, ◌∙◌, ap, ap₂, refl, arith}
use Rattle.links.specs.Links.{Link}
use Rattle.live_links.proofs.Growing.{cleared_first, grown_by, put_long, put_within, shrunk_grown}
use Rattle.live_links.proofs.grow.grow.Goals as goal

pub spread-requires : goal.spread-requires
spread-requires c = record {
  within = put_within c.args.next.now c.put_link.new.next c.args.link c.put_link.ensures.next c.requires.within;
  long = put_long c.args.next.now c.put_link.new.next c.args.feeds.now c.put_link.new.feeds c.args.link c.args.feed c.put_link.ensures.next c.put_link.ensures.feeds c.requires.long;
}

pub returns-in-Ok-clause-grown : goal.returns-in-Ok-clause-grown
returns-in-Ok-clause-grown c =
    let first = c.in_ok-push.ensures.items ∙ ap₂ (λ (xs : List ℕ) (w : ℕ). xs ++ w ∷ []) c.new-fed.ensures.items (ap (λ (l : Link). l.sink) c.link.view_is) in
    let long : length c.spread.new.feeds ≡ length c.put_link.new.feeds = omega arith in
    grown_by c.args.next.now c.put_link.new.next c.args.feeds.now c.put_link.new.feeds c.spread.new.feeds c.args.link c.args.feed c.push.new.self.items (record { link = c.args.link; fed = c.spread.new.fed })
    c.requires.unfed refl first c.put_link.ensures.next c.put_link.ensures.feeds long c.in-Ok.ensures.undo c.in-Ok.ensures.walk

pub returns-in-Err-clause-err : goal.returns-in-Err-clause-err
returns-in-Err-clause-err c =
    let first = c.in_ok-push.ensures.items ∙ ap₂ (λ (xs : List ℕ) (w : ℕ). xs ++ w ∷ []) c.new-fed.ensures.items (ap (λ (l : Link). l.sink) c.link.view_is) in (
      shrunk_grown c.args.drivers.now c.put_link.new.drivers c.take_back.new.drivers c.args.link.sink c.args.link.source c.args.link.sink c.requires.drivers_known c.put_link.ensures.drivers c.take_back.ensures.drivers refl,
      (
        shrunk_grown c.args.next.now c.put_link.new.next c.take_back.new.next c.args.link.source c.args.link.sink c.args.link.source c.requires.next_known c.put_link.ensures.next c.take_back.ensures.next refl,
        c.take_back.ensures.feeds ∙ cleared_first c.args.feeds.now c.put_link.new.feeds c.spread.new.feeds c.push.new.self.items c.spread.new.fed.items c.args.link.sink c.args.feed c.requires.unfed first c.put_link.ensures.feeds c.in-Err.ensures.undo,
      ),
    )
