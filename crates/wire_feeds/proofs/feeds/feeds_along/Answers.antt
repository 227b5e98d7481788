use Rattle.std.proofs.Common.{◌≡◌, ℕ, ◌≤◌, List, ◌++◌, Option, length, take, drop, sym, subst, ◌∙◌, ap, arith}
use Rattle.std.proofs.lemmas.List.{drop_all, take_all, append-nil}
use Rattle.wire_feeds.specs.Rows.{AreFeeds}
use Rattle.wire_feeds.proofs.Ended.{walk_feeds}
use Rattle.wire_feeds.proofs.feeds.feeds_along.Goals as goal

-- a list that was lent whole, and was given back
whole : (xs items : List (Option ℕ)) (len : ℕ) → length items ≤ length xs → length xs ≤ len → take len (xs ++ drop (length xs) items) ≡ xs
whole xs items len less all =
    ap (λ (ys : List (Option ℕ)). take len (xs ++ ys)) (drop_all (length xs) items less) ∙ (ap (λ (ys : List (Option ℕ)). take len ys) (append-nil xs) ∙ take_all len xs all)

pub returns-clause-feeds : goal.returns-clause-feeds
returns-clause-feeds c = λ r has same.
    subst (λ (xs : List (Option ℕ)). AreFeeds r xs) (sym (whole c.walk.new.feeds c.in_ok-feeds.feeds.items c.in_ok-feeds.feeds.len (omega arith) (omega arith)))
    (walk_feeds c.args.next.now c.args.outputs.now c.walk.new.feeds c.in_ok-walk.ensures r has same)
