use Rattle.std.proofs.Common.{◌≡◌, ℕ, List, [], Option, Some, None, true, false, get_or, subst}
use Rattle.std.specs.Prelude.{MatchOption}
use Rattle.words.specs.Members.{In}
use Rattle.links.specs.Links.{Routing, Counting}
use Rattle.wire_feeds.specs.Rows.{AreFeeds}
use Rattle.wire_contests.specs.Contests.{HasDrivers, is_fed}
use Rattle.wire_contests.proofs.Rows.{fed_where, where_fed}
use Rattle.wire_links.specs.Rows.{routing_of_rows}
use Rattle.wire_links.proofs.Routed.{rows_drive}
use Rattle.wire_links.proofs.joined.WireLinks.driver.Goals as goal

-- the first wire of a row with a feed counts; where there is none, none counts
counts : (r : Routing) (rows : List (List ℕ)) (feeds : List (Option ℕ)) (w : ℕ) (found : Option ℕ) → HasDrivers r rows → AreFeeds r feeds
    → MatchOption found ((x : ℕ) → In (get_or rows w []) x → is_fed feeds x ≡ false) (λ x. In (get_or rows w []) x × (is_fed feeds x ≡ true))
    → MatchOption found ((x : ℕ) → Counting r x w → ⊥) (λ x. Counting r x w)
counts r rows feeds w (Some x) has are h = ((has w x).1 h.0, fed_where r feeds are x h.1)
counts r rows feeds w None has are h = λ x c. let f = h x ((has w x).0 c.0) in let t = where_fed r feeds are x c.1 in let no : ⊥ = cc in no

pub returns-clause-driver : goal.returns-clause-driver
returns-clause-driver c =
    let inside = c.self.inside in
    subst (λ (r : Routing). MatchOption c.first_fed.result ((x : ℕ) → Counting r x c.args.w → ⊥) (λ x. Counting r x c.args.w)) c.self.view_is
    (counts (routing_of_rows inside.drivers inside.outputs.items) inside.drivers inside.feeds.items c.args.w c.first_fed.result (rows_drive inside.drivers inside.outputs.items) c.self.invariant.feeds_are
    (subst (λ (row : List ℕ). MatchOption c.first_fed.result ((x : ℕ) → In row x → is_fed inside.feeds.items x ≡ false) (λ x. In row x × (is_fed inside.feeds.items x ≡ true))) c.row_of.ensures
    (subst (λ (fs : List (Option ℕ)). MatchOption c.first_fed.result ((x : ℕ) → In c.row_of.result.now x → is_fed fs x ≡ false) (λ x. In c.row_of.result.now x × (is_fed fs x ≡ true))) c.deref.ensures.value
    c.first_fed.ensures)))
