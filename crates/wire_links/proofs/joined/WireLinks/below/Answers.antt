use Rattle.std.proofs.Common.{◌↔◌, ℕ, List, Ok, Err, Result, subst}
use Rattle.std.specs.Prelude.{IfOk}
use Rattle.words.specs.Members.{In}
use Rattle.links.specs.Links.{Below, Reaches, Routing}
use Rattle.links.proofs.Walks.{reaches_by}
use Rattle.wire_feeds.specs.Rows.{Leads}
use Rattle.wire_links.specs.Rows.{routing_of_rows}
use Rattle.wire_links.proofs.Routed.{next_within}
use Rattle.wire_links.proofs.joined.WireLinks.below.Goals as goal

pub below_along-requires : goal.below_along-requires
below_along-requires c = record { within = next_within c.self.inside.drivers c.self.inside.next c.self.inside.feeds.items c.self.inside.outputs.items c.self.invariant }

-- what is reached along rows is below along links
as_below : {V E : Type 0} (items : V → List ℕ) (r : Result V E) (rows : List (List ℕ)) (routing : Routing) (w : ℕ)
    → ((x y : ℕ) → Leads rows x y → In routing.links (record { source = x; sink = y })) → ((x y : ℕ) → In routing.links (record { source = x; sink = y }) → Leads rows x y)
    → IfOk r (λ v. (x : ℕ) → In (items v) x ↔ Reaches (Leads rows) w x) → IfOk r (λ v. (x : ℕ) → In (items v) x ↔ Below routing w x)
as_below items (Ok v) rows routing w to from h = λ x. ((λ i. reaches_by to ((h x).0 i)), (λ b. (h x).1 (reaches_by from b)))
as_below items (Err e) rows routing w to from h = tt

pub returns-clause-all : goal.returns-clause-all
returns-clause-all c =
    let has = c.self.invariant.has_next in
    let own : Routing = routing_of_rows c.self.inside.drivers c.self.inside.outputs.items in
    subst (λ (r : Routing). IfOk c.below_along.result (λ v. (x : ℕ) → In v.items x ↔ Below r c.args.w x)) c.self.view_is
    (as_below (λ v. v.items) c.below_along.result c.self.inside.next own c.args.w (λ x y l. (has x y).1 l) (λ x y i. (has x y).0 i) c.below_along.ensures.all)
