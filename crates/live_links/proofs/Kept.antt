-- What is kept in vectors, once a link is added or taken back.
use Rattle.std.proofs.Common.{◌≡◌, ℕ, ◌<◌, ◌≤◌, List, [], ◌∷◌, ◌++◌, Option, Some, None, length, get_or, take, drop, refl, sym, ap, subst, ◌∙◌}
use Rattle.std.specs.Prelude.{reverse, IsSome, MatchOption}
use Rattle.std.specs.Option.{option_to_list}
use Rattle.std.proofs.lemmas.List.{append-nil, drop_all, length-map, length-reverse, reverse-append, take_all}
use Rattle.links.specs.Links.{Fed, Feeds, Link, Routing}
use Rattle.open_rows.specs.Rows.{Rows}
use Rattle.wire_feeds.specs.Rows.{AreFeeds}
use Rattle.wire_feeds.specs.Walks.{IsFed}
use Rattle.live_links.specs.declared.added.AddedLink.{AddedLink}
use Rattle.live_links.specs.Feeding.{cleared}
use Rattle.live_links.specs.Joined.{CanGrow, HasGrown, IsJoined, IsLinkStack, base_of, grown_rows, shrunk_rows, stacked}
use Rattle.live_links.specs.Live.{IsAddable, Stacked, present, with_link, without_last}
use Rattle.live_links.proofs.Joining.{feed_known}
use Rattle.live_links.proofs.Stacking.{added_on, can_grow, drivers_filled, joined_now, next_filled, taken_back, value_grown}

-- a list that was lent whole, and was given back
pub whole : (xs items : List (Option ℕ)) (len : ℕ) → length items ≤ length xs → length xs ≤ len → take len (xs ++ drop (length xs) items) ≡ xs
whole xs items len less all =
    ap (λ (ys : List (Option ℕ)). take len (xs ++ ys)) (drop_all (length xs) items less) ∙ (ap (λ (ys : List (Option ℕ)). take len ys) (append-nil xs) ∙ take_all len xs all)

-- an answer that is there
pub some_is : (o : Option ℕ) (c : ℕ) → o ≡ Some c → IsSome o
some_is (Some d) c is = refl
some_is None c is = absurd (let no : ⊥ = cc in no)

last_first : (items : List AddedLink) (a : AddedLink) → reverse (items ++ a ∷ []) ≡ a ∷ reverse items
last_first items a = reverse-append items (a ∷ [])

-- what is there is joined
pub joined_value : (added : List AddedLink) (drivers next : Rows ℕ) (feeds : List (Option ℕ)) (outputs : List ℕ) (value : Stacked) → IsLinkStack added drivers next feeds outputs
    → stacked added drivers next outputs ≡ value → IsJoined (present value) drivers.rows next.rows feeds
joined_value added drivers next feeds outputs value keeps is =
    subst (λ (s : Stacked). IsJoined (present s) drivers.rows next.rows feeds) is (joined_now (base_of added drivers outputs) added drivers.rows next.rows feeds keeps.joined)

pub source_fed : (added : List AddedLink) (drivers next : Rows ℕ) (feeds lent : List (Option ℕ)) (outputs : List ℕ) (value : Stacked) (l : Link) → IsLinkStack added drivers next feeds outputs
    → stacked added drivers next outputs ≡ value → IsAddable value l → lent ≡ feeds → IsFed lent l.source
source_fed added drivers next feeds lent outputs value l keeps is may same =
    subst (λ (fs : List (Option ℕ)). IsFed fs l.source) (sym same) (feed_known (present value) feeds l.source (joined_value added drivers next feeds outputs value keeps is).feeds_are may.fed)

pub may_grow : (added : List AddedLink) (drivers next : Rows ℕ) (feeds lent : List (Option ℕ)) (outputs : List ℕ) (value : Stacked) (l : Link) (feed : ℕ) → IsLinkStack added drivers next feeds outputs
    → stacked added drivers next outputs ≡ value → IsAddable value l → get_or feeds l.source None ≡ Some feed → lent ≡ feeds → CanGrow drivers next lent l feed
may_grow added drivers next feeds lent outputs value l feed keeps is may fed same =
    subst (λ (fs : List (Option ℕ)). CanGrow drivers next fs l feed) (sym same)
    (can_grow added drivers next feeds outputs keeps l (subst (λ (s : Stacked). IsAddable s l) (sym is) may) feed fed)

-- what is kept, the last link first, and what contracts see of it
pub record Keeping (added : List AddedLink) (drivers next : Rows ℕ) (feeds : List (Option ℕ)) (outputs : List ℕ) (value : Stacked) : Type 0 where
  pub stack : IsLinkStack added drivers next feeds outputs
  pub is : stacked added drivers next outputs ≡ value

pub record Keeps (items : List AddedLink) (drivers next : Rows ℕ) (feeds : List (Option ℕ)) (outputs : List ℕ) (value : Stacked) : Type 0 where
  pub stack : IsLinkStack (reverse items) drivers next feeds outputs
  pub is : stacked (reverse items) drivers next outputs ≡ value

pub keeps_more : (items items_now : List AddedLink) (drivers next drivers_now next_now : Rows ℕ) (feeds lent feeds_now : List (Option ℕ)) (outputs : List ℕ) (value : Stacked) (l : Link) (feed : ℕ)
    → IsLinkStack (reverse items) drivers next feeds outputs → stacked (reverse items) drivers next outputs ≡ value → IsAddable value l → get_or feeds l.source None ≡ Some feed → lent ≡ feeds
    → drivers_now ≡ grown_rows drivers l.sink l.source → next_now ≡ grown_rows next l.source l.sink
    → (a : AddedLink) × ((items_now ≡ items ++ a ∷ []) × HasGrown next lent l feed feeds_now a)
    → Keeps items_now drivers_now next_now feeds_now outputs (with_link value l)
keeps_more items items_now drivers next drivers_now next_now feeds lent feeds_now outputs value l feed keeps is may fed same drivers_is next_is grown =
    let a = grown.0 in
    let here : IsAddable (stacked (reverse items) drivers next outputs) l = subst (λ (s : Stacked). IsAddable s l) (sym is) may in
    let grew : HasGrown next feeds l feed feeds_now a = subst (λ (fs : List (Option ℕ)). HasGrown next fs l feed feeds_now a) same grown.1.1 in
    let stack_is : reverse items_now ≡ a ∷ reverse items = ap (λ (xs : List AddedLink). reverse xs) grown.1.0 ∙ last_first items a in
    let first : Keeping (a ∷ reverse items) (grown_rows drivers l.sink l.source) (grown_rows next l.source l.sink) feeds_now outputs (with_link value l) = record {
      stack = added_on (reverse items) drivers next feeds outputs keeps l here feed fed feeds_now a grew;
      is = value_grown (reverse items) drivers next feeds outputs keeps l here feed fed feeds_now a grew ∙ ap (λ (s : Stacked). with_link s l) is;
    } in
    let all : Keeping (reverse items_now) drivers_now next_now feeds_now outputs (with_link value l) =
    subst (λ (xs : List AddedLink). Keeping xs drivers_now next_now feeds_now outputs (with_link value l)) (sym stack_is)
    (subst (λ (r : Rows ℕ). Keeping (a ∷ reverse items) r next_now feeds_now outputs (with_link value l)) (sym drivers_is)
    (subst (λ (r : Rows ℕ). Keeping (a ∷ reverse items) (grown_rows drivers l.sink l.source) r feeds_now outputs (with_link value l)) (sym next_is) first)) in
    record { stack = all.stack; is = all.is }

-- the rows of the last link hold it
pub last_filled : (items items_now : List AddedLink) (a : AddedLink) (drivers next : Rows ℕ) (feeds : List (Option ℕ)) (outputs : List ℕ) → items ≡ items_now ++ a ∷ []
    → IsLinkStack (reverse items) drivers next feeds outputs → (0 < length (get_or drivers.rows a.link.sink [])) × (0 < length (get_or next.rows a.link.source []))
last_filled items items_now a drivers next feeds outputs items_is keeps =
    let top : IsLinkStack (a ∷ reverse items_now) drivers next feeds outputs =
    subst (λ (xs : List AddedLink). IsLinkStack xs drivers next feeds outputs) (ap (λ (xs : List AddedLink). reverse xs) items_is ∙ last_first items_now a) keeps in
    (drivers_filled a (reverse items_now) drivers next feeds outputs top, next_filled a (reverse items_now) drivers next feeds outputs top)

pub keeps_less : (items items_now : List AddedLink) (a : AddedLink) (drivers next drivers_now next_now : Rows ℕ) (feeds lent feeds_now : List (Option ℕ)) (outputs : List ℕ) (value : Stacked)
    → items ≡ items_now ++ a ∷ [] → IsLinkStack (reverse items) drivers next feeds outputs → stacked (reverse items) drivers next outputs ≡ value → lent ≡ feeds
    → drivers_now ≡ shrunk_rows drivers a.link.sink → next_now ≡ shrunk_rows next a.link.source → feeds_now ≡ cleared a.fed.items lent
    → Keeps items_now drivers_now next_now feeds_now outputs (without_last value)
keeps_less items items_now a drivers next drivers_now next_now feeds lent feeds_now outputs value items_is keeps is same drivers_is next_is feeds_is =
    let stack_is : reverse items ≡ a ∷ reverse items_now = ap (λ (xs : List AddedLink). reverse xs) items_is ∙ last_first items_now a in
    let top : IsLinkStack (a ∷ reverse items_now) drivers next feeds outputs = subst (λ (xs : List AddedLink). IsLinkStack xs drivers next feeds outputs) stack_is keeps in
    let seen : stacked (a ∷ reverse items_now) drivers next outputs ≡ value = ap (λ (xs : List AddedLink). stacked xs drivers next outputs) (sym stack_is) ∙ is in
    let first : Keeping (reverse items_now) (shrunk_rows drivers a.link.sink) (shrunk_rows next a.link.source) (cleared a.fed.items feeds) outputs (without_last value) = record {
      stack = taken_back a (reverse items_now) drivers next feeds outputs top;
      is = ap (λ (s : Stacked). without_last s) seen;
    } in
    let all : Keeping (reverse items_now) drivers_now next_now feeds_now outputs (without_last value) =
    subst (λ (r : Rows ℕ). Keeping (reverse items_now) r next_now feeds_now outputs (without_last value)) (sym drivers_is)
    (subst (λ (r : Rows ℕ). Keeping (reverse items_now) (shrunk_rows drivers a.link.sink) r feeds_now outputs (without_last value)) (sym next_is)
    (subst (λ (fs : List (Option ℕ)). Keeping (reverse items_now) (shrunk_rows drivers a.link.sink) (shrunk_rows next a.link.source) fs outputs (without_last value)) (sym (feeds_is ∙ ap (cleared a.fed.items) same)) first)) in
    record { stack = all.stack; is = all.is }

-- where nothing changed, the same is kept
pub keeps_same : (items items_now : List AddedLink) (drivers next drivers_now next_now : Rows ℕ) (feeds lent feeds_now : List (Option ℕ)) (outputs : List ℕ) (value : Stacked)
    → IsLinkStack (reverse items) drivers next feeds outputs → stacked (reverse items) drivers next outputs ≡ value → lent ≡ feeds
    → (items_now ≡ items) × ((drivers_now ≡ drivers) × ((next_now ≡ next) × (feeds_now ≡ lent))) → Keeps items_now drivers_now next_now feeds_now outputs value
keeps_same items items_now drivers next drivers_now next_now feeds lent feeds_now outputs value keeps is same now =
    let first : Keeps items drivers next feeds outputs value = record { stack = keeps; is = is } in
    subst (λ (xs : List AddedLink). Keeps xs drivers_now next_now feeds_now outputs value) (sym now.0)
    (subst (λ (r : Rows ℕ). Keeps items r next_now feeds_now outputs value) (sym now.1.0)
    (subst (λ (r : Rows ℕ). Keeps items drivers r feeds_now outputs value) (sym now.1.1.0)
    (subst (λ (fs : List (Option ℕ)). Keeps items drivers next fs outputs value) (sym (now.1.1.1 ∙ same)) first)))

-- there are as many links as are kept
pub links_long : (items : List AddedLink) (drivers next : Rows ℕ) (outputs : List ℕ) (value : Stacked) → stacked (reverse items) drivers next outputs ≡ value → length value.links ≡ length items
links_long items drivers next outputs value is =
    sym (ap (λ (s : Stacked). length s.links) is) ∙ (length-map (reverse items) (λ (a : AddedLink). a.link) ∙ length-reverse items)

-- the last one is popped
pub popped_last : (items items_now : List AddedLink) (found : Option AddedLink) (a : AddedLink) → items ≡ items_now ++ option_to_list found → found ≡ Some a → items ≡ items_now ++ a ∷ []
popped_last items items_now found a is some = is ∙ ap (λ (o : Option AddedLink). items_now ++ option_to_list o) some

-- what a list of feeds tells of a wire
pub feed_tells : (r : Routing) (feeds : List (Option ℕ)) (w : ℕ) (found : Option ℕ) → AreFeeds r feeds → get_or feeds w None ≡ found → MatchOption found (Fed r w → ⊥) (λ c. Feeds r c w)
feed_tells r feeds w (Some c) are is = are.fed w c is
feed_tells r feeds w None are is = are.unfed w is
