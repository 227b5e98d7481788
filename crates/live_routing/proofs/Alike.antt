-- Routings with the same links and outputs.
use Rattle.std.proofs.Common.{◌≡◌, ◌↔◌, ℕ, List, Option, Some, None, Result, Ok, Err, sym, subst}
use Rattle.std.specs.Prelude.{IfOk, MatchOption}
use Rattle.words.specs.Members.{In}
use Rattle.patterns.specs.Bits.{DeviceBit}
use Rattle.links.specs.Links.{Below, Counting, Drives, Fed, Feeds, Link, Routing}
use Rattle.links.proofs.Walks.{reaches_by}
use Rattle.fabric.specs.Graph.{Graph}
use Rattle.fabric.specs.Links.{routing_of}
use Rattle.cram_image.specs.Image.{bits}
use Rattle.wire_feeds.specs.Rows.{AreFeeds}
use Rattle.live_routing.specs.Live.{IsLive, LiveRouting, live_routing}

-- what drives, feeds and lies below in one routing does so in another
pub record Goes (r s : Routing) : Type 0 where
  pub drives : (x w : ℕ) → Drives r x w → Drives s x w
  pub outputs : (c : ℕ) → In r.outputs c → In s.outputs c

pub below_goes : (r s : Routing) → Goes r s → (w v : ℕ) → Below r w v → Below s w v
below_goes r s goes w v b = reaches_by goes.drives b

pub feeds_go : (r s : Routing) → Goes r s → (c w : ℕ) → Feeds r c w → Feeds s c w
feeds_go r s goes c w f = record { output = goes.outputs c f.output; reach = below_goes r s goes c w f.reach }

pub fed_goes : (r s : Routing) → Goes r s → (w : ℕ) → Fed r w → Fed s w
fed_goes r s goes w f = (f.0, feeds_go r s goes f.0 w f.1)

pub counting_goes : (r s : Routing) → Goes r s → (x w : ℕ) → Counting r x w → Counting s x w
counting_goes r s goes x w c = (goes.drives x w c.0, fed_goes r s goes x c.1)

-- a routing that is kept and that of its image go into one another
module _ (g : Graph) (image : List DeviceBit) (kept : Routing) (is : IsLive g image kept) where
  pub to_image : Goes kept (routing_of g (bits image))
  to_image = record { drives = λ x w d. (is.links.members (record { source = x; sink = w })).0 d; outputs = λ c i. subst (λ os. In os c) is.outputs i }

  pub to_kept : Goes (routing_of g (bits image)) kept
  to_kept = record { drives = λ x w d. (is.links.members (record { source = x; sink = w })).1 d; outputs = λ c i. subst (λ os. In os c) (sym is.outputs) i }

module _ (g : Graph) (image : List DeviceBit) (kept : Routing) (is : IsLive g image kept) (live : LiveRouting) (view : record { graph = g; image = image; routing = kept } ≡ live) where
  pub drivers_are : (row : List ℕ) (w : ℕ) → ((x : ℕ) → In row x ↔ Drives kept x w) → (x : ℕ) → In row x ↔ Drives (live_routing live) x w
  drivers_are row w h = subst (λ l. (x : ℕ) → In row x ↔ Drives (live_routing l) x w) view
      (λ x. ((λ i. (to_image g image kept is).drives x w ((h x).0 i)), (λ d. (h x).1 ((to_kept g image kept is).drives x w d))))

  pub next_are : (row : List ℕ) (w : ℕ) → ((x : ℕ) → In row x ↔ Drives kept w x) → (x : ℕ) → In row x ↔ Drives (live_routing live) w x
  next_are row w h = subst (λ l. (x : ℕ) → In row x ↔ Drives (live_routing l) w x) view
      (λ x. ((λ i. (to_image g image kept is).drives w x ((h x).0 i)), (λ d. (h x).1 ((to_kept g image kept is).drives w x d))))

  pub driver_is : (o : Option ℕ) (w : ℕ) → MatchOption o ((x : ℕ) → Counting kept x w → ⊥) (λ x. Counting kept x w)
      → MatchOption o ((x : ℕ) → Counting (live_routing live) x w → ⊥) (λ x. Counting (live_routing live) x w)
  driver_is None w h = subst (λ l. (x : ℕ) → Counting (live_routing l) x w → ⊥) view (λ x c. h x (counting_goes (routing_of g (bits image)) kept (to_kept g image kept is) x w c))
  driver_is (Some x) w h = subst (λ l. Counting (live_routing l) x w) view (counting_goes kept (routing_of g (bits image)) (to_image g image kept is) x w h)

  pub feed_is : (o : Option ℕ) (w : ℕ) → MatchOption o (Fed kept w → ⊥) (λ c. Feeds kept c w) → MatchOption o (Fed (live_routing live) w → ⊥) (λ c. Feeds (live_routing live) c w)
  feed_is None w h = subst (λ l. Fed (live_routing l) w → ⊥) view (λ f. h (fed_goes (routing_of g (bits image)) kept (to_kept g image kept is) w f))
  feed_is (Some c) w h = subst (λ l. Feeds (live_routing l) c w) view (feeds_go kept (routing_of g (bits image)) (to_image g image kept is) c w h)

  pub feeds_are : (feeds : List (Option ℕ)) → AreFeeds kept feeds → AreFeeds (live_routing live) feeds
  feeds_are feeds h = subst (λ l. AreFeeds (live_routing l) feeds) view (record {
    fed = λ w c e. feeds_go kept (routing_of g (bits image)) (to_image g image kept is) c w (h.fed w c e);
    unfed = λ w e f. h.unfed w e (fed_goes (routing_of g (bits image)) kept (to_kept g image kept is) w f);
    own = λ c i. h.own c ((to_kept g image kept is).outputs c i);
  })

  pub below_are : {V E : Type 0} (items : V → List ℕ) (r : Result V E) (w : ℕ) → IfOk r (λ v. (x : ℕ) → In (items v) x ↔ Below kept w x)
      → IfOk r (λ v. (x : ℕ) → In (items v) x ↔ Below (live_routing live) w x)
  below_are items (Ok v) w h = subst (λ l. (x : ℕ) → In (items v) x ↔ Below (live_routing l) w x) view
      (λ x. ((λ i. below_goes kept (routing_of g (bits image)) (to_image g image kept is) w x ((h x).0 i)), (λ b. (h x).1 (below_goes (routing_of g (bits image)) kept (to_kept g image kept is) w x b))))
  below_are items (Err e) w h = tt
