-- What can be computed of a routing.
use Rattle.std.proofs.Common.{◌≡◌, ℕ, Bool, true, false, List, refl, subst, eq-eqb}
use Rattle.std.specs.Prelude.{not, ◌==◌, ◌&&◌, ◌||◌}
use Rattle.std.specs.List.{list_any, list_all}
use Rattle.std.proofs.lemmas.Bool.{false≢true, and_parts, eqb-true}
use Rattle.words.specs.Members.{In}
use Rattle.links.specs.Links.{Link, Routing, Drives, Feeds, Counting, IsClean}
use Rattle.links.proofs.Below.{below_sound, has_in, in_has}
use Rattle.links.specs.Below.{below, has}
use Rattle.fabric.specs.Graph.{Graph}
use Rattle.fabric_examples.specs.Feeds.{FeedText}
use Rattle.mini.specs.Spoken.{wire_called}
use Rattle.fabric_laws.proofs.Members.{all_from, any_from, imp_from}

-- a link leads from one wire to another
abbrev pub has_link : List Link → ℕ → ℕ → Bool
has_link links x w = list_any (λ l. (l.source == x) && (l.sink == w)) links

pub link_in : (r : Routing) (x w : ℕ) → has_link r.links x w ≡ true → Drives r x w
link_in r x w h =
    let l = any_from (λ l. (l.source == x) && (l.sink == w)) r.links h in
    let parts = and_parts (l.0.source == x) (l.0.sink == w) l.2 in
    let source = eqb-true l.0.source x parts.0 in
    let sink = eqb-true l.0.sink w parts.1 in
    subst (In r.links) (λ i. record { source = source i; sink = sink i }) l.1

-- a cell output feeds a wire
abbrev pub is_feed : Routing → ℕ → ℕ → Bool
is_feed r c w = has r.outputs c && has (below r.links c) w

pub feed : (r : Routing) (c w : ℕ) → is_feed r c w ≡ true → Feeds r c w
feed r c w h =
    let parts = and_parts (has r.outputs c) (has (below r.links c) w) h in
    record { output = in_has r.outputs c parts.0; reach = below_sound r.links c w (in_has (below r.links c) w parts.1) }

pub counting : (r : Routing) (c x w : ℕ) → has_link r.links x w ≡ true → is_feed r c x ≡ true → Counting r x w
counting r c x w h k = (link_in r x w h, (c, feed r c x k))

pub all_feed : (g : Graph) (r : Routing) (fs : List FeedText) → list_all (λ f. is_feed r (wire_called g f.feed) (wire_called g f.pin)) fs ≡ true
    → (f : FeedText) → In fs f → Feeds r (wire_called g f.feed) (wire_called g f.pin)
all_feed g r fs h f i = feed r (wire_called g f.feed) (wire_called g f.pin) (all_from (λ x. is_feed r (wire_called g x.feed) (wire_called g x.pin)) fs h f i)

-- no two links lead to one wire, and none to a cell output
abbrev pub drives_once : Routing → Bool
drives_once r = list_all (λ l. list_all (λ m. not (l.sink == m.sink) || (l.source == m.source)) r.links && not (has r.outputs l.sink)) r.links

not_true : (b : Bool) → not b ≡ true → b ≡ true → ⊥
not_true true h e = false≢true h
not_true false h e = false≢true e

pub clean_once : (r : Routing) → drives_once r ≡ true → IsClean r
clean_once r h = record {
  one_driver = λ w x y a b. (let parts = at x w a.0 in
      eqb-true x y (imp_from (w == w) (x == y) (all_from (λ m. not (w == m.sink) || (x == m.source)) r.links parts.0 (record { source = y; sink = w }) b.0) (eq-eqb w w refl)));
  outputs_undriven = λ w x o a. not_true (has r.outputs w) (at x w a.0).1 (has_in r.outputs w o);
}
  where
    at : (x w : ℕ) → Drives r x w → (list_all (λ m. not (w == m.sink) || (x == m.source)) r.links ≡ true) × (not (has r.outputs w) ≡ true)
    at x w i = and_parts (list_all (λ m. not (w == m.sink) || (x == m.source)) r.links) (not (has r.outputs w))
        (all_from (λ l. list_all (λ m. not (l.sink == m.sink) || (l.source == m.source)) r.links && not (has r.outputs l.sink)) r.links h (record { source = x; sink = w }) i)
