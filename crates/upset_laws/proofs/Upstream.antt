-- What stands behind a wire along counting drivers can be decided: it is what is below the wire along the
-- counting links turned round.
use Rattle.std.proofs.Common.{◌≡◌, ℕ, ◌↔◌, List, [], map, ap, subst}
use Rattle.words.specs.Members.{In}
use Rattle.words.proofs.Decided.{Decided, decided_by, chosen}
use Rattle.links.specs.Links.{Link, Routing, Drives, Fed, Counting, Upstream}
use Rattle.links.proofs.Members.{in_map, of_map}
use Rattle.links.proofs.Walks.{reaches_by}
use Rattle.links.proofs.Below.{is_below}
use Rattle.links.proofs.Feeds.{is_fed}

abbrev turned : Link → Link
turned l = record { source = l.sink; sink = l.source }

module _ (r : Routing) where
  counting_links : (ls : List Link) × ((l : Link) → In ls l ↔ (In r.links l × Fed r l.source))
  counting_links = chosen (λ l. Fed r l.source) (λ l. is_fed r l.source) r.links

  back : Routing
  back = record { links = map turned counting_links.0; outputs = [] }

  back_from : (a b : ℕ) → Drives back a b → Counting r b a
  unfolding back
  back_from a b i =
      let m = of_map turned counting_links.0 (record { source = a; sink = b }) i in
      let c = (counting_links.1 m.0).0 m.1.0 in
      let same : m.0 ≡ record { source = b; sink = a } = ap turned m.1.1 in
      (subst (In r.links) same c.0, subst (λ l. Fed r l.source) same c.1)

  back_to : (a b : ℕ) → Counting r b a → Drives back a b
  unfolding back
  back_to a b c = in_map turned counting_links.0 (record { source = b; sink = a }) ((counting_links.1 (record { source = b; sink = a })).1 c)

  pub is_upstream : (x w : ℕ) → Decided (Upstream r x w)
  is_upstream x w = decided_by (λ h. reaches_by back_from h) (λ h. reaches_by back_to h) (is_below back x w)
