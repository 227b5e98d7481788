-- What the plain test of a cut says.
use Rattle.std.proofs.Common.{◌≡◌, ℕ, zero, suc, ◌<◌, true, ◌⊎◌, ◌↔◌, inl, inr, List, [], ◌∷◌, filter, length, refl, subst}
use Rattle.std.specs.Prelude.{flat_map, not, nat_lt, ◌==◌, ◌&&◌, ◌||◌}
use Rattle.std.specs.List.{list_any}
use Rattle.words.specs.Members.{In}
use Rattle.links.specs.Links.{Link, Drives, Below, here, onto}
use Rattle.links.proofs.Members.{in_either, of_flat_map}
use Rattle.links.proofs.Below.{below_sound, below_complete}
use Rattle.links.specs.Below.{below, has}
use Rattle.fabric.specs.Device.{Device}
use Rattle.fabric.specs.Graph.{GraphArc}
use Rattle.paths.specs.Cuts.{IsCut, IsInRim}
use Rattle.path_laws.proofs.Sorted.{IsRisingList, increases}
use Rattle.upset_laws.specs.PlainUpset.{within}
use Rattle.repair.specs.Turns.{Turn, routing}
use Rattle.repair.specs.Usable.{IsUsable}
use Rattle.repair.specs.Routes.{roads_for, InTree, IsBlocked}
use Rattle.route_laws.specs.PlainUsable.{usable_among}
use Rattle.route_laws.specs.PlainCuts.{tree_of, reached, leaving, is_rising, is_rim, is_blocked}
use Rattle.route_laws.proofs.Tests.{Tells, told, tells_as, tells_and, tells_or, tells_not, tells_if, tells_all, tells_any, filtered, tells_number, tells_less, tells_has}
use Rattle.route_laws.proofs.Rules.{IsToldBy}
use Rattle.route_laws.proofs.UsableTests.{usable_law}

-- each number of a list is in another
pub tells_within : (xs ys : List ℕ) → Tells (within xs ys) ((x : ℕ) → In xs x → In ys x)
tells_within xs ys = tells_all (has ys) (In ys) (tells_has ys) xs

pub tells_rising : (xs : List ℕ) → Tells (is_rising xs) (IsRisingList xs)
tells_rising [] = record { from = λ h. tt; to = λ h. refl }
tells_rising (x ∷ xs) = tells_and (tells_all (nat_lt x) (λ y. x < y) (tells_less x) xs) (tells_rising xs)

module _ (t : Turn) where
  pub tree_law : (w : ℕ) → In (tree_of t) w ↔ InTree t w
  tree_law w = (
    (λ i. let f = (filtered (λ w. has t.now.graph.outputs t.net.out) (λ w. In t.now.graph.outputs t.net.out) (below (routing t.now).links t.net.out) (λ w i. tells_has t.now.graph.outputs t.net.out) w).0 i in
        record { output = f.1; reach = below_sound (routing t.now).links t.net.out w f.0 }),
    (λ f. (filtered (λ w. has t.now.graph.outputs t.net.out) (λ w. In t.now.graph.outputs t.net.out) (below (routing t.now).links t.net.out) (λ w i. tells_has t.now.graph.outputs t.net.out) w).1
        (below_complete (routing t.now).links f.reach, f.output)),
  )

  pub leaving_law : (ws : List ℕ) (a : GraphArc) → In (leaving t ws) a ↔ (In t.now.graph.arcs a × In ws a.source)
  leaving_law ws a = filtered (λ a. has ws a.source) (λ a. In ws a.source) t.now.graph.arcs (λ a i. tells_has ws a.source) a

  -- what is reached from wires that lie in a closed set lies there
  stays : (Inside : ℕ → Type 0) → ((w x : ℕ) → Inside w → Drives (routing t.now) w x → Inside x)
      → (arcs : List GraphArc) → ((a : GraphArc) → In arcs a → Inside a.source → Inside a.sink)
      → (ws : List ℕ) → ((w : ℕ) → In ws w → Inside w) → (n w : ℕ) → In (reached (routing t.now).links arcs ws n) w → Inside w
  stays Inside links arcs taken ws start zero w i = start w i
  stays Inside links arcs taken ws start (suc n) w i =
      let near = stays Inside links arcs taken ws start n in
      elim (in_either (reached (routing t.now).links arcs ws n) (flat_map (λ a. below (routing t.now).links a.sink) (filter (λ a. has (reached (routing t.now).links arcs ws n) a.source) arcs)) w i) [
        | inl j ↦ near w j
        | inr j ↦ (let r = of_flat_map (λ a. below (routing t.now).links a.sink) (filter (λ a. has (reached (routing t.now).links arcs ws n) a.source) arcs) w j in
            let f = (filtered (λ a. has (reached (routing t.now).links arcs ws n) a.source) (λ a. In (reached (routing t.now).links arcs ws n) a.source) arcs (λ a i. tells_has (reached (routing t.now).links arcs ws n) a.source) r.0).0 r.1.0 in
            along Inside links (taken r.0 f.0 (near r.0.source f.1)) (below_sound (routing t.now).links r.0.sink w r.1.1))
      ]
    where
      along : (Inside : ℕ → Type 0) → ((w x : ℕ) → Inside w → Drives (routing t.now) w x → Inside x) → {w x : ℕ} → Inside w → Below (routing t.now) w x → Inside x
      along Inside links h here = h
      along Inside links h (onto {b} {c} q s) = links b c (along Inside links h q) s

  tells_rim : (inside rim : List ℕ) → Tells (is_rim (leaving t inside) inside rim) ((w : ℕ) → In rim w ↔ IsInRim (roads_for t) inside w)
  tells_rim inside rim = tells_as rim_from rim_to
      (tells_and (tells_all (λ w. not (has inside w) && list_any (λ a. a.sink == w) (leaving t inside)) _
      (λ w. tells_and (tells_not (tells_has inside w)) (tells_any (λ a. a.sink == w) _ (λ a. tells_number a.sink w) (leaving t inside))) rim)
      (tells_all (λ a. has inside a.sink || has rim a.sink) _ (λ a. tells_or (tells_has inside a.sink) (tells_has rim a.sink)) (leaving t inside)))
    where
      RimTest : Type 0
      RimTest = ((w : ℕ) → In rim w → (In inside w → ⊥) × ((a : GraphArc) × (In (leaving t inside) a × (a.sink ≡ w)))) × ((a : GraphArc) → In (leaving t inside) a → In inside a.sink ⊎ In rim a.sink)

      rim_from : RimTest → (w : ℕ) → In rim w ↔ IsInRim (roads_for t) inside w
      rim_from h w = (
        (λ i. let r = h.0 w i in let l = (leaving_law inside r.1.0).0 r.1.1.0 in record { outside = r.0; arc = r.1.0; is_arc = l.0; from = l.1; to = r.1.1.1 }),
        (λ r. elim (h.1 r.arc ((leaving_law inside r.arc).1 (r.is_arc, r.from))) [
          | inl i ↦ absurd (r.outside (subst (In inside) r.to i))
          | inr i ↦ subst (In rim) r.to i
        ]),
      )

      rim_to : ((w : ℕ) → In rim w ↔ IsInRim (roads_for t) inside w) → RimTest
      rim_to h = (
        (λ w i. let r = (h w).0 i in (r.outside, (r.arc, ((leaving_law inside r.arc).1 (r.is_arc, r.from), r.to)))),
        (λ a i. let l = (leaving_law inside a).0 i in elim (told (has inside a.sink) (tells_has inside a.sink)) [
          | inl j ↦ inl j
          | inr n ↦ inr ((h a.sink).1 (record { outside = n; arc = a; is_arc = l.0; from = l.1; to = refl }))
        ]),
      )

module _ (device : Device) (t : Turn) (p : IsToldBy device t.now) (inside rim : List ℕ) (pin : ℕ) where
  abbrev arcs : List GraphArc
  arcs = leaving t inside

  -- the usable arcs that leave the wires inside
  abbrev usable : List GraphArc
  usable = usable_among t arcs

  usable_is : (a : GraphArc) → In usable a ↔ (In arcs a × IsUsable t a)
  usable_is a = usable_law device t p arcs (λ a i. ((leaving_law t inside a).0 i).0) a

  -- links and usable arcs don't lead out
  abbrev LinksStay : Type 0
  LinksStay = (l : Link) → In (routing t.now).links l → In inside l.source → In inside l.sink

  abbrev ArcsStay : Type 0
  ArcsStay = (a : GraphArc) → In usable a → In inside a.sink

  abbrev AllReached : Type 0
  AllReached = (w : ℕ) → In inside w → In (reached (routing t.now).links usable (tree_of t) (length inside)) w

  abbrev IsRim : Type 0
  IsRim = (w : ℕ) → In rim w ↔ IsInRim (roads_for t) inside w

  tells_blocked : Tells (is_blocked t inside rim pin)
      ((((((((((w : ℕ) → In (tree_of t) w → In inside w) × (In inside pin → ⊥)) × LinksStay) × ArcsStay) × AllReached) × IsRim) × IsRisingList inside) × IsRisingList rim))
  tells_blocked =
      tells_and (tells_and (tells_and (tells_and (tells_and (tells_and (tells_and
      (tells_within (tree_of t) inside)
      (tells_not (tells_has inside pin)))
      (tells_all (λ l. not (has inside l.source) || has inside l.sink) _ (λ l. tells_if (tells_has inside l.source) (tells_has inside l.sink)) (routing t.now).links))
      (tells_all (λ a. has inside a.sink) _ (λ a. tells_has inside a.sink) usable))
      (tells_within inside (reached (routing t.now).links usable (tree_of t) (length inside))))
      (tells_rim t inside rim))
      (tells_rising inside))
      (tells_rising rim)

  reached_is_least : AllReached → (other : List ℕ) → IsCut (roads_for t) (InTree t) other pin → (w : ℕ) → In inside w → In other w
  reached_is_least all other cut w i = stays t (In other) (λ x y j d. cut.links x y j d) usable (λ a j k. cut.arcs a ((usable_is a).0 j).1 k) (tree_of t)
      (λ x j. cut.tree x ((tree_law t x).0 j)) (length inside) w (all w i)

  pub blocked_law : is_blocked t inside rim pin ≡ true → IsBlocked t inside rim pin
  blocked_law test = let h = tells_blocked.from test in record {
    least = record {
      cut = record {
        tree = λ w f. h.0.0.0.0.0.0.0 w ((tree_law t w).1 f);
        pin_out = h.0.0.0.0.0.0.1;
        links = λ w x i d. h.0.0.0.0.0.1 (record { source = w; sink = x }) d i;
        arcs = λ a u i. h.0.0.0.0.1 a ((usable_is a).1 ((leaving_law t inside a).1 (u.routable.listed, i), u));
      };
      least = reached_is_least h.0.0.0.1;
    };
    inside_in_order = increases inside h.0.1;
    rim_members = h.0.0.1;
    rim_in_order = increases rim h.1;
  }
