-- Numbers of arcs in order stand for the arcs in order.
use Rattle.std.proofs.Common.{◌≡◌, inl, inr, List, [], ◌∷◌, map, filter_map, Option, None, Some, option_map, option_and_then, refl, sym, ap, subst, ◌∙◌}
use Rattle.std.specs.Prelude.{slice_get}
use Rattle.std.specs.declared.cmp.Ordering.TheVariants.{Less}
use Rattle.words.specs.Members.{In}
use Rattle.fabric.specs.Wires.{Wire}
use Rattle.fabric.specs.InOrder.{IsRising, InOrderOnce}
use Rattle.fabric.specs.Device.{Device}
use Rattle.fabric.specs.Graph.{GraphMux, GraphArc}
use Rattle.fabric.specs.GraphOf.{muxes_of, arcs_of, arc_cmp}
use Rattle.fabric_laws.proofs.Members.{in_filter_map_from, in_filter_map_to}
use Rattle.graph_lists.specs.ArcLists.{ArcNumbers, numbers_of, numbers_cmp}
use Rattle.graph_numbers.specs.StandFor.{arc_at, arc_of, arc_numbers}
use Rattle.graph_numbers.proofs.Numbered.{arcs_stand}

-- an arc has the numbers for which it stands
numbers_at : (a : ArcNumbers) (m : GraphMux) (b : GraphArc) → arc_at a m ≡ Some b → numbers_of b ≡ a
numbers_at a m b h = of_arc (slice_get m.mux.arcs a.place) h
  where
    of_arc : (o : Option _) → option_map (λ arc. let x : GraphArc = record { mux = a.mux; place = a.place; source = a.source; sink = a.sink; origin = m.origin; arc = arc } in x) o ≡ Some b → numbers_of b ≡ a
    of_arc None e = absurd (let no : ⊥ = cc in no)
    of_arc (Some arc) e = ap numbers_of (sym (let same : (let x : GraphArc = record { mux = a.mux; place = a.place; source = a.source; sink = a.sink; origin = m.origin; arc = arc } in x) ≡ b = cc in same))

pub numbers_are : (muxes : List GraphMux) (a : ArcNumbers) (b : GraphArc) → arc_of muxes a ≡ Some b → numbers_of b ≡ a
numbers_are muxes a b h = of_mux (slice_get muxes a.mux) h
  where
    of_mux : (o : Option GraphMux) → option_and_then (arc_at a) o ≡ Some b → numbers_of b ≡ a
    of_mux None e = absurd (let no : ⊥ = cc in no)
    of_mux (Some m) e = numbers_at a m b e

-- in a list whose elements all stand for something, members stand for members
in_stands : {A B : Type 0} (G : A → Option B) (xs : List A) (ys : List B) → map G xs ≡ map (λ y. Some y) ys → (x : A) → In xs x → (y : B) × (In ys y × (G x ≡ Some y))
in_stands G [] ys h x i = absurd i
in_stands G (z ∷ xs) [] h x i = absurd (let no : ⊥ = cc in no)
in_stands G (z ∷ xs) (y ∷ ys) h x i =
    let first : G z ≡ Some y = cc in
    let rest : map G xs ≡ map (λ v. Some v) ys = cc in
    elim i [
      | inl e ↦ (y, (inl refl, subst (λ v. G v ≡ Some y) e first))
      | inr j ↦ (let s = in_stands G xs ys rest x j in (s.0, (inr s.1.0, s.1.1)))
    ]

stands_in : {A B : Type 0} (G : A → Option B) (xs : List A) (ys : List B) → map G xs ≡ map (λ y. Some y) ys → (y : B) → In ys y → (x : A) × (In xs x × (G x ≡ Some y))
stands_in G xs [] h y i = absurd i
stands_in G [] (z ∷ ys) h y i = absurd (let no : ⊥ = cc in no)
stands_in G (x ∷ xs) (z ∷ ys) h y i =
    let first : G x ≡ Some z = cc in
    let rest : map G xs ≡ map (λ v. Some v) ys = cc in
    elim i [
      | inl e ↦ (x, (inl refl, first ∙ ap (λ v. Some v) e))
      | inr j ↦ (let s = stands_in G xs ys rest y j in (s.0, (inr s.1.0, s.1.1)))
    ]

module _ (muxes : List GraphMux) where
  behind : (x : ArcNumbers) (xs : List ArcNumbers) → ((y : ArcNumbers) → In xs y → numbers_cmp x y ≡ Less) → (b : GraphArc) → arc_of muxes x ≡ Some b → (y : GraphArc) → In (filter_map (arc_of muxes) xs) y → arc_cmp b y ≡ Less
  behind x xs h b e y i =
      let s = in_filter_map_from (arc_of muxes) xs y i in
      let first : numbers_of b ≡ x = numbers_are muxes x b e in
      let second : numbers_of y ≡ s.0 = numbers_are muxes s.0 y s.2 in
      ap (λ z. numbers_cmp z (numbers_of y)) first ∙ (ap (numbers_cmp x) second ∙ h s.0 s.1)

  of_first : (x : ArcNumbers) (xs : List ArcNumbers) → ((y : ArcNumbers) → In xs y → numbers_cmp x y ≡ Less) → IsRising arc_cmp (filter_map (arc_of muxes) xs) → (o : Option GraphArc) → arc_of muxes x ≡ o
      → IsRising arc_cmp (filter_map (arc_of muxes) (x ∷ xs))
  of_first x xs h rest None e = rw e rest
  of_first x xs h rest (Some b) e = rw e (behind x xs h b e, rest)

  rising : (xs : List ArcNumbers) → IsRising numbers_cmp xs → IsRising arc_cmp (filter_map (arc_of muxes) xs)
  rising [] h = tt
  rising (x ∷ xs) h = of_first x xs h.0 (rising xs h.1) (arc_of muxes x) refl

some_one : {X : Type 0} (x y : X) (o : Option X) → o ≡ Some x → o ≡ Some y → x ≡ y
some_one x y o e h = cc

module _ (device : Device) (wires : List Wire) where
  abbrev all : List GraphMux
  all = muxes_of device wires

  pub order_kept : (sorted : List ArcNumbers) → InOrderOnce numbers_cmp (arc_numbers device wires all) sorted → InOrderOnce arc_cmp (arcs_of device wires) (filter_map (arc_of all) sorted)
  order_kept sorted h = record { rising = rising all sorted h.rising; members = λ y. (from y, to y) }
    where
      from : (y : GraphArc) → In (filter_map (arc_of all) sorted) y → In (arcs_of device wires) y
      from y i =
          let s = in_filter_map_from (arc_of all) sorted y i in
          let t = in_stands (arc_of all) (arc_numbers device wires all) (arcs_of device wires) (arcs_stand device wires) s.0 ((h.members s.0).0 s.1) in
          subst (In (arcs_of device wires)) (some_one t.0 y (arc_of all s.0) t.1.1 s.2) t.1.0

      to : (y : GraphArc) → In (arcs_of device wires) y → In (filter_map (arc_of all) sorted) y
      to y i =
          let s = stands_in (arc_of all) (arc_numbers device wires all) (arcs_of device wires) (arcs_stand device wires) y i in
          in_filter_map_to (arc_of all) sorted s.0 y ((h.members s.0).1 s.1.0) s.1.1
