-- Which arcs of a mux conduct after a flip.
use Rattle.std.proofs.Common.{◌≡◌, ℕ, ◌<◌, ◌≤◌, true, false, List, length, Option, Some, option_map, sym, ap, subst, ◌∙◌, inl, inr, eq-eqb}
use Rattle.std.specs.Prelude.{slice_get, ◌==◌}
use Rattle.std.specs.Option.{option_map_or}
use Rattle.std.proofs.lemmas.Bool.{eqb-true}
use Rattle.std.proofs.lemmas.Option.{slice_get_within}
use Rattle.words.specs.Members.{In}
use Rattle.patterns.specs.Bits.{Bits, PatternBit, flipped}
use Rattle.patterns.specs.Fits.{fits}
use Rattle.records.specs.Grid.{origin_of}
use Rattle.fabric.specs.Device.{Device}
use Rattle.fabric.specs.Graph.{GraphMux, GraphArc, Graph}
use Rattle.fabric.specs.GraphOf.{IsGraph}
use Rattle.fabric.specs.Links.{arcs_of_mux, is_chosen}
use Rattle.fabric_laws.proofs.Chosen.{in_mux_to, in_mux_from}
use Rattle.fabric_laws.proofs.Graphs.{some_same}
use Rattle.fabric_laws.proofs.Members.{if_true, if_false}
use Rattle.fabric_laws.proofs.Numbered.{get_in, number_there}
use Rattle.fabric_laws.proofs.Standing.{arc_stands}
use Rattle.graph_lists.specs.ArcLists.{arcs_in}
use Rattle.graph_lists.proofs.Listed.{place_from, place_to}
use Rattle.upset.specs.After.{is_affected}
use Rattle.chosen_arcs.specs.Places.{IsMost}
use Rattle.chosen_arcs.proofs.Longest.{best_is}
use Rattle.chosen_links.specs.Fitting.{bits_count, fits_in}
use Rattle.chosen_links.proofs.Standing.{had}
use Rattle.upset_effect.specs.declared.rule.MuxRule.TheVariants.{Present, Fits}
use Rattle.upset_effect.specs.Passing.{IsRuleOf, bits_at, fits_at, present_in}

-- what is made of an element that is there
pub told_or : {X Y : Type 0} (f : X → Y) (o : Option X) (y d : Y) → option_map f o ≡ Some y → option_map_or f o d ≡ y
told_or f o y d h = let r = had f o y h in ap (λ p. option_map_or f p d) r.there ∙ r.is

-- an arc of a mux has a number below the count
pub arc_below : (g : Graph) (m a : ℕ) → In (arcs_in g m) a → a < length g.arcs
arc_below g m a i = let r = place_from (λ (x : GraphArc). x.mux == m) g.arcs a i in slice_get_within g.arcs a r.0 r.1.0

-- an affected mux
pub present_rule : (g : Graph) (image flips : Bits) (m : ℕ) → is_affected g flips m ≡ true → IsRuleOf g image flips m Present
present_rule g image flips m h a i e =
    sym (if_true (is_affected g flips a.mux) (present_in (flipped flips image) a) (is_chosen g image a) (ap (is_affected g flips) e ∙ h))

module _ (device : Device) (g : Graph) (is : IsGraph device g) (image : Bits) where
  same_origin : (x y : GraphArc) → In g.arcs x → In g.arcs y → y.mux ≡ x.mux → y.origin ≡ x.origin
  same_origin x y i j e =
      let a = arc_stands device g is x i in
      let b = arc_stands device g is y j in
      let mux : b.mux ≡ a.mux = some_same (sym b.of_mux ∙ (ap (λ m. slice_get g.muxes m) e ∙ a.of_mux)) in
      let tile : b.tile ≡ a.tile = some_same (sym b.in_tile ∙ (ap (λ (m : GraphMux). slice_get device.grid.tiles m.tile) mux ∙ a.in_tile)) in
      b.origin ∙ (ap (λ t. origin_of t) tile ∙ sym a.origin)

  -- the most bits of the arcs of a mux, as seen from one of them
  most_at : (m n : ℕ) → IsMost (fits_at g image) (bits_at g) (arcs_in g m) n → (x : GraphArc) → In g.arcs x → x.mux ≡ m
      → IsMost (λ y. fits image x.origin y.arc.bits) bits_count (arcs_of_mux g x.mux) n
  most_at m n most x i own = record {
    above = λ y j f.
        let r = in_mux_from g x.mux y j in
        let k = number_there g.arcs y r.0 in
        let same = ap (λ o. fits image o y.arc.bits) (same_origin x y i r.0 r.1) in
        subst (λ z. z ≤ n) (ap (λ o. option_map_or bits_count o 0) k.1)
        (most.above k.0 (place_to (λ (a : GraphArc). a.mux == m) g.arcs k.0 y k.1 (eq-eqb y.mux m (r.1 ∙ own))) (ap (λ o. option_map_or (fits_in image) o false) k.1 ∙ (same ∙ f)));
    reached = elim most.reached [
      | inl z ↦ inl z
      | inr r ↦ (let p = place_from (λ (a : GraphArc). a.mux == m) g.arcs r.0 r.1.0 in
          let there = get_in g.arcs r.0 p.0 p.1.0 in
          let e : p.0.mux ≡ x.mux = eqb-true p.0.mux m p.1.1 ∙ sym own in
          inr (
            p.0,
            (
              in_mux_to g x.mux p.0 there e,
              (
                ap (λ o. fits image o p.0.arc.bits) (sym (same_origin x p.0 i there e)) ∙ (sym (ap (λ o. option_map_or (fits_in image) o false) p.1.0) ∙ r.1.1.0),
                sym (ap (λ o. option_map_or bits_count o 0) p.1.0) ∙ r.1.1.1,
              ),
            ),
          ))
    ];
  }

  -- a mux that isn't affected
  pub fits_rule : (flips : Bits) (m n : ℕ) → is_affected g flips m ≡ false → IsMost (fits_at g image) (bits_at g) (arcs_in g m) n → IsRuleOf g image flips m (Fits n)
  fits_rule flips m n h most a i e =
      best_is (λ (y : GraphArc). y.arc.bits) image a.origin (arcs_of_mux g a.mux) n (most_at m n most a i e) a
      ∙ sym (if_false (is_affected g flips a.mux) (present_in (flipped flips image) a) (is_chosen g image a) (ap (is_affected g flips) e ∙ h))

-- the bits of an arc whose pattern is told
pub told_length : (o : Option GraphArc) (pattern : List PatternBit) → option_map (λ (a : GraphArc). a.arc.bits) o ≡ Some pattern → option_map_or bits_count o 0 ≡ length pattern
told_length o pattern h = let r = had (λ (a : GraphArc). a.arc.bits) o pattern h in ap (λ p. option_map_or bits_count p 0) r.there ∙ ap (λ (p : List PatternBit). length p) r.is
