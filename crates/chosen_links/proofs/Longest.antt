-- The most bits of an arc that fits, arc by arc, and the arcs that are chosen.
use Rattle.std.proofs.Common.{◌≡◌, ℕ, ◌+◌, ◌<◌, ◌≤◌, Bool, true, false, cond, ◌&&◌, List, length, get_or, take, map, max, Some, option_map, refl, sym, ap, subst, ◌∙◌, inl, inr, eq-eqb, arith}
use Rattle.std.specs.Prelude.{slice_get, nat_le, ◌==◌}
use Rattle.std.proofs.lemmas.Bool.{and_parts, and_from, eqb-true, le-leb, leb-true}
use Rattle.std.proofs.lemmas.Option.{get_or_from_slice_get, slice_get_within}
use Rattle.words.specs.Members.{In}
use Rattle.patterns.specs.Bits.{PatternBit, Bits}
use Rattle.patterns.specs.Fits.{fits}
use Rattle.fabric.specs.Device.{Device}
use Rattle.fabric.specs.Graph.{GraphMux, GraphArc, Graph}
use Rattle.fabric.specs.GraphOf.{IsGraph}
use Rattle.fabric.specs.Links.{arcs_of_mux, is_chosen}
use Rattle.fabric_laws.proofs.Chosen.{in_mux_to, in_mux_from}
use Rattle.fabric_laws.proofs.Graphs.{some_same}
use Rattle.fabric_laws.proofs.Numbered.{get_in}
use Rattle.fabric_laws.proofs.Standing.{arc_stands}
use Rattle.records.specs.Grid.{origin_of}
use Rattle.graph_lists.specs.ArcLists.{ArcNumbers, numbers_of}
use Rattle.chosen_arcs.specs.Places.{IsMost}
use Rattle.chosen_arcs.proofs.Longest.{most_step, best_is}
use Rattle.chosen_links.specs.Fitting.{AreMost, RaisedFor, bits_count, fits_in, fits_of_mux}
use Rattle.chosen_links.proofs.Standing.{had}

-- numbers are raised for an arc where they are for its mux and the bits of its pattern
pub raised_for : (g : Graph) (a : ℕ) (fit : Bool) (n : ArcNumbers) (pattern : List PatternBit) (old new : List ℕ)
    → option_map numbers_of (slice_get g.arcs a) ≡ Some n → option_map (λ (arc : GraphArc). arc.arc.bits) (slice_get g.arcs a) ≡ Some pattern → length old ≡ length g.muxes
    → ((k : ℕ) → k < length old → get_or new k 0 ≡ cond ((n.mux == k) && fit) (max (length pattern) (get_or old k 0)) (get_or old k 0))
    → RaisedFor g a fit old new
raised_for g a fit n pattern old new h p long raised arc at m below =
    let numbers = had numbers_of (slice_get g.arcs a) n h in
    let bits = had (λ (x : GraphArc). x.arc.bits) (slice_get g.arcs a) pattern p in
    let same : numbers.element ≡ arc = some_same (sym numbers.there ∙ at) in
    let other : bits.element ≡ arc = some_same (sym bits.there ∙ at) in
    let mux : n.mux ≡ arc.mux = ap (λ (x : ArcNumbers). x.mux) (sym numbers.is) ∙ ap (λ (x : GraphArc). x.mux) same in
    let count : length pattern ≡ bits_count arc = ap (λ (x : List PatternBit). length x) (sym bits.is) ∙ ap bits_count other in
    let old_one = get_or old m 0 in
    raised m (subst (λ k. m < k) (sym long) below)
    ∙ (ap (λ k. cond ((k == m) && fit) (max (length pattern) old_one) old_one) mux
    ∙ ap (λ k. cond ((arc.mux == m) && fit) (max k old_one) old_one) count)

-- the most once one more arc is looked at
pub most_more : (g : Graph) (image : Bits) (fitting : List Bool) (i : ℕ) (old new : List ℕ) → i < length g.arcs → fitting ≡ map (fits_in image) g.arcs
    → option_map (fits_in image) (slice_get g.arcs i) ≡ Some (get_or fitting i false) → RaisedFor g i (get_or fitting i false) old new
    → ((m : ℕ) → m < length g.muxes → IsMost (fits_of_mux image m) bits_count (take i g.arcs) (get_or old m 0))
    → (m : ℕ) → m < length g.muxes → IsMost (fits_of_mux image m) bits_count (take (i + 1) g.arcs) (get_or new m 0)
most_more g image fitting i old new within are told raised so_far m below =
    let fit = get_or fitting i false in
    let h = had (fits_in image) (slice_get g.arcs i) fit told in
    let x : GraphArc = h.element in
    let old_one = get_or old m 0 in
    most_step (fits_of_mux image m) bits_count (take i g.arcs) g.arcs i old_one (get_or new m 0) x (fits_of_mux image m x) within
    (sym (get_or_from_slice_get g.arcs i x x h.there)) refl (so_far m below) refl
    (raised x h.there m below ∙ ap (λ b. cond ((x.mux == m) && b) (max (bits_count x) old_one) old_one) (sym h.is))

module _ (device : Device) (g : Graph) (is : IsGraph device g) (image : Bits) (most : List ℕ) (are : AreMost g image most) where
  same_origin : (x y : GraphArc) → In g.arcs x → In g.arcs y → y.mux ≡ x.mux → y.origin ≡ x.origin
  same_origin x y i j e =
      let a = arc_stands device g is x i in
      let b = arc_stands device g is y j in
      let mux : b.mux ≡ a.mux = some_same (sym b.of_mux ∙ (ap (λ m. slice_get g.muxes m) e ∙ a.of_mux)) in
      let tile : b.tile ≡ a.tile = some_same (sym b.in_tile ∙ (ap (λ (m : GraphMux). slice_get device.grid.tiles m.tile) mux ∙ a.in_tile)) in
      b.origin ∙ (ap (λ t. origin_of t) tile ∙ sym a.origin)

  most_at : (x : GraphArc) → In g.arcs x → IsMost (λ y. fits image x.origin y.arc.bits) bits_count (arcs_of_mux g x.mux) (get_or most x.mux 0)
  most_at x i =
      let own = arc_stands device g is x i in
      let m = are x.mux (slice_get_within g.muxes x.mux own.mux own.of_mux) in record {
        above = λ y j f.
            let r = in_mux_from g x.mux y j in
            m.above y r.0 (and_from (y.mux == x.mux) (fits_in image y) (eq-eqb y.mux x.mux r.1) (ap (λ o. fits image o y.arc.bits) (same_origin x y i r.0 r.1) ∙ f));
        reached = elim m.reached [
          | inl z ↦ inl z
          | inr r ↦ (let parts = and_parts (r.0.mux == x.mux) (fits_in image r.0) r.1.1.0 in
              let e = eqb-true r.0.mux x.mux parts.0 in
              inr (r.0, (in_mux_to g x.mux r.0 r.1.0 e, (ap (λ o. fits image o r.0.arc.bits) (sym (same_origin x r.0 i r.1.0 e)) ∙ parts.1, r.1.1.1))))
        ];
      }

  -- an arc that fits with the most bits of its mux is chosen, and no other is
  pub chosen_is : (x : GraphArc) → In g.arcs x → (nat_le (get_or most x.mux 0) (bits_count x) && fits_in image x) ≡ is_chosen g image x
  chosen_is x i = best_is (λ (y : GraphArc). y.arc.bits) image x.origin (arcs_of_mux g x.mux) (get_or most x.mux 0) (most_at x i) x

  -- the same of what is told of an arc
  pub chosen_told : (fitting : List Bool) (a : ℕ) (n : ArcNumbers) (pattern : List PatternBit) (b : Bool) → a < length g.arcs
      → option_map (fits_in image) (slice_get g.arcs a) ≡ Some (get_or fitting a false)
      → option_map numbers_of (slice_get g.arcs a) ≡ Some n → option_map (λ (arc : GraphArc). arc.arc.bits) (slice_get g.arcs a) ≡ Some pattern
      → b ≡ (nat_le (get_or most n.mux 0) (length pattern) && get_or fitting a false)
      → option_map (is_chosen g image) (slice_get g.arcs a) ≡ Some b
  chosen_told fitting a n pattern b within told h p made =
      let fit = had (fits_in image) (slice_get g.arcs a) (get_or fitting a false) told in
      let numbers = had numbers_of (slice_get g.arcs a) n h in
      let bits = had (λ (x : GraphArc). x.arc.bits) (slice_get g.arcs a) pattern p in
      let x : GraphArc = fit.element in
      let same : numbers.element ≡ x = some_same (sym numbers.there ∙ fit.there) in
      let other : bits.element ≡ x = some_same (sym bits.there ∙ fit.there) in
      let mux : n.mux ≡ x.mux = ap (λ (y : ArcNumbers). y.mux) (sym numbers.is) ∙ ap (λ (y : GraphArc). y.mux) same in
      let count : length pattern ≡ bits_count x = ap (λ (y : List PatternBit). length y) (sym bits.is) ∙ ap bits_count other in
      ap (option_map (is_chosen g image)) fit.there ∙ ap (λ c. Some c)
      (sym (chosen_is x (get_in g.arcs a x fit.there)) ∙ sym (made ∙ (ap (λ k. nat_le (get_or most k 0) (length pattern) && get_or fitting a false) mux
      ∙ (ap (λ k. nat_le (get_or most x.mux 0) k && get_or fitting a false) count ∙ ap (λ c. nat_le (get_or most x.mux 0) (bits_count x) && c) (sym fit.is)))))

  -- what the two ways say of an arc that is looked at
  pub told_then : (fitting : List Bool) (a k u : ℕ) (n : ArcNumbers) (pattern : List PatternBit) → a < length g.arcs
      → option_map (fits_in image) (slice_get g.arcs a) ≡ Some (get_or fitting a false)
      → option_map numbers_of (slice_get g.arcs a) ≡ Some n → option_map (λ (arc : GraphArc). arc.arc.bits) (slice_get g.arcs a) ≡ Some pattern
      → k ≡ n.mux → u ≡ a → get_or most k 0 ≤ length pattern
      → option_map (is_chosen g image) (slice_get g.arcs a) ≡ Some (get_or fitting u false)
  told_then fitting a k u n pattern within told h p mux at long =
      chosen_told fitting a n pattern (get_or fitting u false) within told h p
      (ap (λ m. get_or fitting m false) at ∙ ap (λ b. b && get_or fitting a false) (sym (le-leb (get_or most n.mux 0) (length pattern) (subst (λ m. get_or most m 0 ≤ length pattern) mux long))))

  pub told_else : (fitting : List Bool) (a k : ℕ) (n : ArcNumbers) (pattern : List PatternBit) → a < length g.arcs
      → option_map (fits_in image) (slice_get g.arcs a) ≡ Some (get_or fitting a false)
      → option_map numbers_of (slice_get g.arcs a) ≡ Some n → option_map (λ (arc : GraphArc). arc.arc.bits) (slice_get g.arcs a) ≡ Some pattern
      → k ≡ n.mux → length pattern < get_or most k 0
      → option_map (is_chosen g image) (slice_get g.arcs a) ≡ Some (nat_le (get_or most k 0) (length pattern))
  told_else fitting a k n pattern within told h p mux short =
      chosen_told fitting a n pattern (nat_le (get_or most k 0) (length pattern)) within told h p
      (go (nat_le (get_or most k 0) (length pattern)) refl ∙ ap (λ m. nat_le (get_or most m 0) (length pattern) && get_or fitting a false) mux)
    where
      go : (b : Bool) → nat_le (get_or most k 0) (length pattern) ≡ b → b ≡ (b && get_or fitting a false)
      go true e = absurd (let l = leb-true (get_or most k 0) (length pattern) e in omega arith)
      go false e = refl
