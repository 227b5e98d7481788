-- What is chosen, by a list and by a test, and what the lists of links and of bits hold.
use Rattle.std.proofs.Common.{◌≡◌, ◌++◌, ℕ, ◌≤◌, Bool, true, ◌⊎◌, ◌↔◌, inl, inr, List, length, map, filter, nat_le, sym, subst, eq-eqb}
use Rattle.std.specs.Prelude.{not, ◌==◌, ◌||◌}
use Rattle.std.proofs.lemmas.Bool.{and_parts, and_from, le-leb, leb-true, eqb-true}
use Rattle.words.specs.Members.{In}
use Rattle.links.specs.Links.{Link}
use Rattle.patterns.specs.Bits.{DeviceBit, PatternBit, Bits, same_bit}
use Rattle.patterns.specs.Fits.{fits}
use Rattle.fabric.specs.Chosen.{is_longest, is_best_fit, best_fits}
use Rattle.fabric.specs.Graph.{GraphArc, Graph}
use Rattle.fabric.specs.Links.{arcs_of_mux, is_chosen, link_of, links_of}
use Rattle.fabric.specs.MuxBits.{bits_named, mux_bits, is_mux_bit}
use Rattle.links.proofs.Members.{in_left, in_right, in_either, in_map, of_map, in_flat_map, of_flat_map}
use Rattle.fabric_laws.proofs.Members.{in_filter_from, in_filter_to, all_from, all_to, any_from, any_to, imp_from, imp_to}
use Rattle.fabric_laws.proofs.SameBits.{same_is, same_refl}

-- it fits, and no pattern of the list that fits is longer
pub record IsBest {X : Type 0} (pattern : X → List PatternBit) (image : Bits) (origin : DeviceBit) (xs : List X) (x : X) : Type 0 where
  pub fit : fits image origin (pattern x) ≡ true
  pub longest : (y : X) → In xs y → fits image origin (pattern y) ≡ true → length (pattern y) ≤ length (pattern x)

module _ {X : Type 0} (pattern : X → List PatternBit) (image : Bits) (origin : DeviceBit) (xs : List X) where
  pub best_from : (x : X) → is_best_fit pattern image origin xs x ≡ true → IsBest pattern image origin xs x
  best_from x h =
      let parts = and_parts (fits image origin (pattern x)) (is_longest pattern image origin xs x) h in
      record {
        fit = parts.0;
        longest = λ y i f. leb-true (length (pattern y)) (length (pattern x))
            (imp_from (fits image origin (pattern y)) (nat_le (length (pattern y)) (length (pattern x)))
            (all_from (λ other. not (fits image origin (pattern other)) || nat_le (length (pattern other)) (length (pattern x))) xs parts.1 y i) f);
      }

  pub best_to : (x : X) → IsBest pattern image origin xs x → is_best_fit pattern image origin xs x ≡ true
  best_to x b = and_from (fits image origin (pattern x)) (is_longest pattern image origin xs x) b.fit
      (all_to (λ other. not (fits image origin (pattern other)) || nat_le (length (pattern other)) (length (pattern x))) xs (λ y i.
      imp_to (fits image origin (pattern y)) (nat_le (length (pattern y)) (length (pattern x))) (λ f. le-leb (length (pattern y)) (length (pattern x)) (b.longest y i f))))

  pub best_list : (x : X) → In (best_fits pattern image origin xs) x
      ↔ (In xs x × (fits image origin (pattern x) ≡ true) × ((y : X) → In xs y → fits image origin (pattern y) ≡ true → length (pattern y) ≤ length (pattern x)))
  best_list x = (
    (λ h. let r = in_filter_from (is_best_fit pattern image origin xs) xs x h in let b = best_from x r.1 in (r.0, b.fit, b.longest)),
    (λ h. in_filter_to (is_best_fit pattern image origin xs) xs x h.0 (best_to x (record { fit = h.1; longest = h.2 }))),
  )

pub in_mux_to : (g : Graph) (mux : ℕ) (a : GraphArc) → In g.arcs a → a.mux ≡ mux → In (arcs_of_mux g mux) a
in_mux_to g mux a i e = in_filter_to (λ b. b.mux == mux) g.arcs a i (eq-eqb a.mux mux e)

pub in_mux_from : (g : Graph) (mux : ℕ) (a : GraphArc) → In (arcs_of_mux g mux) a → In g.arcs a × (a.mux ≡ mux)
in_mux_from g mux a i = let r = in_filter_from (λ b. b.mux == mux) g.arcs a i in (r.0, eqb-true a.mux mux r.1)

pub chosen_arc : (g : Graph) (image : Bits) (a : GraphArc) → (is_chosen g image a ≡ true)
    ↔ ((fits image a.origin a.arc.bits ≡ true) × ((b : GraphArc) → In g.arcs b → b.mux ≡ a.mux → fits image a.origin b.arc.bits ≡ true → length b.arc.bits ≤ length a.arc.bits))
chosen_arc g image a = (
  (λ h. let b = best_from (λ x. x.arc.bits) image a.origin (arcs_of_mux g a.mux) a h in (b.fit, λ y i e f. b.longest y (in_mux_to g a.mux y i e) f)),
  (λ h. best_to (λ x. x.arc.bits) image a.origin (arcs_of_mux g a.mux) a (record {
    fit = h.0;
    longest = λ y i f. let r = in_mux_from g a.mux y i in h.1 y r.0 r.1 f;
  })),
)

-- the links of the arcs that pass a test, and fixed ones
pub arc_links : (g : Graph) (test : GraphArc → Bool) (link : Link)
    → In (map link_of (filter test g.arcs) ++ g.fixed) link ↔ (((a : GraphArc) × (In g.arcs a × (test a ≡ true) × (link_of a ≡ link))) ⊎ In g.fixed link)
arc_links g test link = (
  (λ h. elim (in_either (map link_of (filter test g.arcs)) g.fixed link h) [
    | inl i ↦ (let r = of_map link_of (filter test g.arcs) link i in let s = in_filter_from test g.arcs r.0 r.1.0 in inl (r.0, (s.0, s.1, r.1.1)))
    | inr i ↦ inr i
  ]),
  (λ h. elim h [
    | inl r ↦ in_left (map link_of (filter test g.arcs)) g.fixed link (subst (In (map link_of (filter test g.arcs))) r.1.2 (in_map link_of (filter test g.arcs) r.0 (in_filter_to test g.arcs r.0 r.1.0 r.1.1)))
    | inr i ↦ in_right (map link_of (filter test g.arcs)) g.fixed link i
  ]),
)

pub links_law : (g : Graph) (image : Bits) (link : Link) → In (links_of g image) link
    ↔ (((a : GraphArc) × (In g.arcs a × (is_chosen g image a ≡ true) × (link_of a ≡ link))) ⊎ In g.fixed link)
links_law g image link = arc_links g (is_chosen g image) link

pub mux_bits_law : (g : Graph) (b : DeviceBit) → (is_mux_bit g b ≡ true) ↔ ((a : GraphArc) × (In g.arcs a × In (bits_named a.origin a.arc.bits) b))
mux_bits_law g b = (
  (λ h. let r = any_from (same_bit b) (mux_bits g) h in
      let s = of_flat_map (λ a. bits_named a.origin a.arc.bits) g.arcs r.0 r.1 in
      (s.0, (s.1.0, subst (In (bits_named s.0.origin s.0.arc.bits)) (sym (same_is b r.0 r.2)) s.1.1))),
  (λ h. any_to (same_bit b) (mux_bits g) b (in_flat_map (λ a. bits_named a.origin a.arc.bits) g.arcs h.0 b h.1.0 h.1.1) (same_refl b)),
)
