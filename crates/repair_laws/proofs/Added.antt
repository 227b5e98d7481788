-- What one more arc adds that the routing takes.
use Rattle.std.proofs.Common.{◌≡◌, ◌≢◌, ℕ, true, ◌⊎◌, ◌↔◌, inl, inr, refl, sym, ap, subst, ◌∙◌}
use Rattle.std.proofs.lemmas.Bool.{false≢true}
use Rattle.words.specs.Members.{In}
use Rattle.patterns.specs.Bits.{DeviceBit, Bits, flipped}
use Rattle.patterns.specs.Fits.{fits, present}
use Rattle.records.specs.Config.{Config}
use Rattle.links.specs.Links.{Drives}
use Rattle.links.proofs.Members.{same_number}
use Rattle.fabric.specs.Graph.{GraphArc, Graph}
use Rattle.fabric.specs.Links.{is_chosen}
use Rattle.fabric.specs.MuxBits.{bits_named}
use Rattle.upset.specs.Configured.{Configured}
use Rattle.repair.specs.Plain.{bits_of_mux}
use Rattle.repair.specs.Added.{with_arc, added}
use Rattle.repair.specs.Turns.{routing}
use Rattle.repair.specs.Usable.{IsRoutable}
use Rattle.repair_laws.proofs.Patterns.{write_off, fits_agree, present_agree, flip_agree, set_bit}
use Rattle.repair_laws.proofs.Numbers.{IsNumbered, in_mux_bits, picked, is_picked, driven_by, drives_by, drives_fixed}

-- arcs of a mux whose bits two images have alike are chosen alike
pub chosen_agree : (g : Graph) → IsNumbered g → (i j : Bits) (c : GraphArc) → In g.arcs c
    → ((d : GraphArc) → In g.arcs d → d.mux ≡ c.mux → (b : DeviceBit) → In (bits_named d.origin d.arc.bits) b → i b ≡ j b)
    → is_chosen g i c ≡ true → is_chosen g j c ≡ true
chosen_agree g num i j c here alike h =
    let p = picked g num i c here h in
    is_picked g num j c here (record {
      fit = sym (fits_agree i j c.origin c.arc.bits (alike c here refl)) ∙ p.fit;
      most = λ d k e f. p.most d k e (fits_agree i j d.origin d.arc.bits (alike d k e) ∙ f);
    })

module _ (k : Configured) (config : Config) (a : GraphArc) (num : IsNumbered k.graph) (use_a : IsRoutable k config a) where
  abbrev pub new : Bits
  new = with_arc k.image a

  -- the arc's bits are bits of its mux
  pub own_bit : (b : DeviceBit) → In (bits_named a.origin a.arc.bits) b → In (bits_of_mux k.graph a.mux) b
  own_bit b n = in_mux_bits k.graph a.mux a b use_a.listed refl n

  -- other muxes see no difference
  pub off_bit : (c : GraphArc) → In k.graph.arcs c → c.mux ≢ a.mux → (b : DeviceBit) → In (bits_named c.origin c.arc.bits) b → new b ≡ k.image b
  off_bit c i other b n = write_off k.image a.origin a.arc.bits b (λ m.
      other (use_a.free_sink.plain.alone b (own_bit b m) c.mux (in_mux_bits k.graph c.mux c b i refl n)))

  pub fits_off : (c : GraphArc) → In k.graph.arcs c → c.mux ≢ a.mux → fits new c.origin c.arc.bits ≡ fits k.image c.origin c.arc.bits
  fits_off c i other = fits_agree new k.image c.origin c.arc.bits (off_bit c i other)

  pub present_off : (flips : Bits) (c : GraphArc) → In k.graph.arcs c → c.mux ≢ a.mux → present (flipped flips new) c.origin c.arc.bits ≡ present (flipped flips k.image) c.origin c.arc.bits
  present_off flips c i other = present_agree (flipped flips new) (flipped flips k.image) c.origin c.arc.bits (λ b n. flip_agree flips new k.image b (off_bit c i other b n))

  -- nothing of the mux was chosen
  pub none_before : (c : GraphArc) → In k.graph.arcs c → is_chosen k.graph k.image c ≡ true → c.mux ≢ a.mux
  none_before c i h same =
      let p = picked k.graph num k.image c i h in
      let r = set_bit k.image c.origin c.arc.bits (use_a.free_sink.plain.has_plain_bits c i same) p.fit in
      false≢true (sym (use_a.free_sink.clear r.bit (in_mux_bits k.graph a.mux c r.bit i same r.named)) ∙ r.is_set)

  pub chosen_to : (c : GraphArc) → In k.graph.arcs c → c.mux ≢ a.mux → is_chosen k.graph k.image c ≡ true → is_chosen k.graph new c ≡ true
  chosen_to c i other h = chosen_agree k.graph num k.image new c i (λ d j e b n. sym (off_bit d j (λ s. other (sym e ∙ s)) b n)) h

  pub chosen_from : (c : GraphArc) → In k.graph.arcs c → c.mux ≢ a.mux → is_chosen k.graph new c ≡ true → is_chosen k.graph k.image c ≡ true
  chosen_from c i other h = chosen_agree k.graph num new k.image c i (λ d j e b n. off_bit d j (λ s. other (sym e ∙ s)) b n) h

  -- what was chosen is, and the arc besides
  pub chosen_old : (c : GraphArc) → In k.graph.arcs c → is_chosen k.graph k.image c ≡ true → is_chosen k.graph new c ≡ true
  chosen_old c i h = chosen_to c i (none_before c i h) h

  pub chosen_new : (c : GraphArc) → In k.graph.arcs c → is_chosen k.graph new c ≡ true → (is_chosen k.graph k.image c ≡ true) ⊎ (c ≡ a)
  chosen_new c i h = elim (same_number c.mux a.mux) [ inl s ↦ inr (use_a.chosen.alone c i s h) | inr n ↦ inl (chosen_from c i n h) ]

  pub link_old : (x w : ℕ) → Drives (routing k) x w → Drives (routing (added k a)) x w
  link_old x w h = elim (driven_by k.graph k.image x w h) [
    | inl l ↦ drives_by k.graph new x w (record { arc = l.arc; listed = l.listed; chosen = chosen_old l.arc l.listed l.chosen; from = l.from; to = l.to })
    | inr i ↦ drives_fixed k.graph new x w i
  ]

  pub link_added : Drives (routing (added k a)) a.source a.sink
  link_added = drives_by k.graph new a.source a.sink (record { arc = a; listed = use_a.listed; chosen = use_a.chosen.chosen; from = refl; to = refl })

  pub link_new : (x w : ℕ) → Drives (routing (added k a)) x w → Drives (routing k) x w ⊎ ((x ≡ a.source) × (w ≡ a.sink))
  link_new x w h = elim (driven_by k.graph new x w h) [
    | inl l ↦ elim (chosen_new l.arc l.listed l.chosen) [
      | inl c ↦ inl (drives_by k.graph k.image x w (record { arc = l.arc; listed = l.listed; chosen = c; from = l.from; to = l.to }))
      | inr s ↦ inr (sym l.from ∙ ap (λ c. c.source) s, sym l.to ∙ ap (λ c. c.sink) s)
    ]
    | inr i ↦ inl (drives_fixed k.graph k.image x w i)
  ]

  -- an arc into the sink is of its one mux
  pub into_sink : (c : GraphArc) → In k.graph.arcs c → c.sink ≡ a.sink → c.mux ≡ a.mux
  into_sink c i e = let m = num.has_mux c i in use_a.free_sink.one_mux c.mux m.0 m.1.0 (m.1.1 ∙ e)

  -- nothing led into the sink
  pub undriven : (x : ℕ) → Drives (routing k) x a.sink → ⊥
  undriven x h = elim (driven_by k.graph k.image x a.sink h) [
    | inl l ↦ none_before l.arc l.listed l.chosen (into_sink l.arc l.listed l.to)
    | inr i ↦ use_a.free_sink.none_fixed (record { source = x; sink = a.sink }) i refl
  ]

  pub links_law : (x w : ℕ) → Drives (routing (added k a)) x w ↔ (Drives (routing k) x w ⊎ ((x ≡ a.source) × (w ≡ a.sink)))
  links_law x w = (
    link_new x w,
    (λ h. elim h [
      | inl l ↦ link_old x w l
      | inr s ↦ subst (λ y. Drives (routing (added k a)) y w) (sym s.0) (subst (λ y. Drives (routing (added k a)) a.source y) (sym s.1) link_added)
    ]),
  )
