-- What the numbers of arcs and muxes mean, and chosen arcs by all arcs of their mux.
use Rattle.std.proofs.Common.{◌≡◌, ℕ, ◌≤◌, true, ◌⊎◌, inl, inr, length, Some, refl, sym, ap, subst, ◌∙◌}
use Rattle.std.specs.Prelude.{slice_get}
use Rattle.words.specs.Members.{In}
use Rattle.patterns.specs.Bits.{DeviceBit, Bits}
use Rattle.patterns.specs.Fits.{fits}
use Rattle.links.specs.Links.{Drives}
use Rattle.links.proofs.Members.{in_flat_map, of_flat_map}
use Rattle.fabric.specs.Device.{Device}
use Rattle.fabric.specs.Graph.{GraphMux, GraphArc, Graph}
use Rattle.fabric.specs.GraphOf.{IsGraph}
use Rattle.fabric.specs.Links.{is_chosen, routing_of}
use Rattle.fabric.specs.MuxBits.{bits_named, is_mux_bit}
use Rattle.fabric_laws.proofs.Chosen.{chosen_arc, links_law, mux_bits_law, in_mux_to, in_mux_from}
use Rattle.fabric_laws.proofs.Graphs.{some_same}
use Rattle.fabric_laws.proofs.Standing.{arc_stands}
use Rattle.repair.specs.Plain.{bits_of_mux}

-- arcs of one mux have its sink and lie in its tile
pub record IsNumbered (g : Graph) : Type 0 where
  pub one_sink : (a b : GraphArc) → In g.arcs a → In g.arcs b → a.mux ≡ b.mux → a.sink ≡ b.sink
  pub one_origin : (a b : GraphArc) → In g.arcs a → In g.arcs b → a.mux ≡ b.mux → a.origin ≡ b.origin
  pub has_mux : (a : GraphArc) → In g.arcs a → (m : GraphMux) × ((slice_get g.muxes a.mux ≡ Some m) × (m.sink ≡ a.sink))

pub numbered : (device : Device) (g : Graph) → IsGraph device g → IsNumbered g
numbered device g is = record {
  one_sink = λ a b i j e.
      let p = arc_stands device g is a i in
      let q = arc_stands device g is b j in
      let same : p.mux ≡ q.mux = some_same (sym p.of_mux ∙ ap (slice_get g.muxes) e ∙ q.of_mux) in
      p.same_sink ∙ ap (λ m. m.sink) same ∙ sym q.same_sink;
  one_origin = λ a b i j e.
      let p = arc_stands device g is a i in
      let q = arc_stands device g is b j in
      let same : p.mux ≡ q.mux = some_same (sym p.of_mux ∙ ap (slice_get g.muxes) e ∙ q.of_mux) in
      let tile : p.tile ≡ q.tile = some_same (sym p.in_tile ∙ ap (λ m. slice_get device.grid.tiles m.tile) same ∙ q.in_tile) in
      p.origin ∙ ap (λ t. record { frame = t.start_frame; bit = t.start_bit }) tile ∙ sym q.origin;
  has_mux = λ a i. (let p = arc_stands device g is a i in (p.mux, (p.of_mux, sym p.same_sink)));
}

-- the bits of a mux are those that its arcs name
pub in_mux_bits : (g : Graph) (mux : ℕ) (a : GraphArc) (b : DeviceBit) → In g.arcs a → a.mux ≡ mux → In (bits_named a.origin a.arc.bits) b → In (bits_of_mux g mux) b
in_mux_bits g mux a b i e n = in_flat_map (λ c. bits_named c.origin c.arc.bits) _ a b (in_mux_to g mux a i e) n

-- an arc of a mux that names a bit
pub record NamesBit (g : Graph) (mux : ℕ) (b : DeviceBit) : Type 0 where
  pub arc : GraphArc
  pub listed : In g.arcs arc
  pub of_mux : arc.mux ≡ mux
  pub named : In (bits_named arc.origin arc.arc.bits) b

pub of_mux_bits : (g : Graph) (mux : ℕ) (b : DeviceBit) → In (bits_of_mux g mux) b → NamesBit g mux b
of_mux_bits g mux b i =
    let r = of_flat_map (λ c. bits_named c.origin c.arc.bits) _ b i in
    let s = in_mux_from g mux r.0 r.1.0 in
    record { arc = r.0; listed = s.0; of_mux = s.1; named = r.1.1 }

pub mux_bit_named : (g : Graph) (b : DeviceBit) → is_mux_bit g b ≡ true → (mux : ℕ) × In (bits_of_mux g mux) b
mux_bit_named g b h = let r = (mux_bits_law g b).0 h in (r.0.mux, in_mux_bits g r.0.mux r.0 b r.1.0 refl r.1.1)

pub mux_bit_is : (g : Graph) (mux : ℕ) (b : DeviceBit) → In (bits_of_mux g mux) b → is_mux_bit g b ≡ true
mux_bit_is g mux b i = let n = of_mux_bits g mux b i in (mux_bits_law g b).1 (n.arc, (n.listed, n.named))

-- it fits, and has as many bits as any arc of its mux that fits
pub record IsPicked (g : Graph) (image : Bits) (a : GraphArc) : Type 0 where
  pub fit : fits image a.origin a.arc.bits ≡ true
  pub most : (b : GraphArc) → In g.arcs b → b.mux ≡ a.mux → fits image b.origin b.arc.bits ≡ true → length b.arc.bits ≤ length a.arc.bits

module _ (g : Graph) (num : IsNumbered g) (image : Bits) (a : GraphArc) (i : In g.arcs a) where
  pub picked : is_chosen g image a ≡ true → IsPicked g image a
  picked h = let p = (chosen_arc g image a).0 h in record {
    fit = p.0;
    most = λ b j e f. p.1 b j e (subst (λ o. fits image o b.arc.bits ≡ true) (num.one_origin b a j i e) f);
  }

  pub is_picked : IsPicked g image a → is_chosen g image a ≡ true
  is_picked p = (chosen_arc g image a).1 (p.fit, λ b j e f. p.most b j e (subst (λ o. fits image o b.arc.bits ≡ true) (sym (num.one_origin b a j i e)) f))

-- a chosen arc that leads from a wire to another
pub record LeadsBy (g : Graph) (image : Bits) (x w : ℕ) : Type 0 where
  pub arc : GraphArc
  pub listed : In g.arcs arc
  pub chosen : is_chosen g image arc ≡ true
  pub from : arc.source ≡ x
  pub to : arc.sink ≡ w

pub driven_by : (g : Graph) (image : Bits) (x w : ℕ) → Drives (routing_of g image) x w → LeadsBy g image x w ⊎ In g.fixed (record { source = x; sink = w })
driven_by g image x w h = elim ((links_law g image (record { source = x; sink = w })).0 h) [
  | inl r ↦ inl (record { arc = r.0; listed = r.1.0; chosen = r.1.1; from = ap (λ l. l.source) r.1.2; to = ap (λ l. l.sink) r.1.2 })
  | inr i ↦ inr i
]

pub drives_by : (g : Graph) (image : Bits) (x w : ℕ) → LeadsBy g image x w → Drives (routing_of g image) x w
drives_by g image x w l =
    let from = l.from in
    let to = l.to in
    (links_law g image (record { source = x; sink = w })).1 (inl (l.arc, (l.listed, l.chosen, λ i. record { source = from i; sink = to i })))

pub drives_fixed : (g : Graph) (image : Bits) (x w : ℕ) → In g.fixed (record { source = x; sink = w }) → Drives (routing_of g image) x w
drives_fixed g image x w i = (links_law g image (record { source = x; sink = w })).1 (inr i)
