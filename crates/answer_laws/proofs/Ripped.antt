-- Which nets are ripped, which lines go with them and which connections are lost can be decided, and connections can be
-- listed.
use Rattle.std.proofs.Common.{◌≡◌, ◌≢◌, ℕ, true, ◌↔◌, inl, inr, List, [], ◌∷◌, map, Option, Some, None, refl, sym, ap, subst}
use Rattle.std.specs.Prelude.{option_and_then}
use Rattle.std.specs.List.{flat_map}
use Rattle.words.specs.Members.{In}
use Rattle.patterns.specs.Bits.{DeviceBit, Bits}
use Rattle.records.specs.Config.{ArcLine, Config}
use Rattle.records.specs.Side.{Domain, D0, D1, D2}
use Rattle.links.specs.Links.{Feeds}
use Rattle.links.proofs.Members.{in_map, in_flat_map, is_in, same_number}
use Rattle.fabric.specs.Device.{Device}
use Rattle.fabric.specs.Graph.{GraphArc, Graph}
use Rattle.fabric.specs.Image.{tile_named, arc_of_line}
use Rattle.fabric.specs.MuxBits.{bits_named, mux_bits, is_mux_bit}
use Rattle.fabric_laws.proofs.Chosen.{mux_bits_law}
use Rattle.fabric_laws.proofs.Graphs.{some_same}
use Rattle.circuit.specs.Parts.{Kind, OfTable, OfRegister, OfInput, OfClock, PartRef, Source, sources}
use Rattle.circuit.specs.Pins.{pins}
use Rattle.circuit.specs.Circuits.{Circuit, Connection, IsConnection}
use Rattle.upset.specs.Configured.{Configured}
use Rattle.upset.specs.Effect.{IsDisturbed}
use Rattle.upset.specs.Safe.{FlipsHave, IsBad, IsSafe, only}
use Rattle.words.proofs.Decided.{Decided, both, either, never, decided_by, is_true, some_in, some, chosen}
use Rattle.upset_laws.proofs.Decide.{is_disturbed, effect_list}
use Rattle.repair.specs.Layouts.{configured}
use Rattle.repair.specs.Nets.{nets, clock_nets, IsReached, IsChosenToRip, IsRipped}
use Rattle.records.specs.Ripping.{Rip, RipUnsafe, RipAll}
use Rattle.repair.specs.Plain.{IsPlain}
use Rattle.repair.specs.Ripping.{IsRippedLine}
use Rattle.repair.specs.Turns.{routing}
use Rattle.attempts.specs.Jobs.{Job, read_of, Touches, IsRippedBy, IsRippedFirst, IsRippedPart}
use Rattle.route_laws.proofs.Same.{Told, domains, names, parts, pin_refs}
use Rattle.route_laws.proofs.Usable.{all_in, if_then, is_feed, is_connection, flips_have, is_plain}

-- what an optional value has
pub some_of : {X : Type 0} (o : Option X) (P : X → Type 0) → ((x : X) → Decided (P x)) → Decided ((x : X) × ((o ≡ Some x) × P x))
some_of None P test = inr (λ h. let e = h.1.0 in let no : ⊥ = cc in no)
some_of (Some y) P test = decided_by (λ p. (y, (refl, p))) (λ h. subst P (sym (some_same h.1.0)) h.1.1) (test y)

-- some domain has a property
pub some_domain : (P : Domain → Type 0) → ((d : Domain) → Decided (P d)) → Decided ((d : Domain) × P d)
some_domain P test = some P test (D0 ∷ D1 ∷ D2 ∷ []) (λ d h. each d)
  where
    each : (d : Domain) → In (D0 ∷ D1 ∷ D2 ∷ []) d
    each D0 = inl refl
    each D1 = inr (inl refl)
    each D2 = inr (inr (inl refl))

pub in_mux_bits : (g : Graph) (b : DeviceBit) → is_mux_bit g b ≡ true → In (mux_bits g) b
in_mux_bits g b m = let r = (mux_bits_law g b).0 m in in_flat_map (λ c. bits_named c.origin c.arc.bits) g.arcs r.0 b r.1.0 r.1.1

pub is_bad : (k : Configured) (flips : Bits) → Decided (IsBad k flips)
is_bad k flips = some_domain (λ d. (e : Domain) × (FlipsHave k flips d × FlipsHave k flips e × (d ≢ e)))
    (λ d. some_domain (λ e. FlipsHave k flips d × FlipsHave k flips e × (d ≢ e))
    (λ e. decided_by (λ h. (h.0, h.1.0, h.1.1)) (λ h. (h.0, (h.1, h.2))) (both (flips_have k flips d) (both (flips_have k flips e) (never (domains d e))))))

pub is_safe : (k : Configured) → Decided (IsSafe k)
is_safe k = decided_by (λ h b m. h b (in_mux_bits k.graph b m) m) (λ h b i m. h b m)
    (all_in (λ b. is_mux_bit k.graph b ≡ true → IsBad k (only b) → ⊥) (λ b. if_then (is_true (is_mux_bit k.graph b)) (never (is_bad k (only b)))) (mux_bits k.graph))

-- ---- nets

is_reached : (k : Configured) (net : ℕ) → Decided (IsReached k net)
is_reached k net = decided_by
    (λ h. record { bit = h.0; mux_bit = h.1.0; bad = h.1.1.0; wire = h.1.1.1.0; disturbed = h.1.1.1.1.0; feeds = h.1.1.1.1.1 })
    (λ r. (r.bit, (r.mux_bit, (r.bad, (r.wire, (r.disturbed, r.feeds))))))
    (some (λ b. (is_mux_bit k.graph b ≡ true) × (IsBad k (only b) × ((w : ℕ) × (IsDisturbed k (only b) w × Feeds (routing k) net w))))
    (λ b. both (is_true (is_mux_bit k.graph b)) (both (is_bad k (only b)) (at_wire b))) (mux_bits k.graph) (λ b h. in_mux_bits k.graph b h.0))
  where
    at_wire : (b : DeviceBit) → Decided ((w : ℕ) × (IsDisturbed k (only b) w × Feeds (routing k) net w))
    at_wire b = some (λ w. IsDisturbed k (only b) w × Feeds (routing k) net w) (λ w. both (is_disturbed k (only b) w) (is_feed (routing k) net w)) (effect_list k (only b)).0.disturbed
        (λ w h. ((effect_list k (only b)).1.disturbed w).1 h.0)

is_chosen_to_rip : (rip : Rip) (k : Configured) (net : ℕ) → Decided (IsChosenToRip rip k net)
is_chosen_to_rip RipUnsafe k net = is_reached k net
is_chosen_to_rip RipAll k net = inl tt

pub is_ripped : (rip : Rip) (device : Device) (k : Configured) (net : ℕ) → Decided (IsRipped rip device k net)
is_ripped rip device k net = decided_by
    (λ h. record { is_net = h.0; no_clock = h.1.0; chosen = h.1.1 })
    (λ r. (r.is_net, (r.no_clock, r.chosen)))
    (both (is_in same_number (nets device k.graph k.side) net) (both (never (is_in same_number (clock_nets k.cells) net)) (is_chosen_to_rip rip k net)))

-- a line goes with one of some nets
pub is_ripped_line : (Ripped : ℕ → Type 0) → ((net : ℕ) → Decided (Ripped net)) → (ns : List ℕ) → ((net : ℕ) → Ripped net → In ns net)
    → (config : Config) (k : Configured) (tile : List ℕ) (line : ArcLine) → Decided (IsRippedLine Ripped config k tile line)
is_ripped_line Ripped test ns all config k tile line = decided_by
    (λ h. record { arc = h.0; named = h.1.0; plain = h.1.1.0; net = h.1.1.1.0; ripped = h.1.1.1.1.0; feeds = h.1.1.1.1.1 })
    (λ r. (r.arc, (r.named, (r.plain, (r.net, (r.ripped, r.feeds))))))
    (some_of (option_and_then (λ number. arc_of_line k.graph number line) (tile_named k.graph tile))
    (λ arc. IsPlain k.graph config arc.mux × ((net : ℕ) × (Ripped net × Feeds (routing k) net arc.sink)))
    (λ arc. both (is_plain k.graph config arc.mux) (some (λ net. Ripped net × Feeds (routing k) net arc.sink) (λ net. both (test net) (is_feed (routing k) net arc.sink)) ns (λ net h. all net h.0))))

-- ---- connections

pub connections : (x y : Connection) → Told x y
connections x y = go (parts x.source y.source) (pin_refs x.pin y.pin)
  where
    go : Told x.source y.source → Told x.pin y.pin → Told x y
    go (inl p) (inl q) = inl (λ i. record { source = p i; pin = q i })
    go (inl p) (inr n) = inr (λ e. n (ap (λ z. z.pin) e))
    go (inr n) q = inr (λ e. n (ap (λ z. z.source) e))

-- each part with each pin
abbrev pairs : Circuit → List Connection
pairs c = flat_map (λ s. map (λ p. record { source = s.part; pin = p.ref }) (pins c.cells)) (sources c.cells)

in_pairs : (c : Circuit) (x : Connection) → IsConnection c x → In (pairs c) x
in_pairs c x h =
    let y : Connection = record { source = h.source.part; pin = h.pin.ref } in
    let e : y ≡ x = (λ i. record { source = h.from i; pin = h.to i }) in
    subst (In (pairs c)) e (in_flat_map (λ s. map (λ p. let z : Connection = record { source = s.part; pin = p.ref } in z) (pins c.cells)) (sources c.cells) h.source y h.connects.source
    (in_map (λ p. let z : Connection = record { source = h.source.part; pin = p.ref } in z) (pins c.cells) h.pin h.connects.pin))

-- the connections of a circuit that have a property
pub connections_with : (c : Circuit) (Has : Connection → Type 0) → ((x : Connection) → Decided (Has x)) → ((x : Connection) → Has x → IsConnection c x)
    → (xs : List Connection) × ((x : Connection) → In xs x ↔ Has x)
connections_with c Has test of =
    let list = chosen Has test (pairs c) in
    (list.0, λ x. ((λ i. ((list.1 x).0 i).1), (λ h. (list.1 x).1 (in_pairs c x (of x h), h))))

pub connections_of : (c : Circuit) → (xs : List Connection) × ((x : Connection) → In xs x ↔ IsConnection c x)
connections_of c = connections_with c (IsConnection c) (is_connection c) (λ x h. h)

-- some connection of a circuit has a property, or all have it
pub some_connection : (c : Circuit) (P : Connection → Type 0) → ((x : Connection) → Decided (P x)) → Decided ((x : Connection) × (IsConnection c x × P x))
some_connection c P test = some (λ x. IsConnection c x × P x) (λ x. both (is_connection c x) (test x)) (pairs c) (λ x h. in_pairs c x h.0)

pub each_connection : (c : Circuit) (P : Connection → Type 0) → ((x : Connection) → Decided (P x)) → Decided ((x : Connection) → IsConnection c x → P x)
each_connection c P test = decided_by (λ h x r. h x (in_pairs c x r) r) (λ h x i r. h x r) (all_in (λ x. IsConnection c x → P x) (λ x. if_then (is_connection c x) (test x)) (pairs c))

-- ---- parts

pub is_clock : (k : Kind) → Decided (k ≡ OfClock)
is_clock (OfTable t) = inr (λ e. let no : ⊥ = cc in no)
is_clock (OfRegister r) = inr (λ e. let no : ⊥ = cc in no)
is_clock OfInput = inr (λ e. let no : ⊥ = cc in no)
is_clock OfClock = inl refl

module _ (job : Job) where
  touches : (slice : List ℕ) (s : Source) → Decided (Touches job slice s)
  touches slice s = either (names s.part.cell slice)
      (some_connection (read_of job) (λ x. (x.source ≡ s.part) × (x.pin.part.cell ≡ slice)) (λ x. both (parts x.source s.part) (names x.pin.part.cell slice)))

  pub is_ripped_by : (slice : List ℕ) (part : PartRef) → Decided (IsRippedBy job slice part)
  is_ripped_by slice part = decided_by
      (λ h. record { source = h.0; listed = h.1.0; is = h.1.1.0; touched = h.1.1.1.0; no_clock = h.1.1.1.1 })
      (λ r. (r.source, (r.listed, (r.is, (r.touched, r.no_clock)))))
      (some_in (λ s. (s.part ≡ part) × (Touches job slice s × (s.kind ≢ OfClock))) (λ s. both (parts s.part part) (both (touches slice s) (never (is_clock s.kind)))) (sources job.design.cells))

  is_ripped_first : (part : PartRef) → Decided (IsRippedFirst job part)
  is_ripped_first part = decided_by
      (λ h. record { source = h.0; listed = h.1.0; is = h.1.1.0; ripped = h.1.1.1 })
      (λ r. (r.source, (r.listed, (r.is, r.ripped))))
      (some_in (λ s. (s.part ≡ part) × IsRipped job.rip job.device (configured job.design) s.out)
      (λ s. both (parts s.part part) (is_ripped job.rip job.device (configured job.design) s.out)) (sources job.design.cells))

  pub is_ripped_part : (moved : List (List ℕ)) (part : PartRef) → Decided (IsRippedPart job moved part)
  is_ripped_part moved part = either (is_ripped_first part) (some_in (λ slice. IsRippedBy job slice part) (λ slice. is_ripped_by slice part) moved)
