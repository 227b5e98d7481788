-- A check refuses one thing at most. Where the routing is clean and the cells are well formed, so do those of pins and
-- copies.
use Rattle.std.proofs.Common.{◌≡◌, ℕ, inl, inr, Option, Some, refl, sym, ap, subst, ◌∙◌}
use Rattle.std.specs.declared.cmp.Ordering.{Ordering}
use Rattle.std.specs.declared.cmp.Ordering.TheVariants.{Equal}
use Rattle.std.specs.Cmp.{IsTotalOrder, nat_cmp_total}
use Rattle.std.specs.Ordering.{nat_cmp}
use Rattle.std.specs.Prelude.{slice_get}
use Rattle.links.specs.Links.{Routing, Feeds}
use Rattle.fabric.specs.Wires.{Wire}
use Rattle.fabric.specs.Device.{Device}
use Rattle.fabric.specs.Graph.{Graph}
use Rattle.fabric.specs.Links.{routing_of}
use Rattle.patterns.specs.Bits.{Bits}
use Rattle.records.specs.Config.{Config}
use Rattle.records.specs.Side.{Side}
use Rattle.circuit.specs.Parts.{PartRef}
use Rattle.circuit.specs.Pins.{PinRef, Pin}
use Rattle.circuit.specs.Circuits.{Circuit}
use Rattle.answers.specs.Refusals.{Refusal, OverlapShape, ArcDiffers, Contested, UnnamedSource, Loop, OpenPin, ClockAsData, NotClocked, ForeignRead, NotMasking}
use Rattle.attempts.specs.PinOrder.{part_cmp, pin_cmp}
use Rattle.design_checks.specs.Checks.{◌before◌, Computed, IsLeast}
use Rattle.design_checks.specs.GraphChecks.{Overlap, overlap}
use Rattle.design_checks.specs.RoutingChecks.{MuxName, ArcsDiffer, differ, Asserts, AssertsBeside, IsContested, AreTwoLeast, two, alone, AreContested, contested}
use Rattle.design_checks.specs.PinChecks.{SourceUnnamed, unnamed, TablesLoop, loop, PinsOpen, open_pin, ClocksAsData, clock, RegistersUnclocked, unclocked, PinsForeign, foreign}
use Rattle.design_checks.specs.MaskChecks.{FailsAt, TablesFail, fails}
use Rattle.design_checks.specs.DesignChecks.{OutputsMissing, none}
use Rattle.links.proofs.Feeds.{one_feed}
use Rattle.circuit_laws.proofs.Refs as refs
use Rattle.circuit_laws.proofs.Sound.{Sound}
use Rattle.fabric_laws.proofs.Graphs.{some_same}
use Rattle.check_laws.proofs.Least.{tie}
use Rattle.check_laws.proofs.Orders.{part_total, pin_total, mux_total, number_same, part_same, pin_same, mux_same}

-- a check refuses one thing at most
abbrev pub RefusesOne : (Refusal → Type 0) → Type 0
RefusesOne check = (r s : Refusal) → check r → check s → r ≡ s

pub one_before : (first second : Refusal → Type 0) → RefusesOne first → (((r : Refusal) → first r → ⊥) → RefusesOne second) → RefusesOne (first before second)
one_before first second f g r s (inl h) (inl k) = f r s h k
one_before first second f g r s (inl h) (inr k) = absurd (k.0 r h)
one_before first second f g r s (inr h) (inl k) = absurd (h.0 s k)
one_before first second f g r s (inr h) (inr k) = g h.0 r s h.1 k.1

pub one_computed : (o : Option Refusal) → RefusesOne (Computed o)
one_computed o r s h k = some_same (sym h ∙ k)

-- of elements that have a property one is least
pub one_least : {X : Type 0} (cmp : X → X → Ordering) → IsTotalOrder cmp → ((x y : X) → cmp x y ≡ Equal → x ≡ y) → (Has : X → Type 0) (x y : X) → IsLeast cmp Has x → IsLeast cmp Has y → x ≡ y
one_least cmp total same Has x y p q = same x y (tie cmp total x y (p.least y q.has) (q.least x p.has))

pub one_number : (Has : ℕ → Type 0) (m n : ℕ) → IsLeast nat_cmp Has m → IsLeast nat_cmp Has n → m ≡ n
one_number = one_least nat_cmp nat_cmp_total number_same

pub one_part : (Has : PartRef → Type 0) (a b : PartRef) → IsLeast part_cmp Has a → IsLeast part_cmp Has b → a ≡ b
one_part = one_least part_cmp part_total part_same

pub one_pin : (Has : PinRef → Type 0) (a b : PinRef) → IsLeast pin_cmp Has a → IsLeast pin_cmp Has b → a ≡ b
one_pin = one_least pin_cmp pin_total pin_same

-- one number has one wire
one_wire : (g : Graph) (m n : ℕ) (v w : Wire) → m ≡ n → slice_get g.wires m ≡ Some v → slice_get g.wires n ≡ Some w → v ≡ w
one_wire g m n v w e h k = some_same (sym h ∙ (ap (slice_get g.wires) e ∙ k))

pub one_overlap : (device : Device) (g : Graph) → RefusesOne (Overlap device g)
one_overlap device g _ _ (overlap w v l e) (overlap x u m f) = ap OverlapShape (one_wire g w x v u (one_number _ w x l m) e f)

pub one_arc : (g : Graph) (image : Bits) (config : Config) → RefusesOne (ArcsDiffer g image config)
one_arc g image config _ _ (differ a l) (differ b m) = ap (λ (z : MuxName). ArcDiffers z.tile z.sink) (one_least _ mux_total mux_same _ a b l m)

-- the two least that drive a wire are determined
one_two : (r : Routing) (w x y u v : ℕ) → AreTwoLeast r w x y → AreTwoLeast r w u v → (x ≡ u) × (y ≡ v)
one_two r w _ _ _ _ (two {x} {y} p q) (two {x = u} {y = v} s t) =
    let first : x ≡ u = one_number (Asserts r w) x u p s in
    (first, one_number (AssertsBeside r w u) y v (subst (λ z. IsLeast nat_cmp (AssertsBeside r w z) y) first q) t)
one_two r w _ _ _ _ (two {x} {y} p q) (alone {x = u} s only) =
    let first : x ≡ u = one_number (Asserts r w) x u p s in
    absurd (only y (subst (λ z. AssertsBeside r w z y) first q.has))
one_two r w _ _ _ _ (alone {x} p only) (two {x = u} {y = v} s t) =
    let first : u ≡ x = one_number (Asserts r w) u x s p in
    absurd (only v (subst (λ z. AssertsBeside r w z v) first t.has))
one_two r w _ _ _ _ (alone {x} p only) (alone {x = u} s other) = let first : x ≡ u = one_number (Asserts r w) x u p s in (first, first)

pub one_contested : (g : Graph) (image : Bits) → RefusesOne (AreContested g image)
one_contested g image _ _ (contested w x y wire first second l are e f s) (contested v a b other third fourth m be h i j) =
    let wires : w ≡ v = one_number (IsContested (routing_of g image)) w v l m in
    let both = one_two (routing_of g image) v x y a b (subst (λ z. AreTwoLeast (routing_of g image) z x y) wires are) be in
    λ k. Contested (one_wire g w v wire other wires e h k) (one_wire g x a first third both.0 f i k) (one_wire g y b second fourth both.1 s j k)

pub one_loop : (c : Circuit) → RefusesOne (TablesLoop c)
one_loop c _ _ (loop a l) (loop b m) = ap Loop (one_part _ a b l m)

pub one_open : (c : Circuit) → RefusesOne (PinsOpen c)
one_open c _ _ (open_pin a l) (open_pin b m) = ap OpenPin (one_pin _ a b l m)

pub one_clock : (c : Circuit) → RefusesOne (ClocksAsData c)
one_clock c _ _ (clock a l) (clock b m) = ap ClockAsData (one_pin _ a b l m)

pub one_unclocked : (c : Circuit) → RefusesOne (RegistersUnclocked c)
one_unclocked c _ _ (unclocked a l) (unclocked b m) = ap NotClocked (one_part _ a b l m)

pub one_foreign : (c : Circuit) → RefusesOne (PinsForeign c)
one_foreign c _ _ (foreign a l) (foreign b m) = ap ForeignRead (one_pin _ a b l m)

pub one_failing : (c : Circuit) → RefusesOne (TablesFail c)
one_failing c _ _ (fails a n l p) (fails b m k q) =
    let parts : a ≡ b = one_part _ a b l k in
    let numbers : n ≡ m = one_number _ n m (subst (λ z. IsLeast nat_cmp (FailsAt c z) n) parts p) q in
    λ i. NotMasking (parts i) (numbers i)

pub one_missing : (side : Side) → RefusesOne (OutputsMissing side)
one_missing side _ _ (none e) (none f) = refl

-- a pin has one feed
pub one_unnamed : (g : Graph) (c : Circuit) → Sound c → RefusesOne (SourceUnnamed g c)
one_unnamed g c ok _ _ (unnamed a o v l h e) (unnamed b p w m k f) =
    let pins : a ≡ b = one_pin _ a b l m in
    let same : k.pin ≡ h.pin = refs.pin_same c.cells ok.formed.names k.pin h.pin k.listed h.listed (k.is ∙ (sym pins ∙ sym h.is)) in
    let feeds : o ≡ p = one_feed c.routing ok.clean o p h.pin.wire h.feeds (subst (λ (z : Pin). Feeds c.routing p z.wire) same k.feeds) in
    λ i. UnnamedSource (pins i) (one_wire g o p v w feeds e f i)
