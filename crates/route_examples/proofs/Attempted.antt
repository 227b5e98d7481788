-- How an attempt comes out, connection by connection. A list of connections is routed by one computation, so that the
-- device's graph is computed once for all of them.
use Rattle.std.proofs.Common.{◌≡◌, ℕ, Bool, true, false, List, [], ◌∷◌, ◌++◌, map, Option, Some, None, refl, sym, ap, subst, inl, inr}
use Rattle.std.specs.Prelude.{◌==◌, ◌&&◌, if◌then◌else◌, option_and_then}
use Rattle.std.specs.List.{list_all}
use Rattle.std.proofs.lemmas.Bool.{eqb-true}
use Rattle.links.specs.Below.{has}
use Rattle.fabric.specs.Device.{Device}
use Rattle.fabric.specs.Graph.{GraphArc}
use Rattle.fabric.specs.GraphOf.{IsGraph}
use Rattle.circuit.specs.Parts.{Source, sources}
use Rattle.circuit.specs.Circuits.{Circuit, Connection}
use Rattle.repair.specs.Layouts.{Layout, configured, turn_over, with_path}
use Rattle.repair.specs.Routes.{IsTheRoute, IsBlocked}
use Rattle.repair.specs.Turns.{routing}
use Rattle.attempts.specs.Turns.{Cut, Outcome, Blocked, ComesOut, behind}
use Rattle.attempts.specs.Wires.{source_named, pin_wire}
use Rattle.fabric_examples.proofs.Tests.{drives_once, clean_once}
use Rattle.route_laws.specs.PlainPaths.{first_paths, weight_by}
use Rattle.route_laws.proofs.Rules.{IsToldBy}
use Rattle.route_examples.proofs.Conditions.{outputs_listed, the_way}

-- ---- what is computed

-- the only element of a list
abbrev pub only : {X : Type 0} → List X → Option X
only [] = None
only (x ∷ []) = Some x
only (x ∷ y ∷ ys) = None

-- A wire is driven once at most, all outputs are listed, and a path has the weight that is expected.
abbrev pub passes : Circuit → List (List ℕ) → Layout → ℕ → Source → List GraphArc → Bool
passes was rims y weight net path =
    drives_once (routing (configured y))
    && (list_all (λ s. has y.graph.outputs s.out) (sources y.cells) && (weight_by rims (turn_over was y net) path == weight))

-- the path of a net to a pin that comes first, where there is one and it has a weight
abbrev pub path_for : Circuit → List (List ℕ) → Layout → Connection → ℕ → Source → Option (List GraphArc)
path_for was rims y x weight net =
    option_and_then (λ path. if passes was rims y weight net path then Some path else None) (only (first_paths rims (turn_over was y net) weight (pin_wire y.cells x)))

-- the path of a connection
abbrev pub path_of : Circuit → List (List ℕ) → Layout → Connection → ℕ → Option (List GraphArc)
path_of was rims y x weight = option_and_then (path_for was rims y x weight) (source_named y.cells x.source)

-- the layout in which connections have their paths, each of a weight, one after another
abbrev pub routed : Circuit → List (List ℕ) → Layout → List (Connection × ℕ) → Option Layout
routed was rims y [] = Some y
routed was rims y (x ∷ xs) = option_and_then (λ path. routed was rims (with_path y path) xs) (path_of was rims y x.0 x.1)

-- the outcome where these connections were routed before
abbrev pub behind_all : List (Connection × ℕ) → Outcome → Outcome
behind_all [] o = o
behind_all (x ∷ xs) o = behind x.0 (behind_all xs o)

-- ---- what it tells

then_some : {A B : Type 0} (f : A → Option B) (o : Option A) (b : B) → option_and_then f o ≡ Some b → (a : A) × ((o ≡ Some a) × (f a ≡ Some b))
then_some f (Some a) b h = (a, (refl, h))
then_some f None b h = absurd (let no : ⊥ = cc in no)

some_same : {A : Type 0} (a b : A) → (let o : Option A = Some a in o) ≡ Some b → a ≡ b
some_same a b h = cc

if_some : {A : Type 0} (t : Bool) (a b : A) → (if t then Some a else None) ≡ Some b → (t ≡ true) × (a ≡ b)
if_some true a b h = (refl, some_same a b h)
if_some false a b h = absurd (let no : ⊥ = cc in no)

only_one : {A : Type 0} (xs : List A) (x : A) → only xs ≡ Some x → xs ≡ x ∷ []
only_one [] x h = absurd (let no : ⊥ = cc in no)
only_one (y ∷ []) x h = ap (λ z. z ∷ []) (some_same y x h)
only_one (y ∷ z ∷ zs) x h = absurd (let no : ⊥ = cc in no)

both_true : (a b : Bool) → (a && b) ≡ true → (a ≡ true) × (b ≡ true)
both_true true b h = (refl, h)
both_true false b h = absurd (let no : ⊥ = cc in no)

module _ (device : Device) (was : Circuit) (rims : List (List ℕ)) where
  way_of : (y : Layout) → IsGraph device y.graph → (x : Connection) (weight : ℕ) (path : List GraphArc) → path_of was rims y x weight ≡ Some path
      → (net : Source) × ((source_named y.cells x.source ≡ Some net) × IsTheRoute rims (turn_over was y net) path (pin_wire y.cells x))
  way_of y graph x weight path h =
      let n = then_some (path_for was rims y x weight) (source_named y.cells x.source) path h in
      let paths = first_paths rims (turn_over was y n.0) weight (pin_wire y.cells x) in
      let p = then_some (λ q. if passes was rims y weight n.0 q then Some q else None) (only paths) path n.1.1 in
      let t = if_some (passes was rims y weight n.0 p.0) p.0 path p.1.1 in
      let first = both_true (drives_once (routing (configured y))) _ t.0 in
      let second = both_true (list_all (λ s. has y.graph.outputs s.out) (sources y.cells)) _ first.1 in
      let told : IsToldBy device (configured y) = record {
        graph = graph;
        clean = clean_once (routing (configured y)) first.0;
        outputs = outputs_listed (configured y) second.0;
      } in
      let weighs = eqb-true (weight_by rims (turn_over was y n.0) p.0) weight second.1 in
      let way = the_way device (turn_over was y n.0) told rims weight (pin_wire y.cells x) p.0 weighs (only_one paths p.0 p.1.0) in
      (n.0, (n.1.0, subst (λ q. IsTheRoute rims (turn_over was y n.0) q (pin_wire y.cells x)) t.1 way))

  -- connections with their paths, and how the others come out
  pub routed_then : (xs : List (Connection × ℕ)) (y z : Layout) → IsGraph device y.graph → routed was rims y xs ≡ Some z
      → (rest : List Connection) (o : Outcome) → ComesOut was rims z rest o → ComesOut was rims y (map (λ x. x.0) xs ++ rest) (behind_all xs o)
  routed_then [] y z graph h rest o later = subst (λ v. ComesOut was rims v rest o) (sym (some_same y z h)) later
  routed_then (x ∷ xs) y z graph h rest o later =
      let p = then_some (λ path. routed was rims (with_path y path) xs) (path_of was rims y x.0 x.1) z h in
      let w = way_of y graph x.0 x.1 p.0 p.1.0 in
      (w.0, (w.1.0, inl (p.0, (w.1.1, (behind_all xs o, (routed_then xs (with_path y p.0) z graph p.1.1 rest o later, refl))))))

-- a connection that is blocked
pub stops : (was : Circuit) (rims : List (List ℕ)) (y : Layout) (x : Connection) (rest : List Connection) (net : Source) (pin : ℕ)
    → source_named y.cells x.source ≡ Some net → (pin_wire y.cells x == pin) ≡ true
    → (c : Cut) → IsBlocked (turn_over was y net) c.inside c.rim pin → ComesOut was rims y (x ∷ rest) (Blocked [] x rest c)
stops was rims y x rest net pin named at c b =
    (net, (named, inr (c, (subst (λ w. IsBlocked (turn_over was y net) c.inside c.rim w) (sym (eqb-true (pin_wire y.cells x) pin at)) b, refl))))
