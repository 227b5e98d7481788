-- Each layout inside an attempt keeps the design, connection by connection.
use Rattle.std.proofs.Common.{◌≡◌, ℕ, inl, inr, List, ◌∷◌, Some, refl, sym, subst, arith}
use Rattle.words.specs.Members.{In}
use Rattle.fabric.specs.Graph.{GraphArc}
use Rattle.circuit.specs.Parts.{Source, sources}
use Rattle.circuit.specs.Circuits.{Connection, IsConnection}
use Rattle.upset.specs.Configured.{circuit_of}
use Rattle.paths.specs.Paths.{HasNoSinkTwice}
use Rattle.path_laws.proofs.Leading.{once}
use Rattle.repair.specs.Routes.{wire_weight, roads_for, InTree, IsTheRoute}
use Rattle.repair.specs.Layouts.{Layout, configured, with_path, turn_over}
use Rattle.attempts.specs.Jobs.{Job, State, read_of}
use Rattle.attempts.specs.Wires.{source_named, pin_wire}
use Rattle.headline_laws.specs.Sound.{IsSoundJob}
use Rattle.headline_laws.specs.Kept.{KeepsDesign, StateKeeps}
use Rattle.headline_laws.proofs.Twins.{same_connection}
use Rattle.headline_laws.proofs.Named.{source_found}
use Rattle.headline_laws.proofs.Paths.{path_keeps, stays_connected, gets_connected}
use Rattle.inside_laws.specs.Inside.{ComesTo, begins, routes, IsInside}
use Rattle.inside_laws.specs.Statements.{HasOthers}

module _ (job : Job) (sound : IsSoundJob job) (rims : List (List ℕ)) where
  abbrev Keeps : Layout → List Connection → Type 0
  Keeps y left = KeepsDesign job y × HasOthers job y left

  module _ (x : Connection) (rest : List Connection) (y : Layout) (k : Keeps y (x ∷ rest)) (net : Source) (named : source_named y.cells x.source ≡ Some net)
      (path : List GraphArc) (route : IsTheRoute rims (turn_over (read_of job) y net) path (pin_wire y.cells x)) where
    twice : HasNoSinkTwice (roads_for (turn_over (read_of job) y net)) path
    twice = once (roads_for (turn_over (read_of job) y net)) (wire_weight rims) (λ a u. omega arith) (InTree (turn_over (read_of job) y net)) path (pin_wire y.cells x) route

    found : In (sources y.cells) net × (net.part ≡ x.source)
    found = source_found y.cells x.source net named

    others : HasOthers job (with_path y path) rest
    others v c n = elim (same_connection x v) [
      | inl e ↦ subst (IsConnection (circuit_of (configured (with_path y path)))) e
          (gets_connected job sound y k.0 net found.0 path (pin_wire y.cells x) route.is_path twice x found.1 refl (subst (IsConnection (read_of job)) (sym e) c))
      | inr d ↦ stays_connected job sound y k.0 net found.0 path (pin_wire y.cells x) route.is_path twice v (k.1 v c (λ i. elim i [ inl e ↦ d e | inr j ↦ n j ]))
    ]

    kept : Keeps (with_path y path) rest
    kept = (path_keeps job sound y k.0 net found.0 path (pin_wire y.cells x) route.is_path twice, others)

  comes_kept : {y z : Layout} {order left : List Connection} → Keeps y order → ComesTo (read_of job) rims y order z left → Keeps z left
  comes_kept k begins = k
  comes_kept {y} k (routes {x} {rest} net path named route on) = comes_kept (kept x rest y k net named path route) on

pub inside_keeps : (job : Job) → IsSoundJob job → (state : State) → StateKeeps job state → (z : Layout) (left : List Connection) → IsInside job state z left → KeepsDesign job z × HasOthers job z left
inside_keeps job sound state k z left i = comes_kept job sound state.rims (k.design, k.others) i
