-- An attempt that is complete keeps the design and makes each connection; one that is blocked has the connections of
-- its order before and behind the block.
use Rattle.std.proofs.Common.{◌≡◌, ℕ, inl, inr, List, [], ◌∷◌, ◌++◌, Some, refl, sym, ap, subst, arith}
use Rattle.words.specs.Members.{In}
use Rattle.fabric.specs.Graph.{GraphArc}
use Rattle.circuit.specs.Parts.{Source}
use Rattle.circuit.specs.Circuits.{Circuit, Connection, IsConnection}
use Rattle.upset.specs.Configured.{circuit_of}
use Rattle.repair.specs.Routes.{wire_weight, roads_for, InTree, IsTheRoute}
use Rattle.repair.specs.Layouts.{Layout, configured, with_path, turn_over}
use Rattle.paths.specs.Paths.{HasNoSinkTwice}
use Rattle.path_laws.proofs.Leading.{once}
use Rattle.attempts.specs.Jobs.{Job, State, read_of}
use Rattle.attempts.specs.Wires.{source_named, pin_wire}
use Rattle.attempts.specs.Turns.{Cut, Outcome, Complete, Blocked, behind, ComesOut}
use Rattle.attempts.specs.Attempts.{Attempt}
use Rattle.headline_laws.specs.Sound.{IsSoundJob}
use Rattle.headline_laws.specs.Kept.{KeepsDesign, HasEachConnection, StateKeeps}
use Rattle.headline_laws.proofs.Twins.{same_connection}
use Rattle.headline_laws.proofs.Named.{source_found}
use Rattle.headline_laws.proofs.Paths.{path_keeps, stays_connected, gets_connected}

-- what holds of an outcome where it is complete
abbrev Done : Job → Outcome → Type 0
Done job (Complete z) = KeepsDesign job z × HasEachConnection job z
Done job (Blocked earlier x later cut) = Unit {0}

done_behind : (job : Job) (x : Connection) (o : Outcome) → Done job o → Done job (behind x o)
done_behind job x (Complete z) d = d
done_behind job x (Blocked earlier at later cut) d = tt

-- the order of a blocked outcome
abbrev InOrder : List Connection → Outcome → Type 0
InOrder order (Complete z) = Unit {0}
InOrder order (Blocked earlier x later cut) = order ≡ earlier ++ x ∷ later

order_behind : (x : Connection) (rest : List Connection) (o : Outcome) → InOrder rest o → InOrder (x ∷ rest) (behind x o)
order_behind x rest (Complete z) e = tt
order_behind x rest (Blocked earlier at later cut) e = ap (λ xs. x ∷ xs) e

comes_in_order : (read : Circuit) (rims : List (List ℕ)) (order : List Connection) (y : Layout) (out : Outcome) → ComesOut read rims y order out → InOrder order out
comes_in_order read rims [] y out c = subst (InOrder []) (sym c) tt
comes_in_order read rims (x ∷ rest) y out c = elim c.1.1 [
  | inl p ↦ subst (InOrder (x ∷ rest)) (sym p.1.1.1.1) (order_behind x rest p.1.1.0 (comes_in_order read rims rest (with_path y p.0) p.1.1.0 p.1.1.1.0))
  | inr p ↦ subst (InOrder (x ∷ rest)) (sym p.1.1) refl
]

-- a blocked attempt splits the order of its state
pub block_splits : (job : Job) (state : State) (earlier : List Connection) (x : Connection) (later : List Connection) (cut : Cut)
    → Attempt job state (Blocked earlier x later cut) → state.order ≡ earlier ++ x ∷ later
block_splits job state earlier x later cut a = comes_in_order (read_of job) state.rims state.order state.layout (Blocked earlier x later cut) a

module _ (job : Job) (sound : IsSoundJob job) (rims : List (List ℕ)) where
  abbrev read : Circuit
  read = read_of job

  -- the layout has each connection that isn't in the order
  abbrev HasOthers : Layout → List Connection → Type 0
  HasOthers y order = (x : Connection) → IsConnection read x → (In order x → ⊥) → IsConnection (circuit_of (configured y)) x

  no_sink_twice : (y : Layout) (net : Source) (path : List GraphArc) (pin : ℕ) → IsTheRoute rims (turn_over read y net) path pin → HasNoSinkTwice (roads_for (turn_over read y net)) path
  no_sink_twice y net path pin p = once (roads_for (turn_over read y net)) (wire_weight rims) (λ a u. omega arith) (InTree (turn_over read y net)) path pin p

  -- with its path the connection is made
  others_after : (x : Connection) (rest : List Connection) (y : Layout) (k : KeepsDesign job y) → HasOthers y (x ∷ rest)
      → (net : Source) → source_named y.cells x.source ≡ Some net → (path : List GraphArc) → IsTheRoute rims (turn_over read y net) path (pin_wire y.cells x)
      → HasOthers (with_path y path) rest
  others_after x rest y k others net named path route v c n =
      let s = source_found y.cells x.source net named in
      let twice = no_sink_twice y net path (pin_wire y.cells x) route in
      elim (same_connection x v) [
        | inl e ↦ subst (IsConnection (circuit_of (configured (with_path y path)))) e
            (gets_connected job sound y k net s.0 path (pin_wire y.cells x) route.is_path twice x s.1 refl (subst (IsConnection read) (sym e) c))
        | inr d ↦ stays_connected job sound y k net s.0 path (pin_wire y.cells x) route.is_path twice v (others v c (λ i. elim i [ inl e ↦ d e | inr j ↦ n j ]))
      ]

  comes_done : (order : List Connection) (y : Layout) → KeepsDesign job y → HasOthers y order → (out : Outcome) → ComesOut read rims y order out → Done job out
  comes_done [] y k others out c = subst (Done job) (sym c) (k, (λ x r. others x r (λ i. i)))
  comes_done (x ∷ rest) y k others out c = elim c.1.1 [
    | inl p ↦ (let s = source_found y.cells x.source c.0 c.1.0 in
        let kept = path_keeps job sound y k c.0 s.0 p.0 (pin_wire y.cells x) p.1.0.is_path (no_sink_twice y c.0 p.0 (pin_wire y.cells x) p.1.0) in
        subst (Done job) (sym p.1.1.1.1) (done_behind job x p.1.1.0
        (comes_done rest (with_path y p.0) kept (others_after x rest y k others c.0 c.1.0 p.0 p.1.0) p.1.1.0 p.1.1.1.0)))
    | inr p ↦ subst (Done job) (sym p.1.1) tt
  ]

-- a complete attempt of a state that keeps the design
pub attempt_keeps : (job : Job) → IsSoundJob job → (state : State) → StateKeeps job state → (z : Layout) → Attempt job state (Complete z) → KeepsDesign job z × HasEachConnection job z
attempt_keeps job sound state k z a = comes_done job sound state.rims state.order state.layout k.design k.others (Complete z) a
