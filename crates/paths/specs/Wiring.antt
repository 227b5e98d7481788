-- Arcs and rules as a program holds them: wires and arcs by number, rules as tests.
use Rattle.std.specs.Prelude.{◌≡◌, ℕ, ◌<◌, Bool, true, List}
use Rattle.std.specs.Ordering.{nat_cmp}
use Rattle.words.specs.Members.{In}
use Rattle.paths.specs.Roads.{Roads}

-- the number of wires, the arcs that leave a wire, and the two wires of an arc
pub record Wiring : Type 0 where
  pub wires : ℕ
  pub outs : ℕ → List ℕ
  pub source : ℕ → ℕ
  pub sink : ℕ → ℕ

-- the weight of a wire, the arcs that may be taken, and the wires to which a link leads from a wire
pub record Rules : Type 0 where
  pub weight : ℕ → ℕ
  pub usable : ℕ → Bool
  pub next : ℕ → List ℕ

-- an arc is one of those that leave its source, which is a wire
pub record IsArcOf (g : Wiring) (a : ℕ) : Type 0 where
  pub below : g.source a < g.wires
  pub listed : In (g.outs (g.source a)) a

-- an arc leaves its source and no other wire, and its sink is a wire
pub record IsWiring (g : Wiring) : Type 0 where
  pub own : (w a : ℕ) → w < g.wires → In (g.outs w) a → g.source a ≡ w
  pub sinks : (a : ℕ) → IsArcOf g a → g.sink a < g.wires

-- each wire weighs something, and links lead to wires
pub record IsRules (g : Wiring) (r : Rules) : Type 0 where
  pub weights : (w : ℕ) → w < g.wires → 0 < r.weight w
  pub nexts : (w x : ℕ) → w < g.wires → In (r.next w) x → x < g.wires

-- the tree has wires, and links lead from it to it
pub record IsTree (g : Wiring) (r : Rules) (tree : List ℕ) : Type 0 where
  pub below : (w : ℕ) → In tree w → w < g.wires
  pub closed : (w x : ℕ) → In tree w → In (r.next w) x → In tree x

-- what a search over them goes by; arcs are ordered by their numbers
abbrev pub roads_of : Wiring → Rules → Roads ℕ
roads_of g r = record {
  source = g.source;
  sink = g.sink;
  cmp = nat_cmp;
  IsArc = IsArcOf g;
  MayTake = λ a. IsArcOf g a × (r.usable a ≡ true);
  Linked = λ w x. In (r.next w) x;
}
