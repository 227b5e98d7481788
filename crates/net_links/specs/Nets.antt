-- What a search for one net goes by: arcs between wires, known from both ends, and the rules of the net.
use Rattle.std.specs.Prelude.{◌≡◌, ℕ, ◌<◌, Bool, false, List, ◌↔◌, if◌then◌else◌}
use Rattle.words.specs.Members.{In}
use Rattle.paths.specs.Roads.{IsBelow}
use Rattle.paths.specs.Wiring.{Wiring, Rules, IsArcOf, IsWiring, IsRules, IsTree, roads_of}

-- wires and arcs, and the arcs that lead into a wire
pub record Network : Type 0 where
  pub wiring : Wiring
  pub ins : ℕ → List ℕ

-- What wires weigh, whether a wire may be entered by an arc, whether an arc may be taken where its sink may be
-- entered, the wires to which a link leads from a wire, and those from which one leads to it; the wires of the net's
-- tree, and some of them from which links lead to all the others.
pub record NetRules : Type 0 where
  pub weight : ℕ → ℕ
  pub enterable : ℕ → Bool
  pub takes : ℕ → Bool
  pub next : ℕ → List ℕ
  pub drivers : ℕ → List ℕ
  pub tree : List ℕ
  pub roots : List ℕ

-- an arc may be taken where both tests say so
abbrev pub rules_of : Network → NetRules → Rules
rules_of g n = record {
  weight = n.weight;
  usable = λ a. if n.enterable (g.wiring.sink a) then n.takes a else false;
  next = n.next;
}

-- some root from which links lead to the wire
pub record RootOf (g : Network) (n : NetRules) (w : ℕ) : Type 0 where
  pub root : ℕ
  pub is_root : In n.roots root
  pub leads : IsBelow (roads_of g.wiring (rules_of g n)) root w

-- The rules go with the arcs: an arc is known at both of its wires and a link too, an arc's number has 32 bits, wires
-- weigh something, links lead to wires, no link leads out of the tree, and links lead to each of its wires from roots.
pub record IsNet (g : Network) (n : NetRules) : Type 0 where
  pub wiring : IsWiring g.wiring
  pub ins : (w a : ℕ) → w < g.wiring.wires → In (g.ins w) a ↔ (IsArcOf g.wiring a × (g.wiring.sink a ≡ w))
  pub small : (a : ℕ) → IsArcOf g.wiring a → a < 4294967296
  pub rules : IsRules g.wiring (rules_of g n)
  pub drivers : (w x : ℕ) → w < g.wiring.wires → In (n.drivers w) x ↔ ((x < g.wiring.wires) × In (n.next x) w)
  pub tree : IsTree g.wiring (rules_of g n) n.tree
  pub roots : (w : ℕ) → In n.roots w → In n.tree w
  pub rooted : (w : ℕ) → In n.tree w → RootOf g n w

-- a connection of the net: the tree is to be joined to the pin, which is a wire
pub record IsConnection (g : Network) (n : NetRules) (pin : ℕ) : Type 0 where
  pub net : IsNet g n
  pub pin_is_wire : pin < g.wiring.wires
