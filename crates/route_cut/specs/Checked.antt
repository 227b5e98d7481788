-- When a cut that is handed in shows that there is no path.
use Rattle.std.specs.Prelude.{◌≡◌, ℕ, ◌<◌, true, false, List, ◌↔◌, ◌⊎◌}
use Rattle.std.specs.List.Sorted.{IsStrictlyIncreasing}
use Rattle.words.specs.Members.{In}
use Rattle.paths.specs.Wiring.{Wiring, Rules, IsArcOf, roads_of}
use Rattle.paths.specs.Cuts.{IsCut, IsInRim}
use Rattle.net_links.specs.Nets.{Network, NetRules}

-- a cut of wires, in wire order, each once, and its rim, in wire order, each once
pub record IsCutWithRim (g : Wiring) (r : Rules) (tree inside rim : List ℕ) (pin : ℕ) : Type 0 where
  pub cut : IsCut (roads_of g r) (In tree) inside pin
  pub below : (w : ℕ) → In inside w → w < g.wires
  pub inside_in_order : IsStrictlyIncreasing inside
  pub rim_members : (w : ℕ) → In rim w ↔ IsInRim (roads_of g r) inside w
  pub rim_in_order : IsStrictlyIncreasing rim

-- the arc leads to a wire inside, or it can't be taken and leads to the rim
abbrev pub StaysIn : Wiring → Rules → List ℕ → List ℕ → ℕ → Type 0
StaysIn g r inside rim a = In inside (g.sink a) ⊎ ((r.usable a ≡ false) × In rim (g.sink a))

-- links from the wire lead inside, and no arc from it leads out but over the rim
pub record IsKept (g : Wiring) (r : Rules) (inside rim : List ℕ) (w : ℕ) : Type 0 where
  pub links : (x : ℕ) → In (r.next w) x → In inside x
  pub arcs : (a : ℕ) → In (g.outs w) a → StaysIn g r inside rim a

-- an arc from inside leads to the wire
pub record IsEntered (g : Wiring) (inside : List ℕ) (w : ℕ) : Type 0 where
  pub arc : ℕ
  pub is_arc : IsArcOf g arc
  pub from : In inside (g.source arc)
  pub to : g.sink arc ≡ w

-- the arc leads to a wire inside or to the rim
abbrev pub LeadsWithin : Wiring → List ℕ → List ℕ → ℕ → Type 0
LeadsWithin g inside rim a = In inside (g.sink a) ⊎ In rim (g.sink a)

-- links from the wire lead inside, and arcs from it lead inside or to the rim
pub record StaysWithin (g : Wiring) (n : NetRules) (inside rim : List ℕ) (w : ℕ) : Type 0 where
  pub links : (x : ℕ) → In (n.next w) x → In inside x
  pub arcs : (a : ℕ) → In (g.outs w) a → LeadsWithin g inside rim a

-- one of the arcs leads from inside
pub record SomeFrom (g : Wiring) (inside arcs : List ℕ) : Type 0 where
  pub arc : ℕ
  pub listed : In arcs arc
  pub from : In inside (g.source arc)

-- arcs lead from inside to the wire; the wire may not be entered, or none of them may be taken
pub record IsShutEdge (g : Network) (n : NetRules) (inside : List ℕ) (w : ℕ) : Type 0 where
  pub entered : SomeFrom g.wiring inside (g.ins w)
  pub shut : n.enterable w ≡ true → (a : ℕ) → In (g.ins w) a
      → In inside (g.wiring.source a) × (n.takes a ≡ true) → ⊥
