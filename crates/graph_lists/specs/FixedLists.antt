-- The fixed connections and joins at the wires of a graph, as lists of wires. (Our own.)
use Rattle.std.specs.Prelude.{ℕ, List, map, filter, ◌==◌}
use Rattle.links.specs.Links.{Link}

-- the wires to which one of some links leads from a wire, in the order of the links
abbrev pub links_from : List Link → ℕ → List ℕ
links_from links w = map (λ l. l.sink) (filter (λ l. l.source == w) links)

-- the wires from which one of some links leads to a wire, in the order of the links
abbrev pub links_into : List Link → ℕ → List ℕ
links_into links w = map (λ l. l.source) (filter (λ l. l.sink == w) links)
