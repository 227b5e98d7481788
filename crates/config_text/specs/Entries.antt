-- What the entries of the maps that put arcs and sections in order stand for.
use Rattle.std.specs.Prelude.{◌≡◌, ℕ, List, [], ◌∷◌, true, map}
use Rattle.texts.specs.Names.{is_name}
use Rattle.records.specs.Config.{ArcLine, TileText}

-- the arc of a sink, a source and the number of its line
abbrev pub arc_at : (List ℕ × List ℕ) × ℕ → ArcLine
arc_at entry = record { sink = entry.0.0; source = entry.0.1; line = entry.1 }

-- the arcs of a map, in its order
abbrev pub arcs_at : List ((List ℕ × List ℕ) × ℕ) → List ArcLine
arcs_at entries = map arc_at entries

-- the sinks are names
abbrev pub AreSinks : List ((List ℕ × List ℕ) × ℕ) → Type 0
AreSinks [] = Unit {0}
AreSinks (entry ∷ entries) = (is_name entry.0.0 ≡ true) × AreSinks entries

-- sections under the names of their tiles
abbrev pub tile_entries : List TileText → List (List ℕ × TileText)
tile_entries ts = map (λ t. (t.tile, t)) ts
