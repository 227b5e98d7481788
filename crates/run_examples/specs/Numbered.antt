-- The crossed toggle on MINI-A as its printed text is read: each line has its number. The device is named in line 1, and an
-- empty line stands before each section. (Our own.)
use Rattle.std.specs.Prelude.{ℕ, suc, ◌+◌, List, [], ◌∷◌, length}
use Rattle.records.specs.Config.{TileText, Config}
use Rattle.design_files.specs.Designs.{Design}
use Rattle.mini.specs.MiniA.{mini_a}
use Rattle.mini.specs.Toggle.{crossed, toggle_side}

-- what is made of each line and its number, from a number on
abbrev pub numbered : {X : Type 0} → (ℕ → X → X) → ℕ → List X → List X
numbered number n [] = []
numbered number n (x ∷ xs) = number n x ∷ numbered number (suc n) xs

-- a section whose own line has this number: arcs, words and enums follow it
abbrev pub numbered_section : ℕ → TileText → TileText
numbered_section n t = record {
  tile = t.tile;
  line = n;
  arcs = numbered (λ k a. record { sink = a.sink; source = a.source; line = k }) (n + 1) t.arcs;
  words = numbered (λ k w. record { name = w.name; bits = w.bits; line = k }) (n + 1 + length t.arcs) t.words;
  enums = numbered (λ k e. record { name = e.name; value = e.value; line = k }) (n + 1 + length t.arcs + length t.words) t.enums;
  unknowns = t.unknowns;
}

-- sections behind so many lines
abbrev pub numbered_sections : ℕ → List TileText → List TileText
numbered_sections n [] = []
numbered_sections n (t ∷ ts) = numbered_section (n + 2) t ∷ numbered_sections (n + 2 + length t.arcs + length t.words + length t.enums) ts

abbrev pub crossed_numbered : Config
crossed_numbered = record { device = crossed.device; heads = []; tiles = numbered_sections 1 crossed.tiles }

abbrev pub numbered_design : Design
numbered_design = record { config = crossed_numbered; device = mini_a; side = toggle_side }
