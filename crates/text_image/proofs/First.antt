-- The first fault by line, of lists put together and one by one.
use Rattle.std.proofs.Common.{◌≡◌, ℕ, zero, suc, ◌<◌, List, [], ◌∷◌, ◌++◌, flat_map, drop, length, Option, None, Some, refl, sym, ap, ◌∙◌, arith}
use Rattle.std.specs.Prelude.{slice_get}
use Rattle.design_checks.specs.LineChecks.{LineFault, lower_line, lowest_line, arc_faults, word_faults, enum_faults, unknown_faults, lines_faults, section_faults}
use Rattle.records.specs.Grid.{Tile}
use Rattle.records.specs.Config.{TileText}
use Rattle.fabric.specs.Graph.{Graph}
use Rattle.fabric.specs.Image.{tile_named}
use Rattle.named_graph.specs.Standing.{settings_at, StandsInTiles}
use Rattle.text_image.specs.Faults.{first_of, first_behind}

-- three faults, by pairs
of_three : (x y z : LineFault) → lower_line (lower_line x (Some y)) (Some z) ≡ lower_line x (Some (lower_line y (Some z)))
of_three x y z = grind arith

first_of_three : (a b c : Option LineFault) → first_of (first_of a b) c ≡ first_of a (first_of b c)
first_of_three None b c = refl
first_of_three (Some x) None c = refl
first_of_three (Some x) (Some y) None = refl
first_of_three (Some x) (Some y) (Some z) = ap (λ f. Some f) (of_three x y z)

nothing_more : (a : Option LineFault) → first_of a None ≡ a
nothing_more None = refl
nothing_more (Some x) = refl

pub lowest_of_both : (xs ys : List LineFault) → lowest_line (xs ++ ys) ≡ first_of (lowest_line xs) (lowest_line ys)
lowest_of_both [] ys = refl
lowest_of_both (x ∷ xs) ys = ap (first_of (Some x)) (lowest_of_both xs ys) ∙ sym (first_of_three (Some x) (lowest_line xs) (lowest_line ys))

pub behind_is : {X : Type 0} (faults : X → List LineFault) (found : Option LineFault) (xs : List X) → first_behind faults found xs ≡ first_of found (lowest_line (flat_map faults xs))
behind_is faults found [] = sym (nothing_more found)
behind_is faults found (x ∷ xs) =
    behind_is faults (first_of found (lowest_line (faults x))) xs
    ∙ (first_of_three found (lowest_line (faults x)) (lowest_line (flat_map faults xs)) ∙ ap (first_of found) (sym (lowest_of_both (faults x) (flat_map faults xs))))

pub all_behind : {X : Type 0} (faults : X → List LineFault) (xs : List X) → first_behind faults None xs ≡ lowest_line (flat_map faults xs)
all_behind faults xs = behind_is faults None xs

-- once nothing is left, what was found is the first of all
pub at_end : {X : Type 0} (faults : X → List LineFault) (found : Option LineFault) (xs : List X) (i : ℕ) → drop i xs ≡ [] → first_behind faults found (drop i xs) ≡ first_behind faults None xs
    → found ≡ lowest_line (flat_map faults xs)
at_end faults found xs i e h = ap (first_behind faults found) (sym e) ∙ (h ∙ all_behind faults xs)

pub first_of_lines : (g : Graph) (text : TileText) (t : ℕ) (tile : Tile)
    → first_of (first_of (first_of (lowest_line (flat_map (arc_faults g t tile) text.arcs)) (lowest_line (flat_map (word_faults (settings_at g t)) text.words))) (lowest_line (flat_map (enum_faults (settings_at g t)) text.enums))) (lowest_line (flat_map (unknown_faults tile) text.unknowns))
    ≡ lowest_line (lines_faults g text t tile (settings_at g t))
first_of_lines g text t tile =
    let arcs = flat_map (arc_faults g t tile) text.arcs in
    let words = flat_map (word_faults (settings_at g t)) text.words in
    let enums = flat_map (enum_faults (settings_at g t)) text.enums in
    let unknowns = flat_map (unknown_faults tile) text.unknowns in
    ap (λ a. first_of (first_of a (lowest_line enums)) (lowest_line unknowns)) (sym (lowest_of_both arcs words))
    ∙ (ap (λ a. first_of a (lowest_line unknowns)) (sym (lowest_of_both (arcs ++ words) enums)) ∙ sym (lowest_of_both ((arcs ++ words) ++ enums) unknowns))

-- the settings of a tile that is there
pub there : {X : Type 0} (xs : List X) (t : ℕ) → t < length xs → (x : X) × (slice_get xs t ≡ Some x)
there [] t l = absurd (let no : ⊥ = omega arith in no)
there (x ∷ xs) zero l = (x, refl)
there (x ∷ xs) (suc t) l = there xs t (let k : t < length xs = omega arith in k)

pub in_section : (g : Graph) (text : TileText) (t : ℕ) (tile : Tile) → StandsInTiles g → tile_named g text.tile ≡ Some t → t < length g.grid.tiles → Some tile ≡ slice_get g.grid.tiles t
    → lowest_line (section_faults g text) ≡ lowest_line (lines_faults g text t tile (settings_at g t))
in_section g text t tile stands named l at =
    let s = there g.settings t (rw stands.settings l) in
    rw (named, sym at, s.1) refl
