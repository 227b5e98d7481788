-- What writes leave, put together and one by one.
use Rattle.std.proofs.Common.{◌≡◌, ℕ, zero, suc, ◌<◌, ◌≤◌, Bool, List, [], ◌∷◌, ◌++◌, flat_map, drop, map, length, Option, None, Some, option_map, min, refl, sym, ap, ◌∙◌, arith}
use Rattle.std.specs.Prelude.{slice_get, zip}
use Rattle.patterns.specs.Bits.{DeviceBit, PatternBit, Bits}
use Rattle.patterns.specs.Written.{written}
use Rattle.records.specs.Grid.{Tile, origin_of}
use Rattle.records.specs.Config.{ArcLine, TileText}
use Rattle.fabric.specs.Graph.{GraphArc, Graph}
use Rattle.fabric.specs.Image.{Write, after_writes, tile_named, mux_named, arc_named, arc_writes, word_writes, enum_writes, unknown_writes, section_writes, tile_writes}
use Rattle.fabric_laws.proofs.Graphs.{some_same}
use Rattle.named_graph.specs.Standing.{settings_at, StandsInTiles}
use Rattle.text_image.proofs.First.{there}
use Rattle.text_image.specs.Written.{word_bit_write, after_all}

-- sets with the same test are one
pub same_set : (f g : Bits) → ((b : DeviceBit) → f b ≡ g b) → f ≡ g
same_set f g h = λ i. λ b. h b i

pub after_both : (f : Bits) (xs ys : List Write) → after_writes f (xs ++ ys) ≡ after_writes (after_writes f xs) ys
after_both f [] ys = refl
after_both f (x ∷ xs) ys = after_both (written f x.origin x.pattern) xs ys

pub all_is : {X : Type 0} (writes : X → List Write) (f : Bits) (xs : List X) → after_all writes f xs ≡ after_writes f (flat_map writes xs)
all_is writes f [] = refl
all_is writes f (x ∷ xs) = all_is writes (after_writes f (writes x)) xs ∙ sym (after_both f (writes x) (flat_map writes xs))

-- once nothing is left, all is written
pub at_end : {X : Type 0} (writes : X → List Write) (f g : Bits) (xs : List X) (i : ℕ) → drop i xs ≡ [] → after_all writes g (drop i xs) ≡ after_all writes f xs → g ≡ after_writes f (flat_map writes xs)
at_end writes f g xs i e h = ap (after_all writes g) (sym e) ∙ (h ∙ all_is writes f xs)

no_pair : {X : Type 0} (Y : Type 0) (zs : List X) → zip zs (let none : List Y = [] in none) ≡ []
no_pair Y [] = refl
no_pair Y (z ∷ zs) = refl

-- no pairs are left behind the shorter list
pairs_end : {X Y : Type 0} (xs : List X) (ys : List Y) (i : ℕ) → min (length xs) (length ys) ≤ i → zip (drop i xs) (drop i ys) ≡ []
pairs_end [] ys zero l = refl
pairs_end [] ys (suc i) l = refl
pairs_end (x ∷ xs) [] zero l = refl
pairs_end {Y = Y} (x ∷ xs) [] (suc i) l = no_pair Y (drop i xs)
pairs_end (x ∷ xs) (y ∷ ys) zero l = absurd (let no : ⊥ = omega arith in no)
pairs_end (x ∷ xs) (y ∷ ys) (suc i) l = pairs_end xs ys i (let k : min (length xs) (length ys) ≤ i = omega arith in k)

pub words_end : (o : DeviceBit) (f g : Bits) (ps : List (List PatternBit)) (vs : List Bool) (i n : ℕ) → n ≡ min (length ps) (length vs) → n ≤ i
    → after_writes g (map (word_bit_write o) (zip (drop i ps) (drop i vs))) ≡ after_writes f (map (word_bit_write o) (zip ps vs)) → g ≡ after_writes f (map (word_bit_write o) (zip ps vs))
words_end o f g ps vs i n e l h = sym (ap (λ zs. after_writes g (map (word_bit_write o) zs)) (pairs_end ps vs i (rw (← e) l))) ∙ h

-- ---- lines

-- the arc of a line that is found in a tile is written at the tile's bit F0B0
pub arc_written : (g : Graph) (t m : ℕ) (tile : Tile) (line : ArcLine) (pattern : List PatternBit) (f : Bits) → StandsInTiles g → Some tile ≡ slice_get g.grid.tiles t → mux_named g t line.sink ≡ Some m
    → Some pattern ≡ option_map (λ a. a.arc.bits) (arc_named g m line.source) → after_writes f (arc_writes g t line) ≡ written f (origin_of tile) pattern
arc_written g t m tile line pattern f stands at named found = of_arc (arc_named g m line.source) refl found
  where
    of_arc : (o : Option GraphArc) → arc_named g m line.source ≡ o → Some pattern ≡ option_map (λ a. a.arc.bits) o → after_writes f (arc_writes g t line) ≡ written f (origin_of tile) pattern
    of_arc None e h = absurd (let no : ⊥ = cc in no)
    of_arc (Some a) e h =
        let same : pattern ≡ a.arc.bits = some_same h in
        rw (named, e) (rw (stands.origins t tile line.sink line.source m a (sym at) named e, same) refl)

pub section_written : (g : Graph) (text : TileText) (t : ℕ) (tile : Tile) (f : Bits)
    → after_writes (after_writes (after_writes (after_writes f (flat_map (arc_writes g t) text.arcs)) (flat_map (word_writes (origin_of tile) (settings_at g t)) text.words)) (flat_map (enum_writes (origin_of tile) (settings_at g t)) text.enums)) (flat_map (unknown_writes (origin_of tile)) text.unknowns)
    ≡ after_writes f (section_writes g text t tile (settings_at g t))
section_written g text t tile f =
    let arcs = flat_map (arc_writes g t) text.arcs in
    let words = flat_map (word_writes (origin_of tile) (settings_at g t)) text.words in
    let enums = flat_map (enum_writes (origin_of tile) (settings_at g t)) text.enums in
    let unknowns = flat_map (unknown_writes (origin_of tile)) text.unknowns in
    ap (λ h. after_writes (after_writes h enums) unknowns) (sym (after_both f arcs words))
    ∙ (ap (λ h. after_writes h unknowns) (sym (after_both f (arcs ++ words) enums)) ∙ sym (after_both f ((arcs ++ words) ++ enums) unknowns))

pub in_tile : (g : Graph) (text : TileText) (t : ℕ) (tile : Tile) → StandsInTiles g → tile_named g text.tile ≡ Some t → t < length g.grid.tiles → Some tile ≡ slice_get g.grid.tiles t
    → tile_writes g text ≡ section_writes g text t tile (settings_at g t)
in_tile g text t tile stands named l at =
    let s = there g.settings t (rw stands.settings l) in
    rw (named, sym at, s.1) refl
