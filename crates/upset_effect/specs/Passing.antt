-- Which arcs of a mux conduct after a flip, and what is made of them. (Our own.)
use Rattle.std.specs.Prelude.{◌≡◌, ℕ, ◌&&◌, Bool, false, List, [], ◌∷◌, nat_le, flat_map, slice_get, if◌then◌else◌}
use Rattle.std.specs.Option.{option_map_or}
use Rattle.words.specs.Members.{In}
use Rattle.patterns.specs.Bits.{Bits, flipped}
use Rattle.patterns.specs.Fits.{present}
use Rattle.fabric.specs.Graph.{GraphArc, Graph}
use Rattle.graph_lists.specs.ArcLists.{arcs_in}
use Rattle.upset.specs.After.{conducts}
use Rattle.chosen_links.specs.Fitting.{bits_count, fits_in}
use Rattle.upset_effect.specs.declared.rule.MuxRule.{MuxRule}
use Rattle.upset_effect.specs.declared.rule.MuxRule.TheVariants.{Present, Fits}

-- an arc is present
abbrev pub present_in : Bits → GraphArc → Bool
present_in image a = present image a.origin a.arc.bits

-- an arc fits with at least so many bits
abbrev pub fits_with : Bits → ℕ → GraphArc → Bool
fits_with image n a = nat_le n (bits_count a) && fits_in image a

-- an arc conducts by the rule of its mux
abbrev pub passes : Bits → Bits → MuxRule → GraphArc → Bool
passes image flips Present a = present_in (flipped flips image) a
passes image flips (Fits n) a = fits_with image n a

-- the rule says which arcs of a mux conduct
abbrev pub IsRuleOf : Graph → Bits → Bits → ℕ → MuxRule → Type 0
IsRuleOf g image flips m rule = (a : GraphArc) → In g.arcs a → a.mux ≡ m → passes image flips rule a ≡ conducts g image flips a

-- the arc of a number fits, and its bits; no arc has none
abbrev pub fits_at : Graph → Bits → ℕ → Bool
fits_at g image a = option_map_or (fits_in image) (slice_get g.arcs a) false

abbrev pub bits_at : Graph → ℕ → ℕ
bits_at g a = option_map_or bits_count (slice_get g.arcs a) 0

-- the source of an arc that passes
abbrev pub source_by : Graph → (GraphArc → Bool) → ℕ → List ℕ
source_by g test a = option_map_or (λ x. if test x then x.source ∷ [] else []) (slice_get g.arcs a) []

-- the sources of the arcs of a mux that conduct after the flip
abbrev pub mux_sources : Graph → Bits → Bits → ℕ → List ℕ
mux_sources g image flips m = flat_map (source_by g (conducts g image flips)) (arcs_in g m)
