-- Which arcs of a graph fit, and the most bits of those of a mux that do. (Our own.)
use Rattle.std.specs.Prelude.{◌≡◌, ℕ, ◌<◌, ◌==◌, ◌&&◌, Bool, List, Some, length, max, get_or, slice_get, if◌then◌else◌}
use Rattle.patterns.specs.Bits.{Bits}
use Rattle.patterns.specs.Fits.{fits}
use Rattle.fabric.specs.Graph.{GraphArc, Graph}
use Rattle.chosen_arcs.specs.Places.{IsMost}

-- an arc fits
abbrev pub fits_in : Bits → GraphArc → Bool
fits_in image a = fits image a.origin a.arc.bits

-- an arc is of a mux, and fits
abbrev pub fits_of_mux : Bits → ℕ → GraphArc → Bool
fits_of_mux image m a = (a.mux == m) && fits_in image a

abbrev pub bits_count : GraphArc → ℕ
bits_count a = length a.arc.bits

-- for each mux the most bits of an arc of it that fits, or 0 where none does
abbrev pub AreMost : Graph → Bits → List ℕ → Type 0
AreMost g image most = (m : ℕ) → m < length g.muxes → IsMost (fits_of_mux image m) bits_count g.arcs (get_or most m 0)

-- the number of the mux of an arc is at least the bits of the arc, if that fits; else, and of the others, it is the old one
abbrev pub RaisedFor : Graph → ℕ → Bool → List ℕ → List ℕ → Type 0
RaisedFor g a fit old new = (arc : GraphArc) → slice_get g.arcs a ≡ Some arc → (m : ℕ) → m < length g.muxes
    → get_or new m 0 ≡ (if (arc.mux == m) && fit then max (bits_count arc) (get_or old m 0) else get_or old m 0)
