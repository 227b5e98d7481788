-- The places of the arcs of a mux by the names of their sources.
use Rattle.std.proofs.Common.{◌≡◌, ℕ, ◌≤◌, List, length, map, Option, None, Some, option_and_then, refl, sym, ap, ◌∙◌, bytes_eq}
use Rattle.std.specs.Prelude.{position, slice_get}
use Rattle.std.proofs.lemmas.Option.{slice_get_past}
use Rattle.records.specs.Database.{Arc, Mux}
use Rattle.database_names.specs.Places.{place_in}
use Rattle.database_names.proofs.Firsts.{place_is_position}

of_mux : (source : List ℕ) (o : Option Mux) → option_and_then (λ m. place_in (map (λ a. a.source) m.arcs) source) o ≡ option_and_then (λ m. position (λ a. bytes_eq a.source source) m.arcs) o
of_mux source None = refl
of_mux source (Some mux) = place_is_position (λ (a : Arc). a.source) source mux.arcs

pub place_is : (source : List ℕ) (muxes : List Mux) (mux : ℕ) (o : Option ℕ) → o ≡ option_and_then (λ m. place_in (map (λ a. a.source) m.arcs) source) (slice_get muxes mux)
    → o ≡ option_and_then (λ m. position (λ a. bytes_eq a.source source) m.arcs) (slice_get muxes mux)
place_is source muxes mux o h = h ∙ of_mux source (slice_get muxes mux)

-- no mux stands behind the end
pub none_behind : (source : List ℕ) (muxes : List Mux) (mux : ℕ) → length muxes ≤ mux → None ≡ option_and_then (λ m. position (λ a. bytes_eq a.source source) m.arcs) (slice_get muxes mux)
none_behind source muxes mux h = sym (ap (option_and_then (λ (m : Mux). position (λ a. bytes_eq a.source source) m.arcs)) (slice_get_past muxes mux h))
