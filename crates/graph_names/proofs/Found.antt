-- The places of names, and what isn't found.
use Rattle.std.proofs.Common.{◌≡◌, ℕ, ◌≤◌, List, length, map, Option, None, Some, option_and_then, refl, sym, ap, ◌∙◌, bytes_eq}
use Rattle.std.specs.Prelude.{position, slice_get}
use Rattle.std.proofs.lemmas.Option.{slice_get_past}
use Rattle.records.specs.Database.{Mux, TileDb}
use Rattle.fabric.specs.Device.{Device}
use Rattle.fabric.specs.Graph.{Graph}
use Rattle.fabric.specs.Image.{mux_named}
use Rattle.mux_rows.specs.MuxTable.{MuxNumbers}
use Rattle.database_names.specs.Places.{place_in}
use Rattle.record_laws.specs.Records.{AreMuxesOf, db_at, place_named}
use Rattle.record_laws.proofs.MuxesFound.{found_so}
use Rattle.database_names.proofs.Firsts.{place_is_position}

module _ (device : Device) (t : ℕ) (sink : List ℕ) where
  pub place_found : (db : TileDb) (o : Option ℕ) → Some db ≡ db_at device t → o ≡ place_in (map (λ m. m.sink) db.muxes) sink → o ≡ place_named device t sink
  place_found db o e h = h ∙ (place_is_position (λ (m : Mux). m.sink) sink db.muxes ∙ ap (option_and_then (λ (db : TileDb). position (λ m. bytes_eq m.sink sink) db.muxes)) e)

  pub no_place : None ≡ db_at device t → None ≡ place_named device t sink
  no_place e = ap (option_and_then (λ (db : TileDb). position (λ m. bytes_eq m.sink sink) db.muxes)) e

  -- a sink that no record of the database has is no mux's
  pub no_mux : (g : Graph) (muxes : List MuxNumbers) → AreMuxesOf device g muxes → None ≡ place_named device t sink → None ≡ mux_named g t sink
  no_mux g muxes standing e = found_so device g muxes standing t sink None e None refl

-- nothing stands behind the end
pub none_behind : {X Y : Type 0} (f : X → Option Y) (xs : List X) (i : ℕ) → length xs ≤ i → None ≡ option_and_then f (slice_get xs i)
none_behind f xs i h = sym (ap (option_and_then f) (slice_get_past xs i h))
