-- Databases and devices that are read name nothing twice.
use Rattle.std.proofs.Common.{◌≡◌, List, [], ◌∷◌, map, sym, subst, ◌∙◌}
use Rattle.words.specs.Members.{In}
use Rattle.words.specs.Twice.{HasNoneTwice, NoTwo}
use Rattle.records.specs.Database.{Arc, Mux, TileDb}
use Rattle.records.specs.Grid.{Tile}
use Rattle.texts.specs.Lines.{lines_of}
use Rattle.fabric.specs.Device.{Device}
use Rattle.grammars.specs.RowByRow.{nothing_read, read_lines}
use Rattle.grammars.proofs.RowLemmas.{read_by_lines}
use Rattle.links.proofs.Members.{in_map}
use Rattle.layout_laws.specs.Named.{NamesOnce}
use Rattle.formed_laws.proofs.GridRead.{read_in_order}
use Rattle.formed_laws.proofs.Objects.{rising_once}
use Rattle.formed_laws.specs.DatabaseRead.{IsReadDatabase, IsReadDevice, HasNamesOnce}
use Rattle.formed_laws.proofs.Rows.{lines_keep, database_gone_on}

pub database_names_once : (db : TileDb) → IsReadDatabase db → HasNamesOnce db
database_names_once db read =
    let r = database_gone_on (read_lines nothing_read (lines_of read.0)) db (sym (read_by_lines read.0) ∙ read.1) in
    subst HasNamesOnce r.1.1
    (lines_keep (lines_of read.0) nothing_read r.0 r.1.0 (record { sinks = tt; sources = λ m i. absurd i; words = tt; enums = tt; values = λ e i. absurd i }))

-- none of its names twice: no two elements alike by their names
no_two : {X N : Type 0} (name : X → N) (xs : List X) → HasNoneTwice (map name xs) → NoTwo (λ x y. name x ≡ name y) xs
no_two name [] h = tt
no_two name (x ∷ xs) h = ((λ y i e. h.0 (subst (In (map name xs)) (sym e) (in_map name xs y i))), no_two name xs h.1)

pub device_names_once : (device : Device) → IsReadDevice device → NamesOnce device
device_names_once device read = record {
  tiles = no_two (λ (t : Tile). t.name) device.grid.tiles (rising_once (map (λ t. t.name) device.grid.tiles) (read_in_order device.grid read.grid));
  sinks = λ t i. no_two (λ (m : Mux). m.sink) t.db.muxes (database_names_once t.db (read.types t i)).sinks;
  sources = λ t m i j. no_two (λ (a : Arc). a.source) m.arcs ((database_names_once t.db (read.types t i)).sources m j);
}
