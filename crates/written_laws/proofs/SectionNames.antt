-- Over the graph of a device that is read, a section that names what is there has names alone; so a text that may be
-- written is of the form that is read.
use Rattle.std.proofs.Common.{◌≡◌, ◌≤◌, ℕ, true, List, [], ◌∷◌, map, filter, length, Option, Some, None, refl, sym, subst, ◌∙◌, arith}
use Rattle.std.specs.Prelude.{find, ◌==◌, ◌&&◌}
use Rattle.std.specs.Option.{option_map_or}
use Rattle.std.specs.Str.{bytes_eq}
use Rattle.std.proofs.lemmas.Bool.{and_parts}
use Rattle.std.proofs.lemmas.List.{length-map}
use Rattle.words.specs.Members.{In}
use Rattle.texts.specs.Names.{is_name}
use Rattle.records.specs.Grid.{Tile}
use Rattle.records.specs.Database.{WordSetting, EnumSetting, EnumOption}
use Rattle.records.specs.Config.{ArcLine, WordLine, EnumLine, TileText, Config}
use Rattle.records.specs.Limits.{most_tiles}
use Rattle.links.proofs.Members.{in_map, of_map}
use Rattle.fabric.specs.Settings.{word_named, enum_named, option_of}
use Rattle.fabric.specs.Device.{TypeDb, Device, database_at}
use Rattle.fabric.specs.Graph.{GraphMux, GraphArc, Graph}
use Rattle.fabric.specs.GraphOf.{settings_in, IsGraph}
use Rattle.fabric.specs.Image.{mux_named, arc_named}
use Rattle.fabric_laws.proofs.Members.{find_from}
use Rattle.fabric_laws.proofs.Numbered.{get_in, at_position}
use Rattle.fabric_laws.proofs.Standing.{mux_stands, arc_stands}
use Rattle.layout_laws.proofs.Named.{same_bytes}
use Rattle.formed_laws.proofs.GridRead.{read_in_order}
use Rattle.config_grammar.specs.ConfigLines.{ArcOf, EnumOf}
use Rattle.answers.specs.Refusals.{NoPlace, UnknownSink, UnknownSource, UnknownSetting, UnknownValue}
use Rattle.design_checks.specs.LineChecks.{LineFault, fault_at, source_fault, arc_faults_in, arc_faults, word_length_faults, word_faults, option_faults, enum_faults}
use Rattle.formed_laws.specs.DatabaseRead.{IsReadDevice}
use Rattle.text_laws.specs.SameButLines.{has_lines}
use Rattle.text_laws.specs.Formed.{CanStand, IsFormedSection, IsFormedText}
use Rattle.written_laws.specs.Writable.{TilePlace, SectionStands, IsWritable}
use Rattle.written_laws.proofs.Lists.{no_more, filtered}
use Rattle.written_laws.proofs.Faults.{settings_there}
use Rattle.written_laws.proofs.DatabaseNames.{HasNames, read_names}
use Rattle.written_laws.proofs.GridNames.{tiles_named, few_tiles}

-- what isn't there is refused
pub is_there : {X : Type 0} (f : X → List LineFault) (o : Option X) (fault : LineFault) → option_map_or f o (fault ∷ []) ≡ [] → (x : X) × ((o ≡ Some x) × (f x ≡ []))
is_there f None fault h = absurd (let no : ⊥ = cc in no)
is_there f (Some x) fault h = (x, (refl, h))

module _ (device : Device) (g : Graph) (is : IsGraph device g) (read : IsReadDevice device) where
  type_names : (o : Option TypeDb) → ((t : TypeDb) → o ≡ Some t → In device.types t) → HasNames (option_map_or (λ t. t.db) o (record { muxes = []; words = []; enums = []; fixed = [] }))
  type_names None h = record { sinks = λ m i. absurd i; sources = λ m a i. absurd i; words = λ w i. absurd i; enums = λ e i. absurd i; values = λ e o i. absurd i }
  type_names (Some t) h = read_names t.db (read.types t (h t refl))

  -- the database of a tile declares names
  names_at : (tile : Tile) → HasNames (database_at device.types tile)
  names_at tile = type_names (find (λ t. bytes_eq t.kind tile.kind) device.types) (λ t e. (find_from (λ (u : TypeDb). bytes_eq u.kind tile.kind) device.types t e).0)

  -- ---- arcs

  sink_named : (number mux : ℕ) (sink : List ℕ) → mux_named g number sink ≡ Some mux → is_name sink ≡ true
  sink_named number mux sink e =
      let p = at_position (λ (m : GraphMux). (m.tile == number) && bytes_eq m.mux.sink sink) g.muxes mux e in
      let m = mux_stands device g is p.0 (get_in g.muxes mux p.0 p.1.0) in
      subst (λ n. is_name n ≡ true) (same_bytes p.0.mux.sink sink (and_parts (p.0.tile == number) (bytes_eq p.0.mux.sink sink) p.1.1).1) ((names_at m.tile).sinks p.0.mux m.listed)

  source_named : (mux : ℕ) (source : List ℕ) (a : GraphArc) → arc_named g mux source ≡ Some a → is_name source ≡ true
  source_named mux source a e =
      let f = find_from (λ (b : GraphArc). (b.mux == mux) && bytes_eq b.arc.source source) g.arcs a e in
      let p = arc_stands device g is a f.0 in
      let m = mux_stands device g is p.mux (get_in g.muxes a.mux p.mux p.of_mux) in
      subst (λ n. is_name n ≡ true) (same_bytes a.arc.source source (and_parts (a.mux == mux) (bytes_eq a.arc.source source) f.1).1)
      ((names_at m.tile).sources p.mux.mux a.arc m.listed (get_in p.mux.mux.arcs a.place a.arc p.listed))

  -- the names of an arc line that isn't refused
  pub arc_names : (number : ℕ) (tile : Tile) (line : ArcLine) → arc_faults g number tile line ≡ [] → CanStand (ArcOf line.sink line.source)
  arc_names number tile line h =
      let at = is_there (λ (place : ℕ × ℕ). arc_faults_in g number line) tile.place (fault_at line.line NoPlace) h in
      let mux = is_there (source_fault g number line) (mux_named g number line.sink) (fault_at line.line UnknownSink) at.1.1 in
      let arc = is_there (λ (a : GraphArc). let none : List LineFault = [] in none) (arc_named g mux.0 line.source) (fault_at line.line UnknownSource) mux.1.1 in
      (sink_named number mux.0 line.sink mux.1.0, source_named mux.0 line.source arc.0 arc.1.0)

  -- ---- settings

  settings_are : {name : List ℕ} (p : TilePlace g name) → settings_in device p.tile ≡ p.settings
  settings_are p = let e : Some (settings_in device p.tile) ≡ Some p.settings = sym (settings_there device g is p.number p.tile p.there) ∙ p.set in let s : settings_in device p.tile ≡ p.settings = cc in s

  word_names : (tile : Tile) (line : WordLine) → word_faults (settings_in device tile) line ≡ [] → is_name line.name ≡ true
  word_names tile line h =
      let word = is_there (word_length_faults line) (word_named (settings_in device tile) line.name) (fault_at line.line UnknownSetting) h in
      let f = find_from (λ (w : WordSetting). bytes_eq w.name line.name) (settings_in device tile).words word.0 word.1.0 in
      subst (λ n. is_name n ≡ true) (same_bytes word.0.name line.name f.1) ((names_at tile).words word.0 f.0)

  enum_names : (tile : Tile) (line : EnumLine) → enum_faults (settings_in device tile) line ≡ [] → CanStand (EnumOf line.name line.value)
  enum_names tile line h =
      let enum = is_there (option_faults line) (enum_named (settings_in device tile) line.name) (fault_at line.line UnknownSetting) h in
      let f = find_from (λ (e : EnumSetting). bytes_eq e.name line.name) (settings_in device tile).enums enum.0 enum.1.0 in
      let option = is_there (λ (o : EnumOption). let none : List LineFault = [] in none) (option_of enum.0 line.value) (fault_at line.line UnknownValue) enum.1.1 in
      let o = find_from (λ (o : EnumOption). bytes_eq o.value line.value) enum.0.options option.0 option.1.0 in (
        subst (λ n. is_name n ≡ true) (same_bytes enum.0.name line.name f.1) ((names_at tile).enums enum.0 f.0),
        subst (λ n. is_name n ≡ true) (same_bytes option.0.value line.value o.1) ((names_at tile).values enum.0 option.0 f.0 o.0),
      )

  -- ---- sections

  -- a tile that is found by its name
  found : (name : List ℕ) (p : TilePlace g name) → In (map (λ (t : Tile). t.name) device.grid.tiles) name
  found name p =
      let t = at_position (λ (t : Tile). bytes_eq t.name name) g.grid.tiles p.number p.named in
      subst (In (map (λ (t : Tile). t.name) device.grid.tiles)) (same_bytes t.0.name name t.1.1)
      (in_map (λ (t : Tile). t.name) device.grid.tiles t.0 (subst (λ grid. In grid.tiles t.0) is.grid (get_in g.grid.tiles p.number t.0 t.1.0)))

  pub tile_name : (name : List ℕ) → TilePlace g name → is_name name ≡ true
  tile_name name p =
      let t = of_map (λ (t : Tile). t.name) device.grid.tiles name (found name p) in
      subst (λ n. is_name n ≡ true) t.1.1 (tiles_named device.grid read.grid t.0 t.1.0)

  formed_section : (t : TileText) → SectionStands g t → IsFormedSection t
  formed_section t s = record {
    name = tile_name t.tile s.place;
    lines = record {
      arcs = λ a i. arc_names s.place.number s.place.tile a (s.arcs a i);
      words = λ w i. (word_names s.place.tile w (subst (λ x. word_faults x w ≡ []) (sym (settings_are s.place)) (s.words w i).0), (s.words w i).1);
      enums = λ e i. enum_names s.place.tile e (subst (λ x. enum_faults x e ≡ []) (sym (settings_are s.place)) (s.enums e i));
      unknowns = λ u i. (s.unknowns u i).1;
    };
  }

  -- no more sections than tiles
  few_sections : (c : Config) → IsWritable g c c → length (filter has_lines c.tiles) ≤ most_tiles
  few_sections c w =
      let names = map (λ (t : TileText). t.tile) c.tiles in
      let tiles = map (λ (t : Tile). t.name) device.grid.tiles in
      let most = no_more tiles names (read_in_order device.grid read.grid) w.tiles
      (λ n i. (let t = of_map (λ (t : TileText). t.tile) c.tiles n i in subst (In tiles) t.1.1 (found t.0.tile (w.sections t.0 t.1.0).place))) in
      omega (arith, most, filtered has_lines c.tiles, few_tiles device.grid read.grid, length-map c.tiles (λ (t : TileText). t.tile), length-map device.grid.tiles (λ (t : Tile). t.name))

  -- a text that may be written is of the form that is read
  pub writable_is_formed : (one c : Config) → IsFormedText one → IsWritable g one c → IsFormedText c
  writable_is_formed one c formed w = record {
    device = subst (λ n. is_name n ≡ true) (sym w.device) formed.device;
    heads = λ h i. formed.heads h (subst (λ hs. In hs h) w.heads i);
    sections = λ t i. formed_section t (w.sections t i);
    order = record { tiles = w.tiles; arcs = λ t i. (w.sections t i).order };
    few = few_sections c (record { device = refl; heads = refl; tiles = w.tiles; sections = w.sections });
  }
