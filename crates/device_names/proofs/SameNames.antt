-- The names that count in a tile stand for the wires of the tile.
use Rattle.std.proofs.Common.{◌≡◌, ℕ, List, [], ◌∷◌, ◌++◌, map, filter, filter_map, Bool, true, false, ◌||◌, bytes_eq, Option, Some, None, option_and_then, option_map, refl, sym, ap, ◌∙◌, append_assoc}
use Rattle.std.specs.Prelude.{flat_map, if◌then◌else◌}
use Rattle.std.specs.List.{cons_option}
use Rattle.std.specs.Option.{option_map_or}
use Rattle.std.proofs.lemmas.List.Elements.{filter_map-append}
use Rattle.std.proofs.lemmas.List.Concat.{flat_map-append}
use Rattle.records.specs.Database.{Arc, Mux, Fixed}
use Rattle.records.specs.Grid.{Tile}
use Rattle.records.specs.Profile.{Rules, Join}
use Rattle.fabric.specs.Wires.{Wire}
use Rattle.fabric.specs.WireNames.{WireName, Named, Ignored}
use Rattle.fabric.specs.GraphOf.{number_of, number_in}
use Rattle.wire_names.specs.Kept.{number_of_name}
use Rattle.fabric.specs.WireOfName.{wire_of_name, wire_of_relative, relative_of, without_chip}
use Rattle.fabric.specs.Device.{TypeDb, Device, database_at, fixed_at, output_names, input_names}
use Rattle.fabric.specs.TileWires.{named_wire, wire_in, mux_wires, fixed_wires, tile_wires}
use Rattle.device_names.specs.TileNames.{is_ignored, mux_names, fixed_names, database_names, joined, routing_names, tile_names}
use Rattle.device_names.specs.Types.{type_named}
use Rattle.device_names.proofs.Lists.{filter_map-map, filter_map-flat_map, flat_map-map, flat_same}

-- the wire of a name in a tile whose place may be wanting
abbrev pub wire_here : Rules → Option (ℕ × ℕ) → List ℕ → Option Wire
wire_here rules here name = option_and_then (λ place. named_wire (wire_of_name place name rules)) here

none_here : (rules : Rules) (names : List (List ℕ)) → filter_map (wire_here rules None) names ≡ []
none_here rules [] = refl
none_here rules (n ∷ ns) = none_here rules ns

-- the wire that a name has where it isn't ignored
abbrev its_wire : Rules → ℕ × ℕ → List ℕ → Option Wire
its_wire rules place name = named_wire (wire_of_relative place rules (relative_of (without_chip rules.chip_prefix name)))

not_ignored : (rules : Rules) (place : ℕ × ℕ) (name : List ℕ) (b : Bool) → is_ignored rules name ≡ b → wire_here rules (Some place) name ≡ (if b then None else its_wire rules place name)
not_ignored rules place name true e = ap (λ t. named_wire (if t then Ignored else wire_of_relative place rules (relative_of (without_chip rules.chip_prefix name)))) e
not_ignored rules place name false e = ap (λ t. named_wire (if t then Ignored else wire_of_relative place rules (relative_of (without_chip rules.chip_prefix name)))) e

-- the wires of a mux, at a place that may be wanting
mux_here : (rules : Rules) (here : Option (ℕ × ℕ)) (mux : Mux)
    → option_map_or (λ sink. sink ∷ filter_map (λ arc. wire_here rules here arc.source) mux.arcs) (wire_here rules here mux.sink) [] ≡ filter_map (wire_here rules here) (mux_names rules mux)
mux_here rules None mux = sym (none_here rules (mux_names rules mux))
mux_here rules (Some place) mux = go (is_ignored rules mux.sink) refl
  where
    go : (b : Bool) → is_ignored rules mux.sink ≡ b
        → option_map_or (λ sink. sink ∷ filter_map (λ arc. wire_here rules (Some place) arc.source) mux.arcs) (wire_here rules (Some place) mux.sink) [] ≡ filter_map (wire_here rules (Some place)) (if b then [] else mux.sink ∷ map (λ arc. arc.source) mux.arcs)
    go true e = ap (λ w. option_map_or (λ sink. sink ∷ filter_map (λ arc. wire_here rules (Some place) arc.source) mux.arcs) w []) (not_ignored rules place mux.sink true e)
    go false e =
        let wire = not_ignored rules place mux.sink false e in
        ap (λ w. option_map_or (λ sink. sink ∷ filter_map (λ arc. wire_here rules (Some place) arc.source) mux.arcs) w []) wire
        ∙ sym (ap (λ w. cons_option w (filter_map (wire_here rules (Some place)) (map (λ arc. arc.source) mux.arcs))) wire
        ∙ ap (cons_option (its_wire rules place mux.sink)) (filter_map-map (wire_here rules (Some place)) (λ (arc : Arc). arc.source) mux.arcs))

-- the wires of a fixed connection, likewise
fixed_here : (rules : Rules) (here : Option (ℕ × ℕ)) (fixed : Fixed)
    → option_map_or (λ sink. option_map_or (λ source. sink ∷ source ∷ []) (wire_here rules here fixed.source) []) (wire_here rules here fixed.sink) [] ≡ filter_map (wire_here rules here) (fixed_names rules fixed)
fixed_here rules None fixed = sym (none_here rules (fixed_names rules fixed))
fixed_here rules (Some place) fixed = go (is_ignored rules fixed.sink) (is_ignored rules fixed.source) refl refl
  where
    go : (b c : Bool) → is_ignored rules fixed.sink ≡ b → is_ignored rules fixed.source ≡ c
        → option_map_or (λ sink. option_map_or (λ source. sink ∷ source ∷ []) (wire_here rules (Some place) fixed.source) []) (wire_here rules (Some place) fixed.sink) [] ≡ filter_map (wire_here rules (Some place)) (if b || c then [] else fixed.sink ∷ fixed.source ∷ [])
    go true c e f = ap (λ w. option_map_or (λ sink. option_map_or (λ source. sink ∷ source ∷ []) (wire_here rules (Some place) fixed.source) []) w []) (not_ignored rules place fixed.sink true e)
    go false true e f = (λ i. option_map_or (λ sink. option_map_or (λ source. sink ∷ source ∷ []) (not_ignored rules place fixed.source true f i) []) (not_ignored rules place fixed.sink false e i) [])
    go false false e f =
        let sink = not_ignored rules place fixed.sink false e in
        let source = not_ignored rules place fixed.source false f in
        (λ i. option_map_or (λ s. option_map_or (λ t. s ∷ t ∷ []) (source i) []) (sink i) [])
        ∙ sym (λ i. cons_option (sink i) (cons_option (source i) []))

-- the wires of a tile are those of the names that count in it
pub tile_wires_named : (device : Device) (tile : Tile) → tile_wires device tile ≡ filter_map (wire_in device.profile.rules tile) (tile_names device tile)
tile_wires_named device tile =
    let rules = device.profile.rules in
    let wire = wire_in rules tile in
    let muxes = (database_at device.types tile).muxes in
    let fixed = fixed_at device tile in
    let muxes_same : flat_map (mux_wires rules tile) muxes ≡ filter_map wire (flat_map (mux_names rules) muxes) =
    flat_same (mux_wires rules tile) (λ mux. filter_map wire (mux_names rules mux)) (mux_here rules tile.place) muxes ∙ sym (filter_map-flat_map wire (mux_names rules) muxes) in
    let fixed_same : flat_map (fixed_wires rules tile) fixed ≡ filter_map wire (flat_map (fixed_names rules) fixed) =
    flat_same (fixed_wires rules tile) (λ f. filter_map wire (fixed_names rules f)) (fixed_here rules tile.place) fixed ∙ sym (filter_map-flat_map wire (fixed_names rules) fixed) in
    (λ i. muxes_same i ++ fixed_same i ++ filter_map wire (output_names device tile ++ input_names device tile))
    ∙ ap (λ ws. ws ++ filter_map wire (output_names device tile ++ input_names device tile)) (sym (filter_map-append wire (flat_map (mux_names rules) muxes) (flat_map (fixed_names rules) fixed)))
    ∙ sym (filter_map-append wire (routing_names device tile) (output_names device tile ++ input_names device tile))

-- at a tile's place names stand for the same wires as in the tile
pub wires_at_place : (rules : Rules) (tile : Tile) (place : ℕ × ℕ) (names : List (List ℕ)) → tile.place ≡ Some place
    → filter_map (λ name. named_wire (wire_of_name place name rules)) names ≡ filter_map (wire_in rules tile) names
wires_at_place rules tile place names is = ap (λ here. filter_map (wire_here rules here) names) (sym is)

-- in a tile without a place no name does
pub no_wires : (rules : Rules) (tile : Tile) (names : List (List ℕ)) → tile.place ≡ None → filter_map (wire_in rules tile) names ≡ []
no_wires rules tile names is = ap (λ here. filter_map (wire_here rules here) names) is ∙ none_here rules names

-- the number of the wire of a name in a tile, as that of the wire at the tile's place
pub number_at_place : (wires : List Wire) (rules : Rules) (tile : Tile) (place : ℕ × ℕ) (name : List ℕ) → tile.place ≡ Some place
    → number_of_name wires (wire_of_name place name rules) ≡ number_in wires rules tile name
number_at_place wires rules tile place name is =
    numbered (wire_of_name place name rules) ∙ ap (λ here. option_and_then (number_of wires) (wire_here rules here name)) (sym is)
  where
    numbered : (w : WireName) → number_of_name wires w ≡ option_and_then (number_of wires) (named_wire w)
    numbered (Named w) = refl
    numbered Ignored = refl

-- the names of a database that is found, then those of joins, are those of the tile's routing
pub routing_same : (device : Device) (tile : Tile)
    → database_names device.profile.rules (option_map (λ t. t.db) (type_named device.types tile.kind))
    ++ flat_map (λ j. fixed_names device.profile.rules (joined j)) (filter (λ j. bytes_eq j.tile tile.kind) device.profile.joins)
    ≡ routing_names device tile
routing_same device tile =
    let rules = device.profile.rules in
    let joins = filter (λ (j : Join). bytes_eq j.tile tile.kind) device.profile.joins in
    let db = database_at device.types tile in
    let muxes = flat_map (mux_names rules) db.muxes in
    ap (λ names. names ++ flat_map (λ j. fixed_names rules (joined j)) joins) (in_database rules (type_named device.types tile.kind))
    ∙ append_assoc muxes (flat_map (fixed_names rules) db.fixed) (flat_map (λ j. fixed_names rules (joined j)) joins)
    ∙ ap (λ names. muxes ++ (flat_map (fixed_names rules) db.fixed ++ names)) (sym (flat_map-map (fixed_names rules) joined joins))
    ∙ ap (λ names. muxes ++ names) (sym (flat_map-append (fixed_names rules) db.fixed (map joined joins)))
  where
    in_database : (rules : Rules) (t : Option TypeDb) → database_names rules (option_map (λ t. t.db) t)
        ≡ flat_map (mux_names rules) (option_map_or (λ t. t.db) t (record { muxes = []; words = []; enums = []; fixed = [] })).muxes
        ++ flat_map (fixed_names rules) (option_map_or (λ t. t.db) t (record { muxes = []; words = []; enums = []; fixed = [] })).fixed
    in_database rules None = refl
    in_database rules (Some t) = refl

-- the wires of names that count are those of the tile
pub their_wires : (device : Device) (tile : Tile) (rules : Rules) (names : List (List ℕ)) → rules ≡ device.profile.rules → names ≡ tile_names device tile
    → filter_map (wire_in rules tile) names ≡ tile_wires device tile
their_wires device tile rules names same are = (λ i. filter_map (wire_in (same i) tile) (are i)) ∙ sym (tile_wires_named device tile)
