-- What the bytes of a text configuration are read as: its value in written order, or its first fault.
-- (After Project Trellis; limits and orders are our own.)
use Rattle.std.specs.Prelude.{ℕ, Bool, true, false, not, List, [], ◌∷◌, ◌++◌, length, map, filter, filter_map, Option, Some, None, Result, Ok, Err, nat_lt, if◌then◌else◌}
use Rattle.std.specs.List.{list_any}
use Rattle.std.specs.Str.{bytes_eq}
use Rattle.words.specs.Firsts.{first_fault, fault_or}
use Rattle.words.specs.Ordered.{in_order, in_order_once}
use Rattle.texts.specs.Lines.{Line, lines_of}
use Rattle.records.specs.Limits.{Limit, Tiles, most_tiles}
use Rattle.records.specs.Config.{ArcLine, TileText, Config}
use Rattle.config_grammar.specs.ConfigLines.{ConfigLine, DeviceLine, HeadLine, TileLine, ArcOf, WordOf, EnumOf, UnknownOf, OutsideLine, says, is_skipped, words_in}
use Rattle.config_grammar.specs.Sections.{Item, sections_of, heads_of, device_in}

-- why a configuration isn't read
pub data ConfigFault : Type 0 where
  -- the first line outside the grammar
  BadLine : ℕ → ConfigFault
  -- the first line of a block that isn't modelled
  OutsideBlock : ℕ → ConfigFault
  TooLarge : Limit → ConfigFault
  -- no line names the device
  NoDevice : ConfigFault

abbrev pub item_of : Line → Item
item_of line = record { number = line.number; says = says line.text (words_in line) }

-- the lines that aren't passed over
abbrev pub items_of : List ℕ → List Item
items_of text = map item_of (filter (λ line. not (is_skipped (words_in line))) (lines_of text))

-- the devices that lines name
abbrev pub devices_of : List Item → List (List ℕ)
devices_of items = filter_map (λ item. device_in item.says) items

abbrev pub has_tile : List TileText → List ℕ → Bool
has_tile sections name = list_any (λ t. bytes_eq t.tile name) sections

abbrev pub bad_if : Bool → ℕ → Option ConfigFault
bad_if bad number = if bad then Some (BadLine number) else None

abbrev pub is_none_yet : {X : Type 0} → List X → Bool
is_none_yet [] = true
is_none_yet (x ∷ xs) = false

abbrev pub tile_fault : ℕ → List TileText → List ℕ → Option ConfigFault
tile_fault number sections name =
    if has_tile sections name then Some (BadLine number) else if nat_lt (length sections) most_tiles then None else Some (TooLarge Tiles)

-- The fault of a line with those before it: it says nothing, or what can't stand there: a second device, a second
-- section of a tile, a tile's line outside a section.
abbrev pub says_fault : ℕ → List Item → Option ConfigLine → Option ConfigFault
says_fault number before None = Some (BadLine number)
says_fault number before (Some OutsideLine) = Some (OutsideBlock number)
says_fault number before (Some (DeviceLine name)) = bad_if (not (is_none_yet (devices_of before))) number
says_fault number before (Some (HeadLine text)) = None
says_fault number before (Some (TileLine name)) = tile_fault number (sections_of before) name
says_fault number before (Some (ArcOf sink source)) = bad_if (is_none_yet (sections_of before)) number
says_fault number before (Some (WordOf name bits)) = bad_if (is_none_yet (sections_of before)) number
says_fault number before (Some (EnumOf name value)) = bad_if (is_none_yet (sections_of before)) number
says_fault number before (Some (UnknownOf frame bit)) = bad_if (is_none_yet (sections_of before)) number

abbrev pub item_fault : List Item → Item → Option ConfigFault
item_fault before item = says_fault item.number before item.says

-- the line of an arc as it is written, by which arcs are ordered
abbrev pub arc_key : ArcLine → List ℕ
arc_key a = a.sink ++ 32 ∷ a.source

abbrev pub section_in_order : TileText → TileText
section_in_order t = record t { arcs = in_order_once arc_key t.arcs }

abbrev pub config_of : List ℕ → List Item → Config
config_of device items =
    record { device = device; heads = heads_of items; tiles = in_order (λ t. t.tile) (map section_in_order (sections_of items)) }

abbrev pub with_device : List Item → List (List ℕ) → Result Config ConfigFault
with_device items [] = Err NoDevice
with_device items (device ∷ more) = Ok (config_of device items)

-- the configuration of a text, or its first fault; that no line names the device comes after all others
abbrev pub configuration_of : List ℕ → Result Config ConfigFault
configuration_of text =
    let items = items_of text in fault_or (first_fault item_fault items) (with_device items (devices_of items))
