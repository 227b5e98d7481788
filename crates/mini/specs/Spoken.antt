-- Wires and links spoken of by how they print.
use Rattle.std.specs.Prelude.{ℕ, List, [], ◌++◌, map, position, unwrap_or, slice_get, codes, bytes_eq}
use Rattle.std.specs.Option.{option_map_or}
use Rattle.links.specs.Links.{Link}
use Rattle.fabric.specs.Wires.{wire_text}
use Rattle.fabric.specs.Graph.{Graph}

-- the number of the wire that prints as a text
abbrev pub wire_called : Graph → List ℕ → ℕ
wire_called g text = unwrap_or (position (λ w. bytes_eq (wire_text w) text) g.wires) 0

-- how the wire of a number prints
abbrev pub text_of : Graph → ℕ → List ℕ
text_of g n = option_map_or wire_text (slice_get g.wires n) []

-- a link as a text: its sink, then its source
abbrev pub link_text : Graph → Link → List ℕ
link_text g l = text_of g l.sink ++ codes " " ++ text_of g l.source

abbrev pub link_texts : Graph → List Link → List (List ℕ)
link_texts g links = map (link_text g) links
