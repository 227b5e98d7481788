-- Whether the chosen arcs are those of the text, as a test.
use Rattle.std.specs.Prelude.{Bool, false, not, ◌==◌, ◌&&◌, ◌||◌}
use Rattle.std.specs.List.{list_any, list_all}
use Rattle.std.specs.Option.{option_and_then, option_map_or}
use Rattle.patterns.specs.Bits.{Bits}
use Rattle.patterns.specs.Fits.{has_plain_bit}
use Rattle.records.specs.Config.{Config}
use Rattle.fabric.specs.Graph.{GraphArc, Graph}
use Rattle.fabric.specs.Links.{is_chosen}
use Rattle.fabric.specs.Image.{tile_named, arc_of_line}

-- arcs of one graph are the same where they have one place in one mux
abbrev pub same_arc : GraphArc → GraphArc → Bool
same_arc a b = (a.mux == b.mux) && (a.place == b.place)

abbrev pub has_line : Graph → Config → GraphArc → Bool
has_line g config arc =
    list_any (λ text. list_any (λ line. option_map_or (same_arc arc) (option_and_then (λ tile. arc_of_line g tile line) (tile_named g text.tile)) false) text.arcs) config.tiles

abbrev pub arcs_agree : Graph → Bits → Config → Bool
arcs_agree g image config =
    list_all (λ arc. not (is_chosen g image arc && has_plain_bit arc.arc.bits) || has_line g config arc) g.arcs
    && list_all (λ arc. not (has_line g config arc) || is_chosen g image arc) g.arcs
