use Rattle.std.proofs.Common.{◌≡◌, ◌++◌, List, length, map}
use Rattle.words.specs.Ordered.{in_order}
use Rattle.records.specs.Config.{TileText}
use Rattle.config_grammar.specs.ConfigText.{section_in_order}
use Rattle.config_text.specs.Entries.{tile_entries}
use Rattle.config_text.proofs.order.sections_by_tile.Given as goal

-- the sections behind those that are left are in order
abbrev pub invariant-loop-section : goal.invariant-loop-section
invariant-loop-section l =
    (done : List TileText) × (l.fn.sections ≡ l.left ++ done) × (l.by_tile.entries ≡ tile_entries (in_order (λ t. t.tile) (map section_in_order done)))

abbrev pub decreases-loop-section : goal.decreases-loop-section
decreases-loop-section l = length l.left
