use Rattle.std.proofs.Common.{◌≡◌}
use Rattle.serde_json.specs.View.{members_view}
use Rattle.json_forms.specs.Values.{members}
use Rattle.json_forms.specs.Each.{each_or_fault}
use Rattle.json_forms.specs.Tiles.{tile_of}
use Rattle.json_forms.proofs.OneByOne.{behind}
use Rattle.tile_grid.proofs.grid.tiles_of.Given as goal

-- the tiles so far, and what is left
abbrev pub invariant-loop-name : goal.invariant-loop-name
invariant-loop-name l =
    (goal.iterator-loop-name).can_next l.name-iterator ×
    (goal.iterator-loop-name).is_finite l.name-iterator ×
    (behind l.tiles.items (each_or_fault tile_of (members (members_view l.name-iterator))) ≡ each_or_fault tile_of (members (members_view l.fn.file.entries)))
