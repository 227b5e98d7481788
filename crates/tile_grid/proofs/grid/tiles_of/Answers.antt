use Rattle.std.proofs.Common.{◌≡◌, ◌∷◌, Ok, ap, sym, ◌∙◌, string_bytes}
use Rattle.serde_json.specs.View.{view, members_view}
use Rattle.json_forms.specs.Values.{Member, members}
use Rattle.json_forms.specs.Each.{each_or_fault}
use Rattle.json_forms.specs.Tiles.{tile_of}
use Rattle.json_forms.proofs.OneByOne.{behind, one_more}
use Rattle.tile_grid.proofs.grid.tiles_of.Goals as goal

pub loop-name-preserved : goal.loop-name-preserved
loop-name-preserved c =
    let m : Member = record { name = string_bytes c.in-Some.name.now; value = view c.in-Some.value.now } in
    let rest = members (members_view c.next.new.self) in
    let seen : members (members_view c.loop-name.name-iterator) ≡ m ∷ rest = ap (λ es. members (members_view es)) c.in-Some.ensures.steps in
    let read : tile_of m ≡ Ok c.in_ok-read_tile.field-0 = rw (← c.as_str.ensures.value) c.in_ok-read_tile.ensures in
    let step = one_more tile_of c.loop-name.tiles.items m rest c.in_ok-read_tile.field-0 read in
    (tt, tt, rw c.in_ok-push.ensures.items (sym step ∙ (ap (λ ms. behind c.loop-name.tiles.items (each_or_fault tile_of ms)) (sym seen) ∙ c.loop-name.invariant.2)))
