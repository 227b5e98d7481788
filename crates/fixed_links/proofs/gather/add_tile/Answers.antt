use Rattle.std.proofs.Common.{◌≡◌, ◌++◌, List, OnOk, slice_get, ap, sym, subst, ◌∙◌}
use Rattle.fabric.specs.Device.{Device}
use Rattle.fixed_links.specs.Slots.{TypeLinks, links_in, outputs_in, type_links}
use Rattle.fixed_links.proofs.Tiles.{links_there, tile_links, tile_outputs_are}
use Rattle.fixed_links.proofs.gather.add_tile.Goals as goal

pub returns-clause-fixed : goal.returns-clause-fixed
returns-clause-fixed c =
    let n = c.args.numbers.now in
    let i = c.args.number in
    let tile = c.tile_of-tile.result.now in
    let kind = c.links_at-kind.result.now in
    let is : kind ≡ type_links n.device tile = links_there c.known_type.new.known.links.items c.in_ok-place.place kind (type_links c.device.result.now tile) (ap (λ (ls : List TypeLinks). slice_get ls c.in_ok-place.place) (sym c.deref.ensures.value) ∙ c.links_at-kind.ensures) c.in_ok-place.ensures.links ∙ ap (λ (d : Device). type_links d tile) c.device.ensures in
    subst (λ more. OnOk c.add_type_links.result (c.add_type_links.new.links.fixed.items ≡ c.args.links.now.fixed.items ++ more))
    (ap (λ row. links_in row kind.fixed) c.row.ensures ∙ tile_links n i tile kind c.tile_of-tile.ensures is) c.add_type_links.ensures.fixed

pub returns-clause-outputs : goal.returns-clause-outputs
returns-clause-outputs c =
    let n = c.args.numbers.now in
    let i = c.args.number in
    let tile = c.tile_of-tile.result.now in
    let kind = c.links_at-kind.result.now in
    let is : kind ≡ type_links n.device tile = links_there c.known_type.new.known.links.items c.in_ok-place.place kind (type_links c.device.result.now tile) (ap (λ (ls : List TypeLinks). slice_get ls c.in_ok-place.place) (sym c.deref.ensures.value) ∙ c.links_at-kind.ensures) c.in_ok-place.ensures.links ∙ ap (λ (d : Device). type_links d tile) c.device.ensures in
    subst (λ more. OnOk c.add_type_links.result (c.add_type_links.new.links.outputs.items ≡ c.args.links.now.outputs.items ++ more))
    (ap (λ row. outputs_in row kind.outputs) c.row.ensures ∙ tile_outputs_are n i tile kind c.tile_of-tile.ensures is) c.add_type_links.ensures.outputs
