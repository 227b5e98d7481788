use Rattle.std.proofs.Common.{◌≡◌, ◌∷◌, ◌++◌, [], None, Some, List, slice_get, ap, sym, ◌∙◌}
use Rattle.records.specs.Grid.{Tile}
use Rattle.name_numbers.specs.Numbers.{number_of, with_name}
use Rattle.fixed_links.specs.Slots.{TypeLinks}
use Rattle.fixed_links.specs.Tiles.{links_of_types}
use Rattle.fixed_links.proofs.OfTypes.{new_type, under_number}
use Rattle.fixed_links.proofs.shapes.known_type.Goals as goal

pub returns-in-Some-clause-links : goal.returns-in-Some-clause-links
returns-in-Some-clause-links c =
    let device = c.args.device.now in
    let tile = c.args.tile.now in
    let kinds = c.args.known.now.kinds in
    let kind : c.tile.inside.kind ≡ tile.kind = ap (λ (t : Tile). t.kind) c.tile.view_is in
    let number = c.in-Some.number in
    let is : number_of kinds tile.kind ≡ Some number = ap (number_of kinds) (sym (c.bytes.ensures.same ∙ kind)) ∙ sym c.number.ensures ∙ c.in-Some.is in
    ap (λ (ls : List TypeLinks). slice_get ls number) c.requires.known ∙ under_number device kinds tile number is

pub returns-clause-known : goal.returns-clause-known
returns-clause-known c =
    let device = c.args.device.now in
    let tile = c.args.tile.now in
    let kinds = c.args.known.now.kinds in
    let kind : c.tile.inside.kind ≡ tile.kind = ap (λ (t : Tile). t.kind) c.tile.view_is in
    let absent : number_of kinds tile.kind ≡ None = ap (number_of kinds) (sym (c.bytes.ensures.same ∙ kind)) ∙ sym c.number.ensures ∙ c.in_default.is in
    c.in_ok-push.ensures.items
    ∙ (λ i. c.requires.known i ++ c.in_ok-links_of_type.ensures i ∷ [])
    ∙ sym (new_type device kinds tile absent)
    ∙ ap (λ k. links_of_types device (with_name kinds k)) (sym kind)
    ∙ ap (links_of_types device) (sym c.in_ok-number.ensures.ok)

pub returns-clause-links : goal.returns-clause-links
returns-clause-links c =
    let device = c.args.device.now in
    let tile = c.args.tile.now in
    let more = c.add.new.self in
    let number = c.in_ok-number.number in
    let kind : c.tile.inside.kind ≡ tile.kind = ap (λ (t : Tile). t.kind) c.tile.view_is in
    let is : number_of more tile.kind ≡ Some number = ap (number_of more) (sym kind) ∙ sym c.in_ok-number.ensures.number in
    ap (λ (ls : List TypeLinks). slice_get ls number) (returns-clause-known c) ∙ under_number device more tile number is
