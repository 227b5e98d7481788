use Rattle.std.proofs.Common.{◌≡◌, ℕ, List, map, ap, ◌∙◌, codes}
use Rattle.serde_json.specs.Data.{Data, Members, object, put}
use Rattle.serde_json.specs.View.{members_view}
use Rattle.serde_json.proofs.Views.{view-Object}
use Rattle.side_form.specs.SidePrint.{list_value, placed_value, triple_value, voter_value, side_value}
use Rattle.side_file.proofs.printed.object.Goals as goal

-- one more member, where it is known what the others are
also : (name : List ℕ) (value : Data) (old new others : Members) → new ≡ put name value old → old ≡ others → new ≡ put name value others
also name value old new others added same = added ∙ ap (λ members. put name value members) same

pub returns : goal.returns
returns c =
    let side = c.side.inside in
    view-Object c.add_list-7.new.members
    ∙ ap object
    (also (codes "voters") (list_value (map voter_value side.voters)) _ _ _ c.in_ok-add_list-7.ensures
    (also (codes "triples") (list_value (map triple_value side.triples)) _ _ _ c.in_ok-add_list-6.ensures
    (also (codes "slices") (list_value (map placed_value side.slices)) _ _ _ c.in_ok-add_list-5.ensures
    (also (codes "pads") (list_value (map placed_value side.pads)) _ _ _ c.in_ok-add_list-4.ensures
    (also (codes "outputs") (list_value (map triple_value side.outputs)) _ _ _ c.in_ok-add_list-3.ensures
    (also (codes "inputs") (list_value (map triple_value side.inputs)) _ _ _ c.in_ok-add_list-2.ensures
    (also (codes "clocks") (list_value (map triple_value side.clocks)) _ _ _ c.in_ok-add_list.ensures (ap members_view c.new-members.ensures.empty))))))))
    ∙ ap side_value c.side.view_is
