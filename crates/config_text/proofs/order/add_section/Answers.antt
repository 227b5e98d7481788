use Rattle.std.proofs.Common.{◌≡◌, ◌∙◌, List, ℕ, ap}
use Rattle.std.specs.BTreeMap.{insert_entry}
use Rattle.std.specs.Cmp.Lexicographic.{slice_cmp}
use Rattle.std.specs.Ordering.{nat_cmp}
use Rattle.records.specs.Config.{TileText}
use Rattle.config_text.proofs.Ordered.{section_put}
use Rattle.config_text.proofs.order.add_section.Goals as goal

pub returns : goal.returns
returns c = λ others same new.
    let section = c.args.section in
    let put = λ (key : List ℕ). insert_entry (slice_cmp nat_cmp) c.args.by_tile.now.entries key section in
    let inserted : c.insert.new.self.entries ≡ put section.tile =
    c.in_ok-insert.ensures.entries ∙ ap put c.in_ok-copy.ensures ∙ ap (λ (t : TileText). put t.tile) c.section.view_is in
    inserted ∙ ap (λ entries. insert_entry (slice_cmp nat_cmp) entries section.tile section) same ∙ section_put section others new
