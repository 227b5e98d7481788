use Rattle.std.proofs.Common.{◌≡◌, ◌∙◌, List, ℕ, IfOk, ap, map, subst}
use Rattle.words.specs.Ordered.{in_order}
use Rattle.records.specs.Config.{TileText}
use Rattle.config_grammar.specs.ConfigText.{section_in_order}
use Rattle.config_text.proofs.Ordered.{values_of_tiles}
use Rattle.config_text.proofs.order.sections_moved.Goals as goal

pub returns : goal.returns
returns c =
    let ordered = in_order (λ (t : TileText). t.tile) (map section_in_order c.args.sections) in
    let same : map (λ e. e.1) c.in_ok-sections_by_tile.field-0.entries ≡ ordered =
    ap (λ (entries : List (List ℕ × TileText)). map (λ e. e.1) entries) c.in_ok-sections_by_tile.ensures ∙ values_of_tiles ordered in
    subst (λ (sections : List TileText). IfOk c.sections_of.result (λ s. s ≡ sections)) same c.sections_of.ensures
