use Rattle.std.proofs.Common.{◌≡◌, ◌++◌, ◌∷◌, [], false, map, ap, sym, subst, ◌∙◌, append_assoc}
use Rattle.std.proofs.lemmas.List.{append-nil}
use Rattle.words.specs.Ordered.{put_in_order, in_order}
use Rattle.records.specs.Config.{TileText}
use Rattle.config_grammar.specs.ConfigText.{has_tile, section_in_order}
use Rattle.config_text.specs.Entries.{tile_entries}
use Rattle.config_text.specs.Known.{NoTileTwice}
use Rattle.config_text.proofs.Ordered.{tiles_in_order, other_tile}
use Rattle.config_text.proofs.order.sections_by_tile.Goals as goal

pub loop-section-init : goal.loop-section-init
loop-section-init c = ([], sym (append-nil c.args.sections), c.new-by_tile.ensures.empty)

pub loop-section-preserved : goal.loop-section-preserved
loop-section-preserved c =
    let done = c.loop-section.invariant.0 in
    let section = c.in-Some.section in
    let front = c.pop.new.self in
    let ordered = in_order (λ (t : TileText). t.tile) (map section_in_order done) in
    let whole : c.args.sections ≡ front ++ section ∷ done =
    c.loop-section.invariant.1 ∙ ap (λ ts. ts ++ done) c.in-Some.ensures ∙ append_assoc front (section ∷ []) done in
    let same : c.in_ok-section.section ≡ section_in_order section = c.in_ok-section.ensures in
    let new : has_tile ordered c.in_ok-section.section.tile ≡ false =
    ap (λ (t : TileText). has_tile ordered t.tile) same ∙ tiles_in_order done section.tile ∙ other_tile front section done (subst NoTileTwice whole c.requires) in
    let entries = c.in_ok-add_section.ensures ordered c.loop-section.invariant.2 new in
    (section ∷ done, whole, entries ∙ ap (λ (t : TileText). tile_entries (put_in_order (λ (u : TileText). u.tile) t ordered)) same)

pub returns : goal.returns
returns c =
    let done = c.loop-section.invariant.0 in
    let whole : c.args.sections ≡ done = c.loop-section.invariant.1 ∙ ap (λ ts. ts ++ done) c.in_default.ensures.0 in
    c.loop-section.invariant.2 ∙ ap (λ ts. tile_entries (in_order (λ (t : TileText). t.tile) (map section_in_order ts))) (sym whole)
