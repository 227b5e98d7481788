use Rattle.std.proofs.Common.{◌≡◌, ◌∷◌, ◌++◌, [], refl, sym, ap, ◌∙◌}
use Rattle.records.specs.Config.{TileText}
use Rattle.config_grammar.specs.Sections.{no_lines}
use Rattle.config_text.proofs.Tiles.{known_with_one, not_true}
use Rattle.config_text.proofs.sections.Sections.add_tile.Goals as goal

pub returns-clause-known : goal.returns-clause-known
returns-clause-known c =
    let sections = c.args.self.now.sections in
    let section = no_lines c.args.number c.args.tile.now in
    let pushed : c.push.new.self ≡ sections ++ section ∷ [] = c.in_ok-push.ensures.ok ∙ ap (λ (t : TileText). sections ++ t ∷ []) c.in_ok-empty_section.ensures in
    let fresh = not_true _ (sym c.in_ok-insert.ensures.added ∙ c.if-not-branch.false) in
    rw pushed (known_with_one sections section c.args.self.now.tiles c.insert.new.self c.args.tile refl c.requires.known fresh c.in_ok-insert.ensures.known)
