use Rattle.std.proofs.Common.{◌≡◌, ◌∷◌, ◌++◌, [], List, Ok, sym, ap, subst, ◌∙◌}
use Rattle.records.specs.Config.{TileText}
use Rattle.config_text.specs.LineByLine.{line_behind, with_last}
use Rattle.config_text.specs.Known.{KnowsTiles}
use Rattle.config_text.specs.Sayings.{in_tile_view}
use Rattle.config_text.proofs.Tiles.{has_place, with_last_pushed, known_with_last}
use Rattle.config_text.proofs.sections.Sections.add_line.Goals as goal

pub returns-clause-sections : goal.returns-clause-sections
returns-clause-sections c =
    let change = line_behind c.args.number (in_tile_view c.args.line) in
    let front = c.pop.new.self in
    let pushed : c.push.new.self ≡ front ++ change c.in-Some.section ∷ [] =
    c.in_ok-push.ensures.ok ∙ ap (λ (t : TileText). front ++ t ∷ []) c.in_ok-add_line_to.ensures in
    has_place c.args.number change c.args.self.now.sections front c.in-Some.section c.in-Some.ensures ∙ ap (λ (ts : List TileText). Ok ts) (sym pushed)

pub returns-clause-known : goal.returns-clause-known
returns-clause-known c =
    let line = in_tile_view c.args.line in
    let change = line_behind c.args.number line in
    let front = c.pop.new.self in
    let old = c.args.self.now.sections in
    let pushed : c.push.new.self ≡ front ++ change c.in-Some.section ∷ [] =
    c.in_ok-push.ensures.ok ∙ ap (λ (t : TileText). front ++ t ∷ []) c.in_ok-add_line_to.ensures in
    let all : with_last change old ≡ c.push.new.self = ap (with_last change) c.in-Some.ensures ∙ with_last_pushed change front c.in-Some.section ∙ sym pushed in
    subst (λ ts. KnowsTiles ts c.args.self.now.tiles) all (known_with_last c.args.number line old c.args.self.now.tiles c.requires.known)
