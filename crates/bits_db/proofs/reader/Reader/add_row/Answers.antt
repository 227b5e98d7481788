use Rattle.std.proofs.Common.{◌≡◌, ◌∙◌, Some, ap}
use Rattle.std.specs.Prelude.{option_map}
use Rattle.grammars.specs.BitsDb.{OfWord}
use Rattle.bits_db.specs.declared.reader.Kind.TheVariants.{Word}
use Rattle.bits_db.specs.Kinds.{kind_view}
use Rattle.bits_db.proofs.Rows.{word_row}
use Rattle.bits_db.proofs.reader.Reader.add_row.Goals as goal

pub returns-in-Some-Word-clause-step : goal.returns-in-Some-Word-clause-step
returns-in-Some-Word-clause-step c =
    let inner : c.in-Some-Word.field-0 ≡ Word = rw c.in-Some-Word.is at c.in-Some-Word.field-0-is in
    let kind : option_map kind_view c.args.self.now.kind ≡ Some OfWord = ap (option_map kind_view) (c.in-Some-Word.is ∙ ap Some inner) in
    word_row _ _ _ _ _ _ kind c.add_row-in-Some-Word.ensures.words
