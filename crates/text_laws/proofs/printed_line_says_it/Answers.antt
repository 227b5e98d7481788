use Rattle.std.proofs.Common.{sym, ap, ◌∙◌}
use Rattle.config_grammar.specs.ConfigLines.{says}
use Rattle.text_laws.proofs.TextLines.{words_are}
use Rattle.text_laws.proofs.Sayings.{says_text, says_printed, printed_bytes}
use Rattle.text_laws.proofs.Said.{said_stands}
use Rattle.text_laws.proofs.printed_line_says_it.Goals as goal

pub returns-clause-same : goal.returns-clause-same
returns-clause-same c line other said feeds says_it out is =
    ap (says other.text) (words_are other) ∙ ap says_text is ∙ says_printed said (said_stands line.text said feeds (sym (ap (says line.text) (words_are line)) ∙ says_it) out)

pub returns-clause-one_line : goal.returns-clause-one_line
returns-clause-one_line c line said feeds says_it out =
    printed_bytes said (said_stands line.text said feeds (sym (ap (says line.text) (words_are line)) ∙ says_it) out)
