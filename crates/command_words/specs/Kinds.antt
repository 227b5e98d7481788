-- What the program's kinds of values stand for.
use Rattle.commands.specs.Options as options
use Rattle.command_words.specs.declared.judged.Kind.{Kind}
use Rattle.command_words.specs.declared.judged.Kind.TheVariants.{Text, OutName, Rounds, WhatToRip}

abbrev pub kind_view : Kind → options.Kind
kind_view Text = options.Text
kind_view OutName = options.OutName
kind_view Rounds = options.Rounds
kind_view WhatToRip = options.WhatToRip
