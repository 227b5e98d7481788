-- What a printing leaves: all of a text, or a front of it where it was cut short.
use Rattle.std.specs.Prelude.{◌≡◌, ◌++◌, ℕ, List}
use Rattle.words.specs.Appended.{AppendsFront}
use Rattle.words.specs.Rose.{Rose}
use Rattle.answers.specs.Answers.{Status, Done, Unsafe, NoRoute, Refused, Usage, ReadFault, WriteFault, Memory, Answer}
use Rattle.top_call.specs.Replies.{EitherWay}

-- a reply is an answer, or tells that a file couldn't be read
abbrev pub IsPrintable : Answer → Type 0
IsPrintable reply = EitherWay reply.status (Unit {0}) (Unit {0})

-- the status is the reply's and all of its text was appended, or the printing was cut short
abbrev pub Prints : Answer → Status → List ℕ → List ℕ → Type 0
Prints reply WriteFault old new = AppendsFront old new reply.text
Prints reply Memory old new = AppendsFront old new reply.text
Prints reply Done old new = (reply.status ≡ Done) × (new ≡ old ++ reply.text)
Prints reply Unsafe old new = (reply.status ≡ Unsafe) × (new ≡ old ++ reply.text)
Prints reply NoRoute old new = (reply.status ≡ NoRoute) × (new ≡ old ++ reply.text)
Prints reply Refused old new = (reply.status ≡ Refused) × (new ≡ old ++ reply.text)
Prints reply Usage old new = (reply.status ≡ Usage) × (new ≡ old ++ reply.text)
Prints reply ReadFault old new = (reply.status ≡ ReadFault) × (new ≡ old ++ reply.text)

-- only a printing that failed raises the count of failed printings, and then that is the status; a status
-- other than it and want of memory is the reply's
abbrev pub PrintCounts : Answer → Status → ℕ → ℕ → Type 0
PrintCounts reply WriteFault before now = Rose before now
PrintCounts reply Memory before now = now ≡ before
PrintCounts reply Done before now = (reply.status ≡ Done) × (now ≡ before)
PrintCounts reply Unsafe before now = (reply.status ≡ Unsafe) × (now ≡ before)
PrintCounts reply NoRoute before now = (reply.status ≡ NoRoute) × (now ≡ before)
PrintCounts reply Refused before now = (reply.status ≡ Refused) × (now ≡ before)
PrintCounts reply Usage before now = (reply.status ≡ Usage) × (now ≡ before)
PrintCounts reply ReadFault before now = (reply.status ≡ ReadFault) × (now ≡ before)
