-- What is to be printed, as a status and a text: an answer, or that a file couldn't be read.
use Rattle.std.specs.Prelude.{◌≡◌, ◌≢◌, ℕ, ◌≤◌, List, [], Result, Ok, Err, IfOk}
use Rattle.std.specs.declared.alloc.AllocError.{AllocError}
use Rattle.words.specs.Rose.{Rose}
use Rattle.answers.specs.Texts.{read_fault_text}
use Rattle.answers.specs.Answers.{Status, Done, Unsafe, NoRoute, Refused, Usage, ReadFault, WriteFault, Memory, Answer}
use Rattle.commands.specs.Commands.{Command}
use Rattle.design_files.specs.Parsed.{Files}
use Rattle.design_answers.specs.Outcomes.{Outcome}
use Rattle.design_reader.specs.declared.errors.FileError.{FileError}
use Rattle.design_reader.specs.declared.errors.FileError.TheVariants as error
use Rattle.run_ends.specs.Ends.{IsAnswered}
use Rattle.run_ends.specs.Reads.{MayBeRead}

-- a fact where there is an answer, and one where a file couldn't be read; there is no other reply
abbrev pub EitherWay : Status → Type 0 → Type 0 → Type 0
EitherWay Done answered unread = answered
EitherWay Unsafe answered unread = answered
EitherWay NoRoute answered unread = answered
EitherWay Refused answered unread = answered
EitherWay Usage answered unread = answered
EitherWay ReadFault answered unread = unread
EitherWay WriteFault answered unread = ⊥
EitherWay Memory answered unread = ⊥

-- the outcome of an answer that writes no file
abbrev pub without_files : Answer → Outcome
without_files answer = record { status = answer.status; text = answer.text; written = [] }

-- the text tells that a read of one of the files failed to which the words may come
abbrev pub TellsUnread : Files → Result Command ℕ → List ℕ → Type 0
TellsUnread files reading text = (name : List ℕ) × MayBeRead files reading name × (text ≡ read_fault_text name)

-- what is answered is the answer to the words over these files
abbrev pub IsReply : Files → Result Command ℕ → Result Answer AllocError → Type 0
IsReply files reading (Ok reply) = EitherWay reply.status (IsAnswered files reading (without_files reply)) (Unit {0})
IsReply files reading (Err e) = Unit {0}

-- what is told of a file that couldn't be read is that
abbrev pub IsProper : Files → Result Command ℕ → Result Answer AllocError → Type 0
IsProper files reading (Ok reply) = EitherWay reply.status (Unit {0}) (TellsUnread files reading reply.text)
IsProper files reading (Err e) = Unit {0}

-- only a read that failed raises the count of failed reads, and then nothing is answered
abbrev pub ReplyCounts : Result Answer AllocError → ℕ → ℕ → Type 0
ReplyCounts (Ok reply) before now = EitherWay reply.status (now ≡ before) (Rose before now)
ReplyCounts (Err e) before now = before ≤ now

-- usage is replied just where the words have no reading
abbrev pub UsageReply : Result Command ℕ → Result Answer AllocError → Type 0
UsageReply (Ok command) (Ok reply) = reply.status ≢ Usage
UsageReply (Err k) (Ok reply) = reply.status ≡ Usage
UsageReply reading (Err e) = Unit {0}

-- the statuses of a reply to a file that was read
abbrev pub IsDriversStatus : Status → Type 0
IsDriversStatus Done = Unit {0}
IsDriversStatus Refused = Unit {0}
IsDriversStatus Unsafe = ⊥
IsDriversStatus NoRoute = ⊥
IsDriversStatus Usage = ⊥
IsDriversStatus ReadFault = ⊥
IsDriversStatus WriteFault = ⊥
IsDriversStatus Memory = ⊥

-- a reading of files that failed is answered by its text; there is no answer where memory runs out
abbrev pub AnswersError : FileError → Result Answer AllocError → Type 0
AnswersError (error.Refused text) result = IfOk result (λ answer. answer ≡ record { status = Refused; text = text.items })
AnswersError (error.Unread text) result = IfOk result (λ answer. answer ≡ record { status = ReadFault; text = text.items })
AnswersError error.Memory result = IfOk result (λ answer. ⊥)
