-- The status that a value of the program's enum is.
use Rattle.answers.specs.Answers as answers
use Rattle.replies.specs.declared.status.Status.{Status}
use Rattle.replies.specs.declared.status.Status.TheVariants.{Done, Unsafe, NoRoute, Refused, Usage, ReadFault, WriteFault, Memory}

abbrev pub status_of : Status → answers.Status
status_of Done = answers.Done
status_of Unsafe = answers.Unsafe
status_of NoRoute = answers.NoRoute
status_of Refused = answers.Refused
status_of Usage = answers.Usage
status_of ReadFault = answers.ReadFault
status_of WriteFault = answers.WriteFault
status_of Memory = answers.Memory
