-- What the program's ways to rip stand for.
use Rattle.records.specs.Ripping as ripping
use Rattle.command_words.specs.declared.command.Rip.{Rip}
use Rattle.command_words.specs.declared.command.Rip.TheVariants.{Unsafe, All}

abbrev pub rip_view : Rip → ripping.Rip
rip_view Unsafe = ripping.RipUnsafe
rip_view All = ripping.RipAll
