use Rattle.std.proofs.Common.{◌≡◌, drop}
use Rattle.outside.specs.Held.{held_of, file_in}
use Rattle.outside.proofs.held.content_of.Given as goal

-- no file that was passed has the name
abbrev pub invariant-loop-entry : goal.invariant-loop-entry
invariant-loop-entry l = file_in (held_of l.entries) l.name ≡ file_in (held_of (drop l.entry-index l.entries)) l.name
