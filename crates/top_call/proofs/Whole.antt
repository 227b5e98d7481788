-- A reply that is printed whole keeps its status.
use Rattle.std.proofs.Common.{◌≡◌, ◌++◌, ℕ, List, refl}
use Rattle.answers.specs.Answers.{Status, Done, Unsafe, NoRoute, Refused, Usage, ReadFault, WriteFault, Memory}
use Rattle.top_call.specs.Printed.{IsPrintable, Prints, PrintCounts}

pub printed_whole : (status : Status) (text old new : List ℕ) → IsPrintable (record { status = status; text = text }) → new ≡ old ++ text
    → Prints (record { status = status; text = text }) status old new
printed_whole Done text old new p e = (refl, e)
printed_whole Unsafe text old new p e = (refl, e)
printed_whole NoRoute text old new p e = (refl, e)
printed_whole Refused text old new p e = (refl, e)
printed_whole Usage text old new p e = (refl, e)
printed_whole ReadFault text old new p e = (refl, e)
printed_whole WriteFault text old new p e = absurd p
printed_whole Memory text old new p e = absurd p

pub counts_whole : (status : Status) (text : List ℕ) (before now : ℕ) → IsPrintable (record { status = status; text = text }) → now ≡ before
    → PrintCounts (record { status = status; text = text }) status before now
counts_whole Done text before now p e = (refl, e)
counts_whole Unsafe text before now p e = (refl, e)
counts_whole NoRoute text before now p e = (refl, e)
counts_whole Refused text before now p e = (refl, e)
counts_whole Usage text before now p e = (refl, e)
counts_whole ReadFault text before now p e = (refl, e)
counts_whole WriteFault text before now p e = absurd p
counts_whole Memory text before now p e = absurd p
