use Rattle.std.proofs.Common.{ℕ, List, sym, subst}
use Rattle.design_files.specs.Parsed.{Files}
use Rattle.run_ends.specs.Counts.{Faults, faults_between}
use Rattle.run_ends.specs.Ends.{IsEnd}
use Rattle.top_call.specs.Commands.{reading_of_words}
use Rattle.replies.specs.Statuses.{status_of}
use Rattle.top_call.proofs.Ended.{printed_ends, printed_usage, keeps, unreplied_ends, unreplied_usage}
use Rattle.top_call.proofs.top.harden_main.Goals as goal

pub returns-in-Ok-clause-ends : goal.returns-in-Ok-clause-ends
returns-in-Ok-clause-ends g c = λ known told.
    let files : Files = g.F.Files.file c.args.files.now in
    let faults : Faults =
    faults_between g.F.Files.read_faults g.F.Files.write_faults g.O.Sink.faults c.args.files.now c.reply_to.new.files c.args.out.now c.print.new.out in
    let output : List ℕ = g.O.Sink.written c.args.out.now in
    let new : List ℕ = g.O.Sink.written c.print.new.out in
    subst (λ (now : Files). IsEnd files (reading_of_words c.args.words.now) faults output (status_of c.print.result) now new) (sym c.in-Ok.ensures.content)
    (printed_ends files (reading_of_words c.args.words.now) faults output new c.in-Ok.reply (status_of c.print.result) (c.in-Ok.ensures.reply known)
    (c.in-Ok.ensures.proper known) c.in-Ok.ensures.reads (c.print.ensures.prints told) c.print.ensures.faults)

pub returns-in-Ok-clause-content : goal.returns-in-Ok-clause-content
returns-in-Ok-clause-content g c =
    keeps (reading_of_words c.args.words.now) (g.F.Files.file c.args.files.now) (g.F.Files.file c.reply_to.new.files) c.in-Ok.ensures.content

pub returns-in-Ok-clause-usage : goal.returns-in-Ok-clause-usage
returns-in-Ok-clause-usage g c =
    printed_usage (reading_of_words c.args.words.now) c.in-Ok.reply (status_of c.print.result) (g.O.Sink.faults c.args.out.now) (g.O.Sink.faults c.print.new.out)
    c.in-Ok.ensures.usage c.print.ensures.faults

pub returns-in-Err-clause-ends : goal.returns-in-Err-clause-ends
returns-in-Err-clause-ends g c = λ known told.
    unreplied_ends (g.F.Files.file c.args.files.now) (g.F.Files.file c.reply_to.new.files) (reading_of_words c.args.words.now)
    (faults_between g.F.Files.read_faults g.F.Files.write_faults g.O.Sink.faults c.args.files.now c.reply_to.new.files c.args.out.now c.args.out.now)
    (g.O.Sink.written c.args.out.now) c.in-Err.ensures.content

pub returns-in-Err-clause-content : goal.returns-in-Err-clause-content
returns-in-Err-clause-content g c =
    keeps (reading_of_words c.args.words.now) (g.F.Files.file c.args.files.now) (g.F.Files.file c.reply_to.new.files) c.in-Err.ensures.content

pub returns-in-Err-clause-usage : goal.returns-in-Err-clause-usage
returns-in-Err-clause-usage g c = unreplied_usage (reading_of_words c.args.words.now)
