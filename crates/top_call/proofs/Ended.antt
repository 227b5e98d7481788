-- How a reply that is printed, or that there was no memory for, ends a run.
use Rattle.std.proofs.Common.{◌≡◌, ℕ, List, [], ◌++◌, refl, sym, subst}
use Rattle.std.specs.Prelude.{Result, Ok, Err, IfErr, IfOk}
use Rattle.std.specs.declared.alloc.AllocError.{AllocError}
use Rattle.patterns.specs.Bits.{DeviceBit}
use Rattle.answers.specs.Answers.{Status, Done, Unsafe, NoRoute, Refused, Usage, ReadFault, WriteFault, Memory, Answer}
use Rattle.answers.specs.Texts.{read_fault_text}
use Rattle.commands.specs.Commands.{Command, Drivers, Check, Analyse, Harden, Run}
use Rattle.design_files.specs.Parsed.{Files}
use Rattle.run_ends.specs.Counts.{Faults}
use Rattle.run_ends.specs.Reads.{its_database}
use Rattle.run_ends.specs.Causes.{KeepsFiles, UsageOnly}
use Rattle.run_ends.specs.Ends.{IsToPrint, an_answer, an_unread_file, IsEnd, prints, is_cut_short, wants_memory_in_printing, wants_memory}
use Rattle.top_call.specs.Printed.{Prints, PrintCounts}
use Rattle.top_call.specs.Replies.{IsReply, IsProper, ReplyCounts, UsageReply}

module _ (files : Files) (reading : Result Command ℕ) (faults : Faults) where
  -- a reply is the answer, or tells of a file that couldn't be read
  to_print : (status : Status) (text : List ℕ) → IsReply files reading (Ok (record { status = status; text = text })) → IsProper files reading (Ok (record { status = status; text = text }))
      → ReplyCounts (Ok (record { status = status; text = text })) faults.reads.before faults.reads.now → IsToPrint files reading faults status text files
  to_print Done text r p c = an_answer (record { status = Done; text = text; written = [] }) r
  to_print Unsafe text r p c = an_answer (record { status = Unsafe; text = text; written = [] }) r
  to_print NoRoute text r p c = an_answer (record { status = NoRoute; text = text; written = [] }) r
  to_print Refused text r p c = an_answer (record { status = Refused; text = text; written = [] }) r
  to_print Usage text r p c = an_answer (record { status = Usage; text = text; written = [] }) r
  to_print ReadFault text r p c = subst (λ (t : List ℕ). IsToPrint files reading faults ReadFault t files) (sym p.2) (an_unread_file c p.1)
  to_print WriteFault text r p c = absurd r
  to_print Memory text r p c = absurd r

  module _ (output new : List ℕ) where
    whole : (status other : Status) (text : List ℕ) → IsToPrint files reading faults status text files → status ≡ other → new ≡ output ++ text → IsEnd files reading faults output other files new
    whole status other text t e q =
        subst (λ (s : Status). IsEnd files reading faults output s files new) e (subst (λ (o : List ℕ). IsEnd files reading faults output status files o) (sym q) (prints t))

    -- and its printing is whole or cut short
    printed : (status other : Status) (text : List ℕ) → IsToPrint files reading faults status text files → Prints (record { status = status; text = text }) other output new
        → PrintCounts (record { status = status; text = text }) other faults.prints.before faults.prints.now → IsEnd files reading faults output other files new
    printed status Done text t p c = whole status Done text t p.0 p.1
    printed status Unsafe text t p c = whole status Unsafe text t p.0 p.1
    printed status NoRoute text t p c = whole status NoRoute text t p.0 p.1
    printed status Refused text t p c = whole status Refused text t p.0 p.1
    printed status Usage text t p c = whole status Usage text t p.0 p.1
    printed status ReadFault text t p c = whole status ReadFault text t p.0 p.1
    printed status WriteFault text t p c = is_cut_short c t p
    printed status Memory text t p c = wants_memory_in_printing t p

    pub printed_ends : (reply : Answer) (other : Status) → IsReply files reading (Ok reply) → IsProper files reading (Ok reply)
        → ReplyCounts (Ok reply) faults.reads.before faults.reads.now → Prints reply other output new
        → PrintCounts reply other faults.prints.before faults.prints.now → IsEnd files reading faults output other files new
    printed_ends reply other r p c q d = printed reply.status other reply.text (to_print reply.status reply.text r p c) q d

-- where no file's content changes, each file is kept
pub keeps : (reading : Result Command ℕ) (before now : Files) → now ≡ before → KeepsFiles reading before now
keeps (Ok (Drivers name bits)) before now e = e
keeps (Ok (Check inputs)) before now e = e
keeps (Ok (Analyse inputs)) before now e = e
keeps (Ok (Harden inputs hardening)) before now e = tt
keeps (Ok (Run blocks)) before now e = e
keeps (Err k) before now e = e

-- usage comes just where the words have no reading, since a printing that isn't cut short has the reply's status
pub printed_usage : (reading : Result Command ℕ) (reply : Answer) (other : Status) (before now : ℕ) → UsageReply reading (Ok reply) → PrintCounts reply other before now
    → UsageOnly reading other
printed_usage (Ok command) reply Usage before now u c = absurd (u c.0)
printed_usage (Ok command) reply Done before now u c = λ e. (let wrong : ⊥ = cc in wrong)
printed_usage (Ok command) reply Unsafe before now u c = λ e. (let wrong : ⊥ = cc in wrong)
printed_usage (Ok command) reply NoRoute before now u c = λ e. (let wrong : ⊥ = cc in wrong)
printed_usage (Ok command) reply Refused before now u c = λ e. (let wrong : ⊥ = cc in wrong)
printed_usage (Ok command) reply ReadFault before now u c = λ e. (let wrong : ⊥ = cc in wrong)
printed_usage (Ok command) reply WriteFault before now u c = λ e. (let wrong : ⊥ = cc in wrong)
printed_usage (Ok command) reply Memory before now u c = λ e. (let wrong : ⊥ = cc in wrong)
printed_usage (Err k) reply Usage before now u c = tt
printed_usage (Err k) reply WriteFault before now u c = tt
printed_usage (Err k) reply Memory before now u c = tt
printed_usage (Err k) reply Done before now u c = absurd (both u c.0)
  where
    both : reply.status ≡ Usage → reply.status ≡ Done → ⊥
    both e f = cc
printed_usage (Err k) reply Unsafe before now u c = absurd (both u c.0)
  where
    both : reply.status ≡ Usage → reply.status ≡ Unsafe → ⊥
    both e f = cc
printed_usage (Err k) reply NoRoute before now u c = absurd (both u c.0)
  where
    both : reply.status ≡ Usage → reply.status ≡ NoRoute → ⊥
    both e f = cc
printed_usage (Err k) reply Refused before now u c = absurd (both u c.0)
  where
    both : reply.status ≡ Usage → reply.status ≡ Refused → ⊥
    both e f = cc
printed_usage (Err k) reply ReadFault before now u c = absurd (both u c.0)
  where
    both : reply.status ≡ Usage → reply.status ≡ ReadFault → ⊥
    both e f = cc

-- there was no memory for a reply
pub unreplied_ends : (files now : Files) (reading : Result Command ℕ) (faults : Faults) (output : List ℕ) → now ≡ files → IsEnd files reading faults output Memory now output
unreplied_ends files now reading faults output e = subst (λ (n : Files). IsEnd files reading faults output Memory n output) (sym e) wants_memory

pub unreplied_usage : (reading : Result Command ℕ) → UsageOnly reading Memory
unreplied_usage (Ok command) = λ e. (let wrong : ⊥ = cc in wrong)
unreplied_usage (Err k) = tt

-- a fact holds where the words have no reading, too
pub unread_too : (reading : Result Command ℕ) (P : Type 0) → P → IfErr reading (λ k. P)
unread_too (Ok command) P p = tt
unread_too (Err k) P p = p

-- the telling of the one file of `drivers`
pub unread_proper : (files : Files) (name : List ℕ) (bits : List DeviceBit) (result : Result Answer AllocError)
    → IfOk result (λ r. r ≡ record { status = ReadFault; text = read_fault_text name }) → IsProper files (Ok (Drivers name bits)) result
unread_proper files name bits (Ok r) e = subst (λ (a : Answer). IsProper files (Ok (Drivers name bits)) (Ok a)) (sym e) (name, its_database, refl)
unread_proper files name bits (Err x) e = tt
