use Rattle.std.proofs.Common.{◌≡◌, ℕ, ◌++◌, List, Option, take, length, subst, rules, arith}
use Rattle.std.proofs.lemmas.Grind.{common_steps}
use Rattle.outside.specs.declared.ReadAnswer.TheVariants.{Got}
use Rattle.outside.specs.Files.{Reads}
use Rattle.outside.proofs.Fronts.{starts_file_more}
use Rattle.outside.proofs.whole.read_whole.Goals as goal

pub loop-files-preserved : goal.loop-files-preserved
loop-files-preserved g c =
    let F = g.F.Files in
    let name : List ℕ = c.args.name.now in
    let so_far : List ℕ = c.loop-files.bytes.items in
    let n : ℕ = c.in-Got.count in
    let kept = c.loop-files.invariant in
    let grown : c.extend_from_slice.new.self.items ≡ so_far ++ take n c.read.new.buf =
    grind (arith, common_steps, c.in_ok-extend_from_slice-in-Got.ensures.items) in
    let at : c.len-in-loop-files.result ≡ length so_far = grind (arith, common_steps) in
    let part_of : (List ℕ → Option (List ℕ)) → ℕ → Type 0 = λ file from. Reads (file name) from (Got n) c.read.new.buf in
    record {
      told = λ t. c.in-Got.ensures.told (kept.told t);
      content = search rules;
      front = λ t.
          let part = c.in-Got.ensures.answer (kept.told t) in
          let of_first = subst (λ file. part_of file (length so_far)) kept.content (subst (part_of (F.file c.loop-files.files)) at part) in
          rw grown (starts_file_more (F.file c.args.files.now name) so_far c.read.new.buf n (kept.front t) of_first);
      read_faults = search rules;
      write_faults = search rules;
      room = grind (arith, common_steps);
    }
