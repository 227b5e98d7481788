use Rattle.std.proofs.Common.{◌≡◌, ◌+◌, ◌-◌, ◌<◌, vec_len}
use Rattle.outside.proofs.Fronts.{StartsFile}
use Rattle.outside.proofs.whole.read_whole.Given as goal

-- a front of the file was read, and no call failed
abbrev pub invariant-loop-files : goal.invariant-loop-files
invariant-loop-files g l =
    let F = g.F.Files in
    record {
      told : F.told l.fn.files → F.told l.files;
      content : F.file l.files ≡ F.file l.fn.files;
      front : F.told l.fn.files → StartsFile (F.file l.fn.files l.name) l.bytes.items;
      read_faults : F.read_faults l.files ≡ F.read_faults l.fn.files;
      write_faults : F.write_faults l.files ≡ F.write_faults l.fn.files;
      room : 0 < vec_len l.buf;
    }

abbrev pub decreases-loop-files : goal.decreases-loop-files
decreases-loop-files g l = l.limit + 1 - vec_len l.bytes
